use Rattle.std.proofs.Common.{◌≡◌, ◌+◌, Some, ap, ◌∙◌, arith}
use Rattle.ix_judging.proofs.NamesTell.{found_at}
use Rattle.ix_judging.proofs.laws.names_tell.Goals as goal

pub returns : goal.returns
returns c = record {
  tell = λ names plain differ mark rest k within.
      let same : 0 + k ≡ k = omega arith in found_at mark rest names plain differ 0 k within ∙ ap (λ n. Some n) same;
}
