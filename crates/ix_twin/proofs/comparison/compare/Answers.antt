use Rattle.std.{proofs.Common.{◌≡◌, ap, subst}, specs.Prelude.IfOk}
use Rattle.ix_twin.specs.Lines.{twin_text}
use Rattle.ix_twin.proofs.comparison.compare.Goals as goal

pub returns : goal.returns
returns c =
    subst (λ l. IfOk c.compare_runs.result (λ text. text.items ≡ twin_text l c.args.one.now c.args.two.now)) (ap (λ t. t.at) c.in_ok-twin.ensures) c.compare_runs.ensures
