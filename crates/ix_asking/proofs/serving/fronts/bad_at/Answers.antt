use Rattle.std.proofs.Common.{◌∙◌, sym, arith}
use Rattle.ix_asking.proofs.Fronts.{shorter}
use Rattle.ix_asking.proofs.serving.fronts.bad_at.Goals as goal

pub fronts-preserved : goal.fronts-preserved
fronts-preserved g c = record {
  within = omega (arith, c.fronts.invariant.within);
  so_far = shorter g.R.Requests.begins c.args.message.now c.fronts.at (omega (arith, c.fronts-test.true)) (sym c.is_begun.ensures ∙ c.if-not-is_begun.true) ∙ c.fronts.invariant.so_far;
}
