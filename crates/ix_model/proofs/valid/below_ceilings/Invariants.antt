use Rattle.std.{proofs.Common.{◌≡◌, drop}, specs.List.list_all}
use Rattle.ix_label.specs.Category.{leq}
use Rattle.ix_model.proofs.valid.below_ceilings.Given as goal

abbrev pub invariant-loop-p : goal.invariant-loop-p
invariant-loop-p g l = list_all (λ p. leq p.label p.ceiling) (drop l.p-index l.procs) ≡ list_all (λ p. leq p.label p.ceiling) l.procs
