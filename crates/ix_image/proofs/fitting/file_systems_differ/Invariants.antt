use Rattle.std.proofs.Common.{◌≡◌, drop, map}
use Rattle.ix_model.specs.opening.Valid.{all_differ}
use Rattle.ix_image.proofs.fitting.file_systems_differ.Given as goal

abbrev pub invariant-loop-i : goal.invariant-loop-i
invariant-loop-i l = all_differ (map (λ s. s.name) (drop l.i l.fss)) ≡ all_differ (map (λ s. s.name) l.fss)
