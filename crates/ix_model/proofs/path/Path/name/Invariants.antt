use Rattle.std.proofs.Common.{◌≡◌, drop}
use Rattle.ix_model.specs.world.Paths.{path_of, names_left}
use Rattle.ix_model.proofs.path.Path.name.Given as goal

abbrev pub invariant-names : goal.invariant-names
invariant-names l = names_left l.names ≡ drop l.counter (path_of l.self).names
