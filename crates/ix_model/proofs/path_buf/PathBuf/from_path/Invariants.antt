use Rattle.std.proofs.Common.{◌≡◌, ◌++◌, ◌≤◌, length}
use Rattle.ix_model.specs.world.Paths.{path_of, names_left}
use Rattle.ix_model.proofs.path_buf.PathBuf.from_path.Given as goal

abbrev pub invariant-names : goal.invariant-names
invariant-names l = record {
  whole : l.own.names ++ names_left l.name-iterator ≡ (path_of l.path).names;
  few : length (l.own.names ++ names_left l.name-iterator) ≤ 16;
  kind : l.own.absolute ≡ l.path.absolute;
}
