use Rattle.ix_fcalls.proofs.KnownRow.{known_write_passes}
use Rattle.ix_fcalls.proofs.files.Files.write_fd_known.Goals as goal

pub returns : goal.returns
returns g c = record {
  row = known_write_passes _ _ _ _ _ _ c.requires.known c.in_ok-to_write.ensures.passed;
}
