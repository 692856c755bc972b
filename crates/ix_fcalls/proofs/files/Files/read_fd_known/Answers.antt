use Rattle.std.proofs.Common.{◌∙◌, sym}
use Rattle.ix_fcalls.proofs.KnownRow.{known_read_waits, known_read_passes}
use Rattle.ix_fcalls.proofs.files.Files.read_fd_known.Goals as goal

pub returns-then-has_to_wait : goal.returns-then-has_to_wait
returns-then-has_to_wait g c =
    record {
      row = known_read_waits _ _ _ _ _ _ _ c.requires.known c.in_ok-e.ensures.passed (sym c.has_to_wait.ensures ∙ c.if-has_to_wait.true);
    }

pub returns : goal.returns
returns g c = record {
  row = known_read_passes _ _ _ _ _ _ _ c.requires.known c.in_ok-e.ensures.passed (sym c.has_to_wait.ensures ∙ c.if-has_to_wait.false);
}
