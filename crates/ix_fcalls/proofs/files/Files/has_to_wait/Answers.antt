use Rattle.std.proofs.Common.{◌∙◌, sym}
use Rattle.ix_fcalls.proofs.files.Files.has_to_wait.Goals as goal

pub returns-then-told : goal.returns-then-told
returns-then-told c =
    let pipe = sym c.is_pipe.ensures ∙ c.if-not-is_pipe.false in
    rw (pipe, c.if-told.true) c.is_held_there.ensures
