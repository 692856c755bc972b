use Rattle.std.proofs.Common.{◌∙◌, sym, ap, option_map}
use Rattle.ix_model.proofs.words.Standing.{behind_is}
use Rattle.ix_fcalls.specs.Views.{behind_of}
use Rattle.ix_fcalls.proofs.files.Files.to_read.Goals as goal

pub is_claimed_by_another-requires-clause-entry : goal.is_claimed_by_another-requires-clause-entry
is_claimed_by_another-requires-clause-entry g c = behind_is _ _ _ _ (sym c.behind.ensures.behind ∙ ap (option_map behind_of) c.in_ok-e.ensures.ok_part)
