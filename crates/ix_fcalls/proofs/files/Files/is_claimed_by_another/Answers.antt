use Rattle.ix_fcalls.{specs.Views.behind_of, proofs.Serving.low_entry}
use Rattle.ix_fcalls.proofs.files.Files.is_claimed_by_another.Goals as goal

pub claimant-requires-clause-end : goal.claimant-requires-clause-end
claimant-requires-clause-end g c = low_entry g.R.Others.rest c.args.self.now _ _ (behind_of c.args.e.now).entry c.requires.sound c.requires.entry
