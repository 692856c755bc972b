use Rattle.std.proofs.Common.{◌∙◌}
use Rattle.ix_tables.proofs.Piping.{is_past, is_living, claims_there}
use Rattle.ix_tables.proofs.tables.Tables.claimant.Goals as goal

pub overflow_sub-n : goal.overflow_sub-n
overflow_sub-n c = is_past _ _ _ _ _ _ _ _ c.args.n c.self.invariant c.self.view_is c.requires.pipe

pub claimant-requires-clause-lives : goal.claimant-requires-clause-lives
claimant-requires-clause-lives c = is_living _ _ _ _ _ _ _ _ c.args.n c.self.invariant c.self.view_is c.requires.pipe

pub returns : goal.returns
returns c = c.claimant.ensures ∙ claims_there _ _ _ _ _ _ _ _ c.args.n c.self.invariant c.self.view_is c.requires.pipe c.args.end
