use Rattle.std.proofs.Common.{◌∙◌, ap, length, List, ℕ}
use Rattle.ix_tables.proofs.Piping.{is_past, is_living, waits_there}
use Rattle.ix_tables.proofs.tables.Tables.left.Goals as goal

pub overflow_sub-n : goal.overflow_sub-n
overflow_sub-n c = is_past _ _ _ _ _ _ _ _ c.args.n c.self.invariant c.self.view_is c.requires.pipe

pub left-requires-clause-lives : goal.left-requires-clause-lives
left-requires-clause-lives c = is_living _ _ _ _ _ _ _ _ c.args.n c.self.invariant c.self.view_is c.requires.pipe

pub returns-clause-left : goal.returns-clause-left
returns-clause-left c = c.left.ensures.left
    ∙ ap (λ (bs : List ℕ). length bs) (waits_there _ _ _ _ _ _ _ _ c.args.n c.self.invariant c.self.view_is c.requires.pipe c.args.end)
