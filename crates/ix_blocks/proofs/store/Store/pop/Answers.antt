use Rattle.std.proofs.Common.{sym, ◌∙◌}
use Rattle.ix_blocks.proofs.Storing.{last_held, popped_rows, popped_shows, some_last}
use Rattle.ix_blocks.proofs.store.Store.pop.Goals as goal

pub remove-requires-clause-held : goal.remove-requires-clause-held
remove-requires-clause-held c = last_held _ _ (sym c.last.ensures ∙ c.in-Some.is)

pub invariant_of-self : goal.invariant_of-self
invariant_of-self c = popped_rows _ _ c.self.invariant _ c.self.view_is _ c.requires.file
    _ _ (sym c.last.ensures ∙ c.in-Some.is) c.is_pool.ensures c.remove.ensures

pub unreachable-requires : goal.unreachable-requires
unreachable-requires c = some_last _ _ c.self.invariant _ c.self.view_is _ c.requires.file c.requires.some (sym c.last.ensures ∙ c.in-None.is)

pub returns : goal.returns
returns c = popped_shows _ _ c.self.invariant _ c.self.view_is _ c.requires.file _ _ (sym c.last.ensures ∙ c.in-Some.is) c.remove.ensures
