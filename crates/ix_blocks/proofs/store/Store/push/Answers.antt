use Rattle.std.proofs.Common.{sym, ◌∙◌, arith}
use Rattle.ix_blocks.proofs.Storing.{free_within, pushed_rows, pushed_shows}
use Rattle.ix_blocks.proofs.store.Store.push.Goals as goal

pub index_mut-requires : goal.index_mut-requires
index_mut-requires c = omega (
  arith,
  c.self.inside.blocks.ok,
  free_within c.self.inside.links c.self.inside.blocks.items c.self.invariant c.args.self.now
      c.self.view_is c.args.file c.requires.file c.in-Some.block (sym c.push_back.ensures.moved ∙ c.in-Some.is),
)

pub invariant_of-self : goal.invariant_of-self
invariant_of-self c = pushed_rows _ _ c.self.invariant _ c.self.view_is _ c.requires.file _ _ _ c.is_pool.ensures c.push_back.ensures.pushed c.clear.ensures

pub returns : goal.returns
returns c = pushed_shows _ _ c.self.invariant _ c.self.view_is _ c.requires.file
    _ _ _ (sym c.push_back.ensures.moved ∙ c.in-Some.is) c.push_back.ensures.pushed c.clear.ensures
