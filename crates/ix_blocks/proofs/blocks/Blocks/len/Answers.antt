use Rattle.std.proofs.{Common.{sym, ◌∙◌, arith}, lemmas.List.get_or_read}
use Rattle.ix_blocks.proofs.Showing.{file_below, bytes_long}
use Rattle.ix_blocks.proofs.blocks.Blocks.len.Goals as goal

pub index-requires : goal.index-requires
index-requires c = omega (arith, c.self.inside.lengths.ok, file_below c.self.inside c.args.self.now c.self.view_is c.self.invariant c.args.file c.requires)

pub returns : goal.returns
returns c = c.from.ensures ∙ get_or_read _ _ _ (file_below c.self.inside _ c.self.view_is c.self.invariant _ c.requires) c.index.ensures 0
    ∙ sym (bytes_long c.self.inside _ c.self.view_is c.self.invariant _ c.requires)
