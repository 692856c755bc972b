use Rattle.std.proofs.Common.{arith}
use Rattle.ix_blocks.proofs.Showing.{file_below, file_held, bytes_long, whole_long, leaves_shrunk}
use Rattle.ix_blocks.proofs.blocks.Blocks.shrink.Goals as goal

pub shrink-requires-clause-file : goal.shrink-requires-clause-file
shrink-requires-clause-file c = file_held c.self.inside _ c.self.view_is c.self.invariant _ c.requires.file

pub shrink-requires-clause-some : goal.shrink-requires-clause-some
shrink-requires-clause-some c = omega (
  arith,
  c.blocks_for.ensures,
  c.len-old.ensures,
  bytes_long c.self.inside c.args.self.now c.self.view_is c.self.invariant c.args.file c.requires.file,
  whole_long c.self.inside c.args.self.now c.self.view_is c.self.invariant c.args.file c.requires.file,
)

pub index_mut-requires : goal.index_mut-requires
index_mut-requires c = omega (arith, c.self.inside.lengths.ok, file_below c.self.inside c.args.self.now c.self.view_is c.self.invariant c.args.file c.requires.file)

pub invariant_of-self : goal.invariant_of-self
invariant_of-self c = (leaves_shrunk c.self.inside c.args.self.now c.self.view_is c.self.invariant c.args.file c.requires.file c.len-old.result c.args.len
    c.blocks_for.result c.blocks_for-2.result c.shrink.new.self c.len-old.ensures (omega (arith, c.if-len-old.false)) c.blocks_for.ensures
    c.blocks_for-2.ensures c.shrink.ensures).filled

pub returns : goal.returns
returns c = (leaves_shrunk c.self.inside c.args.self.now c.self.view_is c.self.invariant c.args.file c.requires.file c.len-old.result c.args.len
    c.blocks_for.result c.blocks_for-2.result c.shrink.new.self c.len-old.ensures (omega (arith, c.if-len-old.false)) c.blocks_for.ensures
    c.blocks_for-2.ensures c.shrink.ensures).shows
