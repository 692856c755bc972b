use Rattle.std.proofs.Common.{◌-◌, replicate, arith}
use Rattle.ix_blocks.proofs.{Showing.{file_below, file_held, bytes_long, whole_long, held_by, held_laid, free_is, leaves_grown}, Editing.room_some}
use Rattle.ix_blocks.proofs.blocks.Blocks.grow.Goals as goal

pub clear-requires-clause-file : goal.clear-requires-clause-file
clear-requires-clause-file c = file_held c.self.inside _ c.self.view_is c.self.invariant _ c.requires.file

pub clear-requires-clause-held : goal.clear-requires-clause-held
clear-requires-clause-held c = held_by c.self.inside _ c.self.view_is c.self.invariant _ c.requires.file _ _ c.len-old.ensures c.blocks_for-held.ensures

pub clear-requires-clause-within : goal.clear-requires-clause-within
clear-requires-clause-within c = omega (
  arith,
  c.blocks_for-held.ensures,
  c.len-old.ensures,
  bytes_long c.self.inside c.args.self.now c.self.view_is c.self.invariant c.args.file c.requires.file,
  whole_long c.self.inside c.args.self.now c.self.view_is c.self.invariant c.args.file c.requires.file,
)

pub grow-requires-clause-file : goal.grow-requires-clause-file
grow-requires-clause-file c = held_laid c.self.inside _ c.self.view_is c.self.invariant _ c.requires.file c.len-old.result (replicate _ 0) _ c.clear.ensures

pub index_mut-requires : goal.index_mut-requires
index_mut-requires c = omega (arith, c.self.inside.lengths.ok, file_below c.self.inside c.args.self.now c.self.view_is c.self.invariant c.args.file c.requires.file)

pub invariant_of-self : goal.invariant_of-self
invariant_of-self c =
    (leaves_grown c.self.inside c.args.self.now c.self.view_is c.self.invariant c.args.file c.requires.file c.len-old.result c.args.len c.blocks_for-held.result
    (c.blocks_for.result - c.blocks_for-held.result) c.grow.new.self c.clear.new.self c.len-old.ensures
    (omega (arith, c.if-len-old.false)) c.blocks_for-held.ensures (omega (arith, c.blocks_for.ensures)) (omega (
      arith,
      c.if-more-free.false,
      free_is c.self.inside c.args.self.now c.self.view_is c.self.invariant c.args.file c.requires.file c.free.result c.free.ensures,
    )) c.clear.ensures
    c.grow.ensures).filled

pub returns-clause-bytes : goal.returns-clause-bytes
returns-clause-bytes c =
    rw (room_some c.args.file c.args.len c.free.result c.args.self.now c.free.ensures (omega (
      arith,
      c.if-more-free.false,
      c.blocks_for.ensures,
      c.blocks_for-held.ensures,
      c.len-old.ensures,
    )))
    (leaves_grown c.self.inside c.args.self.now c.self.view_is c.self.invariant c.args.file c.requires.file c.len-old.result c.args.len c.blocks_for-held.result
    (c.blocks_for.result - c.blocks_for-held.result) c.grow.new.self c.clear.new.self c.len-old.ensures
    (omega (arith, c.if-len-old.false)) c.blocks_for-held.ensures (omega (arith, c.blocks_for.ensures)) (omega (
      arith,
      c.if-more-free.false,
      free_is c.self.inside c.args.self.now c.self.view_is c.self.invariant c.args.file c.requires.file c.free.result c.free.ensures,
    )) c.clear.ensures
    c.grow.ensures).shows
