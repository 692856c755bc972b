use Rattle.std.proofs.Common.{◌≡◌, ◌+◌, take}
use Rattle.ix_model.specs.{world.World.fs_at, opening.Valid.blocks_taken}
use Rattle.ix_model.proofs.valid.has_blocks.Given as goal

abbrev pub invariant-loop-b : goal.invariant-loop-b
invariant-loop-b l = l.left + blocks_taken l.fss l.k (take l.b-index l.before) ≡ (fs_at l.fss l.k).blocks
