use Rattle.std.proofs.Common.{◌≡◌, ◌≤◌, ◌*◌, take}
use Rattle.ix_image.specs.Trees.{inodes_in}
use Rattle.ix_image.proofs.systems.inodes_in.Given as goal

abbrev pub invariant-loop-fs : goal.invariant-loop-fs
invariant-loop-fs l = record { is : l.all ≡ inodes_in (take l.fs-index l.fss); few : l.all ≤ 65536 * l.fs-index }
