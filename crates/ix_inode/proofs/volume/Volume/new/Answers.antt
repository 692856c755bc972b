use Rattle.std.proofs.Common.{◌∙◌, true, refl}
use Rattle.ix_inode.{specs.Shown.new_node, proofs.Standing.taken_first}
use Rattle.ix_inode.proofs.volume.Volume.new.Goals as goal

pub returns : goal.returns
returns c = record {
  spec = refl;
  first = refl;
  nodes = c.take.ensures.taken ∙ rw (c.take.ensures.number, c.in_ok-nodes.ensures, c.new-2.ensures) (taken_first c.args.spec.inodes (new_node c.args.fs true) c.requires);
  blocks = c.in_ok-blocks.ensures;
}
