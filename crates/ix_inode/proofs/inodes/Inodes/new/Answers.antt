use Rattle.std.proofs.Common.{◌≡◌, length, arith}
use Rattle.ix_inode.proofs.Opening.{new_none, new_more, new_all, within_fits, within_few}
use Rattle.ix_inode.proofs.inodes.Inodes.new.Goals as goal

pub loop-k-init : goal.loop-k-init
loop-k-init c = new_none _ _ c.new-volumes.ensures.items

pub overflow_add-first : goal.overflow_add-first
overflow_add-first c = omega (
  arith,
  c.loop-k.invariant.low,
  c.loop-k-test.true,
  within_few c.args.fss.now c.requires,
  within_fits c.args.fss.now c.loop-k.k c.index-fss-k.result c.requires c.loop-k-test.true c.index-fss-k.is,
)

pub loop-k-preserved : goal.loop-k-preserved
loop-k-preserved c = rw c.in_ok-push.ensures.items (new_more _ _ _ _ _ _ c.requires c.loop-k-test.true c.index-fss-k.is c.in_ok-volume.ensures c.loop-k.invariant)

pub returns : goal.returns
returns c =
    let all : length c.args.fss.now ≡ c.loop-k.k = omega (arith, c.loop-k.auto.k-end, c.loop-k-test.false) in
    new_all _ _ _ _ all c.loop-k.invariant
