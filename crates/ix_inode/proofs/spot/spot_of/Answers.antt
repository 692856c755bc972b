use Rattle.ix_inode.proofs.Laid.{found_spot, passed}
use Rattle.ix_inode.proofs.spot.spot_of.Goals as goal

pub returns-in-Some : goal.returns-in-Some
returns-in-Some c = found_spot c.args.volumes.now c.requires c.loop-k.k c.index-volumes-k.result c.loop-k-test.true c.index-volumes-k.is c.args.object c.in-Some.inode c.in-Some.ensures

pub loop-k-preserved : goal.loop-k-preserved
loop-k-preserved c = passed c.args.volumes.now c.requires c.loop-k.k c.index-volumes-k.result c.loop-k-test.true c.index-volumes-k.is c.args.object c.loop-k.invariant c.in-None.ensures
