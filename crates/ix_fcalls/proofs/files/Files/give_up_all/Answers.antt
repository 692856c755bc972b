use Rattle.ix_fcalls.proofs.Bare.{giving_more}
use Rattle.ix_fcalls.proofs.files.Files.give_up_all.Goals as goal

pub loop-fd-preserved : goal.loop-fd-preserved
loop-fd-preserved g c = giving_more _ _ _ _ _ _ c.loop-fd.invariant _ _
    c.loop-fd-test.true c.give_up_if_held.ensures.row c.give_up_if_held.ensures.process c.give_up_if_held.ensures.sound c.give_up_if_held.ensures.counted c.give_up_if_held.ensures.leaves
