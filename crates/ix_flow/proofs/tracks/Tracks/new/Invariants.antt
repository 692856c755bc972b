use Rattle.ix_flow.specs.Tracking.{AreOpened}
use Rattle.ix_flow.proofs.tracks.Tracks.new.Given as goal

abbrev pub invariant-loop-object : goal.invariant-loop-object
invariant-loop-object l = AreOpened l.tracks l.core l.object
