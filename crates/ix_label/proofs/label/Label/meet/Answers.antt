use Rattle.ix_label.proofs.Bits.{members-intersection}
use Rattle.ix_label.proofs.label.Label.meet.Goals as goal

pub returns-clause-meet : goal.returns-clause-meet
returns-clause-meet g c =
    rw (← c.self.view_is, ← c.other.view_is)
    (members-intersection _ _ _ c.self.invariant c.intersection.ensures.count c.intersection.ensures.words)
