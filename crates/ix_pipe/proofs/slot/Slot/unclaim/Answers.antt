use Rattle.std.proofs.Common.{None}
use Rattle.ix_pipe.proofs.Slotted.{shown_claim}
use Rattle.ix_pipe.proofs.slot.Slot.unclaim.Goals as goal

pub returns : goal.returns
returns c = rw (← c.self.view_is) (shown_claim _ _ c.self.inside.claims _ _ c.args.end None)
