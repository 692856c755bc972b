use Rattle.std.proofs.Common.{rules, ◌∙◌}
use Rattle.ix_pipe.proofs.Slotted.{shown_whole, shown_half}
use Rattle.ix_pipe.proofs.slot.Slot.begin_claim.Goals as goal

pub returns-then-is_some : goal.returns-then-is_some
returns-then-is_some c = c.empty.ensures ∙ rw (← c.self.view_is) (shown_whole _ _ c.self.inside.claims _ _ c.args.end c.args.pid c.args.other (search rules))

pub returns-else-is_some : goal.returns-else-is_some
returns-else-is_some c = rw (← c.self.view_is) (shown_half _ _ c.self.inside.claims _ _ c.args.end c.args.pid c.args.other (search rules))
