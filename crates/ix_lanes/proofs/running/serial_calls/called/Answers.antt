use Rattle.std.proofs.Common.{sym, ap, ◌∙◌}
use Rattle.ix_asking.specs.{Steps.next_of}
use Rattle.ix_lanes.{specs.running.Serially.entry_next, proofs.phased.InOrder.came_next}
use Rattle.ix_lanes.proofs.running.serial_calls.called.Goals as goal

pub returns-in-Call : goal.returns-in-Call
returns-in-Call g c =
    ap (λ step. entry_next c.args.seat (next_of step)) (sym c.in-Call.is) ∙ ap (entry_next c.args.seat) c.next.ensures ∙ came_next c.args.seat _ _

pub returns-in-Came : goal.returns-in-Came
returns-in-Came g c =
    ap (λ step. entry_next c.args.seat (next_of step)) (sym c.in-Came.is) ∙ ap (entry_next c.args.seat) c.next.ensures ∙ came_next c.args.seat _ _
