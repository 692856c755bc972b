use Rattle.std.proofs.{Common.{◌≡◌, ◌+◌, not, length, sym, ap, ◌∙◌, subst, arith, slice_set}, lemmas.Bool.{not-true, not-false}}
use Rattle.ix_model.specs.world.Naming.{same_bytes}
use Rattle.ix_judging.specs.Walk.{Fails, line_after, makes, told_call}
use Rattle.ix_check.{specs.{Judging.Stands, Plans.judged_plan}, proofs.LookedAt.{called_in, its_room, its_seat, lane_at, right_line, wrong_line}}
use Rattle.ix_check.proofs.judge.Judge.look_at_entry.Goals as goal

pub print_call-requires-clause-seat : goal.print_call-requires-clause-seat
print_call-requires-clause-seat g c =
    let among = c.requires.came.1 in
    let called = called_in _ c.args.self.now.printer.script.now _ _ _ _ _ _ c.as_slice-lanes.ensures.value (c.in-Some.ensures c.requires.came.0) among in
    its_seat _ _ _ _ _ among _ _ called _ (lane_at g.L.LaneSteps.at _ _ _ _ called c.index_mut-lane.ensures.value)

pub print_call-requires-clause-room : goal.print_call-requires-clause-room
print_call-requires-clause-room g c =
    let among = c.requires.came.1 in
    let called = called_in _ c.args.self.now.printer.script.now _ _ _ _ _ _ c.as_slice-lanes.ensures.value (c.in-Some.ensures c.requires.came.0) among in
    its_room _ _ _ _ _ among _ _ called _ (lane_at g.L.LaneSteps.at _ _ _ _ called c.index_mut-lane.ensures.value)

pub returns-then-ne-clause-walks : goal.returns-then-ne-clause-walks
returns-then-ne-clause-walks g c state among =
    let self = c.args.self.now in
    let s = self.printer.script.now in
    let called = called_in _ s _ _ _ _ _ state c.as_slice-lanes.ensures.value (c.in-Some.ensures state) among in
    let there = lane_at g.L.LaneSteps.at _ _ _ _ called c.index_mut-lane.ensures.value in
    let number : line_after (length self.core.events) ≡ c.from-number.result + 2 = omega (arith, c.from-number.ensures, c.len.ensures.len) in
    wrong_line _ s _ _ _ among _ _ called _ there _ _
    _ c.in_ok-print_call.ensures.made (not-true _ (ap (λ t. not (same_bytes t c.args.line.now)) (sym c.as_slice.ensures.value) ∙ sym c.ne.ensures ∙ c.if-ne.true)) ∙ ap (λ n. Fails n) number

pub returns-else-ne-clause-walks : goal.returns-else-ne-clause-walks
returns-else-ne-clause-walks g c state among =
    let self = c.args.self.now in
    let s = self.printer.script.now in
    let lanes = self.lanes.items in
    let seat = c.in-Some.seat in
    let call = told_call (judged_plan s) state c.args.line.now in
    let called = called_in _ s _ _ _ _ _ state c.as_slice-lanes.ensures.value (c.in-Some.ensures state) among in
    let there = lane_at g.L.LaneSteps.at _ _ _ _ called c.index_mut-lane.ensures.value in
    let stands = right_line _ s _ _ _ among _ _ called _ there _ _
    _ c.in_ok-print_call.ensures.made (not-false _ (ap (λ t. not (same_bytes t c.args.line.now)) (sym c.as_slice.ensures.value) ∙ sym c.ne.ensures ∙ c.if-ne.false)) in
    subst (λ x. Stands g.L.LaneSteps.at s c.print_call.new.core (slice_set lanes seat c.print_call.new.lane) x
    (makes (judged_plan s) (length self.core.events) state c.args.line.now call)) (sym c.requires.stage) stands
