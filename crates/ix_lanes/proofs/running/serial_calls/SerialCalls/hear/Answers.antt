use Rattle.std.proofs.Common.{◌≡◌, ◌∷◌, ◌+◌, List, Some, map, drop, take, sym, ap, ◌∙◌, subst, length, arith}
use Rattle.std.{specs.Vec.with_item, proofs.lemmas.List.with_items_is}
use Rattle.ix_model.specs.{history.Step.step_of, world.World.World}
use Rattle.ix_asking.specs.Asking.{Answered}
use Rattle.ix_script.specs.{lines.Before.lanes_of, declared.line.Line.Line, scripts.Schedule.seat_after}
use Rattle.ix_lanes.specs.{asking.{Asked.Names, Places.standing}, declared.asking.places.Places.Places}
use Rattle.ix_lanes.specs.histories.{Indexed.line_in, Serial.{header_of, names_of, serial_from}}
use Rattle.ix_lanes.specs.running.{Phases.seat_at, Serially.{ArePlaced, LeavesLines, SerialLeft, entries_left, most_entries, next_entry}}
use Rattle.ix_lanes.proofs.{found.Roles.{line-there, seat-stays}, phased.{LaneLines.seat_one_more, Placed.placed-line}}
use Rattle.ix_lanes.proofs.phased.InOrder.{due_seen, goes_on, indexed, lane_is, lane_mine, lane_within, line_asks_on, line_done, lines_behind, placed_set}
use Rattle.ix_lanes.proofs.phased.InOrder.{still_fewer, still_within}
use Rattle.ix_lanes.proofs.running.serial_calls.SerialCalls.hear.Goals as goal

pub heard-requires-clause-due : goal.heard-requires-clause-due
heard-requires-clause-due c =
    let i = c.self.inside in
    let st = due_seen c.self.view_is c.requires.due in
    let k = lane_is i.here.seat st.2 in
    (header_of i.script.now, names_of (map standing i.places.items) k.0, i.here.at + 1, line_in i.script.now i.here.at, st.1 k.0 k.1)

pub invariant_of-self : goal.invariant_of-self
invariant_of-self c =
    let st = due_seen c.self.view_is c.requires.due in
    let k = lane_is c.self.inside.here.seat st.2 in
    let told = rw c.in_default.is at (c.heard.ensures _ _ _ _ (st.1 k.0 k.1)) in
    (c.self.invariant.0, still_within _ _ _ _ _ _ _ _ c.self.invariant.1 st.0 k.0 k.1 _ _ _ told)

pub returns-in_default-clause-on : goal.returns-in_default-clause-on
returns-in_default-clause-on c =
    let i = c.self.inside in
    let st = due_seen c.self.view_is c.requires.due in
    let k = lane_is c.self.inside.here.seat st.2 in
    let told = rw c.in_default.is at (c.heard.ensures _ _ _ _ (st.1 k.0 k.1)) in
    let over = goes_on _ _ _ _ _ _ _ _ c.self.invariant.1 st.0 k.0 k.1 _ _ _ told in
    λ w place e next gave.
    ap (λ x. entries_left x w place) (sym c.self.view_is)
    ∙ line_asks_on i.script.now (map standing i.places.items) i.here.at i.here.seat k.0 k.1 i.copying i.part st.0 c.heard.new.copying c.heard.new.part over _ told.0 w
    place e (ap next_entry c.self.view_is ∙ next) gave

pub returns-in_default-clause-fewer : goal.returns-in_default-clause-fewer
returns-in_default-clause-fewer c =
    let st = due_seen c.self.view_is c.requires.due in
    let k = lane_is c.self.inside.here.seat st.2 in
    let told = rw c.in_default.is at (c.heard.ensures _ _ _ _ (st.1 k.0 k.1)) in
    let less = still_fewer _ _ _ _ _ _ _ _ c.self.invariant.1 st.0 k.0 k.1 _ _ _ told in
    omega (arith, less, ap most_entries c.self.view_is)

pub index_mut-requires : goal.index_mut-requires
index_mut-requires c =
    let i = c.self.inside in
    let low = lane_within i.script.now i.places.items i.here.at c.in-Some-seat.seat c.self.invariant.0.placed (sym c.self.invariant.1.in_lane ∙ c.in-Some-seat.is) in
    omega (arith, low, i.places.ok)

pub bind-requires : goal.bind-requires
bind-requires c =
    let i = c.self.inside in
    let s : List Line = i.script.now in
    let k = c.in-Some-seat.seat in
    let st = due_seen c.self.view_is c.requires.due in
    let is = sym c.self.invariant.1.in_lane ∙ c.in-Some-seat.is in
    let low = lane_within s i.places.items i.here.at k c.self.invariant.0.placed is in
    let there = indexed i.places.items k c.index_mut.result.now low (sym c.index_mut.ensures.value) in
    let same : c.in-Some-line.line ≡ line_in s i.here.at = let e = sym c.in-Some-line.is ∙ c.self.invariant.1.line st.0 in cc in
    let line = line-there s i.here.at (c.self.invariant.1.low st.0) ∙ ap Some (sym same) in
    placed-line s k i.here.at c.in-Some-line.line line c.index_mut.result.now (lane_mine s i.places.items i.here.at k c.self.invariant.0.placed is) (c.self.invariant.0.placed.placed k _ there)

pub find-requires-clause-seat : goal.find-requires-clause-seat
find-requires-clause-seat c =
    let i = c.self.inside in
    let s : List Line = i.script.now in
    let at = i.here.at in
    let st = due_seen c.self.view_is c.requires.due in
    c.leave.ensures.seat
    ∙ sym (seat-stays (lanes_of s) i.here.seat (line_in s at) (c.self.invariant.1.apart st.0))
    ∙ ap (λ o. seat_after (lanes_of s) o (line_in s at)) c.self.invariant.1.in_lane
    ∙ sym (seat_one_more s at (line_in s at) (line-there s at (c.self.invariant.1.low st.0)))
    ∙ ap (λ n. seat_at s (take n s)) (sym c.leave.ensures.at)

pub find-requires-clause-places : goal.find-requires-clause-places
find-requires-clause-places c =
    let i = c.self.inside in
    let s : List Line = i.script.now in
    let k = c.in-Some-seat.seat in
    let low = lane_within s i.places.items i.here.at k c.self.invariant.0.placed (sym c.self.invariant.1.in_lane ∙ c.in-Some-seat.is) in
    let there = indexed i.places.items k c.index_mut.result.now low (sym c.index_mut.ensures.value) in
    subst (ArePlaced s) (sym c.as_mut_slice.ensures.value) (placed_set i.places.items k c.index_mut.result.now there s c.bind.new.places c.self.invariant.0.placed c.bind.ensures.keeps)

pub returns-clause-on : goal.returns-clause-on
returns-clause-on c =
    let i = c.self.inside in
    let s : List Line = i.script.now in
    let k = c.in-Some-seat.seat in
    let st = due_seen c.self.view_is c.requires.due in
    let low = lane_within s i.places.items i.here.at k c.self.invariant.0.placed (sym c.self.invariant.1.in_lane ∙ c.in-Some-seat.is) in
    let there = indexed i.places.items k c.index_mut.result.now low (sym c.index_mut.ensures.value) in
    let names : Names = names_of (map standing i.places.items) k in
    let a : Answered = record { reply = c.args.reply.now; bytes = c.args.bytes.now } in
    let same : c.in-Some-line.line ≡ line_in s i.here.at = let e = sym c.in-Some-line.is ∙ c.self.invariant.1.line st.0 in cc in
    let stays = c.leave.ensures.seat ∙ sym (seat-stays (lanes_of s) i.here.seat (line_in s i.here.at) (c.self.invariant.1.apart st.0)) in
    let done = (c.in-Some.ensures (header_of s) names (i.here.at + 1) (line_in s i.here.at) (st.1 k c.in-Some-seat.is)).0 in
    let new : List Places → SerialLeft = λ places. record {
      script = s;
      names = map standing places;
      at = c.find.new.self.at;
      seat = c.find.new.self.seat;
      copying = c.find.new.copying;
      part = c.find.new.begun;
    } in
    let left : LeavesLines s c.as_mut_slice.result.now c.leave.new.self.seat c.leave.new.self.at (new c.find.new.places) = c.find.ensures.left in
    let few : length c.find.new.places ≡ i.places.len = omega (arith, c.find.ensures.places.count, c.self.invariant.0.placed.count, i.places.ok) in
    let items = with_items_is (with_item i.places k c.bind.new.places) c.find.new.places few in
    λ w place e next gave.
    let x : World = (step_of w place e).world in
    let behind =
    lines_behind s i.places.items i.here.at k c.index_mut.result.now there i.here.seat c.in-Some-seat.is c.in-Some-line.line same
    c.in-Some.handed c.bind.new.places c.bind.ensures.set
    c.leave.new.self.seat stays c.leave.new.self.at c.leave.ensures.at x (place + 1) in
    ap (λ y. entries_left y w place) (sym c.self.view_is)
    ∙ line_done s (map standing i.places.items) i.here.at i.here.seat k c.in-Some-seat.is i.copying i.part st.0 a c.in-Some.handed done w place e (ap next_entry c.self.view_is ∙ next) gave
    ∙ ap (λ events. e ∷ events) (sym behind)
    ∙ ap (λ places. e ∷ serial_from s x (place + 1) (map standing places) c.leave.new.self.seat (c.leave.new.self.at + 1) (drop c.leave.new.self.at s)) (sym c.as_mut_slice.ensures.value)
    ∙ ap (λ events. e ∷ events) (sym (left x (place + 1)))
    ∙ ap (λ places. e ∷ entries_left (new places) x (place + 1)) (sym items)
