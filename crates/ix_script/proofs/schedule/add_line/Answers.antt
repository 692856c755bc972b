use Rattle.std.proofs.Common.{◌≡◌, ℕ, ◌+◌, ◌<◌, ◌++◌, ◌∷◌, [], List, length, drop, None, Some, slice_get, Bool, cond, sym, ap, ◌∙◌, arith}
use Rattle.std.proofs.lemmas.List.{take_rest}
use Rattle.ix_script.specs.{declared.{role.Role.Role, line.Line.Line, schedule.Stretch.Stretch}, scripts.Schedule.{seat_begun, seat_from}}
use Rattle.ix_script.{specs.scripts.Held.own_of, proofs.back.LaneBack.lane_at}
use Rattle.ix_script.specs.declared.line.Line.TheVariants as line
use Rattle.ix_script.proofs.reader.Scheduling.{phase_role, lane_role, begun_here, none_here, unseated, other_phase, other_lane, seat_low, part_within}
use Rattle.ix_script.proofs.reader.Scheduling.{added_own, own_here, none_marked, still_marked, seat_set}
use Rattle.ix_script.proofs.reader.Scheduling.{stretch_here}
use Rattle.ix_script.proofs.schedule.add_line.Goals as goal

pub returns-in-Phase-clause-begun : goal.returns-in-Phase-clause-begun
returns-in-Phase-clause-begun c =
    sym (begun_here c.args.begun c.args.index c.args.lines.now.said c.unwrap-role.result (sym c.unwrap-role.ensures ∙ c.role.ensures)
    ∙ ap (λ (r : Role). cond (phase_role r) (c.args.begun + 1) c.args.begun) c.in-Phase.is)

pub returns-in-Phase-clause-more : goal.returns-in-Phase-clause-more
returns-in-Phase-clause-more c =
    λ seat. none_here c.args.lanes.now seat c.args.begun c.args.index c.args.lines.now.said c.unwrap-role.result _ (sym c.unwrap-role.ensures ∙ c.role.ensures) (ap lane_role c.in-Phase.is)

pub returns-in-Phase-clause-marked : goal.returns-in-Phase-clause-marked
returns-in-Phase-clause-marked c =
    λ j. none_marked _ _ _ _ c.unwrap-role.result j (sym c.unwrap-role.ensures ∙ c.role.ensures) (ap lane_role c.in-Phase.is) c.requires.unset

pub returns-in_default-role : goal.returns-in_default-role
returns-in_default-role c =
    let some = sym c.unwrap-role.ensures ∙ c.role.ensures in
    record {
      lanes = c.requires.lanes;
      seats = c.requires.seats;
      begun = sym (begun_here c.args.begun c.args.index c.args.lines.now.said c.unwrap-role.result some ∙ ap (λ (b : Bool). cond b (c.args.begun + 1) c.args.begun) (other_phase c.unwrap-role.result
          c.in_default.not-Phase));
      more = λ seat. none_here c.args.lanes.now seat c.args.begun c.args.index c.args.lines.now.said c.unwrap-role.result _ some (other_lane c.unwrap-role.result c.in_default-role.not-Lane);
      marked = λ j. none_marked _ _ _ _ c.unwrap-role.result j some (other_lane c.unwrap-role.result c.in_default-role.not-Lane) c.requires.unset;
    }

pub returns-in_default-seat_of-clause-begun : goal.returns-in_default-seat_of-clause-begun
returns-in_default-seat_of-clause-begun c =
    sym (begun_here c.args.begun c.args.index c.args.lines.now.said c.unwrap-role.result (sym c.unwrap-role.ensures ∙ c.role.ensures)
    ∙ ap (λ (r : Role). cond (phase_role r) (c.args.begun + 1) c.args.begun) c.in-Lane.is)

pub slice_bounds-seat_of-count : goal.slice_bounds-seat_of-count
slice_bounds-seat_of-count c =
    let lane = lane_at _ c.args.lines.now.said c.args.index _ _ (rw c.unwrap-text.ensures at c.text_at.ensures).0 (rw c.unwrap-text.ensures at c.text_at.ensures).1
    (sym c.unwrap-role.ensures ∙ c.role.ensures) c.in-Lane.is in
    lane.long

pub slice_bounds-seat_of-start : goal.slice_bounds-seat_of-start
slice_bounds-seat_of-start c =
    let lane = lane_at _ c.args.lines.now.said c.args.index _ _ (rw c.unwrap-text.ensures at c.text_at.ensures).0 (rw c.unwrap-text.ensures at c.text_at.ensures).1
    (sym c.unwrap-role.ensures ∙ c.role.ensures) c.in-Lane.is in
    lane.long

pub returns-in_default-seat_of-clause-more : goal.returns-in_default-seat_of-clause-more
returns-in_default-seat_of-clause-more c =
    let lane = lane_at _ c.args.lines.now.said c.args.index _ _ (rw c.unwrap-text.ensures at c.text_at.ensures).0 (rw c.unwrap-text.ensures at c.text_at.ensures).1
    (sym c.unwrap-role.ensures ∙ c.role.ensures) c.in-Lane.is in
    λ seat. unseated c.args.lanes.now seat c.args.begun c.args.index c.args.lines.now.said (drop 5 c.unwrap-text.result.now) _ ((rw c.unwrap-text.ensures at c.text_at.ensures).1
    ∙ ap (λ (l : Line). Some l) lane.says) (sym (c.seat_of.ensures ∙ ap (λ n. seat_from 0 n c.args.lanes.now) (take_rest c.unwrap-text.result.now 5)) ∙ c.in_default-seat_of.is)

pub returns-in_default-seat_of-clause-marked : goal.returns-in_default-seat_of-clause-marked
returns-in_default-seat_of-clause-marked c =
    let lane = lane_at _ c.args.lines.now.said c.args.index _ _ (rw c.unwrap-text.ensures at c.text_at.ensures).0 (rw c.unwrap-text.ensures at c.text_at.ensures).1
    (sym c.unwrap-role.ensures ∙ c.role.ensures) c.in-Lane.is in
    let none : seat_begun c.args.lanes.now (slice_get c.args.lines.now.said c.args.index) ≡ None =
    ap (seat_begun c.args.lanes.now) ((rw c.unwrap-text.ensures at c.text_at.ensures).1 ∙ ap (λ (l : Line). Some l) lane.says)
    ∙ sym (c.seat_of.ensures ∙ ap (λ n. seat_from 0 n c.args.lanes.now) (take_rest c.unwrap-text.result.now 5)) ∙ c.in_default-seat_of.is in
    λ j. still_marked _ _ _ _ j none c.requires.unset

pub overflow_cast-seat : goal.overflow_cast-seat
overflow_cast-seat c =
    let place : seat_from 0 (drop 5 c.unwrap-text.result.now) c.args.lanes.now ≡ Some c.in-Some.seat =
    sym (c.seat_of.ensures ∙ ap (λ n. seat_from 0 n c.args.lanes.now) (take_rest c.unwrap-text.result.now 5)) ∙ c.in-Some.is in
    omega (arith, seat_low 0 (drop 5 c.unwrap-text.result.now) c.args.lanes.now c.in-Some.seat place, c.requires.few_lanes)

pub index_mut-requires-2 : goal.index_mut-requires-2
index_mut-requires-2 c =
    let name : List ℕ = drop 5 c.unwrap-text.result.now in
    let place : seat_from 0 name c.args.lanes.now ≡ Some c.in-Some.seat =
    sym (c.seat_of.ensures ∙ ap (λ n. seat_from 0 n c.args.lanes.now) (take_rest c.unwrap-text.result.now 5)) ∙ c.in-Some.is in
    omega (arith, seat_low 0 name c.args.lanes.now c.in-Some.seat place, c.requires.lanes)

pub overflow_cast-part_end : goal.overflow_cast-part_end
overflow_cast-part_end c = omega (arith, c.part_end.ensures, c.requires.few, part_within c.args.lines.now.said (c.args.index + 1) (omega (arith, c.requires.within)))

pub returns-clause-begun : goal.returns-clause-begun
returns-clause-begun c =
    sym (begun_here c.args.begun c.args.index c.args.lines.now.said c.unwrap-role.result (sym c.unwrap-role.ensures ∙ c.role.ensures)
    ∙ ap (λ (r : Role). cond (phase_role r) (c.args.begun + 1) c.args.begun) c.in-Lane.is)

pub returns-clause-more : goal.returns-clause-more
returns-clause-more c =
    let items = c.args.stretches.now.items in
    let at : ℕ = c.in-Some.seat in
    let stretch : Stretch = record { phase = c.saturating_sub.result; first = c.args.index + 1; end = c.part_end.result } in
    let lane = lane_at _ c.args.lines.now.said c.args.index _ _ (rw c.unwrap-text.ensures at c.text_at.ensures).0 (rw c.unwrap-text.ensures at c.text_at.ensures).1
    (sym c.unwrap-role.ensures ∙ c.role.ensures) c.in-Lane.is in
    let name : List ℕ = drop 5 c.unwrap-text.result.now in
    let place : seat_from 0 name c.args.lanes.now ≡ Some at =
    sym (c.seat_of.ensures ∙ ap (λ n. seat_from 0 n c.args.lanes.now) (take_rest c.unwrap-text.result.now 5)) ∙ c.in-Some.is in
    let low : at < length items = omega (arith, seat_low 0 name c.args.lanes.now at place, c.requires.lanes) in
    let is : slice_get c.args.lines.now.said c.args.index ≡ Some (line.Lane name) = (rw c.unwrap-text.ensures at c.text_at.ensures).1 ∙ ap (λ (l : Line). Some l) lane.says in
    λ seat.
    added_own items at seat stretch c.push.new.self low (c.in_ok-push.ensures.items
    ∙ ap (λ (ts : List Stretch). ts ++ stretch ∷ []) (own_here items at c.index_mut-2.result.now low c.index_mut-2.ensures.value))
    ∙ ap (λ (ts : List Stretch). own_of items seat ++ ts) (stretch_here c.args.lanes.now seat c.args.begun c.args.index at _ _ c.args.lines.now.said name is place
    c.saturating_sub.ensures c.part_end.ensures)

pub returns-clause-marked : goal.returns-clause-marked
returns-clause-marked c =
    let lane = lane_at _ c.args.lines.now.said c.args.index _ _ (rw c.unwrap-text.ensures at c.text_at.ensures).0 (rw c.unwrap-text.ensures at c.text_at.ensures).1
    (sym c.unwrap-role.ensures ∙ c.role.ensures) c.in-Lane.is in
    let name : List ℕ = drop 5 c.unwrap-text.result.now in
    let place : seat_from 0 name c.args.lanes.now ≡ Some c.in-Some.seat =
    sym (c.seat_of.ensures ∙ ap (λ n. seat_from 0 n c.args.lanes.now) (take_rest c.unwrap-text.result.now 5)) ∙ c.in-Some.is in
    λ j. seat_set c.args.lanes.now c.args.lines.now.said c.args.seats.now.items c.args.index c.in-Some.seat j name (omega (arith, c.requires.seats, c.requires.within))
    (omega (arith, seat_low 0 name c.args.lanes.now c.in-Some.seat place, c.requires.few_lanes))
    ((rw c.unwrap-text.ensures at c.text_at.ensures).1 ∙ ap (λ (l : Line). Some l) lane.says) place
