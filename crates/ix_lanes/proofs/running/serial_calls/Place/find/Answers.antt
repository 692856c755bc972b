use Rattle.std.proofs.Common.{◌≡◌, ◌+◌, ◌<◌, ℕ, false, List, Some, length, map, option_map, take, drop, sym, ap, ◌∙◌, true≢false, arith, slice_index_or}
use Rattle.ix_asking.specs.Asking as asking
use Rattle.ix_script.specs.{lines.{Before.lanes_of, Roles.role_of}, declared.line.Line.Line, scripts.Schedule.seat_after}
use Rattle.ix_lanes.specs.{asking.{LineAsks.line_asks, Places.standing}, declared.{asking.places.Places.Places, running.serial_calls.Place.Place}}
use Rattle.ix_lanes.specs.{histories.{Indexed.line_in, Serial.serial_from}, running.{Left.{is_over, part_left}, Phases.seat_at, Serially.role_begins}}
use Rattle.ix_lanes.specs.declared.asking.handed.Handed.TheVariants as handed
use Rattle.ix_lanes.proofs.{found.Roles.line-there, phased.{LaneLines.seat_one_more, Lefts.not_over, Placed.placed-line}}
use Rattle.ix_lanes.proofs.running.serial_calls.Place.find.Goals.{Then-not-matches, in-Some+in-Some-line+else-not-matches, in-Over, in_default-matches, in_default}
use Rattle.ix_lanes.proofs.phased.InOrder.{asking_apart, asking_seat, begun_left, begun_within, lane_mine, lane_there, lane_within, placed_set, skipped, unasked}
use Rattle.ix_lanes.proofs.running.serial_calls.Place.find.Goals as goal

pub bounds-places-seat : goal.bounds-places-seat
bounds-places-seat c =
    let seat : c.lines.self.seat ≡ Some c.in-Some.seat = asking_seat _ _ _ c.in-Some.seat c.seat_asking.ensures c.in-Some.is in
    lane_within c.args.script.now c.lines.places c.lines.self.at c.in-Some.seat c.lines.invariant.placed (sym c.lines.invariant.seat ∙ seat)

-- the line asks for something
begun : (c : Then-not-matches) → is_over c.begin.new.begun ≡ false
begun c = elim c.match-matches.branch [
  | in-Over w ↦ absurd (true≢false (sym w.matches-is ∙ c.if-not-matches.true))
  | in_default-matches w ↦ not_over c.begin.new.begun w.in_default-matches.not-Over
]

pub returns-then-not-matches-clause-left : goal.returns-then-not-matches-clause-left
returns-then-not-matches-clause-left c =
    let seat = asking_seat _ _ _ c.in-Some.seat c.seat_asking.ensures c.in-Some.is in
    let there = lane_there c.args.script.now c.lines.places c.lines.self.at _ c.lines.invariant.placed (sym c.lines.invariant.seat ∙ seat) c.index-places-seat.result in
    let same : c.in-Some-line.line ≡ line_in c.args.script.now c.lines.self.at = let e = sym c.in-Some-line.is ∙ c.line_kept-self.ensures in cc in
    λ w place.
    begun_left c.args.script.now c.lines.self.at (omega (arith, c.lines-test.true, c.len.ensures.len)) _ _ _ there _ seat _ _ c.requires.policy c.requires.header c.in-Some-line.line same
    c.begin.new.copying c.begin.new.begun c.begin.ensures.asks (begun (goal.at.returns-then-not-matches-clause-left c).Then-not-matches) w place
    ∙ c.lines.invariant.left w place

pub returns-then-not-matches-clause-within : goal.returns-then-not-matches-clause-within
returns-then-not-matches-clause-within c =
    let seat = asking_seat _ _ _ c.in-Some.seat c.seat_asking.ensures c.in-Some.is in
    let there = lane_there c.args.script.now c.lines.places c.lines.self.at _ c.lines.invariant.placed (sym c.lines.invariant.seat ∙ seat) c.index-places-seat.result in
    let same : c.in-Some-line.line ≡ line_in c.args.script.now c.lines.self.at = let e = sym c.in-Some-line.is ∙ c.line_kept-self.ensures in cc in
    let apart : role_begins (role_of (line_in c.args.script.now c.lines.self.at)) ≡ false = ap role_begins (sym c.role_at-role.ensures)
    ∙ asking_apart _ _ _ c.in-Some.seat c.seat_asking.ensures c.in-Some.is in
    begun_within c.args.script.now c.lines.self.at (omega (arith, c.lines-test.true, c.len.ensures.len)) _ _ _ there _ seat _ _ c.requires.policy c.requires.header c.in-Some-line.line same
    c.begin.new.copying c.begin.new.begun c.begin.ensures.asks (begun (goal.at.returns-then-not-matches-clause-within c).Then-not-matches) c.begin.new.written
    c.lines.invariant.seat c.line_kept-self.result c.line_kept-self.ensures apart c.begin.ensures.pending c.begin.ensures.holds

pub bind-requires : goal.bind-requires
bind-requires c =
    let s : List Line = c.args.script.now in
    let i = c.lines.self.at in
    let k = c.in-Some.seat in
    let is : seat_at s (take i s) ≡ Some k = sym c.lines.invariant.seat ∙ asking_seat _ _ _ k c.seat_asking.ensures c.in-Some.is in
    let there = lane_there s c.lines.places i k c.lines.invariant.placed is c.index-places-seat.result in
    let same : c.in-Some-line.line ≡ line_in s i = let e = sym c.in-Some-line.is ∙ c.line_kept-self.ensures in cc in
    let line = line-there s i (omega (arith, c.lines-test.true, c.len.ensures.len)) ∙ ap Some (sym same) in
    placed-line s k i c.in-Some-line.line line (slice_index_or c.lines.places k c.index-places-seat.result) (lane_mine s c.lines.places i k c.lines.invariant.placed is)
    (c.lines.invariant.placed.placed k _ there)

pub lines-preserved : goal.lines-preserved
lines-preserved c =
    let s : List Line = c.args.script.now in
    let i : ℕ = c.lines.self.at in
    let low : i < length s = omega (arith, c.lines-test.true, c.len.ensures.len) in
    let there = line-there s i low in
    let at : c.match-seat_asking.self.at ≡ i =
    elim c.match-seat_asking.branch [ in-Some+in-Some-line+else-not-matches w ↦ ap (λ (h : Place). h.at) w.self-is | in_default w ↦ ap (λ (h : Place). h.at) w.self-is ]
    in
    let seat : c.match-seat_asking.self.seat ≡ c.lines.self.seat =
    elim c.match-seat_asking.branch [ in-Some+in-Some-line+else-not-matches w ↦ ap (λ (h : Place). h.seat) w.self-is | in_default w ↦ ap (λ (h : Place). h.seat) w.self-is ] in
    let next : c.pass.new.self.at ≡ i + 1 = c.pass.ensures.at ∙ ap (λ n. n + 1) at in
    let seated : c.pass.new.self.seat ≡ seat_after (lanes_of s) c.lines.self.seat (line_in s i) = c.pass.ensures.seat ∙ (λ x. seat_after (lanes_of s) (seat x) (line_in s (at x))) in
    record {
      within = omega (arith, next, low);
      later = omega (arith, next, c.lines.invariant.later);
      seat = seated ∙ ap (λ a. seat_after (lanes_of s) a (line_in s i)) c.lines.invariant.seat
          ∙ sym (seat_one_more s i (line_in s i) there) ∙ ap (λ n. seat_at s (take n s)) (sym next);
      placed = elim c.match-seat_asking.branch [
        | in-Some+in-Some-line+else-not-matches w ↦
            let k = w.in-Some.seat in
            let old = lane_there s c.lines.places i k c.lines.invariant.placed (sym c.lines.invariant.seat ∙ asking_seat _ _ _ k c.seat_asking.ensures w.in-Some.is) w.index-places-seat.result in
            rw w.places-is (placed_set c.lines.places k _ old s w.bind.new.places c.lines.invariant.placed w.bind.ensures.keeps)
        | in_default w ↦ rw w.places-is c.lines.invariant.placed
      ];
      left = λ v place. elim c.match-seat_asking.branch [
        | in-Some+in-Some-line+else-not-matches w ↦
            let k = w.in-Some.seat in
            let old = lane_there s c.lines.places i k c.lines.invariant.placed (sym c.lines.invariant.seat ∙ asking_seat _ _ _ k c.seat_asking.ensures w.in-Some.is) w.index-places-seat.result in
            let p : Places = slice_index_or c.lines.places k w.index-places-seat.result in
            let l : Line = w.in-Some-line.line in
            let same : l ≡ line_in s i = let e = sym w.in-Some-line.is ∙ w.line_kept-self.ensures in cc in
            let asks : line_asks (option_map (λ q. q.now) c.args.policy) c.args.header.now (standing p) (i + 1) l ≡ part_left c.args.header.now (standing p)
            (i + 1) l w.begin.new.copying w.begin.new.begun = sym w.begin.ensures.asks in
            let none : line_asks (option_map (λ q. q.now) c.args.policy) c.args.header.now (standing p) (i + 1) l ≡ asking.Done handed.Nothing = elim w.match-matches.branch [
              | in-Over u ↦ asks ∙ ap (part_left c.args.header.now (standing p) (i + 1) l w.begin.new.copying) u.in-Over.is
              | in_default-matches u ↦ absurd (true≢false (sym w.if-not-matches.false ∙ u.matches-is))
            ] in
            ap (λ all. serial_from s v place (map standing all) c.pass.new.self.seat (c.pass.new.self.at + 1) (drop c.pass.new.self.at s)) w.places-is
            ∙ skipped s i low c.lines.places k p old c.lines.self.seat (asking_seat _ _ _ k c.seat_asking.ensures w.in-Some.is)
            (option_map (λ q. q.now) c.args.policy) c.args.header.now c.requires.policy
            c.requires.header l same
            none w.bind.new.places w.bind.ensures.set c.pass.new.self.seat seated c.pass.new.self.at next v place
            ∙ c.lines.invariant.left v place
        | in_default w ↦
            ap (λ all. serial_from s v place (map standing all) c.pass.new.self.seat (c.pass.new.self.at + 1) (drop c.pass.new.self.at s)) w.places-is
            ∙ unasked s i low (map standing c.lines.places) _ c.role_at-role.ensures c.lines.self.seat _ c.seat_asking.ensures w.in_default.is
            c.pass.new.self.seat seated c.pass.new.self.at next v place
            ∙ c.lines.invariant.left v place
      ];
    }
