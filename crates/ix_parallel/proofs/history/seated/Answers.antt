use Rattle.std.proofs.Common.{◌≡◌, true, not, is_ok, if◌then◌else◌, List, [], ◌∷◌, ◌++◌, ap, ◌∙◌, subst, arith}
use Rattle.std.proofs.lemmas.List.{nil_from_length}
use Rattle.ix_kernel.specs.{Seen.KSeatState, Systems.SystemState}
use Rattle.ix_lanes.specs.running.Runs.{Ran}
use Rattle.ix_parallel.{specs.Seats.{Seated, SeatedSoFar}, proofs.together.Seating.{all_seated, next_is_new, none_seated, seated_next}}
use Rattle.ix_parallel.proofs.history.seated.Goals as goal

pub loop-seat-init : goal.loop-seat-init
loop-seat-init g c = (
  tt,
  tt,
  none_seated c.args.script.now c.args.kernel.now c.args.seats.items c.into_iter-seat-iterator.result.rest.items
      c.new-lanes.result.items c.into_iter-seat-iterator.ensures.into_iter_gives.0 c.new-lanes.ensures.items,
)

pub new-requires-clause-lane : goal.new-requires-clause-lane
new-requires-clause-lane g c =
    (next_is_new c.args.script.now c.args.kernel.now c.args.seats.items c.loop-seat.seat-iterator.rest.items c.loop-seat.number c.loop-seat.lanes.items
    c.in-Some.seat c.next.new.self.rest.items
    c.requires.seats c.loop-seat.invariant.2 c.in-Some.ensures.steps.0).0

pub new-sys-requires-clause-number : goal.new-sys-requires-clause-number
new-sys-requires-clause-number g c = let next = next_is_new c.args.script.now c.args.kernel.now c.args.seats.items c.loop-seat.seat-iterator.rest.items
    c.loop-seat.number c.loop-seat.lanes.items c.in-Some.seat c.next.new.self.rest.items
    c.requires.seats c.loop-seat.invariant.2 c.in-Some.ensures.steps.0 in ap (λ (k : KSeatState). k.number) next.1

pub loop-seat-preserved : goal.loop-seat-preserved
loop-seat-preserved g c =
    let pushed : is_ok c.push.result ≡ true = c.is_err.ensures.negation ∙ ap not c.if-is_err.false in
    let lanes : List Seated = c.loop-seat.lanes.items in
    let run : Ran = c.in_ok-run.run' in
    let with_one : SystemState → List Seated = λ sys. lanes ++ (record { run = run; sys = sys }) ∷ [] in
    let more : c.push.new.self.items ≡ with_one c.new-sys.result = c.push.ensures.items ∙ ap (λ b. if b then with_one c.new-sys.result else lanes) pushed in (
      tt,
      tt,
      seated_next c.args.script.now c.args.kernel.now c.args.seats.items c.loop-seat.seat-iterator.rest.items c.loop-seat.number lanes c.push.new.self.items
          c.in-Some.seat c.next.new.self.rest.items run
          c.requires.seats c.loop-seat.invariant.2 c.in-Some.ensures.steps.0 c.in_ok-run.ensures.new c.in_ok-run.ensures.stands (more ∙ ap with_one c.new-sys.ensures),
    )

pub returns : goal.returns
returns g c =
    let left : c.loop-seat.seat-iterator.rest.items ≡ [] = nil_from_length c.loop-seat.seat-iterator.rest.items (omega (arith, c.in-None.ensures.steps.0)) in
    all_seated c.args.script.now c.args.kernel.now c.args.seats.items c.loop-seat.number c.loop-seat.lanes.items c.requires.some c.requires.seats
    (subst (λ (l : List KSeatState). SeatedSoFar c.args.script.now c.args.kernel.now c.args.seats.items l c.loop-seat.number c.loop-seat.lanes.items) left c.loop-seat.invariant.2)
