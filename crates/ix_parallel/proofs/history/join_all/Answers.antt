use Rattle.std.{proofs.{Common.{◌≡◌, ◌∷◌, List, [], length, sym, ap, ◌∙◌, subst, arith}, lemmas.List.nil_from_length}, specs.Prelude.IfNone}
use Rattle.ix_kernel.specs.Seen.{KSeatState}
use Rattle.ix_parallel.{specs.{Joining.JoinedSoFar, Seats.Seated}, proofs.together.Joining.{joined_begin, joined_end, joined_gates, joined_step}}
use Rattle.ix_parallel.proofs.history.join_all.Goals as goal
use Rattle.ix_parallel.proofs.history.join_all.Given as given

pub returns-in_err-next-clause-none : goal.returns-in_err-next-clause-none
returns-in_err-next-clause-none g c =
    let none : length c.args.lanes.items ≡ 0 = omega (arith, ap length c.into_iter-rest.ensures.rest, c.in_err-next.ensures.cases.0) in
    subst (λ r. IfNone r (length c.args.lanes.items ≡ 0)) (sym c.from_residual.ensures) none

pub loop-lane-init : goal.loop-lane-init
loop-lane-init g c =
    let lane : Seated = c.in_ok-next.field-0 in
    let left : List Seated = c.into_iter-lane-iterator.result.rest.items in
    let rest : c.next.new.self.rest.items ≡ left = ap (λ i. i.rest.items) (sym c.into_iter-lane-iterator.ensures.into_iter_gives) in
    let all : c.args.lanes.items ≡ lane ∷ left = sym c.into_iter-rest.ensures.rest ∙ (c.in_ok-next.ensures.items ∙ ap (λ (l : List Seated). lane ∷ l) rest) in (
      tt,
      tt,
      subst (JoinedSoFar c.args.kernel.now c.args.lanes.items left) (sym c.seat_of-first.ensures.seat) (joined_begin c.args.kernel.now c.args.lanes.items
          left lane all c.seat_of-first.ensures.last),
    )

pub join-requires : goal.join-requires
join-requires g c =
    let gates = joined_gates c.requires.0 c.args.kernel.now c.requires.1 c.args.lanes.items c.loop-lane.lane-iterator.rest.items
    c.next-in-loop-lane.new.self.rest.items c.loop-lane.first c.in-Some.lane c.requires.2 c.loop-lane.invariant.2
    c.in-Some.ensures.steps.0 in
    record { kernel = (gates.0, ap (λ (k : KSeatState). k.gate) c.seat_of.ensures.seat ∙ gates.1) }

pub loop-lane-preserved : goal.loop-lane-preserved
loop-lane-preserved g c = (
  tt,
  tt,
  joined_step c.args.kernel.now c.args.lanes.items c.loop-lane.lane-iterator.rest.items c.next-in-loop-lane.new.self.rest.items c.loop-lane.first
      c.seat_of.result c.join.new.self c.in-Some.lane c.join.new.self.look_found
      c.loop-lane.invariant.2 c.in-Some.ensures.steps.0 c.seat_of.ensures.seat c.seat_of.ensures.last c.join.ensures.seat,
)

the_end : {g : given.Over} (c : goal.After-drop-lane-iterator g) → JoinedSoFar c.args.kernel.now c.args.lanes.items [] c.loop-lane.first
the_end c =
    let left : c.loop-lane.lane-iterator.rest.items ≡ [] = nil_from_length c.loop-lane.lane-iterator.rest.items (omega (arith, c.in-None.ensures.steps.0)) in
    subst (λ (l : List Seated). JoinedSoFar c.args.kernel.now c.args.lanes.items l c.loop-lane.first) left c.loop-lane.invariant.2

pub returns-clause-joined : goal.returns-clause-joined
returns-clause-joined g c = (joined_end c.args.kernel.now c.args.lanes.items c.loop-lane.first (the_end c)).0

pub returns-clause-last : goal.returns-clause-last
returns-clause-last g c = (joined_end c.args.kernel.now c.args.lanes.items c.loop-lane.first (the_end c)).1
