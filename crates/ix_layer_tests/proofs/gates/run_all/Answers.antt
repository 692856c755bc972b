use Rattle.std.proofs.Common.{◌≡◌, ℕ, List, length, map, ap, ◌∙◌, arith}
use Rattle.ix_gate.{specs.Seat.SeatState, proofs.Joining.{stands_all, written_over}}
use Rattle.ix_layer_tests.specs.declared.gates.Turn.{Turn}
use Rattle.ix_layer_tests.proofs.gates.run_all.Goals as goal

abbrev S : Type 0
S = SeatState (Unit {0}) Turn

pub close-requires-clause-all : goal.close-requires-clause-all
close-requires-clause-all g c κs n =
    let numbers : List S → List ℕ = map (λ (s : S). s.number) in
    let even : length c.take_twice.new.seats ≡ length c.args.seats.items = omega (arith, ap length c.as_mut_slice.ensures.value) in
    let kept = written_over c.args.seats.items c.take_twice.new.seats c.args.seats.len even (omega arith) in
    λ below. stands_all c.in_ok-first.first c.args.seats.items _ c.in_ok-first.ensures.all
    (ap numbers kept ∙ c.take_twice.ensures.numbers ∙ ap numbers c.as_mut_slice.ensures.value) n (c.requires.all n below)
