use Rattle.std.proofs.Common.{◌≡◌, ℕ, List, length, map, ap, ◌∙◌, arith}
use Rattle.ix_kernel.specs.Seen.{KSeatState}
use Rattle.ix_gate.proofs.Joining.{stands_all, written_over}
use Rattle.ix_layer_tests.proofs.kernels.run_all.Goals as goal

pub close-requires-clause-all : goal.close-requires-clause-all
close-requires-clause-all g c κs within =
    let numbers : List KSeatState → List ℕ = map (λ (s : KSeatState). s.number) in
    let even : length c.call_all.new.seats ≡ length c.args.seats.items = omega (arith, ap length c.as_mut_slice.ensures.value) in
    let kept = written_over c.args.seats.items c.call_all.new.seats c.args.seats.len even (omega arith) in
    stands_all c.in-Some.first c.args.seats.items _ c.in-Some.ensures.all
    (ap numbers kept ∙ c.call_all.ensures.numbers ∙ ap numbers c.as_mut_slice.ensures.value) κs (c.requires.all κs within)
