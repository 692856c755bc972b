use Rattle.std.proofs.{Common.{ap, arith}, lemmas.Option.get_or_from_slice_get}
use Rattle.ix_gate.proofs.Joining.{number_is_there}
use Rattle.ix_kernel.specs.Seen.{KSeatState}
use Rattle.ix_layer_tests.proofs.kernels.run_seats.Goals as goal

pub run_all-requires-clause-ready : goal.run_all-requires-clause-ready
run_all-requires-clause-ready g c κs within = λ k d low.
    let there = c.in_ok-kernel.ensures.seats k (omega (arith, low, c.in_ok-kernel.ensures.count)) in
    ap (λ (s : KSeatState). s.gate) (get_or_from_slice_get c.in_ok-kernel.seats.items k _ d there)

pub run_all-requires-clause-all : goal.run_all-requires-clause-all
run_all-requires-clause-all g c κs within = λ n below. number_is_there _ n _ (c.in_ok-kernel.ensures.seats n (omega (arith, c.in_ok-kernel.ensures.kernel)))
