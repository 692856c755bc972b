use Rattle.std.proofs.Common.{◌≡◌, ℕ, ◌<◌, [], Some, slice_get, vec_len, vec_capacity}
use Rattle.ix_gate.specs.{declared.view.Role.TheVariants.Next, View.fresh, Seat.new_seat}
use Rattle.ix_gate.proofs.gate.Gate.new.Given as goal

abbrev pub invariant-loop-number : goal.invariant-loop-number
invariant-loop-number g l =
    (l.maker.table_id ≡ l.gate.id)
    × (l.maker.me ≡ (fresh l.seats (Some (g.M.Machine.base l.fn.machine)) (Next l.number), []))
    × (vec_len l.all ≡ l.number) × (vec_capacity l.all ≡ l.seats)
    × ((k : ℕ) → k < l.number → slice_get l.all.items k ≡ Some (new_seat l.gate.id l.seats (Some (g.M.Machine.base l.fn.machine)) k))
