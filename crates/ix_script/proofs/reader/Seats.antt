-- No two lanes of a script have one name.
use Rattle.std.{proofs.{Common.{◌≡◌, ℕ, suc, ◌+◌, true, false, List, [], ◌∷◌, ◌++◌, length, Some, ap, ◌∙◌, arith, inl, inr}, Math.Seq.get_or-append_seam}, specs.List.fold}
use Rattle.std.proofs.lemmas.{Bool.{cases_Bool, cases_lt, true≢false}, List.{get_or_append_left, length-append}, Option.none-some}
use Rattle.ix_model.{proofs.tables.Alike.bytes_are, specs.world.Naming.same_bytes}
use Rattle.ix_script.specs.{lines.Before.{is_known, lanes_after, lanes_of}, scripts.Schedule.{SeatsDiffer, seat_from}, declared.line.Line.Line}
use Rattle.ix_script.specs.declared.line.Line.TheVariants as line

-- a lane that is found is found with more behind it
found_still : (n i : ℕ) (name : List ℕ) (lanes more : List (List ℕ)) → seat_from n name lanes ≡ Some i → seat_from n name (lanes ++ more) ≡ Some i
found_still n i name [] more is = absurd (none-some i is)
found_still n i name (lane ∷ lanes) more is = elim (cases_Bool (same_bytes name lane)) [
  | inl e ↦ let h : Some n ≡ Some i = rw e at is in rw e h
  | inr e ↦ let h : seat_from (suc n) name lanes ≡ Some i = rw e at is in rw e (found_still _ i _ lanes _ h)
]

-- one more, of a name that none has
found_last : (n : ℕ) (name new : List ℕ) (lanes : List (List ℕ)) → is_known name lanes ≡ false → same_bytes name new ≡ true
    → seat_from n name (lanes ++ new ∷ []) ≡ Some (n + length lanes)
found_last n name new [] other is = rw is (ap (λ k. Some k) (omega arith))
found_last n name new (lane ∷ lanes) other is = elim (cases_Bool (same_bytes name lane)) [
  | inl e ↦ absurd (true≢false (rw e at other))
  | inr e ↦ let h : is_known name lanes ≡ false = rw e at other in rw e (found_last _ _ _ lanes h is ∙ ap (λ (k : ℕ). Some k) (omega arith))
]

one_more : (lanes : List (List ℕ)) (new : List ℕ) → SeatsDiffer lanes → is_known new lanes ≡ false → SeatsDiffer (lanes ++ new ∷ [])
one_more lanes new differ other i name low is = elim (cases_lt i _) [
  | inl e ↦ found_still 0 i name lanes (new ∷ []) (differ i name e (rw (get_or_append_left) at is))
  | inr e ↦
      let at : i ≡ length lanes = omega (arith, e, low, length-append lanes (new ∷ [])) in
      let here : same_bytes name new ≡ true = rw (at, get_or-append_seam) at is in
      rw at (found_last 0 name _ _ (rw (bytes_are name new here) other) here ∙ ap (λ k. Some k) (omega arith))
]

next_differ : (lanes : List (List ℕ)) (l : Line) → SeatsDiffer lanes → SeatsDiffer (lanes_after lanes l)
next_differ lanes (line.Lane name) differ = elim (cases_Bool (is_known name lanes)) [
  | inl e ↦ rw e differ
  | inr e ↦ rw e (one_more _ _ differ e)
]
next_differ lanes _ differ = differ

all_differ : (lanes : List (List ℕ)) (lines : List Line) → SeatsDiffer lanes → SeatsDiffer (fold lanes_after lanes lines)
all_differ lanes [] differ = differ
all_differ lanes (l ∷ lines) differ = all_differ (lanes_after lanes l) lines (next_differ _ l differ)

pub seats_differ : (lines : List Line) → SeatsDiffer (lanes_of lines)
unfolding lanes_of
seats_differ lines = all_differ [] lines (λ i name low is. absurd (omega (arith, low)))
