-- For whom a seat stands once others were joined into it.
use Rattle.std.proofs.Common.{◌≡◌, ℕ, zero, suc, Some, ◌<◌, List, [], ◌∷◌, ◌++◌, length, map, get_or, take, drop, refl, ap, sym, ◌∙◌, subst, inl, inr, arith}
use Rattle.std.specs.Prelude.{All, Contains, slice_get}
use Rattle.std.proofs.{lemmas.List.Elements.{All-map, All-contains, Contains-append_left, Contains-append_right}, Math.Seq.take-append_seam}
use Rattle.ix_gate.specs.Seat.{SeatState, StandsFor}

module _ {B E : Type 0} (k l : SeatState B E) (ended : List (ℕ × List E)) (number : l.number ≡ k.number) (more : l.ended ≡ k.ended ++ ended) where
  -- it stands for whom it stood before
  pub still_stands : (n : ℕ) → StandsFor k n → StandsFor l n
  still_stands n (inl own) = inl (own ∙ sym number)
  still_stands n (inr (es, has)) = inr (es, subst (λ (x : List (ℕ × List E)). Contains x (n, es)) (sym more) (Contains-append_left k.ended ended (n, es) has))

  -- and for each number that it ended now
  pub stands_too : (n : ℕ) (es : List E) → Contains ended (n, es) → StandsFor l n
  stands_too n es has = inr (es, subst (λ (x : List (ℕ × List E)). Contains x (n, es)) (sym more) (Contains-append_right k.ended ended (n, es) has))

module _ {B E : Type 0} where
  -- a seat that stands for all of some seats stands for their numbers
  pub stands_all : (r : SeatState B E) (xs ys : List (SeatState B E)) → All (λ (s : SeatState B E). StandsFor r s.number) ys
      → map (λ (s : SeatState B E). s.number) ys ≡ map (λ (s : SeatState B E). s.number) xs → (n : ℕ) → Contains (map (λ (s : SeatState B E). s.number) xs) n
      → StandsFor r n
  stands_all r xs ys all same n has =
      All-contains (StandsFor r) (map (λ (s : SeatState B E). s.number) xs) n
      (subst (All (StandsFor r)) same (All-map (StandsFor r) (λ (s : SeatState B E). s.number) ys all)) has

  -- lists of seats whose numbers are the same at each place have the same numbers
  pub same_numbers : (xs ys : List (SeatState B E)) → length ys ≡ length xs
      → ((i : ℕ) (d : SeatState B E) → i < length xs → (get_or ys i d).number ≡ (get_or xs i d).number)
      → map (λ (s : SeatState B E). s.number) ys ≡ map (λ (s : SeatState B E). s.number) xs
  same_numbers [] [] even each = refl
  same_numbers [] (y ∷ ys) even each = absurd (omega arith)
  same_numbers (x ∷ xs) [] even each = absurd (omega arith)
  same_numbers (x ∷ xs) (y ∷ ys) even each =
      let head : y.number ≡ x.number = each 0 x (omega arith) in
      let tail : map (λ (s : SeatState B E). s.number) ys ≡ map (λ (s : SeatState B E). s.number) xs = same_numbers xs ys (omega arith) (λ i d below. each (suc i) d (omega arith)) in
      cc

  -- a list over whose whole length another was written is that other
  pub written_over : (xs ys : List (SeatState B E)) (n : ℕ) → length ys ≡ length xs → n ≡ length xs → take n (ys ++ drop (length ys) xs) ≡ ys
  written_over xs ys n even is = ap (λ m. take m (ys ++ drop (length ys) xs)) (is ∙ sym even) ∙ take-append_seam ys (drop (length ys) xs)

  -- the number of a seat that is in a list is one of the list's numbers
  pub number_is_there : (xs : List (SeatState B E)) (k : ℕ) (x : SeatState B E) → slice_get xs k ≡ Some x → Contains (map (λ (s : SeatState B E). s.number) xs) x.number
  number_is_there [] k x at = absurd (cc at)
  number_is_there (y ∷ ys) zero x at = let is : y ≡ x = cc at in (0, omega arith, ap (λ (s : SeatState B E). s.number) is)
  number_is_there (y ∷ ys) (suc k) x at = let rest = number_is_there ys k x at in (suc rest.0, (let below = rest.1 in omega arith), rest.2)
