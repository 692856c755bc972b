-- A walk over a chain by place, and a search on the way.
use Rattle.std.proofs.Common.{◌≡◌, ℕ, suc, ◌+◌, ◌<◌, ◌≤◌, Bool, true, false, List, ◌∷◌, length, find, drop, Some, None, refl, sym, ap, ◌∙◌, arith, inl, inr, slice_get, add-one, drop-cons}
use Rattle.std.proofs.lemmas.{Bool.cases_lt, List.drop_all, Option.{slice_get_within, get_or_from_slice_get, slice_get-get_or, slice_get_past}}
use Rattle.ix_links.{specs.Chains.{Chains, pool, chain_of}, proofs.Listing.part-le-total}

-- a chain ends where nothing stands
ended : (xs : List ℕ) (k : ℕ) → slice_get xs k ≡ None → length xs ≤ k
ended xs k none = elim (cases_lt k _) [
  | inl low ↦ absurd (let some = slice_get-get_or xs k 0 low in cc)
  | inr past ↦ past
]

pub none_behind : (xs : List ℕ) (k n : ℕ) → slice_get xs k ≡ None → k ≤ n → slice_get xs n ≡ None
none_behind xs k n none above = slice_get_past xs n (omega (arith, ended xs k none))

pub find_past : (p : ℕ → Bool) (xs : List ℕ) (k : ℕ) → length xs ≤ k → find p (drop k xs) ≡ None
find_past p xs k past = ap (find p) (drop_all k xs past)

pub find_ended : (p : ℕ → Bool) (xs : List ℕ) (k : ℕ) → slice_get xs k ≡ None → find p (drop k xs) ≡ None
find_ended p xs k none = find_past p xs k (ended xs k none)

module _ (p : ℕ → Bool) (xs : List ℕ) (k x : ℕ) (is : slice_get xs k ≡ Some x) where
  dropped : drop k xs ≡ x ∷ drop (k + 1) xs
  dropped = drop-cons xs k x (slice_get_within xs k x is) ∙ ap (λ y. y ∷ drop (suc k) xs) (get_or_from_slice_get xs k x x is) ∙ rw add-one refl

  pub find_here : p x ≡ true → find p (drop k xs) ≡ Some x
  find_here hit = ap (find p) dropped ∙ rw hit refl

  pub find_more : p x ≡ false → find p (drop (k + 1) xs) ≡ find p (drop k xs)
  find_more miss = sym (ap (find p) dropped ∙ rw miss refl)

-- a chain is no longer than its pool
pub length-chain : (s : Chains) (k : ℕ) → k < length s.chains → length (chain_of k s) ≤ pool s
length-chain s k low = omega (arith, part-le-total length s.chains k low)
