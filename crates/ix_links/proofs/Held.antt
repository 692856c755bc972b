-- For callers: what the law of a pool says of an index at a place of a chain.
use Rattle.std.proofs.Common.{◌≡◌, ◌≢◌, ℕ, zero, suc, ◌+◌, ◌<◌, ◌≤◌, List, [], ◌∷◌, ◌++◌, length, get_or, Some, refl, sym, ap, subst, arith, inl, inr, slice_get, length-append}
use Rattle.std.{specs.List.Contains, proofs.lemmas.{Bool.{cases_eq, cases_lt, Decides.nat_tests}, List.{get_or_past, FromFn.length-range_with_len}}}
use Rattle.std.proofs.lemmas.Option.{same_Some, slice_get_within, get_or_from_slice_get}
use Rattle.ix_links.specs.{Chains.{Chains, lists, total, times, pool, chain_of, all_free, pushed_front, pushed_back, front_moved, back_moved, removed, without}, Whole.IsPool}
use Rattle.ix_links.proofs.{Running.{times_here, times_skip}, Making.total-empty, Listing.{part-le-total, total-set, split, times_contained}}

-- an index at a place of a list
pub contained : (xs : List ℕ) (n i : ℕ) → slice_get xs n ≡ Some i → Contains xs i
contained xs n i e = (n, slice_get_within xs n i e, get_or_from_slice_get xs n i i e)

pub times_at : (xs : List ℕ) (n i : ℕ) → slice_get xs n ≡ Some i → 0 < times i xs
times_at xs n i e = times_contained i xs n i (slice_get_within xs n i e) (get_or_from_slice_get xs n i i e)

times_twice : (xs : List ℕ) (n p i : ℕ) → n < p → slice_get xs n ≡ Some i → slice_get xs p ≡ Some i → 1 < times i xs
times_twice [] n p i l e f = cc
times_twice (x ∷ xs) n zero i l e f = absurd (omega arith)
times_twice (x ∷ xs) zero (suc p) i l e f =
    let same = same_Some x i e in
    subst (λ y. 1 < times i (y ∷ xs)) (sym same) (omega (arith, times_here i xs, times_at xs p i f))
times_twice (x ∷ xs) (suc n) (suc p) i l e f = omega (arith, times_skip i x xs, times_twice xs n p i (omega arith) e f)

-- a place in a chain is one in a chain that there is
pub chain_within : (s : Chains) (k n i : ℕ) → slice_get (chain_of k s) n ≡ Some i → k < length s.chains
chain_within s k n i e = elim (cases_lt k _) [
  | inl low ↦ low
  | inr past ↦ (let none = subst (λ xs. slice_get xs n ≡ Some i) (get_or_past s.chains k [] past) e in cc)
]

in_all : (s : Chains) (k n i : ℕ) → slice_get (chain_of k s) n ≡ Some i → times i (chain_of k s) + times i s.free ≤ total (times i) (lists s)
in_all s k n i e = omega (arith, part-le-total (times i) s.chains k (chain_within s k n i e))

-- an index in a chain is one of the pool
pub held_below : (s : Chains) (k n i : ℕ) → IsPool s → slice_get (chain_of k s) n ≡ Some i → i < pool s
held_below s k n i h e = let once = h.once i in let some = in_all s k n i e in let here = times_at _ n i e in grind (arith, nat_tests)

-- and isn't free
pub held-not_free : (s : Chains) (k n i : ℕ) → IsPool s → slice_get (chain_of k s) n ≡ Some i → times i s.free ≡ 0
held-not_free s k n i h e = let once = h.once i in let some = in_all s k n i e in let here = times_at _ n i e in grind (arith, nat_tests)

-- a free index is one of the pool
pub free_below : (s : Chains) (n i : ℕ) → IsPool s → slice_get s.free n ≡ Some i → i < pool s
free_below s n i h e = let once = h.once i in let here = times_at _ n i e in grind (arith, nat_tests)

two-parts : (f : List ℕ → ℕ) (xss : List (List ℕ)) (k m : ℕ) → k < length xss → m < length xss → k ≢ m → f (get_or xss k []) + f (get_or xss m []) ≤ total f xss
two-parts f [] k m l n ne = absurd (omega arith)
two-parts f (xs ∷ xss) zero zero l n ne = absurd (ne refl)
two-parts f (xs ∷ xss) zero (suc m) l n ne = omega (arith, part-le-total f xss m (omega arith))
two-parts f (xs ∷ xss) (suc k) zero l n ne = omega (arith, part-le-total f xss k (omega arith))
two-parts f (xs ∷ xss) (suc k) (suc m) l n ne = omega (arith, two-parts f xss k m (omega arith) (omega arith) (λ e. ne (ap suc e)))

pub at_most_once : (s : Chains) (i : ℕ) → IsPool s → total (times i) (lists s) ≤ 1
at_most_once s i h = let once = h.once i in grind (arith, nat_tests)

-- an index stands in one chain
pub held_in_one : (s : Chains) (k m n p i : ℕ) → IsPool s → slice_get (chain_of k s) n ≡ Some i → slice_get (chain_of m s) p ≡ Some i → k ≡ m
held_in_one s k m n p i h e f = elim (cases_eq k m) [
  | inl same ↦ same
  | inr other ↦ absurd (omega (
    arith,
    at_most_once s i h,
    two-parts (times i) s.chains k m (chain_within s k n i e) (chain_within s m p i f) other,
    times_at (chain_of k s) n i e,
    times_at (chain_of m s) p i f,
  ))
]

-- and there at one place
pub held_once : (s : Chains) (k n p i : ℕ) → IsPool s → slice_get (chain_of k s) n ≡ Some i → slice_get (chain_of k s) p ≡ Some i → n ≡ p
held_once s k n p i h e f =
    let few : times i (chain_of k s) ≤ 1 = omega (arith, at_most_once s i h, in_all s k n i e) in
    elim (cases_eq n p) [
      | inl same ↦ same
      | inr other ↦ elim (cases_lt n p) [
        | inl less ↦ absurd (omega (arith, few, times_twice (chain_of k s) n p i less e f))
        | inr more ↦ absurd (omega (arith, few, times_twice (chain_of k s) p n i (omega arith) f e))
      ]
    ]

-- a new pool has so many indices
pub pool-all_free : (items chains : ℕ) → pool (all_free items chains) ≡ items
pool-all_free items chains = omega (arith, total-empty length chains refl, length-range_with_len 0 items)

-- the number of indices stays
pool-front_moved : (k : ℕ) (free : List ℕ) (chains : List (List ℕ)) → k < length chains → pool (front_moved k free chains) ≡ length free + total length chains
pool-front_moved k [] chains l = refl
pool-front_moved k (i ∷ rest) chains l = omega (arith, total-set length chains k (i ∷ get_or chains k []) l)

pub pool-pushed_front : (k : ℕ) (s : Chains) → k < length s.chains → pool (pushed_front k s) ≡ pool s
pool-pushed_front k s l = pool-front_moved k _ _ l

pool-back_moved : (k : ℕ) (free : List ℕ) (chains : List (List ℕ)) → k < length chains → pool (back_moved k free chains) ≡ length free + total length chains
pool-back_moved k [] chains l = refl
pool-back_moved k (i ∷ rest) chains l = omega (arith, total-set length chains k (get_or chains k [] ++ i ∷ []) l, length-append (get_or chains k []) (i ∷ []))

pub pool-pushed_back : (k : ℕ) (s : Chains) → k < length s.chains → pool (pushed_back k s) ≡ pool s
pool-pushed_back k s l = pool-back_moved k _ _ l

pub length-without : (i : ℕ) (xs : List ℕ) → Contains xs i → length (without i xs) + 1 ≡ length xs
length-without i xs h = let p = split i xs (times_contained i xs _ i h.1 h.2) in omega (arith, ap length p.2, ap length p.3, length-append p.0 (i ∷ p.1), length-append p.0 p.1)

pub pool-removed : (k i : ℕ) (s : Chains) → k < length s.chains → Contains (chain_of k s) i → pool (removed k i s) ≡ pool s
pool-removed k i s l h = omega (arith, total-set length s.chains k (without i (chain_of k s)) l, length-without i (chain_of k s) h)
