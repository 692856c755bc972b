-- How often objects are named, counted up to two.
use Rattle.std.proofs.Common.{◌≡◌, ℕ, zero, suc, ◌+◌, ◌<◌, ◌≤◌, min, Bool, true, false, cond, ◌==◌, ltb, ◌&&◌, ◌||◌, List, [], ◌∷◌, length, get_or, set, take}
use Rattle.std.proofs.Common.{replicate, count_by, Some, refl, sym, ap, ◌∙◌, arith, inl, inr}
use Rattle.std.{specs.Prelude.{slice_get, slice_index}, proofs.lemmas.Bool.{cases_lt, cases_eq, lt-ltb, le-ltb, eq-eqb, ne_eqb}}
use Rattle.std.proofs.lemmas.List.{get_or-set_same, get_or-set_other, length-replicate, Sums.{sum_by-cons, sum_by_more}}
use Rattle.ix_image.specs.{Trees.{LinkOf, NodeOf, links_of, is_directory}, Image.NumbersRise, Meant.{IsAt, AreCounts, AreMarks}}
use Rattle.ix_image.{specs.Fitting.{has_object, times_named, is_reached, is_well_named}, proofs.Placing.{same_place, not_of_number}}

-- ---- one name more
-- how often names give a number
abbrev pub given : ℕ → List LinkOf → ℕ
given n links = count_by (λ k. k.1 == n) links

given_more : (n : ℕ) (l : LinkOf) (links : List LinkOf) → given n (l ∷ links) ≡ cond {A = ℕ} (l.1 == n) 1 0 + given n links
given_more n l links = sum_by-cons (λ k. cond _ 1 0) l links

given_here : (n : ℕ) (l : LinkOf) (links : List LinkOf) → l.1 ≡ n → given n (l ∷ links) ≡ 1 + given n links
given_here n l links is = given_more n l links ∙ ap (λ b. cond b 1 0 + given n links) (eq-eqb l.1 n is)

given_elsewhere : (n : ℕ) (l : LinkOf) (links : List LinkOf) → (l.1 ≡ n → ⊥) → given n (l ∷ links) ≡ 0 + given n links
given_elsewhere n l links other = given_more n l links ∙ ap (λ b. cond b 1 0 + given n links) (ne_eqb l.1 n other)

-- counts of the names so far, with those that are left
abbrev pub Counts : List NodeOf → List ℕ → List LinkOf → (ℕ → NodeOf → ℕ) → Type 0
Counts nodes counts links total = (i : ℕ) (x : NodeOf) → slice_get nodes i ≡ Some x → min (slice_index counts i + given x.number links) 2 ≡ total i x

module _ (nodes : List NodeOf) (rise : NumbersRise 0 nodes) (counts : List ℕ) (rest : List LinkOf) (l : LinkOf) (more : List LinkOf) (total : ℕ → NodeOf → ℕ) (split : rest ≡ l ∷ more)
    (so_far : Counts nodes counts rest total) where
  before : Counts nodes counts (l ∷ more) total
  before i x is = ap (λ ls. min (slice_index counts i + given x.number ls) 2) (sym split) ∙ so_far i x is

  apart : (p i : ℕ) (x : NodeOf) → IsAt nodes p l.1 → slice_get nodes i ≡ Some x → (i ≡ p → ⊥) → (l.1 ≡ x.number → ⊥)
  apart p i x at is other same = other (same_place _ i p x _ rise is at.is (sym (at.number ∙ same)))

  at_number : (p i : ℕ) (x : NodeOf) → IsAt nodes p l.1 → slice_get nodes i ≡ Some x → i ≡ p → l.1 ≡ x.number
  at_number p i x at is same =
      let node : x ≡ at.node = cc (is, at.is, same) in
      sym (ap (λ z. z.number) node ∙ at.number)

  -- its object was counted
  pub counted : (p : ℕ) → p < length counts → IsAt nodes p l.1 → Counts nodes (set counts p (get_or counts p 0 + 1)) more total
  counted p low at i x is = elim (cases_eq i p) [
    | inl same ↦
        let one = given_here _ l more (at_number p i x at is same) in
        let sum : slice_index (set counts p (get_or counts p 0 + 1)) i + given x.number more ≡ slice_index counts i + given x.number (l ∷ more) = omega (
          arith,
          ap (λ j. get_or (set counts p (get_or counts p 0 + 1)) j 0) same
              ∙ get_or-set_same counts p _ 0 low,
          ap (λ j. get_or counts j 0) same,
          one,
        ) in
        ap (λ n. min n 2) sum ∙ before i x is
    | inr other ↦
        let sum : slice_index (set counts p (get_or counts p 0 + 1)) i + given x.number more ≡ slice_index counts i + given x.number (l ∷ more) =
        omega (arith, get_or-set_other counts p i (get_or counts p 0 + 1) 0 other, given_elsewhere _ l more (apart p i x at is other)) in
        ap (λ n. min n 2) sum ∙ before i x is
  ]

  -- it had been counted twice
  pub counted_enough : (p : ℕ) → 2 ≤ get_or counts p 0 → IsAt nodes p l.1 → Counts nodes counts more total
  counted_enough p many at i x is = elim (cases_eq i p) [
    | inl same ↦
        (omega (arith, ap (λ j. get_or counts j 0) same, many)) ∙ before i x is
    | inr other ↦
        ap (λ n. min n 2) (omega (arith, given_elsewhere _ l more (apart p i x at is other))) ∙ before i x is
  ]

  -- it isn't there
  pub not_counted : has_object nodes l.1 ≡ false → Counts nodes counts more total
  not_counted absent i x is =
      ap (λ n. min n 2) (omega (arith, given_elsewhere _ l more (not_of_number _ _ i x absent is))) ∙ before i x is

-- ---- directory after directory
zeros : (n i : ℕ) → ◌≡◌ {A = ℕ} (get_or (replicate n 0) i 0) 0
zeros zero i = refl
zeros (suc n) zero = refl
zeros (suc n) (suc i) = zeros n i

pub none_counted : (nodes : List NodeOf) (counts : List ℕ) → counts ≡ replicate (length nodes) 0 → AreCounts nodes [] counts
none_counted nodes counts is = record {
  long = ap (λ c. length c) is ∙ length-replicate _ 0;
  each = λ i x at. ap (λ n. min n 2) (ap (λ c. get_or c i 0) is ∙ zeros _ i);
}

pub all_counted : (nodes : List NodeOf) (k : ℕ) (d : NodeOf) (counts after : List ℕ) → k < length nodes → d ≡ get_or nodes k d → length after ≡ length counts
    → ((i : ℕ) (x : NodeOf) → slice_get nodes i ≡ Some x → min (slice_index after i) 2 ≡ min (slice_index counts i + given x.number (links_of d)) 2)
    → AreCounts nodes (take k nodes) counts → AreCounts nodes (take (k + 1) nodes) after
all_counted nodes k d counts after low is long each so_far = record {
  long = long ∙ so_far.long;
  each = λ i x at.
      let before = so_far.each i x at in
      omega (arith, sum_by_more (λ y. given x.number (links_of y)) nodes k d low ∙ ap (λ y. times_named (take k nodes) x.number + given x.number (links_of y)) (sym is), each i x at, before);
}

-- ---- what the counts say
pub is_named_well : (nodes : List NodeOf) (counts : List ℕ) (marks : List Bool) (i : ℕ) (x : NodeOf) → AreCounts nodes nodes counts → AreMarks nodes marks → slice_get nodes i ≡ Some x
    → cond (is_directory x) (x.number == 0 || get_or counts i 0 == 1 && get_or marks i false) (ltb 0 (get_or counts i 0)) ≡ is_well_named nodes x
is_named_well nodes counts marks i x are_counts are_marks is = go _ refl
  where
    both : min (get_or counts i 0) 2 ≡ min (times_named nodes x.number) 2
    both = are_counts.each i x is

    once : (m n : ℕ) → min m 2 ≡ min n 2 → (m == 1) ≡ (n == 1)
    once m n same = elim (cases_eq m 1) [
      | inl one ↦ eq-eqb m 1 one ∙ sym (eq-eqb n 1 (omega arith))
      | inr other ↦ ne_eqb m 1 other ∙ sym (ne_eqb n 1 (λ one. other (omega arith)))
    ]

    some : (m n : ℕ) → min m 2 ≡ min n 2 → ltb 0 m ≡ ltb 0 n
    some m n same = elim (cases_lt 0 m) [
      | inl low ↦ lt-ltb 0 m low ∙ sym (lt-ltb 0 n (omega arith))
      | inr high ↦ le-ltb 0 m high ∙ sym (le-ltb 0 n (omega arith))
    ]

    go : (b : Bool) → is_directory x ≡ b → cond b (x.number == 0 || get_or counts i 0 == 1 && get_or marks i false) (ltb 0 (get_or counts i 0))
        ≡ cond b (x.number == 0 || times_named nodes x.number == 1 && is_reached nodes (length nodes) x.number) (ltb 0 (times_named nodes x.number))
    go true dir = (λ j. x.number == 0 || once _ _ both j && are_marks.each i x is dir j)
    go false dir = some _ _ both
