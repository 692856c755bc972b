-- The counts of the entries on each end of each object stay true.
use Rattle.std.proofs.Common.{◌≡◌, ◌<◌, ◌+◌, ◌-◌, ◌*◌, ◌^◌, ◌==◌, ℕ, zero, suc, Bool, true, false, ◌&&◌, ◌||◌, List, [], ◌∷◌, length, map, replicate, count_by}
use Rattle.std.proofs.Common.{cond, Option, Some, None, refl, sym, ap, ◌∙◌, arith, inl, inr, get_or, set, nat_lt}
use Rattle.std.specs.List.{list_any}
use Rattle.std.proofs.{lemmas.Bool.Decides.{eqb_tells, nat_tests}, lemmas.Bool.cases_lt, lemmas.List.Sums.{sum_by-set, sum_by-cons, count_by-le-length}}
use Rattle.std.proofs.lemmas.List.{length-set, length-replicate, get_or-set_same, get_or-set_other, get_or_past}
use Rattle.ix_model.specs.world.World.{at, is_on, held}
use Rattle.ix_numbers.proofs.Heap.{one, here}
use Rattle.ix_open.{specs.{Entries.open_in, Tally.{place, is_at, AreCounted}, declared.view.OpenView.OpenView}, proofs.Indexed.low_at}

count_set : (k : ℕ) (es : List (Option OpenView)) (n : ℕ) (x : Option OpenView) → n < length es → count_by (is_at k) (set es n x) + one (is_at k (at es n)) ≡ count_by (is_at k) es + one (is_at k x)
count_set k es n x low = sum_by-set (λ (o : Option OpenView). cond {A = ℕ} (is_at k o) 1 0) es n x None low

skipped : (k : ℕ) (es : List (Option OpenView)) → count_by (is_at k) (None ∷ es) ≡ count_by (is_at k) es
skipped k es = omega (arith, sum_by-cons (λ (x : Option OpenView). cond {A = ℕ} (is_at k x) 1 0) None es)

-- a count that is not 0 is one of the list's
low_count : (counts : List ℕ) (k : ℕ) → 0 < get_or counts k 0 → k < length counts
low_count counts k some = elim (cases_lt k (length counts)) [ inl low ↦ low | inr past ↦ absurd (omega (arith, get_or_past counts k 0 past)) ]

-- an element of a list after an edit
edited : (P : OpenView → Type 0) (es : List (Option OpenView)) (n : ℕ) (x : Option OpenView) → n < length es → ((v : OpenView) → x ≡ Some v → P v)
    → ((m : ℕ) (v : OpenView) → at es m ≡ Some v → P v) → (m : ℕ) (v : OpenView) → at (set es n x) m ≡ Some v → P v
edited P es n x low new old m v is = elim (eqb_tells m n) [
  | inl e ↦ new v (sym (get_or-set_same es n x None low) ∙ ap (at (set es n x)) (sym e.1) ∙ is)
  | inr e ↦ old m v (sym (get_or-set_other es n m x None e.1) ∙ is)
]

module _ (es : List (Option OpenView)) (counts : List ℕ) (objects : ℕ) (sure : AreCounted es counts objects) where
  -- an entry takes the place of one on the same end of the same object
  pub counted_same : (n : ℕ) (w v : OpenView) → at es n ≡ Some w → place w.obj.0 w.end ≡ place v.obj.0 v.end → 0 < v.owners → v.end < 2 → AreCounted (set es n (Some v)) counts objects
  counted_same n w v is same owned end =
      let low = low_at es n w is in
      record {
        counted = λ k. sure.counted k ∙ omega (arith, count_set k es n (Some v) low, ap (λ o. one (is_at k o)) is, ap (λ p. one (p == k)) same);
        places = sure.places;
        owned = edited (λ u. 0 < u.owners) es n (Some v) low (λ u e. let equal : v ≡ u = cc in rw (← equal) owned) sure.owned;
        ends = edited (λ u. u.end < 2) es n (Some v) low (λ u e. let equal : v ≡ u = cc in rw (← equal) end) sure.ends;
        few = omega (arith, sure.few, length-set es n (Some v));
      }

  -- a new entry
  pub count_fits : (n : ℕ) (v : OpenView) → n < length es → at es n ≡ None → get_or counts (place v.obj.0 v.end) 0 + 1 < 2 ^ 32
  count_fits n v low free = let k = place v.obj.0 v.end in
      omega (
        arith,
        sure.counted k,
        count_set k es n (Some v) low,
        ap (λ o. one (is_at k o)) free,
        here k,
        count_by-le-length (is_at k) (set es n (Some v)),
        length-set es n (Some v),
        sure.few,
      )

  pub counted_more : (n : ℕ) (v : OpenView) → n < length es → at es n ≡ None → 0 < v.owners → v.end < 2 → v.obj.0 < objects
      → AreCounted (set es n (Some v)) (set counts (place v.obj.0 v.end) (get_or counts (place v.obj.0 v.end) 0 + 1)) objects
  counted_more n v low free owned end within =
      let p = place v.obj.0 v.end in
      let wide : p < length counts = omega (arith, end, within, sure.places) in
      record {
        counted = λ k. elim (eqb_tells k p) [
          | inl e ↦ ap (λ i. get_or (set counts p (get_or counts p 0 + 1)) i 0) e.1 ∙ get_or-set_same counts p (get_or counts p 0 + 1) 0 wide
              ∙ omega (
                arith,
                sure.counted p,
                count_set p es n (Some v) low,
                ap (λ o. one (is_at p o)) free,
                here p,
                ap (λ i. count_by (is_at i) (set es n (Some v))) e.1,
              )
          | inr e ↦ get_or-set_other counts p k (get_or counts p 0 + 1) 0 e.1 ∙ omega (arith, sure.counted k, count_set k es n (Some v) low, ap (λ o. one (is_at k o)) free, other k e.1)
        ];
        places = length-set counts p (get_or counts p 0 + 1) ∙ sure.places;
        owned = edited (λ u. 0 < u.owners) es n (Some v) low (λ u e. let equal : v ≡ u = cc in rw (← equal) owned) sure.owned;
        ends = edited (λ u. u.end < 2) es n (Some v) low (λ u e. let equal : v ≡ u = cc in rw (← equal) end) sure.ends;
        few = omega (arith, sure.few, length-set es n (Some v));
      }
    where
      other : (k : ℕ) → (k ≡ place v.obj.0 v.end → ⊥) → one (place v.obj.0 v.end == k) ≡ 0
      other k differs = elim (eqb_tells (place v.obj.0 v.end) k) [ inl e ↦ absurd (differs (sym e.1)) | inr e ↦ ap one e.0 ]

  -- an entry goes
  pub count_there : (n : ℕ) (v : OpenView) → at es n ≡ Some v → (place v.obj.0 v.end < length counts) × (0 < get_or counts (place v.obj.0 v.end) 0)
  count_there n v is =
      let k = place v.obj.0 v.end in
      let some : 0 < get_or counts k 0 = omega (arith, sure.counted k, count_set k es n None (low_at es n v is), ap (λ o. one (is_at k o)) is, here k) in
      (low_count counts k some, some)

  pub counted_fewer : (n : ℕ) (v : OpenView) → at es n ≡ Some v → AreCounted (set es n None) (set counts (place v.obj.0 v.end) (get_or counts (place v.obj.0 v.end) 0 - 1)) objects
  counted_fewer n v is =
      let p = place v.obj.0 v.end in
      let low = low_at es n v is in
      let there = count_there n v is in
      record {
        counted = λ k. elim (eqb_tells k p) [
          | inl e ↦ ap (λ i. get_or (set counts p (get_or counts p 0 - 1)) i 0) e.1 ∙ get_or-set_same counts p (get_or counts p 0 - 1) 0 there.0
              ∙ omega (arith, sure.counted p, count_set p es n None low, ap (λ o. one (is_at p o)) is, here p, ap (λ i. count_by (is_at i) (set es n None)) e.1)
          | inr e ↦ get_or-set_other counts p k (get_or counts p 0 - 1) 0 e.1 ∙ omega (arith, sure.counted k, count_set k es n None low, ap (λ o. one (is_at k o)) is, other k e.1)
        ];
        places = length-set counts p (get_or counts p 0 - 1) ∙ sure.places;
        owned = edited (λ u. 0 < u.owners) es n None low (λ u e. absurd (cc e)) sure.owned;
        ends = edited (λ u. u.end < 2) es n None low (λ u e. absurd (cc e)) sure.ends;
        few = omega (arith, sure.few, length-set es n None);
      }
    where
      other : (k : ℕ) → (k ≡ place v.obj.0 v.end → ⊥) → one (place v.obj.0 v.end == k) ≡ 0
      other k differs = elim (eqb_tells (place v.obj.0 v.end) k) [ inl e ↦ absurd (differs (sym e.1)) | inr e ↦ ap one e.0 ]

  -- an end is held where its count is not 0, and never an end past 1
  same_place : (v : OpenView) (o end : ℕ) → v.end < 2 → end < 2 → (place v.obj.0 v.end == place o end) ≡ (v.obj.0 == o && v.end == end)
  same_place v o end low within = grind (arith, nat_tests)

  pub held_is : (o end : ℕ) → end < 2 → nat_lt 0 (get_or counts (place o end) 0) ≡ held (map open_in es) o end
  held_is o end within = ap (nat_lt 0) (sure.counted (place o end)) ∙ go es sure.ends
    where
      go : (t : List (Option OpenView)) → ((n : ℕ) (v : OpenView) → at t n ≡ Some v → v.end < 2) → nat_lt 0 (count_by (is_at (place o end)) t) ≡ list_any (is_on o end) (map open_in t)
      go [] low = refl
      go (None ∷ t) low = ap (nat_lt 0) (skipped (place o end) t) ∙ go t (λ n v is. low (suc n) v is)
      go (Some v ∷ t) low = ap (nat_lt 0) (sum_by-cons (λ (x : Option OpenView). cond {A = ℕ} (is_at (place o end) x) 1 0) (Some v) t)
          ∙ both (place v.obj.0 v.end == place o end) _ ∙ (λ i. same_place v o end (low 0 v refl) within i || go t (λ n v is. low (suc n) v is) i)
        where
          both : (b : Bool) (n : ℕ) → nat_lt 0 (cond {A = ℕ} b 1 0 + n) ≡ (b || nat_lt 0 n)
          both true n = grind (arith, nat_tests)
          both false n = grind (arith, nat_tests)

  pub not_held : (o end : ℕ) → nat_lt end 2 ≡ false → held (map open_in es) o end ≡ false
  not_held o end past = go es sure.ends
    where
      go : (t : List (Option OpenView)) → ((n : ℕ) (v : OpenView) → at t n ≡ Some v → v.end < 2) → list_any (is_on o end) (map open_in t) ≡ false
      go [] low = refl
      go (None ∷ t) low = go t (λ n v is. low (suc n) v is)
      go (Some v ∷ t) low = (λ i. differs v (low 0 v refl) i || go t (λ n v is. low (suc n) v is) i)
        where
          differs : (v : OpenView) → v.end < 2 → (v.obj.0 == o && v.end == end) ≡ false
          differs v within = grind (arith, nat_tests, past)

-- before there is any entry
pub counted_none : (n objects : ℕ) → n < 2 ^ 32 → AreCounted (replicate n None) (replicate (2 * objects) 0) objects
counted_none n objects few = record {
  counted = λ k. zeros (2 * objects) k ∙ sym (none n k);
  places = length-replicate (2 * objects) 0;
  owned = λ m v is. absurd (empty n m v is);
  ends = λ m v is. absurd (empty n m v is);
  few = omega (arith, few, length-replicate {A = Option OpenView} n None);
}
  where
    zeros : (n k : ℕ) → get_or (replicate {A = ℕ} n 0) k 0 ≡ 0
    zeros zero k = refl
    zeros (suc n) zero = refl
    zeros (suc n) (suc k) = zeros n k

    none : (n k : ℕ) → count_by (is_at k) (replicate n None) ≡ 0
    none zero k = refl
    none (suc n) k = skipped k (replicate n None) ∙ none n k

    empty : (n m : ℕ) (v : OpenView) → at (replicate n None) m ≡ Some v → ⊥
    empty zero m v is = cc is
    empty (suc n) zero v is = cc is
    empty (suc n) (suc m) v is = empty n m v is
