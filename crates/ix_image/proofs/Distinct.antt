-- Names that differ: in whatever order they stand, and that is seen where they are sorted.
use Rattle.std.proofs.Common.{◌≡◌, ℕ, zero, suc, ◌+◌, ◌-◌, ◌<◌, ◌≤◌, Bool, true, false, not, cond, ◌&&◌, ◌||◌, List, [], ◌∷◌, length, get_or, map, count_by, ap}
use Rattle.std.proofs.{Common.{Ordering, refl, sym, ◌∙◌, arith, inl, inr}, lemmas.{Bool.cases_lt, List.{length-map, get_or-map, get_or_read, Sums.sum_by-cons, Sorted.sum_by-IsPermutation}}}
use Rattle.std.specs.{Cmp.{both_ways, Lexicographic.{slice_cmp, nat_list_cmp_total, texts_ties, bytes_decides}}, List.{list_any, Sorted.IsPermutation}}
use Rattle.std.specs.{Ordering.{nat_cmp, is_lt, is_eq, ordering_reverse}, declared.cmp.Ordering.TheVariants.{Less, Equal, Greater}}
use Rattle.ix_model.specs.{opening.Valid.all_differ, world.Naming.same_bytes}

-- how names are sorted
abbrev pub order : List ℕ → List ℕ → Ordering
order a b = slice_cmp nat_cmp a b

-- ---- counting
-- how often a name stands there
abbrev times : List ℕ → List (List ℕ) → ℕ
times x names = count_by (same_bytes x) names

times-cons : (x name : List ℕ) (names : List (List ℕ)) → times x (name ∷ names) ≡ cond {A = ℕ} (same_bytes x name) 1 0 + times x names
times-cons x name names = sum_by-cons (λ y. cond _ 1 0) name names

absent : (x : List ℕ) (names : List (List ℕ)) → list_any (same_bytes x) names ≡ false → times x names ≡ 0
absent x [] none = refl
absent x (name ∷ names) none = go _ refl none (absent x names)
  where
    go : (b : Bool) → same_bytes x name ≡ b → (b || list_any (same_bytes x) names) ≡ false → (list_any (same_bytes x) names ≡ false → times x names ≡ 0) → times x (name ∷ names) ≡ 0
    go true is none rest = absurd (cc none)
    go false is none rest = times-cons x _ names ∙ ap (λ b. cond b 1 0 + times x names) is ∙ (omega (arith, rest none))

not_absent : (x : List ℕ) (names : List (List ℕ)) → times x names ≡ 0 → list_any (same_bytes x) names ≡ false
not_absent x [] none = refl
not_absent x (name ∷ names) none = go _ refl (sym (times-cons x _ names) ∙ none) (not_absent x names)
  where
    go : (b : Bool) → same_bytes x name ≡ b → cond {A = ℕ} (same_bytes x name) 1 0 + times x names ≡ 0 → (times x names ≡ 0 → list_any (same_bytes x) names ≡ false)
        → (same_bytes x name || list_any (same_bytes x) names) ≡ false
    go true is none rest = absurd (omega (arith, ap (λ b. cond {A = ℕ} b 1 0) is))
    go false is none rest =
        ap (λ b. b || list_any (same_bytes x) names) is ∙ rest (omega arith)

-- names differ exactly where each stands at most once
pub record AtMostOnce (names : List (List ℕ)) : Type 0 where
  pub once : (x : List ℕ) → times x names ≤ 1

not_true : (b : Bool) → not b ≡ true → b ≡ false
not_true true h = absurd (cc h)
not_true false h = refl

differing_once : (names : List (List ℕ)) → all_differ names ≡ true → (x : List ℕ) → times x names ≤ 1
differing_once [] differ x = omega arith
differing_once (name ∷ names) differ x = both _ refl differ (differing_once names)
  where
    both : (b : Bool) → list_any (same_bytes name) names ≡ b → (not b && all_differ names) ≡ true → (all_differ names ≡ true → (x : List ℕ) → times x names ≤ 1) → times x (name ∷ names) ≤ 1
    both true is h rest = absurd (cc h)
    both false is h rest = here _ refl (rest h x)
      where
        here : (b : Bool) → same_bytes x name ≡ b → times x names ≤ 1 → times x (name ∷ names) ≤ 1
        here true same few =
            let none = ap (λ y. times y names) ((bytes_decides x _).0 same) ∙ absent _ names is in
            omega (arith, times-cons x name names, ap (λ b. cond {A = ℕ} b 1 0) same)
        here false other few =
            omega (arith, times-cons x name names, ap (λ b. cond {A = ℕ} b 1 0) other)

once_differing : (names : List (List ℕ)) → ((x : List ℕ) → times x names ≤ 1) → all_differ names ≡ true
once_differing [] once = refl
once_differing (name ∷ names) once =
    let one = ap (λ b. cond {A = ℕ} b 1 0) ((bytes_decides _ name).1 refl) in
    let none : times name names ≡ 0 = omega (arith, times-cons name name names) in
    let rest = once_differing names (λ x. omega (arith, times-cons x name names, once x)) in
    (λ i. not (not_absent name names none i) && rest i)

-- ---- in whatever order
pub order_differ : (xs ys : List (List ℕ)) → IsPermutation xs ys → all_differ xs ≡ all_differ ys
order_differ xs ys moved = both_ways _ _
    (λ h. once_differing ys (λ x. omega (arith, same x, differing_once xs h x)))
    (λ h. once_differing xs (λ x. omega (arith, same x, differing_once ys h x)))
  where
    same : (x : List ℕ) → times x ys ≡ times x xs
    same x = sum_by-IsPermutation (λ y. cond _ 1 0) xs ys moved

-- ---- sorted
-- each name comes before the next
abbrev pub Rising : List (List ℕ) → Type 0
Rising names = (k : ℕ) (d : List ℕ) → suc k < length names → order (get_or names k d) (get_or names (suc k) d) ≡ Less

abbrev BeforeAll : List ℕ → List (List ℕ) → Type 0
BeforeAll x [] = Unit
BeforeAll x (name ∷ names) = (order x name ≡ Less) × BeforeAll x names

before_further : (x y : List ℕ) (names : List (List ℕ)) → order x y ≡ Less → BeforeAll y names → BeforeAll x names
before_further x y [] less all = tt
before_further x y (name ∷ names) less all = (nat_list_cmp_total.trans x y name less all.0, before_further x y names less all.1)

apart : (x name : List ℕ) → order x name ≡ Less → same_bytes x name ≡ false
apart x name less = texts_ties x name ∙ ap is_eq less

before_none : (x : List ℕ) (names : List (List ℕ)) → BeforeAll x names → list_any (same_bytes x) names ≡ false
before_none x [] all = refl
before_none x (name ∷ names) all = (λ i. apart x _ all.0 i || before_none x names all.1 i)

rising_before : (x : List ℕ) (names : List (List ℕ)) → Rising (x ∷ names) → BeforeAll x names
rising_before x [] up = tt
rising_before x (name ∷ names) up =
    let less = up 0 x (omega arith) in
    (less, before_further x _ _ less (rising_before _ names (λ k d low. up (suc k) d (omega arith))))

pub rising_differ : (names : List (List ℕ)) → Rising names → all_differ names ≡ true
rising_differ [] up = refl
rising_differ (x ∷ names) up = (λ i. not (before_none x _ (rising_before x _ up) i) && rising_differ names (λ k d low. up (suc k) d (omega arith)) i)

-- neighbours that are not in the wrong order, and not the same
pub strictly : (x y : List ℕ) → is_lt (order y x) ≡ false → same_bytes x y ≡ false → order x y ≡ Less
strictly x y sorted other = go _ refl
  where
    go : (o : Ordering) → order x y ≡ o → o ≡ Less
    go Less is = refl
    go Equal is = absurd (let eq = texts_ties x y ∙ ap is_eq is in cc)
    go Greater is = absurd (let lt = ap is_lt (nat_list_cmp_total.antisymm y x ∙ ap ordering_reverse is) in cc)

-- neighbours that are the same
pub neighbours_same : (names : List (List ℕ)) (k : ℕ) (d : List ℕ) → suc k < length names → same_bytes (get_or names k d) (get_or names (suc k) d) ≡ true → all_differ names ≡ false
neighbours_same [] k d low same = absurd (omega arith)
neighbours_same (x ∷ []) k d low same = absurd (omega arith)
neighbours_same (x ∷ y ∷ names) zero d low same = (λ i. not (same i || list_any (same_bytes x) names) && all_differ (y ∷ names))
neighbours_same (x ∷ y ∷ names) (suc k) d low same = go _ (neighbours_same (y ∷ names) k d (omega arith) same)
  where
    go : (b : Bool) → all_differ (y ∷ names) ≡ false → (b && all_differ (y ∷ names)) ≡ false
    go true e = e
    go false e = refl

-- ---- neighbour after neighbour, where the code has names as slices
-- the names so far rise
abbrev pub RisingTo : ℕ → List (List ℕ) → Type 0
RisingTo i names = (k : ℕ) (d : List ℕ) → suc k < i → order (get_or names k d) (get_or names (suc k) d) ≡ Less

module _ {X : Type 0} (f : X → List ℕ) (items : List X) where
  -- two neighbours, as they are read
  record Pair (i : ℕ) (x y : X) : Type 0 where
    some : 0 < i
    low : i < length items
    first : x ≡ get_or items (i - 1) x
    second : y ≡ get_or items i y

  first_is : (i k : ℕ) (x y : X) (d : List ℕ) → Pair i x y → suc k ≡ i → get_or (map f items) k d ≡ f x
  first_is i k x y d p at =
      get_or-map f items k x d (omega arith) ∙ ap (λ n. f (get_or items n x)) (omega arith) ∙ ap f (sym p.first)

  second_is : (i k : ℕ) (x y : X) (d : List ℕ) → Pair i x y → suc k ≡ i → get_or (map f items) (suc k) d ≡ f y
  second_is i k x y d p at =
      get_or-map f items _ y d (omega arith) ∙ ap (λ n. f (get_or items n y)) at ∙ ap f (sym p.second)

  pub same_differ : (i : ℕ) (x y : X) → 0 < i → i < length items → x ≡ get_or items (i - 1) x → y ≡ get_or items i y → same_bytes (f x) (f y) ≡ true → all_differ (map f items) ≡ false
  same_differ i x y some low first second same =
      let p : Pair i x y = record { some = some; low = low; first = first; second = second } in
      let at : suc (i - 1) ≡ i = omega arith in
      neighbours_same _ (i - 1) [] (omega (arith, length-map items f)) ((λ j. same_bytes (first_is i (i - 1) x y [] p at j) (second_is i (i - 1) x y [] p at j)) ∙ same)

  pub rising_on : (i : ℕ) (x y : X) → 0 < i → i < length items → x ≡ get_or items (i - 1) x → y ≡ get_or items i y → same_bytes (f x) (f y) ≡ false
      → ((k : ℕ) (d : X) → 0 ≤ k → k + 1 < length items → is_lt (order (f (get_or items (k + 1) d)) (f (get_or items k d))) ≡ false) → RisingTo i (map f items) → RisingTo (i + 1) (map f items)
  rising_on i x y some low first second other sorted so_far k d less = elim (cases_lt _ i) [
    | inl before ↦ so_far k d before
    | inr from ↦
        let p : Pair i x y = record { some = some; low = low; first = first; second = second } in
        let at : suc k ≡ i = omega arith in
        let before : k ≡ i - 1 = omega arith in
        let second_there = ap (λ n. get_or items n x) (omega arith) ∙ sym (get_or_read items i y low second x) in
        let order_is = sym (λ j. is_lt (order (f (second_there j)) (f ((ap (λ n. get_or items n x) before ∙ sym first) j)))) ∙ sorted k x (omega arith) (omega arith) in
        (λ j. order (first_is i k x y d p at j) (second_is i k x y d p at j)) ∙ strictly (f x) (f y) order_is other
  ]

  pub all_rise : (i : ℕ) → length items ≤ i → RisingTo i (map f items) → all_differ (map f items) ≡ true
  all_rise i all so_far = rising_differ _ (λ k d low. so_far k d (omega (arith, length-map items f)))
