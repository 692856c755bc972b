-- No two labels have one spelling.
use Rattle.std.proofs.Common.{◌≡◌, ℕ, zero, suc, ◌+◌, ◌<◌, ◌≤◌, ◌==◌, nat_eq, Bool, true, false, true≢false, not, ◌&&◌, ◌||◌, List, [], ◌∷◌, ◌++◌, length, refl}
use Rattle.std.{proofs.Common.{sym, ◌∙◌, ap, arith, add-one, append_assoc, append-nil, cond, Option, inl, inr}, specs.{List.{range_with_len, zip, filter, list_any}, Fmt.decimal}}
use Rattle.std.proofs.{lemmas.{Fmt.decimal_injective, Bool.{cases_Bool, cases_lt, eqb-true, eq-eqb, ne_eqb, false_from_ne_true}}, Math.Bool.and-true}
use Rattle.ix_label.specs.{declared.form.Form.Form, Forms.greatest, Category.{Categories, IsLabel, has}, Members.same_members}
use Rattle.ix_label.specs.{Spelling.{has_before, begins, ends, runs, item, items, comma, dash}, Faults.{digits, after_digits, at_digit, at_dash}}
use Rattle.ix_label.proofs.{Runs.{are_below, as_many_begin_as_end}, Chains.Chain, Numbers.{decimal-digits, greatest-below}}
use Rattle.ix_label.proofs.{Places.{digits-append, after_digits-append}, Texts.{items_none, items_one, items_more, items_some}}

-- ---- texts of items

-- what follows an item: nothing, or a comma and more
unfoldable pub after_item : List (ℕ × ℕ) → List ℕ
after_item [] = []
after_item (r ∷ rs) = comma ∷ items (r ∷ rs)

pub items_are : (r : ℕ × ℕ) (rs : List (ℕ × ℕ)) → items (r ∷ rs) ≡ item r ++ after_item rs
unfolding after_item
items_are r [] = items_one r ∙ sym (append-nil _)
items_are r (t ∷ rs) = items_more r t rs

-- numbers are read back
same_number : (a c : ℕ) (q u : List ℕ) → a < 512 → c < 512 → at_digit q ≡ false → at_digit u ≡ false → decimal a ++ q ≡ decimal c ++ u → (a ≡ c) × (q ≡ u)
same_number a c q u small small2 ended ended2 e = (
  decimal_injective a c (omega arith) (omega arith) (sym (digits-append _ q (decimal-digits a small) ended) ∙ ap (λ x. digits x) e
      ∙ digits-append _ u (decimal-digits c small2) ended2),
  sym (after_digits-append (decimal a) q (decimal-digits a small) ended) ∙ ap (λ x. after_digits x) e ∙ after_digits-append (decimal c) u (decimal-digits c small2) ended2,
)

-- the item without its first number, and what follows
pub after_first : ℕ → ℕ → List ℕ → List ℕ
after_first a b q = cond (a == b) q (dash ∷ (decimal b ++ q))

pub item_parts : (a b : ℕ) (q : List ℕ) → item (a, b) ++ q ≡ decimal a ++ after_first a b q
unfolding item after_first
item_parts a b q = elim (cases_Bool (a == b)) [
  | inl one ↦ rw one refl
  | inr more ↦ rw (more, append_assoc) refl
]

after_first_ends : (a b : ℕ) (q : List ℕ) → at_digit q ≡ false → at_digit (after_first a b q) ≡ false
unfolding after_first at_digit
after_first_ends a b q h = elim (cases_Bool (a == b)) [
  | inl one ↦ rw one h
  | inr more ↦ rw more refl
]

starts_with_dash : (q u : List ℕ) → q ≡ dash ∷ u → at_dash q ≡ true
unfolding at_dash
starts_with_dash q u e = rw e refl

-- nothing that may follow an item goes on with it
pub record Stops (q : List ℕ) : Type 0 where
  pub digit : at_digit q ≡ false
  pub dash : at_dash q ≡ false

pub after_item_Stops : (rs : List (ℕ × ℕ)) → Stops (after_item rs)
unfolding after_item at_digit at_dash
after_item_Stops [] = search
after_item_Stops (r ∷ rs) = search

same_last : (a b d : ℕ) (q u : List ℕ) → b < 512 → d < 512 → Stops q → Stops u → after_first a b q ≡ after_first a d u → (b ≡ d) × (q ≡ u)
unfolding after_first
same_last a b d q u small small2 stops stops2 e = elim (cases_Bool (a == b)) [
  | inl one ↦ elim (cases_Bool (a == d)) [
    | inl one2 ↦ (sym (eqb-true a b one) ∙ eqb-true a d one2, rw (one, one2) at e)
    | inr more2 ↦ absurd (true≢false (sym (starts_with_dash q _ (rw (one, more2) at e)) ∙ stops.dash))
  ]
  | inr more ↦ elim (cases_Bool (a == d)) [
    | inl one2 ↦ absurd (true≢false (sym (starts_with_dash u _ (sym (rw (more, one2) at e))) ∙ stops2.dash))
    | inr more2 ↦
        let rest : dash ∷ (decimal b ++ q) ≡ dash ∷ (decimal d ++ u) = rw (more, more2) at e in
        same_number b d q u small small2 stops.digit stops2.digit cc
  ]
]

same_item : (a b c d : ℕ) (q u : List ℕ) → a ≤ b → b < 512 → c ≤ d → d < 512 → Stops q → Stops u → item (a, b) ++ q ≡ item (c, d) ++ u → (a ≡ c) × (b ≡ d) × (q ≡ u)
same_item a b c d q u order small order2 small2 stops stops2 e =
    let both = same_number a c _ _ (omega arith) (omega arith) (after_first_ends a b q stops.digit) (after_first_ends c d u stops2.digit)
    (sym (item_parts a b q) ∙ e ∙ item_parts c d u) in
    let rest = both.1 ∙ (λ i. after_first (sym both.0 i) d u) in
    let last = same_last a b d q u small small2 stops stops2 rest in
    (both.0, last.0, last.1)

after_item_items : (rs ts : List (ℕ × ℕ)) → after_item rs ≡ after_item ts → items rs ≡ items ts
unfolding after_item
after_item_items [] [] e = refl
after_item_items [] (t ∷ ts) e = cc
after_item_items (r ∷ rs) [] e = cc
after_item_items (r ∷ rs) (t ∷ ts) e = cc

nothing_is_some : (r : ℕ × ℕ) (rs : List (ℕ × ℕ)) → items (r ∷ rs) ≡ items [] → ⊥
nothing_is_some r rs e = let none = ap length (e ∙ items_none) in omega (arith, items_some r rs)

number_of : (form : Form) (b : ℕ) → b ≤ greatest form → b < 512
number_of form b h = omega (arith, greatest-below form)

-- two chains of runs with one text are equal
pub items_injective : (form : Form) (last last2 : Option ℕ) (rs ts : List (ℕ × ℕ)) → Chain form last rs → Chain form last2 ts → items rs ≡ items ts → rs ≡ ts
items_injective form last last2 [] [] h k e = refl
items_injective form last last2 [] (t ∷ ts) h k e = absurd (nothing_is_some t ts (sym e))
items_injective form last last2 (r ∷ rs) [] h k e = absurd (nothing_is_some r rs e)
items_injective form last last2 ((a, b) ∷ rs) ((c, d) ∷ ts) h k e =
    let parts = same_item a b c d _ _ h.0.order (number_of _ b h.0.small) k.0.order (number_of _ d k.0.small) (after_item_Stops rs)
    (after_item_Stops ts) (sym (items_are _ rs) ∙ e ∙ items_are _ ts) in
    let rest = items_injective _ _ _ rs ts h.1 k.1 (after_item_items rs ts parts.2) in
    λ i. (parts.0 i, parts.1 i) ∷ rest i

-- ---- runs

zip_same : (xs ys us vs : List ℕ) → length xs ≡ length ys → length us ≡ length vs → zip xs ys ≡ zip us vs → (xs ≡ us) × (ys ≡ vs)
zip_same [] [] [] [] h k e = (refl, refl)
zip_same [] (y ∷ ys) us vs h k e = absurd (omega arith)
zip_same (x ∷ xs) [] us vs h k e = absurd (omega arith)
zip_same xs ys [] (v ∷ vs) h k e = absurd (omega arith)
zip_same xs ys (u ∷ us) [] h k e = absurd (omega arith)
zip_same [] [] (u ∷ us) (v ∷ vs) h k e = cc
zip_same (x ∷ xs) (y ∷ ys) [] [] h k e = cc
zip_same (x ∷ xs) (y ∷ ys) (u ∷ us) (v ∷ vs) h k e =
    let head : ◌≡◌ {A = ℕ × ℕ} (x, y) (u, v) = cc in
    let rest : zip xs ys ≡ zip us vs = cc in
    let tails = zip_same xs ys us vs (omega arith) (omega arith) rest in
    (λ i. (head i).0 ∷ tails.0 i, λ i. (head i).1 ∷ tails.1 i)

-- a filtered range has the numbers that pass
finds : ℕ → List ℕ → Bool
finds q xs = list_any (λ y. nat_eq y q) xs

finds_below : (p : ℕ → Bool) (q k n : ℕ) → q < k → finds q (filter p (range_with_len k n)) ≡ false
unfolding finds
finds_below p q k zero low = refl
finds_below p q k (suc n) low = elim (cases_Bool (p k)) [
  | inl kept ↦ rw (kept, ne_eqb k q (λ e. omega arith)) (finds_below p q (k + 1) n (omega arith))
  | inr left ↦ rw left (finds_below p q (k + 1) n (omega arith))
]

finds_kept : (p : ℕ → Bool) (q k n : ℕ) → k ≤ q → q < k + n → finds q (filter p (range_with_len k n)) ≡ p q
unfolding finds
finds_kept p q k zero low high = absurd (omega arith)
finds_kept p q k (suc n) low high = elim (cases_lt k q) [
  | inl later ↦ elim (cases_Bool (p k)) [
    | inl kept ↦ rw (kept, ne_eqb k q (λ e. omega arith)) (finds_kept p q (k + 1) n (omega arith) (omega arith))
    | inr left ↦ rw left (finds_kept p q (k + 1) n (omega arith) (omega arith))
  ]
  | inr first ↦
      let e : k ≡ q = omega arith in
      elim (cases_Bool (p q)) [
        | inl kept ↦ rw (e, kept, eq-eqb q q refl) refl
        | inr left ↦ rw (e, left) (finds_below p q (q + 1) n (omega arith))
      ]
]

filter_same : (p r : ℕ → Bool) (n : ℕ) (below : List ℕ) → below ≡ range_with_len 0 n → filter p below ≡ filter r below → (q : ℕ) → q < n → p q ≡ r q
filter_same p r n below is e q low =
    let kept : filter p (range_with_len 0 n) ≡ filter r (range_with_len 0 n) = rw is at e in
    sym (finds_kept p q 0 n (omega arith) (omega arith)) ∙ ap (finds q) kept ∙ finds_kept r q 0 n (omega arith) (omega arith)

-- a label has a category where a run begins, or goes on from the category before
goes_on : (here before : Bool) → here ≡ ((here && not before) || (before && not (before && not here)))
goes_on true true = refl
goes_on true false = refl
goes_on false true = refl
goes_on false false = refl

has-first : (s : Categories) → has s 0 ≡ begins s 0
unfolding begins has_before
has-first s = sym (and-true _)

has-next : (s : Categories) (q : ℕ) → has s (q + 1) ≡ (begins s (q + 1) || (has s q && not (ends s q)))
unfolding begins ends has_before
has-next s q = rw add-one (goes_on _ _)

module _ (s t : Categories) (same_begins : (q : ℕ) → q < 512 → begins s q ≡ begins t q) (same_ends : (q : ℕ) → q < 512 → ends s q ≡ ends t q) where
  same_has : (q : ℕ) → q < 512 → has s q ≡ has t q
  same_has zero low = has-first s ∙ same_begins 0 low ∙ sym (has-first t)
  same_has (suc q) low =
      let before : has s q ≡ has t q = same_has q (omega arith) in
      let next : has s (q + 1) ≡ has t (q + 1) =
      has-next s q ∙ (λ i. same_begins (q + 1) (omega arith) i || (before i && not (same_ends q (omega arith) i))) ∙ sym (has-next t q) in
      rw add-one at next

none_past : (s : Categories) → IsLabel s → (q : ℕ) → 512 ≤ q → has s q ≡ false
none_past s h q past = false_from_ne_true _ (λ one. let low = h.below q one in absurd (omega arith))

pub runs_injective : (s t : Categories) → IsLabel s → IsLabel t → runs s ≡ runs t → s ≡ t
unfolding runs
runs_injective s t h k e =
    let both =
    zip_same _ _ _ _ (as_many_begin_as_end s (none_past s h _ (omega arith))) (as_many_begin_as_end t (none_past t k _ (omega arith))) e in
    same_members s t (λ q. elim (cases_lt q 512) [
      | inl low ↦ same_has s t (filter_same _ _ _ _ are_below both.0) (filter_same _ _ _ _ are_below both.1) q low
      | inr past ↦ none_past s h q past ∙ sym (none_past t k q past)
    ])
