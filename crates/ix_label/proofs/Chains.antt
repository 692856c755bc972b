-- The longest runs of a label stand in ascending order, with a gap between each two.
use Rattle.std.proofs.Common.{◌≡◌, ℕ, zero, suc, ◌+◌, ◌≤◌, true, false, true≢false, List, [], ◌∷◌, refl, sym, ◌∙◌, arith, add-one, Option, None, Some, inl, inr}
use Rattle.std.{specs.List.{range_with_len, zip, filter}, proofs.{lemmas.Bool.{cases_Bool, cases_order, false_from_ne_true}, Math.Bool.and-false}}
use Rattle.ix_label.specs.{declared.form.Form.Form, Category.{Categories, has}, Forms.{greatest, IsWithin}, Reading.IsAbove, Spelling.{has_before, begins, ends, runs}}
use Rattle.ix_label.proofs.{Runs.are_below, Numbers.greatest-below}

-- a run that may follow a run which ends at the last number
pub record IsLink (form : Form) (last : Option ℕ) (a b : ℕ) : Type 0 where
  pub above : IsAbove last a
  pub order : a ≤ b
  pub small : b ≤ greatest form

abbrev pub Chain : Form → Option ℕ → List (ℕ × ℕ) → Type 0
Chain form last [] = Unit
Chain form last ((a, b) ∷ rs) = IsLink form last a b × Chain form (Some b) rs

module _ (s : Categories) (k : ℕ) where
  begins_new : has s k ≡ true → has_before s k ≡ false → begins s k ≡ true
  unfolding begins
  begins_new h new = rw (h, new) refl

  begins_none : has s k ≡ false → begins s k ≡ false
  unfolding begins
  begins_none h = rw h refl

  begins_old : has_before s k ≡ true → begins s k ≡ false
  unfolding begins
  begins_old old = rw old (and-false _)

  ends_last : has s k ≡ true → has s (k + 1) ≡ false → ends s k ≡ true
  unfolding ends
  ends_last h last = rw (h, last) refl

  ends_none : has s k ≡ false → ends s k ≡ false
  unfolding ends
  ends_none h = rw h refl

  ends_more : has s (k + 1) ≡ true → ends s k ≡ false
  unfolding ends
  ends_more more = rw more (and-false _)

  before_next : has_before s (k + 1) ≡ has s k
  unfolding has_before
  before_next = rw add-one refl

abbrev starts_from : Categories → ℕ → ℕ → List ℕ
starts_from s k n = filter (begins s) (range_with_len k n)

abbrev stops_from : Categories → ℕ → ℕ → List ℕ
stops_from s k n = filter (ends s) (range_with_len k n)

-- no category of the label from the place on is next to the last number
abbrev HasGap : Categories → Option ℕ → ℕ → Type 0
HasGap s last k = (a : ℕ) → k ≤ a → has s a ≡ true → IsAbove last a

-- the runs from a place on, where none goes on there, and where the run from a does
abbrev Closed : Form → Categories → ℕ → ℕ → Type 0
Closed form s n end = (last : Option ℕ) (k : ℕ) → k + n ≡ end → (has s k ≡ true → has_before s k ≡ false) → HasGap s last k → Chain form last (zip (starts_from s k n) (stops_from s k n))

abbrev Open : Form → Categories → ℕ → ℕ → Type 0
Open form s n end = (last : Option ℕ) (a k : ℕ) → k + n ≡ end → a ≤ k → has s k ≡ true → has_before s k ≡ true → IsAbove last a → Chain form last (zip (a ∷ starts_from s k n) (stops_from s k n))

gap_after : (s : Categories) (k : ℕ) → has s (k + 1) ≡ false → HasGap s (Some k) (k + 1)
gap_after s k none a le one = elim (cases_order _ a) [
  | inl e ↦ absurd (true≢false (sym one ∙ (λ i. has s (sym e i)) ∙ none))
  | inr (inl lt) ↦ lt
  | inr (inr gt) ↦ absurd (omega arith)
]

not_open : (s : Categories) (k : ℕ) → has s (k + 1) ≡ false → has s (k + 1) ≡ true → has_before s (k + 1) ≡ false
not_open s k none one = absurd (true≢false (sym one ∙ none))

module _ (form : Form) (s : Categories) (end : ℕ) (within : IsWithin form s) (none : has s end ≡ false) where
  closed_more : (n : ℕ) → Closed form s n end → Open form s n end → Closed form s (suc n) end
  closed_more n closed open_ last k e new gap = elim (cases_Bool (has s k)) [
    | inl one ↦ elim (cases_Bool (has s (k + 1))) [
      | inl more ↦
          rw (begins_new s k one (new one), ends_more s k more)
          (open_ last k (k + 1) (omega arith) (omega arith) more (before_next s k ∙ one) (gap k (omega arith) one))
      | inr last_one ↦
          rw (begins_new s k one (new one), ends_last s k one last_one)
          (record { above = gap k (omega arith) one; order = omega arith; small = within.below k one }, closed (Some k) (k + 1) (omega arith) (not_open s k last_one) (gap_after s k last_one))
    ]
    | inr none_here ↦
        rw (begins_none s k none_here, ends_none s k none_here)
        (closed last (k + 1) (omega arith) (λ _. before_next s k ∙ none_here) (λ a le one. gap a (omega arith) one))
  ]

  open_more : (n : ℕ) → Closed form s n end → Open form s n end → Open form s (suc n) end
  open_more n closed open_ last a k e le one before above = elim (cases_Bool (has s (k + 1))) [
    | inl more ↦
        rw (begins_old s k before, ends_more s k more)
        (open_ last a (k + 1) (omega arith) (omega arith) more (before_next s k ∙ one) above)
    | inr last_one ↦
        rw (begins_old s k before, ends_last s k one last_one)
        (record { above = above; order = le; small = within.below k one }, closed (Some k) (k + 1) (omega arith) (not_open s k last_one) (gap_after s k last_one))
  ]

  chains : (n : ℕ) → Closed form s n end × Open form s n end
  chains zero = (λ last k e new gap. tt, λ last a k e le one before above. let here : k ≡ end = omega arith in absurd (true≢false (sym one ∙ (λ i. has s (here i)) ∙ none)))
  chains (suc n) = (closed_more n (chains n).0 (chains n).1, open_more n (chains n).0 (chains n).1)

first_not_open : (s : Categories) → has s 0 ≡ true → has_before s 0 ≡ false
unfolding has_before
first_not_open s one = refl

chain_below : (form : Form) (s : Categories) (n : ℕ) (below : List ℕ) → IsWithin form s → below ≡ range_with_len 0 n → has s n ≡ false
    → Chain form None (zip (filter (begins s) below) (filter (ends s) below))
chain_below form s n below within e none = rw e ((chains form s n within none n).0 None 0 (omega arith) (first_not_open s) (λ a le one. tt))

pub runs-Chain : (form : Form) (s : Categories) → IsWithin form s → Chain form None (runs s)
unfolding runs
runs-Chain form s h = chain_below _ s _ _ h are_below (false_from_ne_true _ (λ one. let low = h.below 512 one in absurd (omega (arith, greatest-below form))))
