-- A text is a label's spelling exactly where it has no fault, and then of that label alone.
use Rattle.std.proofs.Common.{◌≡◌, ℕ, ◌<◌, ◌≤◌, ◌==◌, true, false, true≢false, ◌&&◌, ◌||◌, List, [], ◌∷◌, length, refl, sym, ◌∙◌, ap, arith, None, Some}
use Rattle.std.{proofs.Common.{Result, Ok, Err, inl, inr, codes, nat_le}, specs.{Bool.Decides, Fmt.digits as radix_digits, Result.{result_err, IfOk}, Cmp.Lexicographic.bytes_decides}}
use Rattle.std.proofs.lemmas.Bool.{cases_Bool, cases_lt, eqb-true, eqb-false, false_from_ne_true, le-leb, lt-leb}
use Rattle.ix_label.specs.declared.{fault.LabelFault.{LabelFault, TheVariants.{Empty, NotLongest}}, form.Form.{Form, TheVariants.{One, Two}}}
use Rattle.ix_label.specs.{Category.{Categories, IsLabel, has, bottom, same}, Forms.{greatest, all_of, whole_run, Fits, IsWithin}, Faults.{is_not_longest, at_dash, at_comma, at_digit}}
use Rattle.ix_label.specs.{Members.{has-bottom, has-all_below, has-all_below_past}, Lattice.{same-decides, IsLabel-bottom}}
use Rattle.ix_label.specs.{Spelling.{spelling, items, item, runs}, Reading.{back_from, fault_from, ItemsRead, BeginsItem}}
use Rattle.ix_label.specs.Faults.{is_text, fault_of, first_fault, fault_here, is_due, number_fault, is_bad, number_ahead, is_not_ascending}
use Rattle.ix_label.proofs.{Runs.{runs-AddsRun, runs-bottom}, Chains.{Chain, runs-Chain}, Places.begins_with_digit, Numbers.{decimal-digits, greatest-below}}
use Rattle.ix_label.proofs.{Fitting.{fits-within, within-fits, within-label, within-bottom, within-all_of}, Texts.{items_some, decimal_some}}
use Rattle.ix_label.proofs.{Unique.{items_injective, runs_injective, items_are, item_parts}, Faultless.chain_faultless}

-- ---- sets and texts that are compared

not_same : (a b : Categories) → (a ≡ b → ⊥) → same a b ≡ false
not_same a b h = false_from_ne_true _ (λ is. h ((same-decides a b).0 is))

differs : (a b : Categories) → same a b ≡ false → a ≡ b → ⊥
differs a b h e = true≢false (sym ((same-decides a b).1 e) ∙ h)

is_text-decides : (text wanted : List ℕ) → Decides (is_text text wanted) (text ≡ wanted)
is_text-decides text wanted = bytes_decides _ _

begins_text : (text : List ℕ) → BeginsItem text 0 None
unfolding back_from
begins_text text = record { within = omega arith; after = refl }

no_runs : (s : Categories) → IsLabel s → runs s ≡ [] → s ≡ bottom
no_runs s h e = runs_injective s _ h IsLabel-bottom (e ∙ sym runs-bottom)

-- each label is within form Two
within-two : (s : Categories) → IsLabel s → IsWithin Two s
within-two s h = fits-within _ s h tt

-- the three shapes of a label, of which one is spelled `*`
data Shape (all s : Categories) : Type 0 where
  is_bottom : s ≡ bottom → Shape all s
  is_all : s ≡ all → Shape all s
  is_else : (s ≡ bottom → ⊥) → (s ≡ all → ⊥) → Shape all s

shape_of : (all s : Categories) → Shape all s
shape_of all s = elim (cases_Bool _) [
  | inl none ↦ is_bottom ((same-decides s _).0 none)
  | inr some ↦ elim (cases_Bool _) [
    | inl is ↦ is_all ((same-decides s _).0 is)
    | inr lacks ↦ is_else (differs s _ some) (differs s _ lacks)
  ]
]

-- the result is the label that the text spells, or the text's first fault
abbrev IsLabelOrFault : Form → List ℕ → Result Categories LabelFault → Type 0
IsLabelOrFault form text (Ok s) = IsWithin form s × (text ≡ spelling form s)
IsLabelOrFault form text (Err f) = fault_of form text ≡ Some f

-- the clauses of `read`
pub record Reads (form : Form) (text : List ℕ) (r : Result Categories LabelFault) : Type 0 where
  pub fault : result_err r ≡ fault_of form text
  pub fits : IfOk r (λ s. Fits form s)
  pub ok : IfOk r (λ s. text ≡ spelling form s)
  pub spelled : (s : Categories) → IsLabel s → Fits form s → text ≡ spelling form s → r ≡ Ok s

-- ---- all numbers of a form

module _ (form : Form) where
  has-all : (q : ℕ) → q ≤ greatest form → has (all_of form) q ≡ true
  unfolding all_of
  has-all q h = has-all_below _ q (omega arith)

  has-all_past : (q : ℕ) → greatest form < q → has (all_of form) q ≡ false
  unfolding all_of
  has-all_past q h = has-all_below_past _ q (omega arith)

  has-all_run : (q : ℕ) → has (all_of form) q ≡ (has bottom q || (nat_le 0 q && nat_le q (greatest form)))
  has-all_run q = elim (cases_lt (greatest form) q) [
    | inl past ↦ has-all_past q past ∙ rw (has-bottom q, le-leb 0 q (omega arith), lt-leb q (greatest form) past) refl
    | inr low ↦ has-all q low ∙ rw (has-bottom q, le-leb 0 q (omega arith), le-leb q (greatest form) low) refl
  ]

  all_not_bottom : all_of form ≡ bottom → ⊥
  all_not_bottom e = true≢false (sym (has-all 0 (omega arith)) ∙ (λ i. has (e i) 0) ∙ has-bottom 0)

items_of_all : (form : Form) → items ((0, greatest form) ∷ []) ≡ whole_run form
unfolding items item radix_digits greatest whole_run
items_of_all One = refl
items_of_all Two = refl

fault_of-all : (form : Form) → fault_of form (whole_run form) ≡ Some (NotLongest 0)
unfolding greatest whole_run fault_of first_fault fault_here is_due number_fault is_bad number_ahead is_not_ascending is_not_longest at_dash at_comma
fault_of-all One = refl
fault_of-all Two = refl

module _ (form : Form) where
  -- ---- the three shapes of a spelling

  pub spelling-bottom : spelling form bottom ≡ codes "-"
  unfolding spelling
  spelling-bottom = rw ((same-decides bottom bottom).1 refl) refl

  pub spelling-all : spelling form (all_of form) ≡ codes "*"
  unfolding spelling
  spelling-all = rw (not_same (all_of form) bottom (all_not_bottom form), (same-decides (all_of form) (all_of form)).1 refl) refl

  pub spelling-items : (s : Categories) → (s ≡ bottom → ⊥) → (s ≡ all_of form → ⊥) → spelling form s ≡ items (runs s)
  unfolding spelling
  spelling-items s some lacks = rw (not_same, not_same) refl

  -- ---- all numbers as one run are no spelling

  runs-all : runs (all_of form) ≡ (0, greatest form) ∷ []
  runs-all = runs-AddsRun _ _ 0 _ (record {
    order = omega arith;
    small = greatest-below _;
    apart = λ q one. absurd (true≢false (sym one ∙ has-bottom q));
    members = has-all_run _;
  }) ∙ rw runs-bottom refl

  -- ---- bytes that are no items

  fault_of-none : fault_of form [] ≡ Some Empty
  unfolding fault_of
  fault_of-none = refl

  fault_of-dash : fault_of form (codes "-") ≡ None
  unfolding fault_of
  fault_of-dash = refl

  fault_of-star : fault_of form (codes "*") ≡ None
  unfolding fault_of
  fault_of-star = refl

  fault_of-items : (text : List ℕ) → 0 < length text → is_text text (codes "-") ≡ false → is_text text (codes "*") ≡ false → fault_of form text ≡ fault_from form text 0
  unfolding fault_of fault_from back_from
  fault_of-items [] some no_dash no_star = absurd (omega arith)
  fault_of-items (b ∷ text) some no_dash no_star = rw (no_dash, no_star) refl

  -- a text of items without a fault has none, whether it is one of the two bytes or not
  fault_of-clean : (text : List ℕ) → 0 < length text → fault_from form text 0 ≡ None → fault_of form text ≡ None
  fault_of-clean text some clean = elim (cases_Bool (is_text text (codes "-"))) [
    | inl dash ↦ rw ((is_text-decides text _).0 dash) fault_of-dash
    | inr no_dash ↦ elim (cases_Bool (is_text text (codes "*"))) [
      | inl star ↦ rw ((is_text-decides text _).0 star) fault_of-star
      | inr no_star ↦ fault_of-items text some no_dash no_star ∙ clean
    ]
  ]

  -- ---- a spelling has no fault

  not_all_text : (s : Categories) → IsWithin form s → (s ≡ all_of form → ⊥) → is_text (items (runs s)) (whole_run form) ≡ false
  not_all_text s h lacks = false_from_ne_true _ (λ is.
      let same_text : items (runs s) ≡ items (runs (all_of form)) = (is_text-decides _ _).0 is ∙ sym (ap items runs-all ∙ items_of_all form) in
      let same_runs : runs s ≡ runs (all_of form) = items_injective form None None _ _ (runs-Chain form s h) (runs-Chain form (all_of form) (within-all_of form)) same_text in
      lacks (runs_injective s (all_of form) (within-label form s h) (within-label form _ (within-all_of form)) same_runs))

  runs_faultless : (rs : List (ℕ × ℕ)) → (rs ≡ [] → ⊥) → Chain form None rs → is_text (items rs) (whole_run form) ≡ false → fault_of form (items rs) ≡ None
  runs_faultless [] some chain not_all = absurd (some refl)
  runs_faultless ((a, b) ∷ rs) some chain not_all =
      fault_of-clean _ (items_some _ rs) (chain_faultless _ rs a b _ 0 _ not_all (begins_text _) chain (items_are _ rs))

  pub spelling_faultless : (s : Categories) → IsWithin form s → fault_of form (spelling form s) ≡ None
  spelling_faultless s h = elim (cases_Bool (same s bottom)) [
    | inl none ↦ rw ((same-decides s bottom).0 none, spelling-bottom) fault_of-dash
    | inr some ↦ elim (cases_Bool (same s (all_of form))) [
      | inl all ↦ rw ((same-decides s (all_of form)).0 all, spelling-all) fault_of-star
      | inr lacks ↦
          rw (spelling-items s (differs s bottom some) (differs s (all_of form) lacks))
          (runs_faultless (runs s) (λ e. differs s bottom some (no_runs s (within-label form s h) e)) (runs-Chain form s h) (not_all_text s h (differs s (all_of form) lacks)))
    ]
  ]

  -- ---- a spelling has one label

  items_at_digit : (rs : List (ℕ × ℕ)) → (rs ≡ [] → ⊥) → Chain Two None rs → at_digit (items rs) ≡ true
  items_at_digit [] some chain = absurd (some refl)
  items_at_digit ((a, b) ∷ rs) some chain =
      let order = chain.0.order in
      let small = chain.0.small in
      rw (items_are, item_parts) (begins_with_digit _ _ (decimal_some a)
      (decimal-digits a (omega (arith, greatest-below Two)))).0

  -- each shape has a first byte of its own
  no_digit_bottom : at_digit (spelling form bottom) ≡ false
  unfolding at_digit
  no_digit_bottom = rw spelling-bottom refl

  no_digit_all : at_digit (spelling form (all_of form)) ≡ false
  unfolding at_digit
  no_digit_all = rw spelling-all refl

  digit_items : (s : Categories) → IsLabel s → (s ≡ bottom → ⊥) → (s ≡ all_of form → ⊥) → at_digit (spelling form s) ≡ true
  digit_items s h some lacks = rw spelling-items (items_at_digit _ (λ e. some (no_runs s h e)) (runs-Chain _ s (within-two s h)))

  bottom_not_all : spelling form bottom ≡ spelling form (all_of form) → ⊥
  bottom_not_all e = cc (sym spelling-bottom ∙ e ∙ spelling-all)

  same_shape : (s t : Categories) → Shape (all_of form) s → Shape (all_of form) t → IsLabel s → IsLabel t → spelling form s ≡ spelling form t → s ≡ t
  same_shape s t (is_bottom e) (is_bottom f) h k same = e ∙ sym f
  same_shape s t (is_bottom e) (is_all f) h k same = absurd (bottom_not_all (ap (spelling form) (sym e) ∙ same ∙ ap (spelling form) f))
  same_shape s t (is_bottom e) (is_else some lacks) h k same = absurd (true≢false (sym (digit_items t k some lacks) ∙ ap at_digit (sym same ∙ ap (spelling form) e) ∙ no_digit_bottom))
  same_shape s t (is_all e) (is_bottom f) h k same = absurd (bottom_not_all (ap (spelling form) (sym f) ∙ sym same ∙ ap (spelling form) e))
  same_shape s t (is_all e) (is_all f) h k same = e ∙ sym f
  same_shape s t (is_all e) (is_else some lacks) h k same = absurd (true≢false (sym (digit_items t k some lacks) ∙ ap at_digit (sym same ∙ ap (spelling form) e) ∙ no_digit_all))
  same_shape s t (is_else some lacks) (is_bottom f) h k same = absurd (true≢false (sym (digit_items s h some lacks) ∙ ap at_digit (same ∙ ap (spelling form) f) ∙ no_digit_bottom))
  same_shape s t (is_else some lacks) (is_all f) h k same = absurd (true≢false (sym (digit_items s h some lacks) ∙ ap at_digit (same ∙ ap (spelling form) f) ∙ no_digit_all))
  same_shape s t (is_else some lacks) (is_else some2 lacks2) h k same =
      let texts = sym (spelling-items s some lacks) ∙ same ∙ spelling-items t some2 lacks2 in
      runs_injective s t h k (items_injective _ _ _ _ _ (runs-Chain _ s (within-two s h)) (runs-Chain _ t (within-two t k)) texts)

  pub spelling_injective : (s t : Categories) → IsLabel s → IsLabel t → spelling form s ≡ spelling form t → s ≡ t
  spelling_injective s t h k same = same_shape s t (shape_of _ s) (shape_of _ t) h k same

  -- ---- what the reading of a text gives

  reads : (text : List ℕ) (r : Result Categories LabelFault) → IsLabelOrFault form text r → Reads form text r
  reads text (Ok l) h = record {
    fault = rw h.1 (sym (spelling_faultless l h.0));
    fits = within-fits form l h.0;
    ok = h.1;
    spelled = λ s label fits e. ap Ok (spelling_injective l s (within-label form l h.0) label (sym h.1 ∙ e));
  }
  reads text (Err f) h = record {
    fault = sym h;
    fits = tt;
    ok = tt;
    spelled = λ s label fits e. let clean : fault_of form text ≡ None = rw e (spelling_faultless s (fits-within form s label fits)) in cc;
  }

  pub Reads-none : (text : List ℕ) → (length text == 0) ≡ true → Reads form text (Err Empty)
  Reads-none [] is = reads [] _ fault_of-none
  Reads-none (b ∷ text) is = let none = eqb-true _ _ is in absurd (omega arith)

  pub Reads-bottom : (text : List ℕ) → is_text text (codes "-") ≡ true → Reads form text (Ok bottom)
  Reads-bottom text is = reads _ _ (within-bottom _, (is_text-decides _ _).0 is ∙ sym spelling-bottom)

  pub Reads-star : (text : List ℕ) → is_text text (codes "*") ≡ true → Reads form text (Ok (all_of form))
  Reads-star text is = reads _ _ (within-all_of _, (is_text-decides _ _).0 is ∙ sym spelling-all)

  pub Reads-all : (text : List ℕ) → is_text text (whole_run form) ≡ true → Reads form text (Err (NotLongest 0))
  Reads-all text is = reads _ _ (rw ((is_text-decides text _).0 is) (fault_of-all _))

  not_all_of : (text : List ℕ) (s : Categories) → is_text text (whole_run form) ≡ false → text ≡ items (runs s) → s ≡ all_of form → ⊥
  not_all_of text s not_all written e = true≢false (sym ((is_text-decides _ _).1 (written ∙ ap (λ l. items (runs l)) e ∙ ap items runs-all ∙ items_of_all _)) ∙ not_all)

  pub Reads-items : (text : List ℕ) (r : Result Categories LabelFault) → (length text == 0) ≡ false → is_text text (codes "-") ≡ false → is_text text (codes "*") ≡ false
      → is_text text (whole_run form) ≡ false → ItemsRead form text r → Reads form text r
  Reads-items text (Ok s) some no_dash no_star not_all h =
      reads _ _ (h.within, h.written ∙ sym (spelling-items s h.some (not_all_of _ s not_all h.written)))
  Reads-items text (Err f) some no_dash no_star not_all h =
      let bytes : 0 < length text = elim (cases_lt 0 _) [
        | inl low ↦ low
        | inr none ↦ absurd (eqb-false _ _ some (omega arith))
      ] in
      reads _ _ (fault_of-items _ bytes no_dash no_star ∙ h)
