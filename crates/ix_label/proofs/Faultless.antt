-- The spelling of a label has no fault.
use Rattle.std.proofs.Common.{◌≡◌, ℕ, ◌+◌, ◌<◌, ◌≤◌, false, true≢false, List, [], ◌∷◌, ◌++◌, length, drop, refl, sym, ◌∙◌, ap, subst, arith, append_assoc, None}
use Rattle.std.proofs.Common.{length-append, length-drop, Option, Some, inl, inr}
use Rattle.std.{specs.{List.slice_get, Fmt.decimal}, proofs.lemmas.{Bool.cases_lt, List.{drop-drop, drop_at}, Option.slice_get_within}}
use Rattle.ix_label.{specs.{declared.form.Form.Form, Forms.{greatest, whole_run}, Spelling.{item, items, comma, dash}}, proofs.Unique.{after_item, items_are, Stops, after_item_Stops}}
use Rattle.ix_label.specs.{Faults.{at_digit, at_dash, at_comma, last_number, is_text}, Reading.{fault_from, IsNumberAt, BeginsItem, IsItemAt}}
use Rattle.ix_label.proofs.{Chains.{Chain, IsLink}, Reading.{drop-next, drop-past, back-next, item_single, item_range, item_one, item_more, order_above}}

-- ---- what stands at a place

drop-more : (text x q : List ℕ) (at : ℕ) → drop at text ≡ x ++ q → drop (at + length x) text ≡ q
drop-more text x q at h = sym (drop-drop _ at text) ∙ ap (drop _) h ∙ drop_at x q _ refl

within-more : (text x q : List ℕ) (at : ℕ) → at ≤ length text → drop at text ≡ x ++ q → at + length x ≤ length text
within-more text x q at low h = omega (arith, ap length h, length-drop at text, length-append x q)

at_next : (text q : List ℕ) (at b : ℕ) → drop at text ≡ b ∷ q → (slice_get text at ≡ Some b) × (drop (at + 1) text ≡ q)
at_next text q at b h = go _ refl
  where
    go : (o : Option ℕ) → slice_get text at ≡ o → (slice_get text at ≡ Some b) × (drop (at + 1) text ≡ q)
    go None e = cc (drop-past text at e)
    go (Some c) e = let next = drop-next _ at c e in (let same : c ≡ b = cc in e ∙ ap Some same, cc)

at_end : (text : List ℕ) (at : ℕ) → drop at text ≡ [] → slice_get text at ≡ None
at_end text at h = go _ refl
  where
    go : (o : Option ℕ) → slice_get text at ≡ o → slice_get text at ≡ None
    go None e = e
    go (Some c) e = cc (drop-next text at c e)

no_digit_dash : (q : List ℕ) → at_digit (dash ∷ q) ≡ false
unfolding at_digit
no_digit_dash q = refl

no_dash_next : (text q : List ℕ) (at : ℕ) → drop at text ≡ q → Stops q → slice_get text at ≡ Some dash → ⊥
unfolding at_dash
no_dash_next text q at h stops next = true≢false (ap at_dash (sym (drop-next _ at _ next) ∙ h) ∙ stops.dash)

-- ---- a number or an item

module _ (form : Form) where
  -- a number that is written at a place
  number_written : (text q : List ℕ) (at value : ℕ) → at ≤ length text → value ≤ greatest form → drop at text ≡ decimal value ++ q → at_digit q ≡ false
      → IsNumberAt form text at value (at + length (decimal value))
  number_written text q at value low small h ended =
      let after = drop-more _ _ q at h in
      record {
        small = small;
        within = within-more _ _ q at low h;
        written = rw after h;
        ended = rw after ended;
      }

  -- an item is written at the place, and then what follows
  abbrev IsItemThen : List ℕ → ℕ → Option ℕ → ℕ → ℕ → List ℕ → Type 0
  IsItemThen text at last a b q = (end : ℕ) × IsItemAt form text at last a b end × (drop end text ≡ q)

  module _ (text : List ℕ) (at : ℕ) (last : Option ℕ) (q : List ℕ) (not_all : is_text text (whole_run form) ≡ false) (begins : BeginsItem text at last) (stops : Stops q) where
    single_written : (a : ℕ) → IsLink form last a a → drop at text ≡ item (a, a) ++ q → IsItemThen text at last a a q
    single_written a link h =
        let is : drop at text ≡ decimal a ++ q = rw item_one at h in
        let end : ℕ = at + length (decimal a) in
        let after : drop end text ≡ q = drop-more text (decimal a) q at is in
        let n : IsNumberAt form text at a end = number_written text q at a begins.within link.small is stops.digit in
        (end, item_single form text at a end last not_all begins n (order_above last a at link.above) (no_dash_next text q end after stops), after)

    range_written : (a b : ℕ) → a < b → IsLink form last a b → drop at text ≡ item (a, b) ++ q → IsItemThen text at last a b q
    range_written a b up link h =
        let small : b ≤ greatest form = link.small in
        let is : drop at text ≡ decimal a ++ dash ∷ (decimal b ++ q) = rw (item_more a b up, append_assoc) at h in
        let end : ℕ = at + length (decimal a) in
        let n : IsNumberAt form text at a end = number_written text (dash ∷ (decimal b ++ q)) at a begins.within (omega arith) is (no_digit_dash (decimal b ++ q)) in
        let next : (slice_get text end ≡ Some dash) × (drop (end + 1) text ≡ decimal b ++ q) = at_next text (decimal b ++ q) end dash (drop-more text (decimal a) (dash ∷ (decimal b ++ q)) at is) in
        let low : end < length text = slice_get_within text end dash next.0 in
        let n2 : IsNumberAt form text (end + 1) b (end + 1 + length (decimal b)) = number_written text q (end + 1) b (omega arith) small next.1 stops.digit in (
          end + 1 + length (decimal b),
          item_range form text at a end last not_all begins n (order_above last a at link.above) next.0 b (end + 1 + length (decimal b)) n2 up,
          drop-more text (decimal b) q (end + 1) next.1,
        )

    item_written : (a b : ℕ) → IsLink form last a b → drop at text ≡ item (a, b) ++ q → IsItemThen text at last a b q
    item_written a b link h =
        let order = link.order in
        elim (cases_lt a b) [
          | inl up ↦ range_written a b up link h
          | inr down ↦
              let e : a ≡ b = omega arith in
              let P : ℕ → Type 0 = λ x. IsItemThen text at last a x q in
              subst P e (single_written a (rw (← e) at link) (rw (← e) at h))
        ]

  begins_next : (text : List ℕ) (at : ℕ) (last : Option ℕ) (a b end : ℕ) → IsItemAt form text at last a b end → slice_get text end ≡ Some comma → BeginsItem text (end + 1) (Some b)
  unfolding at_comma last_number
  begins_next text at last a b end i next =
      let low = slice_get_within text end comma next in
      record { within = omega arith; after = rw (back-next text end comma next) (refl, i.number) }

  -- a chain of items, from the place where its first stands
  pub chain_faultless : (rs : List (ℕ × ℕ)) (a b : ℕ) (text : List ℕ) (at : ℕ) (last : Option ℕ) → is_text text (whole_run form) ≡ false → BeginsItem text at last → Chain form last ((a, b) ∷ rs)
      → drop at text ≡ item (a, b) ++ after_item rs → fault_from form text at ≡ None
  unfolding after_item
  chain_faultless [] a b text at last not_all begins chain h =
      let i : IsItemThen text at last a b [] = item_written text at last [] not_all begins (after_item_Stops []) a b chain.0 h in
      i.1.passed ∙ rw (at_end text i.0 i.2) refl
  chain_faultless ((c, d) ∷ ts) a b text at last not_all begins chain h =
      let i : IsItemThen text at last a b (comma ∷ items ((c, d) ∷ ts)) = item_written text at last _ not_all begins (after_item_Stops ((c, d) ∷ ts)) a b chain.0 h in
      let next : (slice_get text i.0 ≡ Some comma) × (drop (i.0 + 1) text ≡ items ((c, d) ∷ ts)) = at_next text (items ((c, d) ∷ ts)) i.0 comma i.2 in
      i.1.passed ∙ rw next.0 (chain_faultless ts c d text (i.0 + 1) (Some b) not_all (begins_next text at last a b i.0 i.1 next.0) chain.1 (next.1 ∙ items_are (c, d) ts))
