-- The loop over the items of a text: what it has read up to a place.
use Rattle.std.proofs.Common.{◌≡◌, ℕ, ◌+◌, ◌-◌, ◌<◌, ◌≤◌, nat_le, true, true≢false, ◌&&◌, ◌||◌, List, [], ◌∷◌, length, take, drop, refl, sym, ◌∙◌, ap}
use Rattle.std.proofs.{Common.{arith, length-append, length-drop, Option, None, Some, inl, inr}, lemmas.Option.{slice_get_within, slice_get-get_or, slice_get_past}}
use Rattle.std.{specs.List.slice_get, proofs.lemmas.{Bool.{or_cases, or_right, and_parts, leb-true, le-leb, ne_eqb, cases_order}, List.take_all}}
use Rattle.ix_label.specs.{declared.{form.Form.Form, fault.LabelFault.TheVariants.BadNumber}, Category.{Categories, has, bottom}}
use Rattle.ix_label.specs.{Members.has-bottom, Spelling.{item, items, runs, comma}, Scanning.comma_after, Faults.{at_comma, last_number}}
use Rattle.ix_label.specs.Reading.{back_from, fault_from, BeginsItem, IsAbove, IsItemAt, fault_after_item, IsRead}
use Rattle.ix_label.proofs.{Runs.{AddsRun, runs-AddsRun, runs-bottom}, Numbers.greatest-below, Reading.{drop-next, take-written, back-next}}
use Rattle.ix_label.proofs.Texts.{items-push, items_none, comma_after_none, comma_after_some, item_some}

-- no category of the label is above the last number
abbrev pub IsUpTo : Option ℕ → Categories → Type 0
IsUpTo None s = s ≡ bottom
IsUpTo (Some last) s = (q : ℕ) → has s q ≡ true → q ≤ last

-- the text before the place has no fault, and spells the label
pub record IsReadTo (form : Form) (text : List ℕ) (at : ℕ) (last : Option ℕ) (s : Categories) : Type 0 where
  pub begins : BeginsItem text at last
  pub passed : fault_from form text 0 ≡ fault_from form text at
  pub written : take at text ≡ comma_after (items (runs s))
  pub up_to : IsUpTo last s

pub IsReadTo-start : (form : Form) (text : List ℕ) → IsReadTo form text 0 None bottom
unfolding back_from
IsReadTo-start form text = record {
  begins = record { within = omega arith; after = refl };
  passed = refl;
  written = rw (runs-bottom, items_none, comma_after_none) refl;
  up_to = refl;
}

apart_from : (last : Option ℕ) (s : Categories) (a q : ℕ) → IsUpTo last s → IsAbove last a → has s q ≡ true → q + 1 < a
apart_from None s a q up_to above one = absurd (true≢false (sym one ∙ (λ i. has (up_to i) q) ∙ has-bottom q))
apart_from (Some last) s a q up_to above one = let le = up_to q one in omega arith

module _ (form : Form) (text : List ℕ) (at : ℕ) (last : Option ℕ) (s t : Categories) (first most end : ℕ) (so_far : IsReadTo form text at last s) (i : IsItemAt form text at last first most end)
    (grown : (q : ℕ) → has t q ≡ (has s q || (nat_le first q && nat_le q most))) where
  adds : AddsRun s t first most
  adds = record {
    order = i.order;
    small = omega (arith, i.small, greatest-below form);
    apart = λ q one. apart_from _ s _ q so_far.up_to i.above one;
    members = grown;
  }

  forward : at < end
  forward = omega (arith, ap length i.written, length-append (item (first, most)) (drop end text), length-drop at text, length-drop end text, item_some (first, most), i.within, so_far.begins.within)

  -- each item that is followed by a comma leaves less of the text
  pub shrinks : slice_get text end ≡ Some comma → length text - (end + 1) < length text - at
  shrinks next = omega (arith, forward, slice_get_within text end comma next)

  written_to_end : take end text ≡ items (runs t)
  written_to_end =
      take-written _ _ at _ so_far.begins.within i.within i.written
      ∙ rw (so_far.written, runs-AddsRun s t first most adds, items-push) refl

  some_written : 0 < length (items (runs t))
  some_written = rw (runs-AddsRun s t first most adds, items-push, length-append) (omega (arith, item_some (first, most)))

  has_most : has t most ≡ true
  has_most = let order = i.order in rw (grown most, le-leb first most order, le-leb most most (omega arith)) (or_right (has s most) true refl)

  up_to_most : (q : ℕ) → has t q ≡ true → q ≤ most
  up_to_most q one = elim (or_cases _ _ (sym (grown q) ∙ one)) [
    | inl old ↦ let lt = apart_from _ s _ q so_far.up_to i.above old in let order = i.order in omega arith
    | inr new ↦ let parts = and_parts _ _ new in leb-true q most parts.1
  ]

  pub IsReadTo-more : slice_get text end ≡ Some comma → IsReadTo form text (end + 1) (Some most) t
  unfolding at_comma last_number
  IsReadTo-more next =
      let low : end < length text = slice_get_within text end comma next in
      record {
        begins = record {
          within = omega arith;
          after = rw (back-next text end comma next) (refl, i.number);
        };
        passed = so_far.passed ∙ i.passed ∙ rw next refl;
        written = take-written text (comma ∷ []) end (end + 1) i.within (omega arith) (drop-next text end comma next) ∙ rw (written_to_end, comma_after_some _ some_written) refl;
        up_to = up_to_most;
      }

  -- what is at the end of the item, if it is not the text's, is a byte, and no comma
  wrong_byte : (o : Option ℕ) → slice_get text end ≡ o → end < length text → (slice_get text end ≡ Some comma → ⊥) → fault_after_item form text end o ≡ Some (BadNumber end)
  wrong_byte None next low other = cc (slice_get-get_or text end 0 low)
  wrong_byte (Some b) next low other = rw (ne_eqb b comma (λ e. other (next ∙ ap Some e))) refl

  pub bad_follower : (end ≡ length text → ⊥) → (slice_get text end ≡ Some comma → ⊥) → fault_from form text 0 ≡ Some (BadNumber end)
  bad_follower more other = let low : end < length text = elim (cases_order end _) [
    | inl e ↦ absurd (more e)
    | inr (inl lt) ↦ lt
    | inr (inr gt) ↦ let within = i.within in absurd (omega arith)
  ] in so_far.passed ∙ i.passed ∙ wrong_byte _ refl low other

  pub all_read : end ≡ length text → IsRead form text t
  all_read whole = record {
    within = record { below = λ q one. let low = up_to_most q one in let small = i.small in omega arith };
    some = λ e. true≢false (sym has_most ∙ (λ k. has (e k) most) ∙ has-bottom _);
    written = sym (take_all end text (omega arith)) ∙ written_to_end;
    faultless = so_far.passed ∙ i.passed ∙ rw (slice_get_past text end (omega arith)) refl;
  }
