-- What the numbers and items that stand at a place say of the text's first fault.
use Rattle.std.proofs.Common.{◌≡◌, ℕ, ◌+◌, ◌<◌, ◌≤◌, ◌==◌, nat_le, Bool, true, false, true≢false, not, ◌&&◌, List, [], ◌∷◌, ◌++◌, length, take, ap}
use Rattle.std.proofs.Common.{drop, reverse, if◌then◌else◌, ◌⊎◌, refl, sym, ◌∙◌, arith, append_assoc, length-append, length-drop, Option, None, Some, inl, inr}
use Rattle.std.specs.{List.{slice_get, list_all, prefix_len}, Char.is_ascii_digit, Fmt.decimal, Str.Parse.digits_value}
use Rattle.std.proofs.lemmas.Bool.{lt-ltb, cases_lt, cases_Bool, cases_order, eqb-true, eqb-false, eq-eqb, ne_eqb, le-leb, lt-leb, leb-false, and_left}
use Rattle.std.proofs.lemmas.List.{take-append-drop, take_at, drop_more, drop-drop, drop_all, length-take, length-reverse, reverse-append}
use Rattle.std.proofs.{lemmas.List.{Folds.length-prefix_len, Sums.prefix_len-le-length}, Math.Bool.{and-false, or-false}}
use Rattle.std.proofs.lemmas.Option.{slice_get_within, get_or_from_slice_get, slice_get-get_or}
use Rattle.ix_label.{specs.declared.{form.Form.Form, fault.LabelFault.{LabelFault, TheVariants.{BadNumber, OutOfRange, NotAscending, NotLongest}}}, proofs.Texts.decimal_some}
use Rattle.ix_label.specs.{Forms.{greatest, whole_run}, Spelling.{item, comma, dash}, Faults.{last_number, number_back, number_fault}}
use Rattle.ix_label.specs.Faults.{digits, after_digits, number_ahead, is_bad, at_comma, at_dash, at_digit, is_due, is_not_ascending, is_not_longest, is_text}
use Rattle.ix_label.specs.Reading.{back_from, fault_from, IsValueOf, IsNumberAt, AfterLast, BeginsItem, IsAbove, order_fault, fault_after_item, IsItemAt}
use Rattle.ix_label.proofs.Places.{are_digits, digits-and_after, no_digit_after, fault_due, first_fault-some, over_number, number_back-number, end_follows}
use Rattle.ix_label.proofs.Places.{comma_follows, dash_follows, other_follows}
use Rattle.ix_label.proofs.Numbers.{greatest-below, sound-decimal, decimal-digits, decimal-value, number_ahead-decimal, in_order, not_ascending, not_longest}

-- ---- places of a text

pub length-back : (text : List ℕ) (at : ℕ) → at ≤ length text → length (back_from text at) ≡ at
unfolding back_from
length-back text at h = rw (length-reverse, length-take) (omega arith)

-- what is written between two places
pub take-written : (text x : List ℕ) (at end : ℕ) → at ≤ length text → end ≤ length text → drop at text ≡ x ++ drop end text → take end text ≡ take at text ++ x
take-written text x at end low high h =
    let whole : (take at text ++ x) ++ drop end text ≡ text = rw (append_assoc, ← h) (take-append-drop at text) in
    let parts = sym (length-drop at text) ∙ ap length h ∙ length-append x _ ∙ (λ i. length x + length-drop end text i) in
    let long : length (take at text ++ x) ≡ end = rw (length-append, length-take) (omega arith) in
    ap (take _) (sym whole) ∙ take_at _ _ end long

back-written : (text x : List ℕ) (at end : ℕ) → at ≤ length text → end ≤ length text → drop at text ≡ x ++ drop end text → back_from text end ≡ reverse x ++ back_from text at
unfolding back_from
back-written text x at end low high h = rw (take-written text x at end low high h, reverse-append) refl

pub drop-next : (text : List ℕ) (at b : ℕ) → slice_get text at ≡ Some b → drop at text ≡ b ∷ drop (at + 1) text
drop-next text at b h =
    let low = slice_get_within text at b h in
    drop_more text at b low ∙ (λ i. get_or_from_slice_get text at b b h i ∷ drop (at + 1) text)

pub back-next : (text : List ℕ) (at b : ℕ) → slice_get text at ≡ Some b → back_from text (at + 1) ≡ b ∷ back_from text at
back-next text at b h =
    let low = slice_get_within text at b h in
    back-written _ (b ∷ []) at _ (omega arith) (omega arith) (drop-next _ at b h)

pub drop-past : (text : List ℕ) (at : ℕ) → slice_get text at ≡ None → drop at text ≡ []
drop-past text at h = elim (cases_lt at _) [
  | inl low ↦ cc (slice_get-get_or text at 0 low)
  | inr past ↦ drop_all at text past
]

-- ---- what stands before an item, and between the numbers of a range

after_due : (back : List ℕ) (last : Option ℕ) → AfterLast back last → is_due back ≡ true
unfolding is_due at_comma
after_due back None h = rw h refl
after_due [] (Some last) h = absurd (true≢false (sym h.0))
after_due (b ∷ back) (Some last) h = rw h.0 refl

after_first : (back : List ℕ) (last : Option ℕ) → AfterLast back last → at_dash back ≡ false
unfolding at_dash at_comma
after_first back None h = rw h refl
after_first [] (Some last) h = refl
after_first (b ∷ back) (Some last) h = rw (eqb-true b comma h.0) refl

dash_due : (back : List ℕ) → is_due (dash ∷ back) ≡ true
unfolding is_due
dash_due back = refl

dash_behind : (back : List ℕ) → at_dash (dash ∷ back) ≡ true
unfolding at_dash
dash_behind back = refl

-- ---- the order of numbers

choice_none : (b c : Bool) (x y : LabelFault) → (if b then Some x else if c then Some y else None) ≡ None → (b ≡ false) × (c ≡ false)
choice_none true c x y h = cc
choice_none false true x y h = cc
choice_none false false x y h = (refl, refl)

choice_some : (b c : Bool) (x y f : LabelFault) → (if b then Some x else if c then Some y else None) ≡ Some f → ((b ≡ true) × (x ≡ f)) ⊎ ((b ≡ false) × (c ≡ true) × (y ≡ f))
choice_some true c x y f h = inl (refl, cc)
choice_some false true x y f h = inr (refl, refl, cc)
choice_some false false x y f h = cc

order_none : (last first at : ℕ) → order_fault (Some last) first at ≡ None → (nat_le first last ≡ false) × ((first == last + 1) ≡ false)
unfolding order_fault
order_none last first at h = choice_none _ _ _ _ h

above_last : (last : Option ℕ) (first at : ℕ) → order_fault last first at ≡ None → IsAbove last first
above_last None first at h = tt
above_last (Some last) first at h =
    let tests = order_none _ _ at h in
    let up = leb-false first last tests.0 in
    elim (cases_order _ first) [
      | inl e ↦ absurd (eqb-false first _ tests.1 (sym e))
      | inr (inl lt) ↦ lt
      | inr (inr gt) ↦ absurd (omega arith)
    ]

pub order_above : (last : Option ℕ) (first at : ℕ) → IsAbove last first → order_fault last first at ≡ None
unfolding order_fault
order_above None first at h = refl
order_above (Some last) first at h = rw (lt-leb first last (omega arith), ne_eqb first (last + 1) (λ e. omega arith)) refl

not_start : (back : List ℕ) → 0 < length back → (length back == 0) ≡ false
not_start back h = ne_eqb _ 0 (λ e. omega arith)

comma_some : (back : List ℕ) → at_comma back ≡ true → (0 < length back) × (at_dash back ≡ false)
unfolding at_comma at_dash
comma_some [] h = absurd (true≢false (sym h))
comma_some (b ∷ back) h = (omega arith, rw (eqb-true b comma h) refl)

start_ascending : (ahead : List ℕ) → is_not_ascending [] ahead ≡ false
unfolding is_not_ascending at_dash at_comma
start_ascending ahead = refl

start_is_text : (text : List ℕ) (at : ℕ) → at ≤ length text → back_from text at ≡ [] → drop at text ≡ text
start_is_text text at low h =
    let e = sym (length-back _ at low) ∙ ap length h in
    rw e refl

no_order : (value at : ℕ) (f : LabelFault) → order_fault None value at ≡ Some f → ⊥
unfolding order_fault
no_order value at f h = cc

-- ---- items

pub item_one : (a : ℕ) → item (a, a) ≡ decimal a
unfolding item
item_one a = rw eq-eqb refl

pub item_more : (a b : ℕ) → a < b → item (a, b) ≡ decimal a ++ dash ∷ decimal b
unfolding item
item_more a b h = rw (ne_eqb a b (λ e. omega arith)) refl

module _ (form : Form) where
  -- each number of a form is a category
  number_below : {text : List ℕ} {at value end : ℕ} → IsNumberAt form text at value end → value < 512
  number_below n = omega (arith, n.small, greatest-below form)

  -- ---- a number that is read

  module _ (text ds : List ℕ) (at : ℕ) (are : ds ≡ digits (drop at text)) where
    pub number_bad : is_bad ds ≡ true → (back : List ℕ) → length back ≡ at → number_fault form back (drop at text) ≡ Some (BadNumber at)
    unfolding number_fault
    number_bad bad back e = rw (← are, bad, e) refl

    pub number_great : is_bad ds ≡ false → greatest form < digits_value 10 ds → (back : List ℕ) → length back ≡ at → number_fault form back (drop at text) ≡ Some (OutOfRange at)
    unfolding number_fault number_ahead
    number_great sound great back e = rw (← are, sound, lt-ltb, e) refl

    pub number_at : (value : ℕ) → at ≤ length text → is_bad ds ≡ false → IsValueOf form ds value → IsNumberAt form text at value (at + length ds)
    number_at value low sound h =
        let small : value ≤ greatest form = h.small in
        let all : list_all is_ascii_digit ds ≡ true = rw are (are_digits (drop at text)) in
        let written : decimal value ≡ ds = ap decimal h.is ∙ sound-decimal ds all sound (omega (arith, h.is, greatest-below form)) in
        let long : length ds ≡ prefix_len is_ascii_digit (drop at text) = ap length are ∙ length-prefix_len is_ascii_digit (drop at text) in
        let after : drop (at + length ds) text ≡ after_digits (drop at text) = sym (drop-drop (length ds) at text) ∙ (λ i. drop (long i) (drop at text)) in
        record {
          small = small;
          within = omega (arith, long, prefix_len-le-length is_ascii_digit (drop at text), length-drop at text);
          written = rw (written, after, are) (sym (digits-and_after (drop at text)));
          ended = rw after (no_digit_after (drop at text));
        }

  -- ---- a number at a place

  module _ (text : List ℕ) (at value end : ℕ) (low : at ≤ length text) (n : IsNumberAt form text at value end) where
    back_end : back_from text end ≡ reverse (decimal value) ++ back_from text at
    back_end = back-written _ _ at _ low n.within n.written

    number_ends : is_due (back_from text at) ≡ true → number_back (back_from text end) ≡ value
    number_ends due = rw back_end (number_back-number form _ _ due (decimal_some _) (decimal-digits _ (number_below n)) ∙ decimal-value _ (number_below n))

    passes : is_due (back_from text at) ≡ true → number_fault form (back_from text at) (decimal value ++ drop end text) ≡ None → fault_from form text at ≡ fault_from form text end
    unfolding fault_from
    passes due none = rw (n.written, back_end) (over_number _ _ _ _ due (decimal_some _) (decimal-digits _ (number_below n)) none)

    dash_passes : is_due (back_from text at) ≡ true → at_dash (back_from text at) ≡ false → slice_get text end ≡ Some dash → fault_from form text end ≡ fault_from form text (end + 1)
    unfolding fault_from
    dash_passes due first next = rw (drop-next text end dash next, back-next text end dash next, back_end)
        (dash_follows form (back_from text at) (decimal value) due (decimal_some value) (decimal-digits value (number_below n)) (drop (end + 1) text) first)

    no_dash : (b : ℕ) → slice_get text end ≡ Some b → (slice_get text end ≡ Some dash → at_dash (back_from text at) ≡ true) → (b == dash && not (at_dash (back_from text at))) ≡ false
    no_dash b next second = elim (cases_Bool _) [
      | inl is ↦ let found = next ∙ ap Some (eqb-true b dash is) in rw second (and-false _)
      | inr other ↦ and_left _ _ other
    ]

    no_digit : (b : ℕ) → slice_get text end ≡ Some b → is_ascii_digit b ≡ false
    unfolding at_digit
    no_digit b next = rw (drop-next text end b next) at n.ended

    stops_at : (o : Option ℕ) → slice_get text end ≡ o → is_due (back_from text at) ≡ true → (slice_get text end ≡ Some dash → at_dash (back_from text at) ≡ true)
        → fault_from form text end ≡ fault_after_item form text end o
    unfolding fault_from
    stops_at None next due second = rw (drop-past text end next, back_end) (end_follows form (back_from text at) (decimal value) due (decimal_some value) (decimal-digits value (number_below n)))
    stops_at (Some b) next due second = elim (cases_Bool (b == comma)) [
      | inl is ↦
          let e : b ≡ comma = eqb-true b comma is in
          rw (is, drop-next text end b next, back-next text end b next, e, back_end) (comma_follows form (back_from text at) (decimal value) due (decimal_some value)
          (decimal-digits value (number_below n)) (drop (end + 1) text))
      | inr other ↦
          let place : length (reverse (decimal value) ++ back_from text at) ≡ end = rw (← back_end) (length-back text end n.within) in
          rw (other, drop-next text end b next, back_end)
          (
          other_follows form (back_from text at) (decimal value) due (decimal_some value) (decimal-digits value (number_below n)) b (drop (end + 1) text) (no_digit b next) other
          (no_dash b next second)
          ∙ (λ i. Some (BadNumber (place i)))
          )
    ]

    stops : is_due (back_from text at) ≡ true → (slice_get text end ≡ Some dash → at_dash (back_from text at) ≡ true) → fault_from form text end ≡ fault_after_item form text end (slice_get text end)
    stops due second = stops_at _ refl due second

  -- the fault of a number that is due
  fault_due_from : (text : List ℕ) (at : ℕ) (f : LabelFault) → is_due (back_from text at) ≡ true → number_fault form (back_from text at) (drop at text) ≡ Some f → fault_from form text at ≡ Some f
  unfolding fault_from
  fault_due_from text at f due h = first_fault-some _ _ _ f (fault_due _ _ _ due ∙ h)

  -- ---- the first number of an item

  module _ (text : List ℕ) (at : ℕ) (last : Option ℕ) (begins : BeginsItem text at last) where
    due : is_due (back_from text at) ≡ true
    due = after_due _ _ begins.after

    pub first_bad : (f : LabelFault) → ((back : List ℕ) → length back ≡ at → number_fault form back (drop at text) ≡ Some f) → fault_from form text at ≡ Some f
    first_bad f h = fault_due_from _ at f due (h _ (length-back _ at begins.within))

  -- ---- the order of a number after a comma or a dash

  module _ (value : ℕ) (rest back : List ℕ) (small : value ≤ greatest form) (ended : at_digit rest ≡ false) where
    comma_ascending : at_comma back ≡ true → is_not_ascending back (decimal value ++ rest) ≡ nat_le value (last_number back)
    unfolding is_not_ascending
    comma_ascending h = rw (h, (comma_some back h).1, number_ahead-decimal form value rest small ended) refl

    comma_longest : at_comma back ≡ true → is_not_longest form back (decimal value ++ rest) ≡ (value == last_number back + 1)
    unfolding is_not_longest
    comma_longest h = rw (h, not_start back (comma_some back h).0, number_ahead-decimal form value rest small ended) (or-false _)

    dash_ascending : is_not_ascending (dash ∷ back) (decimal value ++ rest) ≡ nat_le value (number_back back)
    unfolding is_not_ascending at_dash at_comma last_number
    dash_ascending = rw (number_ahead-decimal form value rest small ended) refl

    dash_longest : is_not_longest form (dash ∷ back) (decimal value ++ rest) ≡ false
    unfolding is_not_longest at_comma
    dash_longest = rw (not_start (dash ∷ back) (omega arith)) refl

    -- a number after a comma has the fault of its order
    comma_order : (at : ℕ) → at_comma back ≡ true → length back ≡ at → (o : Option LabelFault) → order_fault (Some (last_number back)) value at ≡ o → number_fault form back (decimal value ++ rest) ≡ o
    unfolding order_fault
    comma_order at after place None h =
        let tests : (nat_le value (last_number back) ≡ false) × ((value == last_number back + 1) ≡ false) = choice_none _ _ _ _ h in
        in_order form value rest small ended back (comma_ascending after ∙ tests.0) (comma_longest after ∙ tests.1)
    comma_order at after place (Some f) h = elim (choice_some (nat_le value (last_number back)) (value == last_number back + 1) (NotAscending at) (NotLongest at) f h) [
      | inl down ↦ not_ascending form value rest small ended back (comma_ascending after ∙ down.0) ∙ (λ i. Some (NotAscending (place i))) ∙ ap Some down.1
      | inr next ↦ not_longest form value rest small ended back (comma_ascending after ∙ next.0) (comma_longest after ∙ next.1) ∙ (λ i. Some (NotLongest (place i))) ∙ ap Some next.2
    ]

  -- the first number of a text is in order, if the text is not the whole run
  start_longest : (ahead : List ℕ) → is_text ahead (whole_run form) ≡ false → is_not_longest form [] ahead ≡ false
  unfolding is_not_longest at_comma
  start_longest ahead h = h

  -- the first number of an item has the fault of its order
  first_order : (text : List ℕ) (at value end : ℕ) (last : Option ℕ) (o : Option LabelFault) → is_text text (whole_run form) ≡ false → BeginsItem text at last → IsNumberAt form text at value end
      → order_fault last value at ≡ o → number_fault form (back_from text at) (decimal value ++ drop end text) ≡ o
  first_order text at value end None None not_all begins n h =
      let whole : is_text (drop at text) (whole_run form) ≡ false = rw (start_is_text text at begins.within begins.after) not_all in
      rw begins.after (in_order _ _ _ n.small n.ended [] (start_ascending _) (start_longest _ (rw n.written at whole)))
  first_order text at value end None (Some f) not_all begins n h = absurd (no_order _ at f h)
  first_order text at value end (Some last) o not_all begins n h =
      comma_order _ (drop end text) (back_from text at) n.small n.ended at begins.after.0 (length-back _ at begins.within) o
      (rw begins.after.1 h)

  pub first_disordered : (text : List ℕ) (at value end : ℕ) (last : Option ℕ) (f : LabelFault) → is_text text (whole_run form) ≡ false → BeginsItem text at last → IsNumberAt form text at value end
      → order_fault last value at ≡ Some f → fault_from form text at ≡ Some f
  first_disordered text at value end last f not_all begins n h =
      fault_due_from _ at f (due text at last begins) (rw n.written (first_order _ at _ _ _ _ not_all begins n h))

  -- ---- an item

  pub item_single : (text : List ℕ) (at value end : ℕ) (last : Option ℕ) → is_text text (whole_run form) ≡ false → BeginsItem text at last → IsNumberAt form text at value end
      → order_fault last value at ≡ None → (slice_get text end ≡ Some dash → ⊥) → IsItemAt form text at last value value end
  item_single text at value end last not_all begins n order no_dash =
      let begun = due text at last begins in
      record {
        order = omega arith;
        small = n.small;
        above = above_last _ _ at order;
        within = n.within;
        written = rw item_one n.written;
        number = number_ends text at value end begins.within n begun;
        passed = passes text at value end begins.within n begun (first_order _ at _ _ _ _ not_all begins n order)
            ∙ stops text at value end begins.within n begun (λ is. absurd (no_dash is));
      }

  -- ---- the second number of a range

  module _ (text : List ℕ) (at first end : ℕ) (last : Option ℕ) (not_all : is_text text (whole_run form) ≡ false) (begins : BeginsItem text at last) (n : IsNumberAt form text at first end)
      (order : order_fault last first at ≡ None) (next : slice_get text end ≡ Some dash) where
    begun : is_due (back_from text at) ≡ true
    begun = due text at last begins

    second_place : back_from text (end + 1) ≡ dash ∷ back_from text end
    second_place = back-next _ _ _ next

    pub second_within : end + 1 ≤ length text
    second_within = let low = slice_get_within text end dash next in omega arith

    second_due : is_due (back_from text (end + 1)) ≡ true
    second_due = rw second_place (dash_due _)

    to_second : fault_from form text at ≡ fault_from form text (end + 1)
    to_second =
        passes text at first end begins.within n begun (first_order _ at _ _ _ _ not_all begins n order)
        ∙ dash_passes text at first end begins.within n begun (after_first _ _ begins.after) next

    -- its own fault is the text's
    pub second_bad : (f : LabelFault) → ((back : List ℕ) → length back ≡ end + 1 → number_fault form back (drop (end + 1) text) ≡ Some f) → fault_from form text at ≡ Some f
    second_bad f h = to_second ∙ fault_due_from text (end + 1) f second_due (h _ (length-back text (end + 1) second_within))

    second_last : number_back (back_from text end) ≡ first
    second_last = number_ends text at first end begins.within n begun

    module _ (second stop : ℕ) (n2 : IsNumberAt form text (end + 1) second stop) where
      pub second_disordered : second ≤ first → fault_from form text at ≡ Some (NotAscending (end + 1))
      second_disordered down =
          let place : length (dash ∷ back_from text end) ≡ end + 1 = ap length (sym second_place) ∙ length-back text (end + 1) second_within in
          let test : is_not_ascending (dash ∷ back_from text end) (decimal second ++ drop stop text) ≡ true = dash_ascending second (drop stop text) (back_from text end) n2.small n2.ended
          ∙ rw second_last (le-leb second first down) in
          to_second
          ∙ fault_due_from text (end + 1) _ second_due (rw (n2.written, second_place) (not_ascending form second (drop stop text) n2.small n2.ended (dash ∷ back_from text end) test
          ∙ (λ i. Some (NotAscending (place i)))))

      second_order : first < second → number_fault form (back_from text (end + 1)) (decimal second ++ drop stop text) ≡ None
      second_order up =
          let test = dash_ascending second (drop stop text) (back_from text end) n2.small n2.ended
          ∙ rw second_last (lt-leb second first up) in
          rw second_place (in_order _ _ _ n2.small n2.ended _ test (dash_longest second (drop stop text) (back_from text end) n2.small n2.ended))

      pub item_range : first < second → IsItemAt form text at last first second stop
      item_range up = record {
        order = omega arith;
        small = n2.small;
        above = above_last _ _ at order;
        within = n2.within;
        written = rw (n.written, drop-next text end dash next, n2.written, item_more, append_assoc) refl;
        number = number_ends text (end + 1) second stop second_within n2 second_due;
        passed = to_second ∙ passes text (end + 1) second stop second_within n2 second_due (second_order up)
            ∙ stops text (end + 1) second stop second_within n2 second_due (λ _. rw second_place (dash_behind _));
      }
