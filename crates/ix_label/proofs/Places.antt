-- How the first fault of a text is found, number by number.
use Rattle.std.proofs.Common.{◌≡◌, ℕ, suc, ◌+◌, ◌<◌, ◌==◌, Bool, true, false, true≢false, not, ◌&&◌, cond, List, [], ◌∷◌, ◌++◌, length, reverse, drop, refl, ap}
use Rattle.std.{proofs.Common.{sym, ◌∙◌, arith, append_assoc, None, Some}, specs.{List.{list_all, prefix_len}, Char.is_ascii_digit, Str.Parse.digits_value}}
use Rattle.std.proofs.lemmas.List.{take_at, drop_at, reverse-append, reverse-reverse, length-reverse, take-append-drop, Sums.take_while-cons}
use Rattle.std.proofs.lemmas.{List.Folds.list_all-append, Bool.{and_parts, ne_eqb, false_from_ne_true}}
use Rattle.ix_label.specs.{declared.{form.Form.Form, fault.LabelFault.{LabelFault, TheVariants.BadNumber}}, Spelling.{comma, dash}, Faults.first_fault}
use Rattle.ix_label.specs.Faults.{digits, after_digits, number_back, at_digit, at_dash, is_due, number_fault, may_follow, follower_fault, fault_here}

-- ---- the digits that bytes begin with

prefix_len-digits : (ds q : List ℕ) → list_all is_ascii_digit ds ≡ true → at_digit q ≡ false → prefix_len is_ascii_digit (ds ++ q) ≡ length ds
unfolding at_digit
prefix_len-digits [] [] h k = refl
prefix_len-digits [] (b ∷ q) h k = rw k refl
prefix_len-digits (d ∷ ds) q h k =
    let parts : (is_ascii_digit d ≡ true) × (list_all is_ascii_digit ds ≡ true) = and_parts _ _ h in
    rw (parts.0, prefix_len-digits ds q parts.1 k) (omega arith)

pub digits-append : (ds q : List ℕ) → list_all is_ascii_digit ds ≡ true → at_digit q ≡ false → digits (ds ++ q) ≡ ds
digits-append ds q h k = rw prefix_len-digits (take_at ds q _ refl)

pub after_digits-append : (ds q : List ℕ) → list_all is_ascii_digit ds ≡ true → at_digit q ≡ false → after_digits (ds ++ q) ≡ q
after_digits-append ds q h k = rw prefix_len-digits (drop_at ds q _ refl)

-- bytes are their digits and what follows
pub digits-and_after : (bytes : List ℕ) → digits bytes ++ after_digits bytes ≡ bytes
digits-and_after bytes = take-append-drop _ bytes

pub are_digits : (bytes : List ℕ) → list_all is_ascii_digit (digits bytes) ≡ true
are_digits [] = refl
are_digits (b ∷ bytes) = rw take_while-cons (kept _ refl (are_digits bytes))
  where
    kept : (t : Bool) → is_ascii_digit b ≡ t → list_all is_ascii_digit (digits bytes) ≡ true → list_all is_ascii_digit (cond t (b ∷ digits bytes) []) ≡ true
    kept true e rest = rw e rest
    kept false e rest = refl

pub no_digit_after : (bytes : List ℕ) → at_digit (after_digits bytes) ≡ false
unfolding at_digit
no_digit_after [] = refl
no_digit_after (b ∷ bytes) = left _ refl (no_digit_after bytes)
  where
    left : (t : Bool) → is_ascii_digit b ≡ t → at_digit (after_digits bytes) ≡ false → at_digit (drop (cond t (1 + prefix_len is_ascii_digit bytes) 0) (b ∷ bytes)) ≡ false
    left true e rest = let more : 1 + prefix_len is_ascii_digit bytes ≡ suc (prefix_len is_ascii_digit bytes) = omega arith in rw more rest
    left false e rest = e

list_all-reverse : (p : ℕ → Bool) (xs : List ℕ) → list_all p xs ≡ true → list_all p (reverse xs) ≡ true
list_all-reverse p [] h = refl
list_all-reverse p (x ∷ xs) h =
    let parts : (p x ≡ true) × (list_all p xs ≡ true) = and_parts _ _ h in
    rw (reverse-append (x ∷ []) xs, list_all-append p (reverse xs) (x ∷ []), list_all-reverse p xs parts.1, parts.0) refl

-- ---- at one place

digit_ne : (b c : ℕ) → is_ascii_digit b ≡ true → is_ascii_digit c ≡ false → (b == c) ≡ false
digit_ne b c h k = ne_eqb b c (λ e. true≢false (sym h ∙ ap is_ascii_digit e ∙ k))

digit_not_due : (b : ℕ) (back : List ℕ) → is_ascii_digit b ≡ true → is_due (b ∷ back) ≡ false
unfolding is_due
digit_not_due b back h = rw (digit_ne, digit_ne) refl

pub due_no_digit : (back : List ℕ) → is_due back ≡ true → at_digit back ≡ false
unfolding at_digit
due_no_digit [] h = refl
due_no_digit (b ∷ back) h = false_from_ne_true _ (λ one. true≢false (sym h ∙ digit_not_due b _ one))

pub begins_with_digit : (ds back : List ℕ) → 0 < length ds → list_all is_ascii_digit ds ≡ true → (at_digit (ds ++ back) ≡ true) × (is_due (ds ++ back) ≡ false)
unfolding at_digit
begins_with_digit [] back some all = absurd (omega arith)
begins_with_digit (d ∷ ds) back some all =
    let parts = and_parts _ _ all in
    (parts.0, digit_not_due d _ parts.0)

module _ (form : Form) where
  pub fault_due : (back ahead : List ℕ) → is_due back ≡ true → fault_here form back ahead ≡ number_fault form back ahead
  unfolding fault_here
  fault_due back ahead h = rw h refl

  fault_inside : (b d : ℕ) (back ahead : List ℕ) → is_ascii_digit b ≡ true → is_ascii_digit d ≡ true → fault_here form (b ∷ back) (d ∷ ahead) ≡ None
  unfolding fault_here at_digit
  fault_inside b d back ahead h k = rw (digit_not_due b back h, h, k) refl

  fault_after : (back ahead : List ℕ) → is_due back ≡ false → at_digit back ≡ true → at_digit ahead ≡ false → fault_here form back ahead ≡ follower_fault back ahead
  unfolding fault_here
  fault_after back ahead due behind before = rw (due, behind, before) refl

  -- ---- from a place on

  pub first_fault-some : (back ahead : List ℕ) (f : LabelFault) → fault_here form back ahead ≡ Some f → first_fault form back ahead ≡ Some f
  unfolding first_fault
  first_fault-some back [] f h = h
  first_fault-some back (b ∷ ahead) f h = rw h refl

  first_fault-none : (back : List ℕ) (b : ℕ) (ahead : List ℕ) → fault_here form back (b ∷ ahead) ≡ None → first_fault form back (b ∷ ahead) ≡ first_fault form (b ∷ back) ahead
  unfolding first_fault
  first_fault-none back b ahead h = rw h refl

  first_fault-end : (back : List ℕ) → first_fault form back [] ≡ fault_here form back []
  unfolding first_fault
  first_fault-end back = refl

  reverse_onto : (d : ℕ) (ds back : List ℕ) → reverse ds ++ d ∷ back ≡ reverse (d ∷ ds) ++ back
  reverse_onto d ds back = rw (reverse-append (d ∷ []) ds, append_assoc) refl

  over_digits : (ds : List ℕ) (b : ℕ) (back q : List ℕ) → is_ascii_digit b ≡ true → list_all is_ascii_digit ds ≡ true
      → first_fault form (b ∷ back) (ds ++ q) ≡ first_fault form (reverse ds ++ b ∷ back) q
  over_digits [] b back q h all = refl
  over_digits (d ∷ ds) b back q h all =
      let parts = and_parts _ _ all in
      first_fault-none _ d _ (fault_inside b d _ _ h parts.0)
      ∙ over_digits ds d _ q parts.0 parts.1
      ∙ ap (λ x. first_fault form x q) (reverse_onto d ds _)

  -- over a number that is due and has no fault
  pub over_number : (back ds q : List ℕ) → is_due back ≡ true → 0 < length ds → list_all is_ascii_digit ds ≡ true → number_fault form back (ds ++ q) ≡ None
      → first_fault form back (ds ++ q) ≡ first_fault form (reverse ds ++ back) q
  over_number back [] q due some all h = absurd (omega arith)
  over_number back (d ∷ ds) q due some all h =
      let parts = and_parts _ _ all in
      first_fault-none _ d _ (fault_due _ _ due ∙ h)
      ∙ over_digits ds d _ q parts.0 parts.1
      ∙ ap (λ x. first_fault form x q) (reverse_onto d ds _)

  -- ---- after a number

  module _ (back ds : List ℕ) (due : is_due back ≡ true) (some : 0 < length ds) (all : list_all is_ascii_digit ds ≡ true) where
    behind : (at_digit (reverse ds ++ back) ≡ true) × (is_due (reverse ds ++ back) ≡ false)
    behind = begins_with_digit (reverse ds) back (rw length-reverse some) (list_all-reverse is_ascii_digit ds all)

    pub number_back-number : number_back (reverse ds ++ back) ≡ digits_value 10 ds
    unfolding number_back
    number_back-number = rw (digits-append (reverse ds) back (list_all-reverse is_ascii_digit ds all) (due_no_digit back due), reverse-reverse ds) refl

    after_number : after_digits (reverse ds ++ back) ≡ back
    after_number = after_digits-append (reverse ds) _ (list_all-reverse _ ds all) (due_no_digit _ due)

    -- the end and a comma may follow
    pub end_follows : first_fault form (reverse ds ++ back) [] ≡ None
    unfolding at_digit follower_fault may_follow
    end_follows = first_fault-end _ ∙ fault_after _ [] behind.1 behind.0 refl

    pub comma_follows : (q : List ℕ) → first_fault form (reverse ds ++ back) (comma ∷ q) ≡ first_fault form (comma ∷ (reverse ds ++ back)) q
    unfolding at_digit follower_fault may_follow
    comma_follows q = first_fault-none _ _ q (fault_after _ _ behind.1 behind.0 refl)

    -- a dash may, if the number is not the second of a range
    pub dash_follows : (q : List ℕ) → at_dash back ≡ false → first_fault form (reverse ds ++ back) (dash ∷ q) ≡ first_fault form (dash ∷ (reverse ds ++ back)) q
    unfolding at_digit follower_fault may_follow
    dash_follows q first = first_fault-none _ _ q (fault_after _ _ behind.1 behind.0 refl ∙ rw (after_number, first) refl)

    -- and nothing else
    pub other_follows : (b : ℕ) (q : List ℕ) → is_ascii_digit b ≡ false → (b == comma) ≡ false → (b == dash && not (at_dash back)) ≡ false
        → first_fault form (reverse ds ++ back) (b ∷ q) ≡ Some (BadNumber (length (reverse ds ++ back)))
    unfolding at_digit follower_fault may_follow
    other_follows b q digit no_comma no_dash = first_fault-some _ _ _ (fault_after _ _ behind.1 behind.0 digit ∙ rw (no_comma, after_number, no_dash) refl)
