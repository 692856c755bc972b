-- The decimal digits of a category, as they are written and as they are read.
use Rattle.std.proofs.Common.{◌≡◌, ℕ, ◌+◌, ◌*◌, ◌-◌, take, ◌<◌, ◌≤◌, ◌==◌, nat_lt, zero, suc, true, false, ◌&&◌, List, ◌++◌, length, get_or, refl, sym, arith, rules, None, Some, inl, inr}
use Rattle.std.specs.{List.list_all, Char.{is_ascii_digit, digit_value}, Fmt.decimal, Str.Parse.digits_value, Int.IsInRange}
use Rattle.std.proofs.lemmas.Bool.{le-ltb, lt-ltb, eqb-false, ltb-false, ne_eqb, cases_lt, or_parts, or_from, and_cases, and_left, and_right}
use Rattle.std.proofs.lemmas.Fmt.{decimal_digit, first_decimal, digits_decimal, digits_value-decimal, decimal-digits_value}
use Rattle.std.proofs.lemmas.{Str.Parse.{IsNumeralModel, numerals_by_value, digits_value-take-le, digit_at}, Int.Digits.digits_value_more}
use Rattle.ix_label.specs.{declared.{form.Form.{Form, TheVariants.{One, Two}}, fault.LabelFault.TheVariants.{NotAscending, NotLongest}}, Forms.greatest}
use Rattle.ix_label.{specs.Faults.{digits, number_ahead, at_digit, is_bad, is_not_ascending, is_not_longest, number_fault}, proofs.{Texts.decimal_some, Places.digits-append}}

-- each form's numbers are categories
pub greatest-below : (form : Form) → greatest form < 512
unfolding greatest
greatest-below One = omega arith
greatest-below Two = omega arith

own : IsNumeralModel (λ ds. list_all is_ascii_digit ds ≡ true) (digits_value 10)
own = numerals_by_value _ (search rules)

pub decimal-digits : (n : ℕ) → n < 512 → list_all is_ascii_digit (decimal n) ≡ true
decimal-digits n h = digits_decimal own n (omega arith)

pub decimal-value : (n : ℕ) → n < 512 → digits_value 10 (decimal n) ≡ n
decimal-value n h = digits_value-decimal own n (omega arith)

sound_from : (ds : List ℕ) → 0 < length ds → (get_or ds 0 0 ≡ 48 → length ds ≡ 1) → is_bad ds ≡ false
unfolding is_bad
sound_from ds some alone = or_from _ _ (ne_eqb (length ds) 0 (λ e. omega arith)) (elim (cases_lt 1 (length ds)) [
  | inl long ↦ and_right _ _ (ne_eqb (get_or ds 0 0) 48 (λ e. let one : length ds ≡ 1 = alone e in omega arith))
  | inr short ↦ and_left _ _ (le-ltb 1 (length ds) short)
])

sound_some : (ds : List ℕ) → is_bad ds ≡ false → 0 < length ds
unfolding is_bad
sound_some ds h = let parts : ((length ds == 0) ≡ false) × ((nat_lt 1 (length ds) && get_or ds 0 0 == 48) ≡ false) = or_parts _ _ h in elim (cases_lt 0 _) [
  | inl some ↦ some
  | inr none ↦ absurd (eqb-false _ _ parts.0 (omega arith))
]

sound_zero : (ds : List ℕ) → is_bad ds ≡ false → get_or ds 0 0 ≡ 48 → length ds ≡ 1
unfolding is_bad
sound_zero ds h e =
    let parts : ((length ds == 0) ≡ false) × ((nat_lt 1 (length ds) && get_or ds 0 0 == 48) ≡ false) = or_parts _ _ h in
    let some : 0 < length ds = sound_some ds h in
    elim (and_cases _ _ parts.1) [
      | inl short ↦ let le : length ds ≤ 1 = ltb-false 1 (length ds) short in omega arith
      | inr other ↦ absurd (eqb-false _ _ other e)
    ]

decimal-zero : (n : ℕ) → n < 512 → get_or (decimal n) 0 0 ≡ 48 → length (decimal n) ≡ 1
decimal-zero zero h e = rw (decimal_digit 0 (omega arith)) refl
decimal-zero (suc n) h e = let lt : 48 < get_or (decimal (suc n)) 0 0 = first_decimal _ (omega arith) (omega arith) in absurd (omega arith)

pub decimal-sound : (n : ℕ) → n < 512 → is_bad (decimal n) ≡ false
decimal-sound n h = sound_from _ (decimal_some n) (decimal-zero n h)

-- digits that are no bad number are written so
pub sound-decimal : (ds : List ℕ) → list_all is_ascii_digit ds ≡ true → is_bad ds ≡ false → digits_value 10 ds < 512 → decimal (digits_value 10 ds) ≡ ds
sound-decimal ds all sound small = decimal-digits_value own ds all (sound_some ds sound) (sound_zero ds sound) (omega arith)

-- ---- a number that is due, and is written in full

module _ (form : Form) (value : ℕ) (rest : List ℕ) (small : value ≤ greatest form) (ended : at_digit rest ≡ false) where
  below : value < 512
  below = omega (arith, greatest-below form)

  pub digits-decimal : digits (decimal value ++ rest) ≡ decimal value
  digits-decimal = digits-append _ _ (decimal-digits _ below) ended

  pub number_ahead-decimal : number_ahead (decimal value ++ rest) ≡ value
  unfolding number_ahead
  number_ahead-decimal = rw digits-decimal (decimal-value _ below)

  pub in_order : (back : List ℕ) → is_not_ascending back (decimal value ++ rest) ≡ false → is_not_longest form back (decimal value ++ rest) ≡ false
      → number_fault form back (decimal value ++ rest) ≡ None
  unfolding number_fault
  in_order back up apart = rw (digits-decimal, decimal-sound value below, number_ahead-decimal, le-ltb, up, apart) refl

  pub not_ascending : (back : List ℕ) → is_not_ascending back (decimal value ++ rest) ≡ true → number_fault form back (decimal value ++ rest) ≡ Some (NotAscending (length back))
  unfolding number_fault
  not_ascending back down = rw (digits-decimal, decimal-sound value below, number_ahead-decimal, le-ltb, down) refl

  pub not_longest : (back : List ℕ) → is_not_ascending back (decimal value ++ rest) ≡ false → is_not_longest form back (decimal value ++ rest) ≡ true
      → number_fault form back (decimal value ++ rest) ≡ Some (NotLongest (length back))
  unfolding number_fault
  not_longest back up next = rw (digits-decimal, decimal-sound value below, number_ahead-decimal, le-ltb, up, next) refl

-- ---- the value of digits, one after another

pub one_digit_more : (ds : List ℕ) (i value : ℕ) → list_all is_ascii_digit ds ≡ true → i < length ds → value ≡ digits_value 10 (take i ds)
    → value * 10 + (get_or ds i 0 - 48) ≡ digits_value 10 (take (i + 1) ds)
one_digit_more ds i value all low e =
    let digit : IsInRange 48 57 (get_or ds i 0) = digit_at ds i (own.to ds all) low in
    let worth : digit_value (get_or ds i 0) ≡ get_or ds i 0 - 48 = rw (le-ltb (get_or ds i 0) 48 digit.0, lt-ltb (get_or ds i 0) 58 (omega arith)) refl in
    rw (e, ← worth) (sym (digits_value_more 10 ds i low))

pub too_great : (most : ℕ) (ds : List ℕ) (i : ℕ) → most < digits_value 10 (take i ds) → most < digits_value 10 ds
too_great most ds i h = omega (arith, digits_value-take-le 10 ds i (omega arith))
