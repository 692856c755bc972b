-- Counts among the command words.
use Rattle.std.proofs.Common.{◌≡◌, ◌≢◌, ℕ, suc, ◌+◌, ◌*◌, ◌-◌, ◌^◌, ◌<◌, ◌≤◌, ◌&&◌, ◌||◌, ◌==◌, nat_le, Bool, true, false, List, [], ◌∷◌, length, Option, Some}
use Rattle.std.proofs.Common.{None, Ok, Err, refl, sym, ap, ◌∙◌, arith, inl, inr, get_or, if◌then◌else◌, codes}
use Rattle.std.specs.{Prelude.IfSome, List.list_all, Str.Parse.ParsesUnsigned, Option.option_map}
use Rattle.std.proofs.{lemmas.Bool.{and_from, and_parts, cases_Bool, cases_lt, le-leb}, lemmas.Bool.Decides.nat_tests}
use Rattle.std.proofs.lemmas.Str.Parse.{IsDigitsTest, IsNumeralModel, numerals_by_fold, parse_plain}
use Rattle.ix_model.specs.{opening.Valid.is_within, world.Naming.same_bytes}
use Rattle.ix_label.specs.Category.{Categories}
use Rattle.ix_label.specs.declared.form.Form.TheVariants as form
use Rattle.ix_text.specs.{Labels.label_in, Bytes.{begins_with, is_digit}}
use Rattle.ix_script.specs.texts.Words.{is_numeral, number_of, value, value_from}
use Rattle.ix_host.{specs.declared.arguments.command.Command.Command, proofs.comes_to.OnlyRun.lanes_only}
use Rattle.ix_host.specs.command.Command.{IsCounted, command_of, count_of, lanes_command_of, left_out, whole_command}
use Rattle.ix_host.specs.declared.arguments.command.Command.TheVariants as command

-- ---- numbers
-- the test and the value of decimal digits are std's
digits_test : IsDigitsTest (λ ds. list_all is_digit ds ≡ true)
digits_test = record {
  empty = refl;
  parts = λ c cs h. let both = and_parts (is_digit c) (list_all is_digit cs) h in (grind (arith, nat_tests, both.0), both.1);
  more = λ c cs in_range h. and_from (is_digit c) (list_all is_digit cs) (grind (arith, nat_tests, in_range)) h;
}

own : IsNumeralModel (λ ds. list_all is_digit ds ≡ true) (value_from 0)
own = numerals_by_fold (λ ds. list_all is_digit ds ≡ true) digits_test value_from (record { empty = λ n. refl; more = λ n c cs in_range. refl })

-- a number is within its bounds
pub number_bounds : (low high : ℕ) (word : List ℕ) → IfSome (number_of low high word) (λ n. (low ≤ n) × (n ≤ high))
unfolding number_of
number_bounds low high word = go (is_numeral word && is_within low high (value word)) refl
  where
    go : (b : Bool) → (is_numeral word && is_within low high (value word)) ≡ b → IfSome (if b then Some (value word) else None) (λ n. (low ≤ n) × (n ≤ high))
    go true is = let within : is_within low high (value word) ≡ true = (and_parts (is_numeral word) (is_within low high (value word)) is).1 in
        (grind (arith, nat_tests, within), grind (arith, nat_tests, within))
    go false is = tt

-- ---- a count
-- a text that begins with a digit from 1 to 9
abbrev begins_count : List ℕ → Bool
begins_count word = begins_with (λ b. is_within 49 57 b) word

no_and : (b : Bool) → (b && false) ≡ false
no_and true = refl
no_and false = refl

-- any other is no count
pub no_count : (word : List ℕ) → begins_count word ≡ false → number_of 1 100000 word ≡ None
unfolding number_of is_numeral value
no_count [] first = refl
no_count (b ∷ word) first = elim (cases_Bool (b == 48)) [
  | inl is ↦ zero_first word (grind (arith, nat_tests, is))
  | inr is ↦ let no : is_digit b ≡ false = grind (arith, nat_tests, first, is) in rw no refl
]
  where
    zero_first : (rest : List ℕ) → b ≡ 48 → number_of 1 100000 (b ∷ rest) ≡ None
    zero_first [] is = rw is refl
    zero_first (c ∷ rest) is =
        let long : (suc (suc (length rest)) == 1) ≡ false = grind (arith, nat_tests) in
        rw (is, long, no_and (is_digit c && list_all is_digit rest)) refl

-- after digits there is no less than what there was before them
value_more : (n : ℕ) (word : List ℕ) → n ≤ value_from n word
value_more n [] = omega arith
value_more n (b ∷ word) = let more = value_more (n * 10 + (b - 48)) word in omega (arith, more)

-- without zeros before it, it is a numeral where all its bytes are digits
no_zero : (x y : Bool) → (x && (y || true)) ≡ x
no_zero true true = refl
no_zero true false = refl
no_zero false y = refl

numeral_is : (b : ℕ) (word : List ℕ) → is_within 49 57 b ≡ true → is_numeral (b ∷ word) ≡ list_all is_digit (b ∷ word)
unfolding is_numeral
numeral_is b word lead =
    let digit : is_digit b ≡ true = grind (arith, nat_tests, lead) in
    let other : (b == 48) ≡ false = grind (arith, nat_tests, lead) in
    rw (digit, other) (no_zero (list_all is_digit word) (suc (length word) == 1))

record Plain (word : List ℕ) : Type 0 where
  numeral : is_numeral word ≡ list_all is_digit word
  some : 0 < length word
  least : 1 ≤ value word
  unsigned : get_or word 0 0 ≢ 43

plain : (word : List ℕ) → begins_count word ≡ true → Plain word
unfolding value
plain [] lead = cc
plain (b ∷ word) lead =
    let low : 49 ≤ b = grind (arith, nat_tests, lead) in
    let more = value_more (0 * 10 + (b - 48)) word in
    record { numeral = numeral_is b word lead; some = omega arith; least = omega (arith, low, more); unsigned = λ is. omega (arith, low, is) }

-- a number among the counts, by what its word is
counted : (word : List ℕ) → is_numeral word ≡ true → 1 ≤ value word → value word ≤ 100000 → number_of 1 100000 word ≡ Some (value word)
unfolding number_of
counted word is low high = rw (is, le-leb 1 (value word) low, le-leb (value word) 100000 high) refl

not_counted : (word : List ℕ) → (is_numeral word ≡ true → 100000 < value word) → number_of 1 100000 word ≡ None
unfolding number_of
not_counted word above = go (is_numeral word) refl
  where
    go : (b : Bool) → is_numeral word ≡ b → (if b && is_within 1 100000 (value word) then Some (value word) else None) ≡ None
    go true is = let high : nat_le (value word) 100000 ≡ false = grind (arith, nat_tests, above is) in rw (high, no_and (nat_le 1 (value word))) refl
    go false is = refl

-- what parse gives is the count
pub parsed_count : (word : List ℕ) (n : ℕ) → begins_count word ≡ true → ParsesUnsigned {E = Unit {0}} 32 10 word (Ok n) → n ≤ 100000 → Some n ≡ count_of word
unfolding value
parsed_count word n lead parses few =
    let p = plain word lead in
    let h : ((list_all is_digit word ≡ true) × (0 < length word) × (value word < 2 ^ 32)) × (n ≡ value word) = parse_plain own {E = Unit {0}} 32 word (Ok n) parses p.unsigned in
    ap Some h.1 ∙ sym (counted word (p.numeral ∙ h.0.0) p.least (omega (arith, h.1, few)))

-- or too much
pub parsed_many : (word : List ℕ) (n : ℕ) → begins_count word ≡ true → ParsesUnsigned {E = Unit {0}} 32 10 word (Ok n) → 100000 < n → None ≡ count_of word
unfolding value
parsed_many word n lead parses many =
    let p = plain word lead in
    let h : ((list_all is_digit word ≡ true) × (0 < length word) × (value word < 2 ^ 32)) × (n ≡ value word) = parse_plain own {E = Unit {0}} 32 word (Ok n) parses p.unsigned in
    sym (not_counted word (λ _. omega (arith, h.1, many)))

-- what parse refuses is no count
pub parsed_none : {E : Type 0} (word : List ℕ) (e : E) → begins_count word ≡ true → ParsesUnsigned {E = E} 32 10 word (Err e) → None ≡ count_of word
unfolding value
parsed_none {E} word e lead parses =
    let p = plain word lead in
    let h : (list_all is_digit word ≡ true) × (0 < length word) × (value word < 2 ^ 32) → ⊥ = parse_plain own {E = E} 32 word (Err e) parses p.unsigned in
    sym (not_counted word (λ is. elim (cases_lt 100000 (value word)) [
      | inl many ↦ many
      | inr few ↦ absurd (h (sym p.numeral ∙ is, p.some, omega (arith, few)))
    ]))

-- ---- commands
counted_if : (b : Bool) (x y : Option Command) → IfSome x IsCounted → IfSome y IsCounted → IfSome (if b then x else y) IsCounted
counted_if true x y p q = p
counted_if false x y p q = q

counted_map : (o : Option ℕ) → IfSome o (λ n. (1 ≤ n) × (n ≤ 100000)) → IfSome (option_map (λ n. command.Gen n) o) IsCounted
counted_map None h = tt
counted_map (Some n) h = h

labelled_map : (o : Option Categories) → IfSome (option_map (λ l. command.Twin l) o) IsCounted
labelled_map None = tt
labelled_map (Some l) = tt

whole_counted : (words : List (List ℕ)) → IfSome (whole_command words) IsCounted
whole_counted [] = tt
whole_counted (word ∷ []) =
    let load = if same_bytes word (codes "load") then Some command.Load else None in
    let save = if same_bytes word (codes "save") then Some command.Save else load in
    let flow = if same_bytes word (codes "flow") then Some command.Flow else save in
    let check = if same_bytes word (codes "check") then Some command.Check else flow in
    counted_if (same_bytes word (codes "run")) (Some command.Run) (if same_bytes word (codes "print") then Some command.Print else check) tt
    (counted_if (same_bytes word (codes "print")) (Some command.Print) check tt
    (counted_if (same_bytes word (codes "check")) (Some command.Check) flow tt
    (counted_if (same_bytes word (codes "flow")) (Some command.Flow) save tt
    (counted_if (same_bytes word (codes "save")) (Some command.Save) load tt (counted_if (same_bytes word (codes "load")) (Some command.Load) None tt tt)))))
whole_counted (word ∷ count ∷ []) =
    let twin = if same_bytes word (codes "twin") then option_map (λ l. command.Twin l) (label_in form.Two count) else None in
    counted_if (same_bytes word (codes "gen")) (option_map (λ n. command.Gen n) (count_of count)) twin (counted_map (count_of count) (number_bounds 1 100000 count))
    (counted_if (same_bytes word (codes "twin")) (option_map (λ l. command.Twin l) (label_in form.Two count)) None (labelled_map (label_in form.Two count)) tt)
whole_counted (word ∷ count ∷ more ∷ words) = tt

-- what the words ask for has a count within bounds
pub command_counted : (words : List (List ℕ)) → IfSome (command_of words) IsCounted
unfolding command_of
command_counted words = whole_counted (left_out words)

pub lanes_counted : (words : List (List ℕ)) → IfSome (lanes_command_of words) IsCounted
lanes_counted words = lanes_only (λ o. IfSome o IsCounted) tt tt words
