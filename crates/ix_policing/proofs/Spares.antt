-- The spare users: each is a name, and no 512 rules name them all.
use Rattle.std.proofs.Common.{◌≡◌, ◌⊎◌, inl, inr, ℕ, zero, suc, ◌+◌, ◌-◌, ◌*◌, ◌/◌, ◌<◌, ◌≤◌, eqb, Bool, true, false, not, ◌&&◌, ◌||◌, cond, List, [], ◌∷◌, ◌++◌, length, map, get_or, Option, Some, None, refl, sym, ap, ◌∙◌, subst, arith, length-append}
use Rattle.std.proofs.lemmas.{Bool.{and_parts, cases_eq, not-true, or_cases, or_left, or_right, eq-eqb, true≢false}, Bool.Decides.nat_tests, Map.Steps.le-length_from_below, List.length-map, List.Folds.list_any-append}
use Rattle.std.specs.{Option.option_map_or, List.list_any, Cmp.Lexicographic.bytes_decides}
use Rattle.ix_model.specs.world.Naming.{same_bytes}
use Rattle.ix_text.specs.{Names.{is_script_name, name_of, may_stand_in_script_name}}
use Rattle.ix_policy.specs.declared.rule.Rule.{Rule}
use Rattle.ix_policing.specs.Unnamed.{digit, free_from, is_free, names, spare, unnamed_user, IsUnnamed}

-- ---- each is a name
digit_stands : (n : ℕ) → may_stand_in_script_name (digit n) ≡ true
digit_stands n = grind (arith, nat_tests)

is_script_name-spare : (n : ℕ) → is_script_name (spare n) ≡ true
unfolding is_script_name spare
is_script_name-spare n = rw (digit_stands (n / 100), digit_stands (n / 10), digit_stands n) refl

name_of-spare : (n : ℕ) → name_of (spare n) ≡ Some (spare n)
unfolding name_of
name_of-spare n = rw (is_script_name-spare n) refl

-- ---- there are many
-- the number of a spare user
number_in : List ℕ → ℕ
number_in text = (get_or text 4 0 - 48) * 100 + (get_or text 5 0 - 48) * 10 + (get_or text 6 0 - 48)

number_in-spare : (n : ℕ) → n < 1000 → number_in (spare n) ≡ n
unfolding number_in spare
number_in-spare n h = omega arith

-- the number of the spare user that a rule names
number_of : Rule → ℕ
number_of r = option_map_or number_in r.user 1000

named_number : (user : Option (List ℕ)) (n : ℕ) → n < 1000 → option_map_or (λ own. same_bytes own (spare n)) user false ≡ true
    → option_map_or number_in user 1000 ≡ n
named_number None n small h = absurd (true≢false (sym h))
named_number (Some own) n small h = ap number_in ((bytes_decides own (spare n)).0 h) ∙ number_in-spare n small

numbers_have : (rules : List Rule) (n : ℕ) → n < 1000 → list_any (names (spare n)) rules ≡ true → list_any (eqb n) (map number_of rules) ≡ true
unfolding number_of
numbers_have [] n small h = absurd (true≢false (sym h))
numbers_have (r ∷ rules) n small h = elim (or_cases (names (spare n) r) (list_any (names (spare n)) rules) h) [
  | inl here ↦ or_left _ _ (eq-eqb n (number_of r) (sym (named_number r.user n small here)))
  | inr later ↦ or_right _ _ (numbers_have rules n small later)
]

-- rules that name the first 513 of them are as many
all_named : (rules : List Rule) → ((k : ℕ) → k < 513 → list_any (names (spare k)) rules ≡ true) → 513 ≤ length rules
all_named rules h =
    let long = le-length_from_below (map number_of rules) 513 (λ k small. numbers_have rules k (omega arith) (h k small)) in
    simp length-map at long

-- two policies of 256 rules don't name them all
one_is_free : (a b : List Rule) → length a ≤ 256 → length b ≤ 256
    → ((k : ℕ) → k < 513 → (list_any (names (spare k)) a || list_any (names (spare k)) b) ≡ true) → ⊥
one_is_free a b few_a few_b h =
    let long = all_named (a ++ b) (λ k small. list_any-append (names (spare k)) a b ∙ h k small) in
    omega (arith, long, length-append a b)

-- ---- the first that is free
free_now : (a b : List Rule) (n more : ℕ) → is_free a b (spare n) ≡ true → free_from a b n (suc more) ≡ spare n
unfolding free_from
free_now a b n more h = ap (λ t. cond t (spare n) (free_from a b (n + 1) more)) h

free_later : (a b : List Rule) (n more : ℕ) → is_free a b (spare n) ≡ false → free_from a b n (suc more) ≡ free_from a b (n + 1) more
unfolding free_from
free_later a b n more h = ap (λ t. cond t (spare n) (free_from a b (n + 1) more)) h

-- what is found of so many from a number on is that one where it is free
pub free_at : (a b : List Rule) (n : ℕ) → n < 512 → is_free a b (spare n) ≡ true → free_from a b n (512 - n) ≡ spare n
free_at a b n small h =
    let e : 512 - n ≡ suc (512 - (n + 1)) = omega arith in
    ap (free_from a b n) e ∙ free_now a b n (512 - (n + 1)) h

-- and else that of one less from the next on
pub free_past : (a b : List Rule) (n : ℕ) → n < 512 → is_free a b (spare n) ≡ false → free_from a b n (512 - n) ≡ free_from a b (n + 1) (512 - (n + 1))
free_past a b n small h =
    let e : 512 - n ≡ suc (512 - (n + 1)) = omega arith in
    ap (free_from a b n) e ∙ free_later a b n (512 - (n + 1)) h

pub free_last : (a b : List Rule) (n : ℕ) → 512 ≤ n → free_from a b n (512 - n) ≡ spare n
unfolding free_from
free_last a b n h =
    let e : 512 - n ≡ 0 = omega arith in
    ap (free_from a b n) e

pub unnamed_from : (a b : List Rule) → unnamed_user a b ≡ free_from a b 0 (512 - 0)
unfolding unnamed_user
unnamed_from a b = refl

-- ---- no rule names it
-- it is a spare user, and free unless each from the number on is named
record IsFound (a b : List Rule) (n more : ℕ) (user : List ℕ) : Type 0 where
  number : ℕ
  is : user ≡ spare number
  free : (is_free a b user ≡ true) ⊎ ((k : ℕ) → n ≤ k → k < n + more + 1 → is_free a b (spare k) ≡ false)

found_last : (a b : List Rule) (n : ℕ) (t : Bool) → is_free a b (spare n) ≡ t → IsFound a b n 0 (spare n)
found_last a b n true h = record { number = n; is = refl; free = inl h }
found_last a b n false h = record {
  number = n;
  is = refl;
  free = inr (λ k from to. let e : n ≡ k = omega (arith, from, to) in ap (λ m. is_free a b (spare m)) (sym e) ∙ h);
}

found_more : (a b : List Rule) (n more : ℕ) (t : Bool) → is_free a b (spare n) ≡ t → IsFound a b (n + 1) more (free_from a b (n + 1) more)
    → IsFound a b n (suc more) (free_from a b n (suc more))
found_more a b n more true h later =
    subst (IsFound a b n (suc more)) (sym (free_now a b n more h)) (record { number = n; is = refl; free = inl h })
found_more a b n more false h later =
    subst (IsFound a b n (suc more)) (sym (free_later a b n more h)) (record {
      number = later.number;
      is = later.is;
      free = elim later.free [
        | inl free ↦ inl free
        | inr none ↦ inr (λ k from to. elim (cases_eq n k) [
          | inl e ↦ ap (λ m. is_free a b (spare m)) (sym e) ∙ h
          | inr apart ↦ none k (omega (arith, from, apart)) (omega (arith, to))
        ])
      ];
    })

found : (a b : List Rule) (n more : ℕ) → IsFound a b n more (free_from a b n more)
unfolding free_from
found a b n zero = found_last a b n (is_free a b (spare n)) refl
found a b n (suc more) = found_more a b n more (is_free a b (spare n)) refl (found a b (n + 1) more)

named_by : (x y : Bool) → (not x && not y) ≡ false → (x || y) ≡ true
named_by true y h = refl
named_by false true h = refl
named_by false false h = absurd (true≢false h)

free_of : (a b : List Rule) → length a ≤ 256 → length b ≤ 256 → is_free a b (unnamed_user a b) ≡ true
unfolding unnamed_user
free_of a b few_a few_b = elim (found a b 0 512).free [
  | inl free ↦ free
  | inr none ↦
      absurd (one_is_free a b few_a few_b (λ k small. named_by (list_any (names (spare k)) a) (list_any (names (spare k)) b) (none k (omega arith) (omega (arith, small)))))
]

-- no rule of the two policies names the user that stands for all others
pub first_unnamed : (a b : List Rule) → length a ≤ 256 → length b ≤ 256 → IsUnnamed (unnamed_user a b) a
first_unnamed a b few_a few_b =
    not-true (list_any (names (unnamed_user a b)) a)
    (and_parts (not (list_any (names (unnamed_user a b)) a)) (not (list_any (names (unnamed_user a b)) b)) (free_of a b few_a few_b)).0

pub second_unnamed : (a b : List Rule) → length a ≤ 256 → length b ≤ 256 → IsUnnamed (unnamed_user a b) b
second_unnamed a b few_a few_b =
    not-true (list_any (names (unnamed_user a b)) b)
    (and_parts (not (list_any (names (unnamed_user a b)) a)) (not (list_any (names (unnamed_user a b)) b)) (free_of a b few_a few_b)).1

-- it has a name of scripts
pub unnamed_is_name : (a b : List Rule) → is_script_name (unnamed_user a b) ≡ true
unfolding unnamed_user
unnamed_is_name a b = ap is_script_name (found a b 0 512).is ∙ is_script_name-spare (found a b 0 512).number

-- the text that spells a spare user
pub spelled : (n a b d : ℕ) → a ≡ digit (n / 100) → b ≡ digit (n / 10) → d ≡ digit n
    → name_of (117 ∷ 115 ∷ 101 ∷ 114 ∷ a ∷ b ∷ d ∷ []) ≡ Some (spare n)
unfolding spare
spelled n a b d h k l = (λ i. name_of (117 ∷ 115 ∷ 101 ∷ 114 ∷ h i ∷ k i ∷ l i ∷ [])) ∙ name_of-spare n
