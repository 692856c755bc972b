-- Fronts of users' names.
use Rattle.std.proofs.Common.{◌≡◌, ℕ, ◌+◌, nat_le, Bool, true, false, not, ◌&&◌, ◌||◌, List, [], ◌∷◌, ◌++◌, length, codes, refl, ap, sym, ◌∙◌, arith, subst}
use Rattle.std.proofs.Common.{◌⊎◌, inl, inr, length-append}
use Rattle.std.specs.{List.list_all, Cmp.Lexicographic.bytes_decides}
use Rattle.std.proofs.lemmas.{Bool.{and_parts, and_from, or_cases, Decides.nat_tests}, List.Folds.list_all-append}
use Rattle.ix_model.specs.world.Naming.{same_bytes}
use Rattle.ix_text.specs.{Bytes.is_letter, Names.{is_reserved, is_script_name, may_stand_in_script_name}}

-- what a name that has a byte passes
pub record Tests (b : ℕ) (word : List ℕ) : Type 0 where
  pub letter : is_letter b ≡ true
  pub few : nat_le (length (b ∷ word)) 16 ≡ true
  pub all : list_all may_stand_in_script_name (b ∷ word) ≡ true

tests : (b : ℕ) (word : List ℕ) → is_script_name (b ∷ word) ≡ true → Tests b word
unfolding is_script_name
tests b word h =
    let own = and_parts (is_letter b && nat_le (length (b ∷ word)) 16 && list_all may_stand_in_script_name (b ∷ word)) (not (is_reserved (b ∷ word))) h in
    let all = and_parts (is_letter b && nat_le (length (b ∷ word)) 16) (list_all may_stand_in_script_name (b ∷ word)) own.0 in
    let few = and_parts (is_letter b) (nat_le (length (b ∷ word)) 16) all.0 in
    record { letter = few.0; few = few.1; all = all.1 }

from_tests : (b : ℕ) (word : List ℕ) → Tests b word → is_reserved (b ∷ word) ≡ false → is_script_name (b ∷ word) ≡ true
unfolding is_script_name
from_tests b word t own =
    and_from (is_letter b && nat_le (length (b ∷ word)) 16 && list_all may_stand_in_script_name (b ∷ word)) (not (is_reserved (b ∷ word)))
    (and_from (is_letter b && nat_le (length (b ∷ word)) 16) (list_all may_stand_in_script_name (b ∷ word))
    (and_from (is_letter b) (nat_le (length (b ∷ word)) 16) t.letter t.few) t.all) (ap not own)

fewer : (b : ℕ) (word rest : List ℕ) → nat_le (length (b ∷ (word ++ rest))) 16 ≡ true → nat_le (length (b ∷ word)) 16 ≡ true
fewer b word rest h =
    let long : length (word ++ rest) ≡ length word + length rest = length-append word rest in
    grind (arith, nat_tests)

front_tests : (b : ℕ) (word rest : List ℕ) → Tests b (word ++ rest) → Tests b word
front_tests b word rest t = record {
  letter = t.letter;
  few = fewer b word rest t.few;
  all = (and_parts (list_all may_stand_in_script_name (b ∷ word)) (list_all may_stand_in_script_name rest)
      (sym (list_all-append may_stand_in_script_name (b ∷ word) rest) ∙ t.all)).0;
}

own_or_not : (b : ℕ) (word : List ℕ) (v : Bool) → is_reserved (b ∷ word) ≡ v → Tests b word → (is_script_name (b ∷ word) ≡ true) ⊎ (is_reserved (b ∷ word) ≡ true)
own_or_not b word true h t = inr h
own_or_not b word false h t = inl (from_tests b word t h)

-- what a name begins with is nothing, a name, or a word that is none
pub name-front : (word rest : List ℕ) → is_script_name (word ++ rest) ≡ true → (word ≡ []) ⊎ ((is_script_name word ≡ true) ⊎ (is_reserved word ≡ true))
name-front [] rest h = inl refl
name-front (b ∷ word) rest h = inr (own_or_not b word (is_reserved (b ∷ word)) refl (front_tests b word rest (tests b (word ++ rest) h)))

-- such a word begins a name
a_name : (text : List ℕ) → (text ≡ codes "alla") ⊎ ((text ≡ codes "nonea") ⊎ (text ≡ codes "asa")) → is_script_name text ≡ true
unfolding is_script_name
a_name text (inl h) = subst (λ t. is_script_name t ≡ true) (sym h) refl
a_name text (inr (inl h)) = subst (λ t. is_script_name t ≡ true) (sym h) refl
a_name text (inr (inr h)) = subst (λ t. is_script_name t ≡ true) (sym h) refl

with_a : (word text : List ℕ) → same_bytes word text ≡ true → word ++ codes "a" ≡ text ++ codes "a"
with_a word text h = ap (λ t. t ++ codes "a") ((bytes_decides word text).0 h)

pub reserved-begins : (word : List ℕ) → is_reserved word ≡ true → is_script_name (word ++ codes "a") ≡ true
reserved-begins word h =
    a_name (word ++ codes "a") (elim (or_cases (same_bytes word (codes "all") || same_bytes word (codes "none")) (same_bytes word (codes "as")) h) [
      | inl two ↦ elim (or_cases (same_bytes word (codes "all")) (same_bytes word (codes "none")) two) [
        | inl one ↦ inl (with_a word (codes "all") one)
        | inr one ↦ inr (inl (with_a word (codes "none") one))
      ]
      | inr one ↦ inr (inr (with_a word (codes "as") one))
    ])

pub a-name : is_script_name (codes "a") ≡ true
unfolding is_script_name
a-name = refl
