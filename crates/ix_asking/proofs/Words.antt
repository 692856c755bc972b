-- Texts that begin with a word, or are a front of it.
use Rattle.std.proofs.Common.{◌≡◌, ℕ, nat_eq, Bool, true, false, cond, List, [], ◌∷◌, ◌++◌, length, take, drop, Some, None, refl, ap, ◌∙◌, arith, ◌⊎◌, inl, inr}
use Rattle.std.proofs.lemmas.Bool.{and_parts, and_from, Decides.nat_tests}
use Rattle.ix_model.specs.world.Naming.{same_bytes}
use Rattle.ix_asking.specs.serving.Messages.{after_word, is_front_of}

pub same_first : (a b : ℕ) (x y : List ℕ) → a ∷ x ≡ b ∷ y → a ≡ b
same_first a b x y e = cc

same_rest : (a b : ℕ) (x y : List ℕ) → a ∷ x ≡ b ∷ y → x ≡ y
same_rest a b x y e = cc

from_test : (a b : ℕ) → nat_eq a b ≡ true → a ≡ b
from_test a b e = grind (arith, nat_tests)

to_test : (a b : ℕ) → a ≡ b → nat_eq a b ≡ true
to_test a b e = grind (arith, nat_tests)

-- ---- what stands after a word
begins_with : (word text : List ℕ) → same_bytes (take (length word) text) word ≡ true → text ≡ word ++ drop (length word) text
begins_with [] text h = refl
begins_with (w ∷ word) [] h = cc
begins_with (w ∷ word) (b ∷ text) h =
    let two = and_parts (nat_eq b w) (same_bytes (take (length word) text) word) h in
    let same : b ≡ w = from_test b w two.0 in
    let rest = begins_with word text two.1 in
    cc

begins_so : (word rest : List ℕ) → same_bytes (take (length word) (word ++ rest)) word ≡ true
begins_so [] rest = refl
begins_so (w ∷ word) rest = and_from (nat_eq w w) (same_bytes (take (length word) (word ++ rest)) word) (to_test w w refl) (begins_so word rest)

rest_so : (word rest : List ℕ) → drop (length word) (word ++ rest) ≡ rest
rest_so [] rest = refl
rest_so (w ∷ word) rest = rest_so word rest

after_step : (word text rest : List ℕ) (v : Bool) → same_bytes (take (length word) text) word ≡ v → cond v (Some (drop (length word) text)) None ≡ Some rest → text ≡ word ++ rest
after_step word text rest true h e = let same : drop (length word) text ≡ rest = cc in begins_with word text h ∙ ap (λ t. word ++ t) same
after_step word text rest false h e = cc

pub after-is : (word text rest : List ℕ) → after_word word text ≡ Some rest → text ≡ word ++ rest
after-is word text rest e = after_step word text rest (same_bytes (take (length word) text) word) refl e

pub after-word : (word rest : List ℕ) → after_word word (word ++ rest) ≡ Some rest
after-word word rest = rw (begins_so word rest) (ap Some (rest_so word rest))

-- ---- fronts of a word
pub front-ends : (word text : List ℕ) → is_front_of word text ≡ true → (rest : List ℕ) × (text ++ rest ≡ word)
front-ends word [] h = (word, refl)
front-ends [] (b ∷ text) h = cc
front-ends (w ∷ word) (b ∷ text) h =
    let two = and_parts (nat_eq b w) (same_bytes text (take (length text) word)) h in
    let same : b ≡ w = from_test b w two.0 in
    let more = front-ends word text two.1 in
    let rest = more.1 in
    (more.0, cc)

-- the word itself is one
pub front-self : (word : List ℕ) → is_front_of word (word ++ []) ≡ true
front-self [] = refl
front-self (w ∷ word) =
    and_from (nat_eq w w) (same_bytes (word ++ []) (take (length (word ++ [])) word)) (to_test w w refl) (front-self word)

-- a front of what begins with a word is a front of the word, or goes on after it
pub front-splits : (word text rest more : List ℕ) → text ++ rest ≡ word ++ more
    → (is_front_of word text ≡ true) ⊎ ((t : List ℕ) × (text ≡ word ++ t) × (t ++ rest ≡ more))
front-splits [] text rest more e = inr (text, refl, e)
front-splits (w ∷ word) [] rest more e = inl refl
front-splits (w ∷ word) (b ∷ text) rest more e =
    let same : b ≡ w = same_first _ _ _ _ e in
    elim (front-splits word text rest more (same_rest _ _ _ _ e)) [
      | inl front ↦ inl (and_from (nat_eq b w) (same_bytes text (take (length text) word)) (to_test b w same) front)
      | inr after ↦ inr (after.0, (let is = after.1 in cc), after.2)
    ]
