-- Fronts of words for sets of privileges.
use Rattle.std.proofs.Common.{◌≡◌, ℕ, ◌+◌, ◌==◌, Bool, true, false, cond, List, [], ◌∷◌, ◌++◌, Option, Some, None, option_map, refl, codes, subst, ◌⊎◌, inl}
use Rattle.std.proofs.Common.{inr}
use Rattle.std.specs.Cmp.Lexicographic.{bytes_decides}
use Rattle.ix_model.specs.{world.Naming.same_bytes, declared.privs.PrivSet.PrivSet}
use Rattle.ix_text.specs.{Bytes.is_empty, Privs.{bits_from, privs_of}, Spellings.letters}
use Rattle.ix_asking.proofs.Words.{same_first}
use Rattle.ix_privserv.specs.Messages.{set_of}

none_left : (bits : ℕ) (ls : List (ℕ × ℕ)) → bits_from bits ls [] ≡ Some bits
none_left bits [] = refl
none_left bits ((letter, bit) ∷ ls) = none_left bits ls

-- a front of letters in their order is letters in their order
front_step : (b letter bit bits n : ℕ) (ls : List (ℕ × ℕ)) (word rest : List ℕ) (v : Bool)
    → cond v (bits_from (bits + bit) ls (word ++ rest)) (bits_from bits ls (b ∷ (word ++ rest))) ≡ Some n
    → (bits_from (bits + bit) ls (word ++ rest) ≡ Some n → (m : ℕ) × (bits_from (bits + bit) ls word ≡ Some m))
    → (bits_from bits ls (b ∷ (word ++ rest)) ≡ Some n → (m : ℕ) × (bits_from bits ls (b ∷ word) ≡ Some m))
    → (m : ℕ) × (cond v (bits_from (bits + bit) ls word) (bits_from bits ls (b ∷ word)) ≡ Some m)
front_step b letter bit bits n ls word rest true e one other = one e
front_step b letter bit bits n ls word rest false e one other = other e

letters_front : (bits n : ℕ) (ls : List (ℕ × ℕ)) (word rest : List ℕ) → bits_from bits ls (word ++ rest) ≡ Some n → (m : ℕ) × (bits_from bits ls word ≡ Some m)
letters_front bits n ls [] rest e = (bits, none_left bits ls)
letters_front bits n [] (b ∷ word) rest e = cc
letters_front bits n ((letter, bit) ∷ ls) (b ∷ word) rest e =
    front_step b letter bit bits n ls word rest (b == letter) e (letters_front (bits + bit) n ls word rest) (letters_front bits n ls (b ∷ word) rest)

-- ---- words for sets
letters_step : (dash none : Bool) (o : Option ℕ) (some set : PrivSet) → (dash ≡ true → ⊥)
    → cond dash (Some some) (cond none None (option_map (λ bits. let s : PrivSet = record { 0 = bits } in s) o)) ≡ Some set → (n : ℕ) × (o ≡ Some n)
letters_step true none o some set differs e = absurd (differs refl)
letters_step false true o some set differs e = cc
letters_step false false None some set differs e = cc
letters_step false false (Some n) some set differs e = (n, refl)

-- a word for a set other than `-` is letters
letters_of : (word : List ℕ) (set : PrivSet) → (word ≡ codes "-" → ⊥) → privs_of word ≡ Some set → (n : ℕ) × (bits_from 0 letters word ≡ Some n)
unfolding privs_of
letters_of word set differs e =
    letters_step (same_bytes word (codes "-")) (is_empty word) (bits_from 0 letters word) _ set (λ h. differs ((bytes_decides word (codes "-")).0 h)) e

no_dash : (b n : ℕ) (word rest : List ℕ) (v : Bool) → same_bytes (b ∷ word) (codes "-") ≡ v → bits_from 0 letters (b ∷ (word ++ rest)) ≡ Some n
    → same_bytes (b ∷ word) (codes "-") ≡ false
no_dash b n word rest false h e = h
no_dash b n word rest true h e =
    let same : b ≡ 45 = same_first b 45 word [] ((bytes_decides (b ∷ word) (codes "-")).0 h) in
    let wrong : bits_from 0 letters (45 ∷ (word ++ rest)) ≡ Some n = subst (λ c. bits_from 0 letters (c ∷ (word ++ rest)) ≡ Some n) same e in
    cc

letters_set : (b n : ℕ) (word : List ℕ) → same_bytes (b ∷ word) (codes "-") ≡ false → bits_from 0 letters (b ∷ word) ≡ Some n → set_of (b ∷ word) ≡ Some (record { 0 = n })
unfolding privs_of
letters_set b n word differs e = rw (differs, e) refl

-- so is what such a word begins with, unless it is nothing
pub set-front : (word rest : List ℕ) (set : PrivSet) → (word ++ rest ≡ codes "-" → ⊥) → privs_of (word ++ rest) ≡ Some set
    → (word ≡ []) ⊎ ((s : PrivSet) × (set_of word ≡ Some s))
set-front [] rest set differs e = inl refl
set-front (b ∷ word) rest set differs e =
    let all = letters_of (b ∷ (word ++ rest)) set differs e in
    let front = letters_front 0 all.0 letters (b ∷ word) rest all.1 in
    inr (record { 0 = front.0 }, letters_set b front.0 word (no_dash b all.0 word rest (same_bytes (b ∷ word) (codes "-")) refl all.1) front.1)
