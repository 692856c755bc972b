-- Cutting the first line off, by the match of a line feed.
use Rattle.std.proofs.Common.{◌≡◌, ℕ, zero, suc, ◌+◌, ◌<◌, ◌≤◌, ◌==◌, nat_le, Bool, true, false, ◌&&◌, ◌||◌, cond, List, [], ◌∷◌, length, take, drop, Option}
use Rattle.std.proofs.Common.{Some, None, option_map, refl, sym, ap, ◌∙◌, arith, add-one, add-zero, inl, inr}
use Rattle.std.{specs.{Option.option_map_or, List.list_all}, proofs.lemmas.Bool.{cases_eq, eq-eqb, ne_eqb, le-leb, Decides.nat_tests}}
use Rattle.ix_model.specs.{opening.Valid.is_within, world.Texts.with_front}
use Rattle.ix_text.proofs.Tests.{both}
use Rattle.ix_script.specs.{reader.Readers.in_printable_lines, texts.Lines.cut}
use Rattle.bstr.specs.Find.{first_of, matches_from, matches, occurs_at}

-- the place of the first line feed
abbrev feed_in : List ℕ → Option ℕ
feed_in [] = None
feed_in (b ∷ bytes) = cond (b == 10) (Some 0) (option_map suc (feed_in bytes))

abbrev cut_by : List ℕ → Option ℕ → List (List ℕ)
cut_by bytes feed = option_map_or (λ k. take k bytes ∷ cut (drop (k + 1) bytes)) feed (bytes ∷ [])

later : (b : ℕ) (bytes : List ℕ) (feed : Option ℕ) → with_front b (cut_by bytes feed) ≡ cut_by (b ∷ bytes) (option_map suc feed)
later b bytes None = refl
later b bytes (Some k) = rw (add-one, add-one) refl

cut_feed : (b : ℕ) (bytes : List ℕ) → cut (b ∷ bytes) ≡ cut_by (b ∷ bytes) (feed_in (b ∷ bytes))
unfolding cut
cut_feed b [] = elim (b == 10) as (λ t. cond t ([] ∷ []) ((b ∷ []) ∷ []) ≡ cut_by (b ∷ []) (cond t (Some 0) None)) [ true ↦ refl | false ↦ refl ]
cut_feed b (c ∷ bytes) =
    elim (b == 10) as (λ t. cond t ([] ∷ cut (c ∷ bytes)) (with_front b (cut (c ∷ bytes))) ≡ cut_by (b ∷ c ∷ bytes) (cond t (Some 0) (option_map suc (feed_in (c ∷ bytes))))) [
      | true ↦ refl
      | false ↦ ap (with_front b) (cut_feed c bytes) ∙ later b _ _
    ]

shifted : (i : ℕ) (feed : Option ℕ) → option_map (λ k. (i + 1) + k) feed ≡ option_map (λ k. i + k) (option_map suc feed)
shifted i None = refl
shifted i (Some k) = ap (λ n. Some n) (omega arith)

occurs_past : (bytes : List ℕ) (i : ℕ) → i ≡ length bytes → occurs_at bytes (10 ∷ []) i ≡ false
occurs_past bytes i e = let past : nat_le (i + 1) (length bytes) ≡ false = grind (arith, nat_tests) in rw past refl

and_true : (b : Bool) → (b && true) ≡ b
and_true true = refl
and_true false = refl

occurs_here : (bytes rest : List ℕ) (b i : ℕ) → drop i bytes ≡ b ∷ rest → i + 1 ≤ length bytes → occurs_at bytes (10 ∷ []) i ≡ (b == 10)
occurs_here bytes rest b i e low = rw (le-leb, e) (and_true _)

next_drop : (bytes rest : List ℕ) (b i : ℕ) → drop i bytes ≡ b ∷ rest → drop (i + 1) bytes ≡ rest
next_drop [] rest b zero e = cc
next_drop [] rest b (suc i) e = cc
next_drop (c ∷ bytes) rest b zero e = let same : bytes ≡ rest = cc in same
next_drop (c ∷ bytes) rest b (suc i) e = rw (add-one) (let k = next_drop _ _ b i e in rw (add-one) at k)

found_from : (bytes rest : List ℕ) (i : ℕ) → drop i bytes ≡ rest → i + length rest ≡ length bytes
    → first_of (matches_from bytes (10 ∷ []) 0 i (suc (length rest))) ≡ option_map (λ k. i + k) (feed_in rest)
unfolding matches_from first_of
found_from bytes [] i e long = rw (occurs_past bytes i (omega arith)) refl
found_from bytes (b ∷ rest) i e long =
    let here = occurs_here _ _ b i e (omega arith) in
    elim (cases_eq b 10) [
      | inl t ↦ rw (here, eq-eqb) (ap (λ n. Some n) (sym (add-zero i)))
      | inr ne ↦ rw (here, ne_eqb) (found_from _ rest _ (next_drop _ _ b i e) (omega arith) ∙ shifted i _)
    ]

from_start : (feed : Option ℕ) → option_map (λ k. 0 + k) feed ≡ feed
from_start None = refl
from_start (Some k) = ap (λ n. Some n) (omega arith)

found : (bytes : List ℕ) → first_of (matches bytes (10 ∷ []) 0) ≡ feed_in bytes
found bytes =
    let long : length bytes + 1 ≡ suc (length bytes) = omega arith in
    ap (λ n. first_of (matches_from bytes (10 ∷ []) 0 0 n)) (omega arith) ∙ found_from _ _ 0 refl (omega arith) ∙ from_start _

pub feed_at : (bytes : List ℕ) (k : ℕ) → 0 < length bytes → first_of (matches bytes (10 ∷ []) 0) ≡ Some k → cut bytes ≡ take k bytes ∷ cut (drop (k + 1) bytes)
feed_at [] k some h = absurd (omega arith)
feed_at (b ∷ bytes) k some h = cut_feed b _ ∙ ap (cut_by (b ∷ bytes)) (sym (found _) ∙ h)

pub no_feed : (bytes : List ℕ) → 0 < length bytes → first_of (matches bytes (10 ∷ []) 0) ≡ None → cut bytes ≡ bytes ∷ []
no_feed [] some h = absurd (omega arith)
no_feed (b ∷ bytes) some h = cut_feed b _ ∙ ap (cut_by (b ∷ bytes)) (sym (found _) ∙ h)

-- ---- inputs whose lines are printable
printable_front : (b : ℕ) (lines : List (List ℕ)) → is_within 32 126 b ≡ true → list_all (list_all (is_within 32 126)) lines ≡ true → list_all (list_all (is_within 32 126)) (with_front b lines) ≡ true
printable_front b [] h k = rw h refl
printable_front b (l ∷ lines) h k = rw h k

pub cut_printable : (bytes : List ℕ) → list_all in_printable_lines bytes ≡ true → list_all (list_all (is_within 32 126)) (cut bytes) ≡ true
unfolding cut
cut_printable [] h = refl
cut_printable (b ∷ bytes) h =
    let parts = both (in_printable_lines b) (list_all in_printable_lines bytes) h in
    let later = cut_printable bytes parts.1 in
    elim (b == 10) as (λ t. (is_within 32 126 b || t) ≡ true → list_all (list_all (is_within 32 126)) (cond t ([] ∷ cut bytes) (with_front b (cut bytes))) ≡ true) [
      | true ↦ λ q. later
      | false ↦ λ q. printable_front b (cut bytes) (or_false _ q) later
    ] parts.0
  where
    or_false : (t : Bool) → (t || false) ≡ true → t ≡ true
    or_false true q = refl
    or_false false q = cc

pub first_printable : (rest text : List ℕ) (lines : List (List ℕ)) → cut rest ≡ text ∷ lines → list_all (list_all (is_within 32 126))
    (cut rest) ≡ true → (list_all (is_within 32 126) text ≡ true) × (list_all (list_all (is_within 32 126)) lines ≡ true)
first_printable rest text lines first h = both (list_all _ text) (list_all _ lines) (rw first at h)
