-- What a text, and its words, without a fault are.
use Rattle.std.proofs.Common.{◌≡◌, ℕ, ◌≤◌, Bool, true, false, not, ◌||◌, nat_lt, cond, List, [], ◌∷◌, ◌++◌, length, Some, None, refl, sym, ap, ◌∙◌}
use Rattle.std.specs.{List.{list_all, list_any}, Option.{option_map_or, is_none}}
use Rattle.std.proofs.lemmas.{Bool.{not-false, ltb-false, le-ltb, or_parts, or_from}, List.Folds.list_any-append, Option.none-some}
use Rattle.ix_model.specs.opening.Valid.{is_within}
use Rattle.ix_script.specs.{texts.{Cutting.is_open, Payloads.payload_of}, lines.Kinds.{Kind, Place, first_broken, places_fault}}
use Rattle.ix_script.specs.lines.{Rules.{first_of, is_too_long, is_unprintable, has_empty_word, has_open_quote}, Faults.{text_fault, words_fault}}
use Rattle.ix_text.specs.Bytes.{is_empty}
use Rattle.ix_script.specs.lines.Kinds as kind

-- no rule of a list is broken
pub one_kept : (m : ℕ) (a : Bool) (rules : List (ℕ × Bool)) → first_of ((m, a) ∷ rules) ≡ None → (a ≡ false) × (first_of rules ≡ None)
one_kept m true rules h = absurd (none-some m (sym h))
one_kept m false rules h = (refl, h)

-- ---- texts
pub text_parts : (text : List ℕ) → text_fault text ≡ None → (length text ≤ 65536) × (list_all (is_within 32 126) text ≡ true)
unfolding text_fault is_too_long is_unprintable
text_parts text h =
    let p = one_kept 2 _ ((3, not _) ∷ []) h in
    let q = one_kept 3 _ [] p.1 in
    (ltb-false 65536 _ p.0, not-false _ q.0)

pub text_from : (text : List ℕ) → length text ≤ 65536 → list_all (is_within 32 126) text ≡ true → text_fault text ≡ None
unfolding text_fault is_too_long is_unprintable
text_from text short printable = rw (le-ltb, printable) refl

-- ---- words
pub words_parts : (words : List (List ℕ)) → words_fault words ≡ None → (list_any is_empty words ≡ false) × (list_any is_open words ≡ false)
unfolding words_fault has_empty_word has_open_quote
words_parts words h =
    let p = one_kept 4 _ ((5, list_any is_open words) ∷ []) h in
    let q = one_kept 5 _ [] p.1 in
    (p.0, q.0)

pub words_from_parts : (words : List (List ℕ)) → list_any is_empty words ≡ false → list_any is_open words ≡ false → words_fault words ≡ None
unfolding words_fault has_empty_word has_open_quote
words_from_parts words some closed = rw (some, closed) refl

-- another last word
other_last : (test : List ℕ → Bool) (front : List (List ℕ)) (p q : List ℕ) → list_any test (front ++ p ∷ []) ≡ false → test q ≡ false → list_any test (front ++ q ∷ []) ≡ false
other_last test front p q h last =
    let parts = or_parts _ _ (sym (list_any-append test front _) ∙ h) in
    list_any-append test front _ ∙ or_from _ _ parts.0 (or_from _ false last refl)

pub words_again : (front : List (List ℕ)) (p q : List ℕ) → words_fault (front ++ p ∷ []) ≡ None → is_empty q ≡ false → is_open q ≡ false → words_fault (front ++ q ∷ []) ≡ None
words_again front p q h some closed =
    let parts = words_parts _ h in
    words_from_parts _ (other_last is_empty front p q parts.0 some) (other_last is_open front p q parts.1 closed)

-- ---- places
-- whether the rules say the same of two words at such a place
abbrev Agree : List (ℕ × (Kind → List ℕ → Bool)) → Kind → List ℕ → List ℕ → Type 0
Agree [] k p q = Unit
Agree (rule ∷ rules) k p q = (rule.1 k p ≡ rule.1 k q) × Agree rules k p q

last_place : (test : Kind → List ℕ → Bool) (places : List Place) (k : Kind) (p q : List ℕ) → test k p ≡ test k q
    → list_any (λ (z : Place). test z.0 z.1) (places ++ (k, p) ∷ []) ≡ list_any (λ (z : Place). test z.0 z.1) (places ++ (k, q) ∷ [])
last_place test [] k p q h = ap (λ b. b || false) h
last_place test (place ∷ places) k p q h = ap (λ b. test place.0 place.1 || b) (last_place _ places k p q h)

alike : (rules : List (ℕ × (Kind → List ℕ → Bool))) (places : List Place) (k : Kind) (p q : List ℕ) → Agree rules k p q
    → first_broken rules (places ++ (k, p) ∷ []) ≡ first_broken rules (places ++ (k, q) ∷ [])
unfolding first_broken
alike [] places k p q h = refl
alike ((n, test) ∷ rules) places k p q h = ap (λ b. cond b (Some n) (first_broken rules (places ++ (k, p) ∷ []))) (last_place test places k p q h.0)
    ∙ ap (λ o. cond (list_any (λ z. test z.0 z.1) (places ++ (k, q) ∷ [])) (Some n) o) (alike rules places k p q h.1)

-- two spellings of a payload break the same rules
pub payload_alike : (places : List Place) (most : ℕ) (p q : List ℕ) → payload_of p ≡ payload_of q → places_fault (places ++ (kind.Payload most, p) ∷ [])
    ≡ places_fault (places ++ (kind.Payload most, q) ∷ [])
unfolding places_fault
payload_alike places most p q h = alike _ _ _ p q
    (refl, (refl, (refl, (refl, (refl, (refl, (refl, (ap is_none h, (ap (λ o. option_map_or (λ bytes. nat_lt most (length bytes)) o false) h, tt)))))))))
