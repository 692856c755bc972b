-- Reading a payload piece by piece, as loops do.
use mir.Val.{bool_byte}
use Rattle.std.proofs.Common.{◌≡◌, ℕ, zero, suc, ◌+◌, ◌*◌, ◌/◌, inl, inr, ◌<◌, ◌≤◌, ◌==◌, Bool, true, false, ◌&&◌, List, [], ◌∷◌, ◌++◌, length, drop, get_or, Option}
use Rattle.std.proofs.Common.{Some, None, refl, sym, ◌∙◌, ap, append_assoc, arith, IsSome, unwrap_or, subst, Result, Ok, Err, add-one, drop-cons, length-drop, length-append}
use Rattle.std.{specs.{Prelude.is_some, Result.IsOk, List.list_all}, proofs.lemmas.{Option.none-some, Bool.{and_parts, cases_Bool, eqb-true, le-ltb, leb-true}, List.{append-nil, drop_all}}}
use Rattle.ix_text.specs.Bytes.{begins, is_empty}
use Rattle.ix_script.specs.texts.Payloads.{◌>>=◌, digit_of, pair_of, pairs_of, after_bytes, bytes_of, escape_step, ends, quoted_from, payload_of}
use Rattle.ix_script.specs.{lines.Said.{payload_within, within}, texts.{PayloadBytes.{bytes_in, IsPayload}, Spelled.{HasCount, SpellsRight, Spells, spelling_fault}}, reader.Readers.Refuses}
use Rattle.ix_script.{specs.declared.{fail.Rule.Rule, payload.{Spelling.Spelling, Escape.Escape}}, proofs.texts.{Decoding.pairs_twice, Pieces.last_place}}

-- what isn't well formed breaks that rule, however much may stand
pub no_spelling : (most : ℕ) (meaning : Option (List ℕ)) → meaning ≡ None → spelling_fault most meaning ≡ Some 18
unfolding spelling_fault
no_spelling most meaning h = rw h refl

-- so many bytes stand before the rest, which with them is all; there were no fewer
pub record Counted (n total left : ℕ) (rest all : Option (List ℕ)) : Type 0 where
  pub front : List ℕ
  pub whole : after_bytes front rest ≡ all
  pub count : n ≡ length front
  pub few : n + left ≤ total

-- the bytes that were read with one are none or one
pub bytes_counted : (k : ℕ) (b : Bool) (byte : Option ℕ) → k ≡ bool_byte b → b ≡ is_some byte → k ≡ length (bytes_of byte)
bytes_counted k b None h e = h ∙ ap bool_byte e
bytes_counted k b (Some x) h e = h ∙ ap bool_byte e

regroup : (front mid : List ℕ) (more : Option (List ℕ)) → after_bytes front (after_bytes mid more) ≡ after_bytes (front ++ mid) more
regroup front mid None = refl
regroup front mid (Some more) = ap (λ bytes. Some bytes) (sym (append_assoc front mid more))

-- ---- pairs of digits
abbrev is_hex : ℕ → Bool
is_hex b = is_some (digit_of b)

both_some : (o p : Option ℕ) → is_some o ≡ true → is_some p ≡ true → (byte : ℕ) × ((o >>= λ high. (p >>= λ low. Some (high * 16 + low))) ≡ Some byte)
both_some None p h k = let e = h in absurd (cc)
both_some (Some x) None h k = let e = k in absurd (cc)
both_some (Some x) (Some y) h k = (x * 16 + y, refl)

none_is : (o : Option ℕ) → is_some o ≡ false → o ≡ None
none_is None h = refl
none_is (Some x) h = let k = h in absurd (cc)

none_then : (o : Option ℕ) → (o >>= λ byte. after_bytes (byte ∷ []) None) ≡ None
none_then None = refl
none_then (Some x) = refl

no_low : (o p : Option ℕ) → p ≡ None → (o >>= λ high. (p >>= λ low. Some (high * 16 + low))) ≡ None
no_low None p h = refl
no_low (Some x) p h = rw h refl

two_digits_are : (a b : ℕ) → is_hex a ≡ true → is_hex b ≡ true → (byte : ℕ) × (pair_of a b ≡ Some byte)
unfolding pair_of
two_digits_are a b ha hb = both_some _ _ ha hb

no_high_digit : (a b : ℕ) → is_hex a ≡ false → pair_of a b ≡ None
unfolding pair_of
no_high_digit a b h = rw (none_is (digit_of a) h) refl

no_low_digit : (a b : ℕ) → is_hex b ≡ false → pair_of a b ≡ None
unfolding pair_of
no_low_digit a b h = no_low _ _ (none_is _ h)

one_of_three : (X : Type 0) (p q r : Bool) → (p && (q && r)) ≡ false → (p ≡ false → X) → (q ≡ false → X) → (r ≡ false → X) → X
one_of_three X false q r h f g k = f refl
one_of_three X true false r h f g k = g refl
one_of_three X true true r h f g k = k h

pub pairs_odd : (n : ℕ) (text : List ℕ) → length text ≡ n * 2 + 1 → pairs_of text ≡ None
unfolding pairs_of
pairs_odd n [] h = absurd (omega arith)
pairs_odd n (a ∷ []) h = refl
pairs_odd zero (a ∷ b ∷ text) h = absurd (omega arith)
pairs_odd (suc n) (a ∷ b ∷ text) h = rw (pairs_odd n text (omega arith)) (none_then _)

pub pairs_bad : (text : List ℕ) → list_all is_hex text ≡ false → pairs_of text ≡ None
unfolding pairs_of
pairs_bad [] h = let k = h in absurd (cc)
pairs_bad (a ∷ []) h = refl
pairs_bad (a ∷ b ∷ text) h = one_of_three _ _ _ _ h (λ e. rw (no_high_digit a b e) refl) (λ e. rw (no_low_digit a b e) refl)
    (λ e. rw (pairs_bad text e) (none_then _))

pub pairs_even : (n : ℕ) (text : List ℕ) → length text ≡ n * 2 → list_all is_hex text ≡ true → HasCount n (pairs_of text)
unfolding pairs_of
pairs_even zero [] h d = record { bytes = []; spelled = refl; count = refl }
pairs_even zero (a ∷ text) h d = absurd (omega arith)
pairs_even (suc n) [] h d = absurd (omega arith)
pairs_even (suc n) (a ∷ []) h d = absurd (omega arith)
pairs_even (suc n) (a ∷ b ∷ text) h d =
    let both = and_parts _ (is_hex b && list_all is_hex text) d in
    let later = and_parts (is_hex b) _ both.1 in
    let byte = two_digits_are a b both.0 later.0 in
    let rest = pairs_even n _ (omega arith) later.1 in
    record { bytes = byte.0 ∷ rest.bytes; spelled = rw (byte.1, rest.spelled) refl; count = omega (arith, rest.count) }

-- ---- quotes
quoted_at : (at : Escape) (text : List ℕ) (i : ℕ) → i < length text → ends at (get_or text i 0) ≡ false
    → quoted_from at (drop i text) ≡ (escape_step at (get_or text i 0) >>= λ s. after_bytes (bytes_of s.1) (quoted_from s.0 (drop (i + 1) text)))
unfolding quoted_from
quoted_at at text i h t = rw (drop-cons text i 0, t, add-one) refl

pub quoted_read : (front text : List ℕ) (at next : Escape) (byte : Option ℕ) (i : ℕ) (total : Option (List ℕ)) → i < length text → ends at (get_or text i 0) ≡ false
    → escape_step at (get_or text i 0) ≡ Some (next, byte) → after_bytes front (quoted_from at (drop i text)) ≡ total
    → after_bytes (front ++ bytes_of byte) (quoted_from next (drop (i + 1) text)) ≡ total
quoted_read front text at next byte i total h t s so_far =
    let one : after_bytes front (quoted_from at (drop i text)) ≡ after_bytes (front ++ bytes_of byte) (quoted_from next (drop (i + 1) text)) = rw (quoted_at, s) (regroup
    _ _ _) in
    sym one ∙ so_far

pub quoted_broken : (front text : List ℕ) (at : Escape) (i : ℕ) (total : Option (List ℕ)) → i < length text → ends at (get_or text i 0) ≡ false
    → escape_step at (get_or text i 0) ≡ None → after_bytes front (quoted_from at (drop i text)) ≡ total → total ≡ None
quoted_broken front text at i total h t s so_far = let one : after_bytes front (quoted_from at (drop i text)) ≡ None = rw (quoted_at, s) refl in sym so_far ∙ one

place_after : (text : List ℕ) (i : ℕ) → i < length text → (i + 1 == length text) ≡ is_empty (drop (suc i) text)
place_after text i h = last_place _ i _ (omega (arith, length-drop (suc i) text))

pub quoted_done : (front text : List ℕ) (at : Escape) (i : ℕ) (total : Option (List ℕ)) → i < length text → ends at (get_or text i 0) ≡ true
    → (i + 1 == length text) ≡ true → after_bytes front (quoted_from at (drop i text)) ≡ total → total ≡ Some front
unfolding quoted_from
quoted_done front text at i total h t e so_far =
    let last = sym (place_after _ i h) ∙ e in
    let one : after_bytes front (quoted_from at (drop i text)) ≡ Some front = rw (drop-cons text i 0, t, last) (ap (λ bs. Some bs) (append-nil front)) in
    sym so_far ∙ one

pub quoted_early : (front text : List ℕ) (at : Escape) (i : ℕ) (total : Option (List ℕ)) → i < length text → ends at (get_or text i 0) ≡ true
    → (i + 1 == length text) ≡ false → after_bytes front (quoted_from at (drop i text)) ≡ total → total ≡ None
unfolding quoted_from
quoted_early front text at i total h t e so_far =
    let more = sym (place_after _ i h) ∙ e in
    let one : after_bytes front (quoted_from at (drop i text)) ≡ None = rw (drop-cons text i 0, t, more) refl in
    sym so_far ∙ one

pub quoted_past : (front text : List ℕ) (at : Escape) (i : ℕ) (total : Option (List ℕ)) → length text ≤ i → after_bytes front (quoted_from at (drop i text)) ≡ total → total ≡ None
unfolding quoted_from
quoted_past front text at i total h so_far = let one : after_bytes front (quoted_from at (drop i text)) ≡ None = rw (drop_all) refl in sym so_far ∙ one

-- ---- counts
at_most_one : (byte : Option ℕ) → length (bytes_of byte) ≤ 1
at_most_one None = omega arith
at_most_one (Some byte) = omega arith

module _ (all : Option (List ℕ)) where
  pub quoted_counted : (n : ℕ) (text : List ℕ) (at next : Escape) (byte : Option ℕ) (i : ℕ) → i < length text → ends at (get_or text i 0) ≡ false
      → escape_step at (get_or text i 0) ≡ Some (next, byte) → Counted n i 0 (quoted_from at (drop i text)) all
      → Counted (n + length (bytes_of byte)) (i + 1) 0 (quoted_from next (drop (i + 1) text)) all
  quoted_counted n text at next byte i h t s c = record {
    front = c.front ++ bytes_of byte;
    whole = quoted_read _ _ at _ _ i _ h t s c.whole;
    count = omega (arith, length-append c.front (bytes_of byte), c.count);
    few = omega (arith, at_most_one byte, c.few);
  }

-- ---- what is known to spell bytes
spelled_few : (most : ℕ) (e : Rule) (bytes : List ℕ) → Refuses e (spelling_fault most (Some bytes)) → IsSome (within most (Some bytes)) → ⊥
unfolding spelling_fault
spelled_few most e bytes h some = elim (cases_Bool _) [
  | inl few ↦ none-some e.0 (rw (le-ltb most (length bytes) (leb-true _ _ few)) at h)
  | inr many ↦ let none : IsSome {T = List ℕ} None = rw many at some in cc
]

spelled_other : (most : ℕ) (e : Rule) (meaning : Option (List ℕ)) → Refuses e (spelling_fault most meaning) → IsSome (within most meaning) → IsOk {T = Spelling × ℕ} (Err e)
spelled_other most e None h some = cc
spelled_other most e (Some bytes) h some = absurd (spelled_few _ e _ h some)

pub spelled_right : (most : ℕ) (r : Result (Spelling × ℕ) Rule) (word : List ℕ) → Spells most r (payload_of word) → IsSome (payload_within most word) → IsOk r
spelled_right most (Ok p) word h some = refl
spelled_right most (Err e) word h some = spelled_other _ e _ h some

-- what spells these bytes is a payload, where no more may stand
pub right_payload : (most : ℕ) (s : Spelling) (n : ℕ) (meaning : Option (List ℕ)) → IsSome (within most meaning) → SpellsRight s n meaning
    → IsPayload most s n × (within most meaning ≡ Some (bytes_in s))
right_payload most s n meaning some r =
    let same = ap (λ o. unwrap_or o []) (sym r.spelled) in
    elim (cases_Bool _) [
      | inl few ↦ (
        record { spelled = r.spelled ∙ ap (λ bs. Some bs) same; count = r.count ∙ ap length same; few = omega (arith, r.count, leb-true (length r.bytes) most few) },
        rw (r.meant, few) (ap (λ bs. Some bs) same),
      )
      | inr many ↦ let none : IsSome {T = List ℕ} None = rw (r.meant, many) at some in cc
    ]

some_within : (most : ℕ) (meaning : Option (List ℕ)) → IsSome (within most meaning) → IsSome meaning × (meaning ≡ Some (unwrap_or meaning []))
some_within most None h = cc
some_within most (Some bytes) h = (refl, refl)

begun_by_x : (word : List ℕ) → begins 120 word ≡ true → (payload_of word ≡ pairs_of (drop 1 word)) × (length word ≡ 1 + length (drop 1 word))
unfolding payload_of
begun_by_x [] h = cc
begun_by_x (b ∷ word) h = (rw (eqb-true b 120 h) refl, omega arith)

-- a payload that begins as pairs do is spelled by them
pub known_pairs : (most : ℕ) (word text : List ℕ) → begins 120 word ≡ true → text ≡ drop 1 word → IsSome (payload_within most word)
    → (payload_of word ≡ Some (unwrap_or (pairs_of text) [])) × (pairs_of text ≡ Some (unwrap_or (pairs_of text) [])) × (length word / 2 ≡ length (unwrap_or (pairs_of text) []))
known_pairs most word text x is some =
    let begun = begun_by_x _ x in
    let means = begun.0 ∙ ap pairs_of (sym is) in
    let there = some_within most _ (subst (λ o. IsSome (within most o)) means some) in
    (means ∙ there.1, there.1, omega (arith, pairs_twice text there.0, begun.1, ap length is))
