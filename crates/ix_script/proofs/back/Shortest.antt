-- The shortest spelling of a payload, by the lengths of its spellings.
use Rattle.std.proofs.Common.{◌≡◌, ℕ, zero, suc, ◌+◌, ◌*◌, ◌<◌, ◌≤◌, ◌==◌, Bool, true, false, ◌||◌, cond, codes, replicate, ap, List, [], ◌∷◌, ◌++◌, drop}
use Rattle.std.{proofs.Common.{length, get_or, Some, None, refl, sym, ◌∙◌, arith}, specs.{Prelude.if◌then◌else◌, List.{flat_map, list_all}, Fmt.decimal}}
use Rattle.std.proofs.lemmas.{Bool.{and_parts, lt-ltb, le-ltb, eq-eqb}, List.{at_drop_more, length-append, length-replicate}}
use Rattle.ix_text.specs.Spellings.{hex_pair}
use Rattle.ix_script.specs.texts.Spellings.{pairs_text, times_text, stands_quoted, quoted_byte, quoted_text, once, shortest, payload_text}

-- the first byte and the others, tested against it
pub once_first : (bytes : List ℕ) → 0 < length bytes → once bytes ≡ (if list_all (λ c. c == get_or bytes 0 0) (drop 1 bytes) then Some (get_or bytes 0 0) else None)
once_first [] h = absurd (omega arith)
once_first (b ∷ bytes) h = refl

-- ---- lengths
-- what one byte more takes in quotes
pub quoted_more : (bytes : List ℕ) (i : ℕ) → i < length bytes → length (flat_map quoted_byte (drop i bytes)) ≡ length (quoted_byte (get_or bytes i 0)) + length
    (flat_map quoted_byte (drop (i + 1) bytes))
quoted_more bytes i h = at_drop_more (λ bs. length (flat_map quoted_byte bs)) bytes i 0 h ∙ length-append _ _

pairs_twice : (bytes : List ℕ) → length (flat_map hex_pair bytes) ≡ length bytes * 2
pairs_twice [] = refl
pairs_twice (b ∷ bytes) = omega (arith, pairs_twice bytes)

pub length-pairs : (bytes : List ℕ) → length (pairs_text bytes) ≡ length bytes * 2 + 1
length-pairs bytes = omega (arith, pairs_twice bytes)

-- ---- the first of the shortest
of_two : (p q : List ℕ) → length q < length p → shortest p (q ∷ []) ≡ q
of_two p q h = rw (lt-ltb) refl

of_two_first : (p q : List ℕ) → length p ≤ length q → shortest p (q ∷ []) ≡ p
of_two_first p q h = rw (le-ltb) refl

of_three : (p t q : List ℕ) → length t < length p → shortest p (t ∷ q ∷ []) ≡ shortest t (q ∷ [])
of_three p t q h = rw (lt-ltb) refl

of_three_first : (p t q : List ℕ) → length p ≤ length t → shortest p (t ∷ q ∷ []) ≡ shortest p (q ∷ [])
of_three_first p t q h = rw (le-ltb) refl

-- ---- what is chosen
module _ (bytes : List ℕ) (pairs quoted : ℕ) (p : pairs ≡ length bytes * 2 + 1) (q : quoted ≡ length (quoted_text bytes)) where
  none_for : once bytes ≡ None → payload_text bytes ≡ shortest (pairs_text bytes) (quoted_text bytes ∷ [])
  unfolding payload_text
  none_for e = rw e refl

  some_for : (b : ℕ) → once bytes ≡ Some b → payload_text bytes ≡ shortest (pairs_text bytes) (times_text (length bytes) b ∷ quoted_text bytes ∷ [])
  unfolding payload_text
  some_for b e = rw e refl

  pub quotes_of_two : once bytes ≡ None → quoted < pairs → quoted_text bytes ≡ payload_text bytes
  quotes_of_two e h = sym (none_for e ∙ of_two (pairs_text bytes) _ (omega (arith, length-pairs bytes)))

  pub pairs_of_two : once bytes ≡ None → pairs ≤ quoted → pairs_text bytes ≡ payload_text bytes
  pairs_of_two e h = sym (none_for e ∙ of_two_first _ (quoted_text bytes) (omega (arith, length-pairs bytes)))

  pub quotes_of_three : (b times : ℕ) → once bytes ≡ Some b → times ≡ length (times_text (length bytes) b) → times < pairs → quoted < times → quoted_text bytes ≡ payload_text bytes
  quotes_of_three b times e t first second = sym (some_for b e ∙ of_three (pairs_text bytes) _ (quoted_text bytes) (omega (arith, length-pairs bytes))
      ∙ of_two _ _ (omega arith))

  pub times_of_three : (b times : ℕ) → once bytes ≡ Some b → times ≡ length (times_text (length bytes) b) → times < pairs → times ≤ quoted → times_text (length bytes) b ≡ payload_text bytes
  times_of_three b times e t first second = sym (some_for b e ∙ of_three (pairs_text bytes) _ (quoted_text bytes) (omega (arith, length-pairs bytes))
      ∙ of_two_first _ (quoted_text bytes) (omega arith))

  pub quotes_not_times : (b times : ℕ) → once bytes ≡ Some b → times ≡ length (times_text (length bytes) b) → pairs ≤ times → quoted < pairs → quoted_text bytes ≡ payload_text bytes
  quotes_not_times b times e t first second = sym (some_for b e ∙ of_three_first (pairs_text bytes) _ (quoted_text bytes) (omega (arith, length-pairs bytes))
      ∙ of_two (pairs_text bytes) _ (omega (arith, length-pairs bytes)))

  pub pairs_of_three : (b times : ℕ) → once bytes ≡ Some b → times ≡ length (times_text (length bytes) b) → pairs ≤ times → pairs ≤ quoted → pairs_text bytes ≡ payload_text bytes
  pairs_of_three b times e t first second = sym (some_for b e ∙ of_three_first (pairs_text bytes) _ (quoted_text bytes) (omega (arith, length-pairs bytes))
      ∙ of_two_first _ (quoted_text bytes) (omega (arith, length-pairs bytes)))

-- ---- bytes that each stand in quotes as they are
quoted_plain : (bytes : List ℕ) → list_all stands_quoted bytes ≡ true → flat_map quoted_byte bytes ≡ bytes
unfolding quoted_byte
quoted_plain [] h = refl
quoted_plain (b ∷ bytes) h = let both = and_parts (stands_quoted b) _ h in rw both.0 (ap (λ bs. b ∷ bs) (quoted_plain _ both.1))

plain_length : (bytes : List ℕ) → list_all stands_quoted bytes ≡ true → length (quoted_text bytes) ≡ length bytes + 2
plain_length bytes h = rw (quoted_plain bytes h) (omega (arith, length-append bytes (codes "\"")))

pub plain_quotes : (bytes : List ℕ) → once bytes ≡ None → 2 ≤ length bytes → list_all stands_quoted bytes ≡ true → codes "\"" ++ (bytes ++ codes "\"") ≡ payload_text bytes
plain_quotes bytes e long h = ap (λ bs. codes "\"" ++ (bs ++ codes "\"")) (sym (quoted_plain _ h))
    ∙ quotes_of_two bytes _ _ refl refl e (omega (arith, plain_length bytes h))

-- ---- one byte over and over
by_cases : (p q r : Bool) (w x y z : List ℕ) → 1 ≤ length w → 1 ≤ length x → 1 ≤ length y → 1 ≤ length z → 1 ≤ length (cond p w (cond q x (cond r y z)))
by_cases true q r w x y z hw hx hy hz = hw
by_cases false true r w x y z hw hx hy hz = hx
by_cases false false true w x y z hw hx hy hz = hy
by_cases false false false w x y z hw hx hy hz = hz

quoted_some : (b : ℕ) → 1 ≤ length (quoted_byte b)
unfolding quoted_byte
quoted_some b = by_cases (stands_quoted b) (b == 34 || b == 92) (b == 10) _ _ _ _ (omega arith) (omega arith) (omega arith) (omega arith)

quoted_all : (n b : ℕ) → n ≤ length (flat_map quoted_byte (replicate n b))
quoted_all zero b = omega arith
quoted_all (suc n) b = omega (arith, quoted_all n b, quoted_some b, length-append (quoted_byte b) (flat_map quoted_byte (replicate n b)))

same_all : (n b : ℕ) → list_all (λ c. c == b) (replicate n b) ≡ true
same_all zero b = refl
same_all (suc n) b = rw (eq-eqb) (same_all n b)

once_all : (n b : ℕ) → 0 < n → once (replicate n b) ≡ Some b
once_all zero b h = absurd (omega arith)
once_all (suc n) b h = rw (same_all n b) refl

pub times_alone : (n b len : ℕ) → len ≡ length (times_text n b) → len < n * 2 + 1 → len ≤ n + 2 → payload_text (replicate n b) ≡ times_text n b
times_alone n b len h below few =
    let long = length-replicate n b in
    let quotes = length-append (flat_map quoted_byte (replicate n b)) (codes "\"") in
    let some : 0 < n = omega (arith, h, length-append (decimal n) (codes "*" ++ hex_pair b)) in
    sym (times_of_three _ _ (length (quoted_text (replicate n b))) refl refl b len (once_all n b some)
    (h ∙ ap (λ k. length (times_text k b)) (sym long)) (omega arith) (omega (arith, quoted_all n b, quotes))) ∙ ap (λ k. times_text k b) long
