-- A payload in quotes is read back, and so is its shortest spelling.
use Rattle.std.proofs.Common.{◌≡◌, ℕ, ◌+◌, ◌*◌, ◌/◌, ◌%◌, ◌^◌, ◌<◌, true, false, not, ◌&&◌, ◌||◌, ◌==◌, nat_lt, List, [], ◌∷◌, ◌++◌, length, replicate, Option}
use Rattle.std.{proofs.{Common.{Some, None, inl, inr, refl, sym, ap, ◌∙◌, subst, arith}, lemmas.Option.{cond_some, none-some}}, specs.{List.{list_all, flat_map}, Option.option_map_or}}
use Rattle.std.proofs.lemmas.{Bool.{cases_Bool, eqb-true, and_right, not-true, or_cases, or_right, Decides.nat_tests}, List.append_assoc}
use Rattle.ix_model.specs.opening.Valid.{is_within}
use Rattle.ix_script.specs.texts.{Cutting.{pieces, is_closed}, Payloads.{escaped_byte, quoted_from, payload_of, pair_of, escape_step}}
use Rattle.ix_script.proofs.back.{HexBack.{Small, digit_back, digit_tame, digit_inside}, PayloadBack.{Spells, tame_parts, pairs_spell, times_spell}}
use Rattle.ix_text.{specs.Spellings.hex_digit, proofs.Tests.{both, join_tests}}
use Rattle.ix_script.specs.texts.Spellings.{times_text, stands_quoted, quoted_byte, quoted_text, once, shortest, payload_text}
use Rattle.ix_script.specs.declared.words.Spot.TheVariants as spot
use Rattle.ix_script.specs.declared.payload.Escape.TheVariants as escape

-- what stands after the first quote, up to the last
record InQuotes (bytes text : List ℕ) : Type 0 where
  read : quoted_from escape.Plain text ≡ Some bytes
  whole : pieces spot.Quoted text ≡ text ∷ []
  closed : is_closed spot.Quoted text ≡ true
  printable : list_all (is_within 32 126) text ≡ true

the_end : InQuotes [] (34 ∷ [])
unfolding quoted_from pieces is_closed
the_end = record { read = refl; whole = refl; closed = refl; printable = refl }

-- a byte as it is
plain_step : (b : ℕ) (bytes rest : List ℕ) → stands_quoted b ≡ true → InQuotes bytes rest → InQuotes (b ∷ bytes) (b ∷ rest)
unfolding quoted_from escape_step pieces is_closed
plain_step b bytes rest h more =
    let p = both (is_within 32 126 b && not _) (not _) h in
    let q = both (is_within 32 126 b) (not _) p.0 in
    let no_quote = not-true _ q.1 in
    let no_slash = not-true _ p.1 in
    record {
      read = rw (no_quote, no_slash, more.read) refl;
      whole = rw (and_right, no_slash, no_quote, more.whole) refl;
      closed = rw (no_quote, no_slash) more.closed;
      printable = join_tests _ _ q.0 more.printable;
    }

-- a backslash and a byte
escaped_step : (b c : ℕ) (bytes rest : List ℕ) → escaped_byte c ≡ Some b → (c == 120) ≡ false → is_within 32 126 c ≡ true → InQuotes bytes rest → InQuotes (b ∷ bytes) (92 ∷ c ∷ rest)
unfolding quoted_from escape_step pieces is_closed
escaped_step b c bytes rest stands no_hex fine more = record {
  read = rw (no_hex, stands, more.read) refl;
  whole = rw (and_right, more.whole) refl;
  closed = more.closed;
  printable = join_tests _ _ fine more.printable;
}

-- a backslash, `x` and two digits
digit_step : (n : ℕ) → n < 16 → (is_within 32 126 (hex_digit n) ≡ true) × ((hex_digit n == 34) ≡ false) × ((hex_digit n == 92) ≡ false)
digit_step n h = let p = tame_parts _ (digit_tame n h) in (p.0, p.2, digit_inside n h)

digit_whole : (d : ℕ) (rest : List ℕ) → (d == 34) ≡ false → (d == 92) ≡ false → pieces spot.Quoted rest ≡ rest ∷ [] → pieces spot.Quoted (d ∷ rest) ≡ (d ∷ rest) ∷ []
unfolding pieces
digit_whole d rest no_quote no_slash h = rw (and_right, no_slash, no_quote, h) refl

digit_closed : (d : ℕ) (rest : List ℕ) → (d == 34) ≡ false → (d == 92) ≡ false → is_closed spot.Quoted rest ≡ true → is_closed spot.Quoted (d ∷ rest) ≡ true
unfolding is_closed
digit_closed d rest no_quote no_slash h = rw (no_quote, no_slash) h

hex_step : (b : ℕ) (bytes rest : List ℕ) → b < 256 → InQuotes bytes rest → InQuotes (b ∷ bytes) (92 ∷ 120 ∷ hex_digit (b / 16) ∷ hex_digit (b % 16) ∷ rest)
unfolding quoted_from escape_step pair_of pieces is_closed
hex_step b bytes rest small more =
    let whole : b / 16 * 16 + b % 16 ≡ b = omega arith in
    let high : b / 16 < 16 = omega arith in
    let low : b % 16 < 16 = omega arith in
    let h = digit_step _ high in
    let l = digit_step _ low in
    let end = digit_whole _ _ h.1 h.2 (digit_whole _ _ l.1 l.2 more.whole) in
    record {
      read = rw (digit_back, digit_back, more.read, whole) refl;
      whole = rw end refl;
      closed = digit_closed _ (hex_digit (b % 16) ∷ rest) h.1 h.2 (digit_closed _ rest l.1 l.2 more.closed);
      printable = join_tests _ _ h.0 (join_tests _ _ l.0 more.printable);
    }

is_escaped : (b : ℕ) → (b == 34 || b == 92) ≡ true → escaped_byte b ≡ Some b
unfolding escaped_byte
is_escaped b e = elim (or_cases _ _ e) [
  | inl k ↦ rw (or_right (b == 92) (b == 34) k) refl
  | inr k ↦ rw k refl
]

not_hex : (b : ℕ) → (b == 34 || b == 92) ≡ true → (b == 120) ≡ false
not_hex b e = grind (arith, nat_tests)

is_fine : (b : ℕ) → (b == 34 || b == 92) ≡ true → is_within 32 126 b ≡ true
is_fine b e = grind (arith, nat_tests)

feed : (b : ℕ) → (b == 10) ≡ true → escaped_byte 110 ≡ Some b
unfolding escaped_byte
feed b e = ap (λ n. Some n) (sym (eqb-true b 10 e))

-- a byte
byte_step : (b : ℕ) (bytes rest : List ℕ) → b < 256 → InQuotes bytes rest → InQuotes (b ∷ bytes) (quoted_byte b ++ rest)
unfolding quoted_byte
byte_step b bytes rest small more = elim (cases_Bool (stands_quoted b)) [
  | inl e ↦ rw e (plain_step b bytes rest e more)
  | inr odd ↦ elim (cases_Bool (b == 34 || b == 92)) [
    | inl e ↦ rw (odd, e) (escaped_step b b _ _ (is_escaped b e) (not_hex b e) (is_fine b e) more)
    | inr other ↦ elim (cases_Bool (b == 10)) [
      | inl e ↦ rw (odd, other, e) (escaped_step b 110 bytes rest (feed b e) refl refl more)
      | inr e ↦ rw (odd, other, e) (hex_step b bytes rest small more)
    ]
  ]
]

in_quotes : (bytes : List ℕ) → Small bytes → InQuotes bytes (flat_map quoted_byte bytes ++ 34 ∷ [])
in_quotes [] h = the_end
in_quotes (b ∷ bytes) h = subst (InQuotes _) (sym (append_assoc (quoted_byte b) (flat_map quoted_byte bytes) (34 ∷ []))) (byte_step b _ _ h.0 (in_quotes _ h.1))

quotes_around : (bytes text : List ℕ) → InQuotes bytes text → Spells bytes (34 ∷ text)
unfolding payload_of pieces is_closed
quotes_around bytes text inside = record {
  read = inside.read;
  whole = rw inside.whole refl;
  some = refl;
  closed = rw inside.closed refl;
  printable = inside.printable;
}

quotes_spell : (bytes : List ℕ) → Small bytes → Spells bytes (quoted_text bytes)
quotes_spell bytes h = quotes_around _ _ (in_quotes _ h)

-- ---- one byte over and over
all_one : (b : ℕ) (bytes : List ℕ) → list_all (λ c. c == b) bytes ≡ true → replicate (length bytes) b ≡ bytes
all_one b [] h = refl
all_one b (c ∷ bytes) h =
    let p = both (c == b) (list_all (λ c. c == b) bytes) h in
    ap (λ d. d ∷ replicate (length bytes) b) (sym (eqb-true c b p.0)) ∙ ap (λ bs. c ∷ bs) (all_one b _ p.1)

pub once_means : (bytes : List ℕ) (b : ℕ) → once bytes ≡ Some b → (replicate (length bytes) b ≡ bytes) × (Small bytes → b < 256)
once_means [] b h = absurd (none-some b h)
once_means (c ∷ bytes) b h =
    let p = cond_some (list_all (λ d. d == c) bytes) c b h in
    (subst (λ d. replicate (length (c ∷ bytes)) d ≡ c ∷ bytes) p.1 (ap (λ bs. c ∷ bs) (all_one c _ p.0)), λ small. let k = small.0 in subst (λ d. d < 256) p.1 k)

-- ---- the first of the shortest
abbrev pub Each : (List ℕ → Type 0) → List (List ℕ) → Type 0
Each P [] = Unit
Each P (text ∷ texts) = P text × Each P texts

one_of_them : (P : List ℕ → Type 0) (text : List ℕ) (others : List (List ℕ)) → P text → Each P others → P (shortest text others)
one_of_them P text [] h more = h
one_of_them P text (other ∷ others) h more = elim (cases_Bool (nat_lt (length other) (length text))) [
  | inl e ↦ rw e (one_of_them P other others more.0 more.1)
  | inr e ↦ rw e (one_of_them P _ others h more.1)
]

others_spell : (bytes : List ℕ) (o : Option ℕ) → once bytes ≡ o → Small bytes → length bytes < 2 ^ 64
    → Each (Spells bytes) (option_map_or (λ b. times_text (length bytes) b ∷ []) o [] ++ quoted_text bytes ∷ [])
others_spell bytes None e small few = (quotes_spell _ small, tt)
others_spell bytes (Some b) e small few =
    let k = once_means _ b e in
    (subst (λ bs. Spells bs (times_text (length bytes) b)) k.0 (times_spell _ b few (k.1 small)), (quotes_spell _ small, tt))

pub payload_spells : (bytes : List ℕ) → Small bytes → length bytes < 2 ^ 64 → Spells bytes (payload_text bytes)
unfolding payload_text
payload_spells bytes small few = one_of_them _ _ _ (pairs_spell _ small) (others_spell _ _ refl small few)
