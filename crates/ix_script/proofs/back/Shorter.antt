-- No spelling of a payload is shorter than the shortest.
use Rattle.std.proofs.Common.{◌≡◌, ℕ, zero, suc, ◌+◌, ◌-◌, ◌^◌, ◌<◌, ◌≤◌, true, false, ◌||◌, ◌==◌, nat_lt, nat_le, cond, List, [], ◌∷◌, ◌++◌, length, get_or, take}
use Rattle.std.proofs.Common.{drop, replicate, Option, Some, None, inl, inr, refl, sym, ap, ◌∙◌, option_map, IsSome, unwrap_or, subst, append_assoc, arith}
use Rattle.std.specs.{Prelude.if◌then◌else◌, List.{list_all, flat_map, position_or_len}, Fmt.decimal}
use Rattle.std.proofs.lemmas.{Bool.{cases_Bool, eqb-true, ne_eqb, ltb-true, ltb-false, leb-true, eq-eqb, or_cases}, List.{length-append, length-replicate, length-take-le, take_at}}
use Rattle.std.proofs.lemmas.{List.Sums.{split_at_first, passes_at_first}, Option.{cond_some, none-some, same_Some}}
use Rattle.ix_model.specs.opening.Valid.{is_within}
use Rattle.ix_text.{specs.{Bytes.{begins, begins_with, is_digit, is_empty}, Spellings.hex_pair}, proofs.Tests.{both, join_tests}}
use Rattle.ix_script.specs.{texts.{Words.{is_numeral, value}, Payloads.{times_from, payload_of}}, lines.Said.payload_within, declared.payload.Escape.Escape}
use Rattle.ix_script.specs.texts.Payloads.{◌>>=◌, after_bytes, pair_of, pairs_of, escaped_byte, escape_step, ends, bytes_of, quoted_from, two_digits, times_of}
use Rattle.ix_script.specs.texts.Spellings.{pairs_text, times_text, stands_quoted, quoted_byte, quoted_text, once, times_texts, shortest, payload_text}
use Rattle.ix_script.proofs.{reader.Told.{bound, mapped, chosen, either}, back.{OneSpelling.{decimal_of_value, begun}, HexBack.{Small, pair_small, pairs_long}, Shortest.length-pairs}}
use Rattle.ix_script.specs.declared.payload.Escape.TheVariants as escape

-- ---- the first of the shortest
le_first : (text : List ℕ) (others : List (List ℕ)) → length (shortest text others) ≤ length text
le_first text [] = omega arith
le_first text (other ∷ others) = elim (cases_Bool _) [
  | inl e ↦ let k = le_first other others in let less = ltb-true (length other) (length text) e in rw e (omega arith)
  | inr e ↦ rw e (le_first _ others)
]

le_later : (text : List ℕ) (before : List (List ℕ)) (it : List ℕ) (others : List (List ℕ)) → length (shortest text (before ++ it ∷ others)) ≤ length it
le_later text [] it others = elim (cases_Bool (nat_lt (length it) (length text))) [
  | inl e ↦ rw e (le_first it others)
  | inr e ↦ let k = le_first text others in let more = ltb-false _ _ e in rw e (omega arith)
]
le_later text (other ∷ before) it others = elim (cases_Bool (nat_lt (length other) (length text))) [
  | inl e ↦ rw e (le_later other before it others)
  | inr e ↦ rw e (le_later text before it others)
]

pub le_pairs : (bytes : List ℕ) → length (payload_text bytes) ≤ length (pairs_text bytes)
unfolding payload_text
le_pairs bytes = le_first (pairs_text bytes) (times_texts bytes ++ quoted_text bytes ∷ [])

pub le_quotes : (bytes : List ℕ) → length (payload_text bytes) ≤ length (quoted_text bytes)
unfolding payload_text
le_quotes bytes = le_later (pairs_text bytes) (times_texts bytes) (quoted_text bytes) []

pub le_times : (bytes : List ℕ) (b : ℕ) → once bytes ≡ Some b → length (payload_text bytes) ≤ length (times_text (length bytes) b)
unfolding payload_text
le_times bytes b e = rw e (le_later (pairs_text bytes) [] _ (quoted_text bytes ∷ []))

-- ---- quotes
-- what an escape has taken before the byte that it stands for is told
abbrev begun_with : Escape → ℕ
begun_with escape.Plain = 0
begun_with escape.Begun = 1
begun_with escape.High = 2
begun_with (escape.Low high) = 3

-- bytes in quotes are no longer than the text from which they are read
record NoLonger (taken : ℕ) (text bytes : List ℕ) : Type 0 where
  short : length (flat_map quoted_byte bytes) + 1 ≤ length text + taken
  small : Small bytes

-- with one byte more, which takes no more than was taken
one_more : (b taken : ℕ) (text more : List ℕ) → b < 256 → length (quoted_byte b) ≤ taken → NoLonger 0 text more → NoLonger taken text (b ∷ more)
one_more b taken text more small cost k = record {
  short = omega (arith, k.short, length-append (quoted_byte b) (flat_map quoted_byte more));
  small = (small, k.small);
}

-- it counts a byte of the text as taken
counted : (b taken : ℕ) (text bytes : List ℕ) → NoLonger (suc taken) text bytes → NoLonger taken (b ∷ text) bytes
counted b taken text bytes k = record { short = omega (arith, k.short); small = k.small }

cost_one : (b : ℕ) → is_within 32 126 b ≡ true → (b == 34) ≡ false → (b == 92) ≡ false → length (quoted_byte b) ≤ 1
unfolding quoted_byte
cost_one b fine no_quote no_slash = rw (fine, no_quote, no_slash) (omega arith)

cost_two : (c b : ℕ) → escaped_byte c ≡ Some b → (length (quoted_byte b) ≤ 2) × (b < 256)
unfolding quoted_byte escaped_byte
cost_two c b h = elim (chosen _ c (cond _ (Some 10) None) b h) [
  | inl p ↦ elim (or_cases (c == 92) (c == 34) p.0) [
    | inl e ↦ let k : b ≡ 92 = sym p.1 ∙ eqb-true c 92 e in rw k (omega arith, omega arith)
    | inr e ↦ let k : b ≡ 34 = sym p.1 ∙ eqb-true c 34 e in rw k (omega arith, omega arith)
  ]
  | inr k ↦ let e : b ≡ 10 = sym (cond_some (c == 110) 10 b k).1 in rw e (omega arith, omega arith)
]

cost_four : (b : ℕ) → length (quoted_byte b) ≤ 4
unfolding quoted_byte
cost_four b = elim (cases_Bool (stands_quoted b)) [
  | inl e ↦ rw e (omega arith)
  | inr odd ↦ elim (cases_Bool (b == 34 || b == 92)) [
    | inl e ↦ rw (odd, e) (omega arith)
    | inr other ↦ elim (cases_Bool (b == 10)) [
      | inl e ↦ rw (odd, other, e) (omega arith)
      | inr e ↦ rw (odd, other, e) (omega arith)
    ]
  ]
]

below : (b : ℕ) → is_within 32 126 b ≡ true → b < 256
below b h = let p = both (nat_le 32 b) (nat_le b 126) h in let k = leb-true b 126 p.1 in omega arith

-- a byte that is read
abbrev read_plain : ℕ → Escape × Option ℕ
read_plain byte = (escape.Plain, Some byte)

-- what one byte of the text costs
abbrev Costs : ℕ → Escape → Option ℕ → Type 0
Costs taken next None = begun_with next ≡ suc taken
Costs taken next (Some byte) = (next ≡ escape.Plain) × (byte < 256) × (length (quoted_byte byte) ≤ suc taken)

step_costs : (at : Escape) (b : ℕ) (s : Escape × Option ℕ) → is_within 32 126 b ≡ true → ends at b ≡ false → escape_step at b ≡ Some s → Costs (begun_with at) s.0 s.1
unfolding escape_step
step_costs escape.Plain b s fine no_end h = elim (either (b == 92) (Some (escape.Begun, None)) _ s h) [
  | inl p ↦ subst (λ (s : Escape × Option ℕ). Costs 0 s.0 s.1) (same_Some (escape.Begun, None) s p.1) refl
  | inr p ↦ subst (λ (s : Escape × Option ℕ). Costs 0 s.0 s.1) (same_Some (escape.Plain, Some b) s p.1) (refl, below b fine, cost_one b fine no_end p.0)
]
step_costs escape.Begun b s fine no_end h = elim (either (b == 120) (Some (escape.High, None)) (option_map read_plain (escaped_byte b)) s h) [
  | inl p ↦ subst (λ (s : Escape × Option ℕ). Costs 1 s.0 s.1) (same_Some (escape.High, None) s p.1) refl
  | inr p ↦
      let m = mapped read_plain (escaped_byte b) s p.1 in
      let c = cost_two b m.0 m.1 in
      subst (λ (s : Escape × Option ℕ). Costs 1 s.0 s.1) m.2 (refl, c.1, c.0)
]
step_costs escape.High b s fine no_end h = subst (λ (s : Escape × Option ℕ). Costs 2 s.0 s.1) (same_Some (escape.Low b, None) s h) refl
step_costs (escape.Low high) b s fine no_end h =
    let m = mapped read_plain (pair_of high b) s h in
    subst (λ (s : Escape × Option ℕ). Costs 3 s.0 s.1) m.2 (refl, pair_small high b m.0 m.1, cost_four m.0)

-- one byte of the text, and what follows
one_step : (taken : ℕ) (next : Escape) (byte : Option ℕ) (text bytes : List ℕ) → Costs taken next byte
    → after_bytes (bytes_of byte) (quoted_from next text) ≡ Some bytes → ((more : List ℕ) → quoted_from next text ≡ Some more
    → NoLonger (begun_with next) text more) → NoLonger (suc taken) text bytes
one_step taken next None text bytes cost h later =
    let m = mapped _ _ _ h in
    subst (λ n. NoLonger n text bytes) cost (subst (NoLonger _ text) m.2 (later _ m.1))
one_step taken next (Some byte) text bytes cost h later =
    let m = mapped _ _ _ h in
    let plain = subst (λ n. NoLonger (begun_with n) text m.0) cost.0 (later _ m.1) in
    subst (NoLonger _ text) m.2 (one_more _ _ _ _ cost.1 cost.2 plain)

quotes_longer : (at : Escape) (text bytes : List ℕ) → list_all (is_within 32 126) text ≡ true → quoted_from at text ≡ Some bytes → NoLonger (begun_with at) text bytes
unfolding quoted_from
quotes_longer at [] bytes all h = absurd (none-some bytes h)
quotes_longer at (b ∷ text) bytes all h =
    let a = both (is_within 32 126 b) (list_all _ text) all in
    let step = λ (s : Escape × Option ℕ). after_bytes (bytes_of s.1) (quoted_from s.0 text) in
    elim (either (ends at b) (cond (is_empty text) (Some []) None) (escape_step at b >>= step) bytes h) [
      | inl p ↦
          let q = cond_some (is_empty text) [] bytes p.1 in
          subst (NoLonger (begun_with at) (b ∷ text)) q.1 (record { short = omega arith; small = tt })
      | inr p ↦
          let m = bound (escape_step at b) step bytes p.1 in
          counted b (begun_with at) text bytes (one_step (begun_with at) m.0.0 m.0.1 text bytes (step_costs at b m.0 a.0 p.0 m.1) m.2 (λ more k. quotes_longer m.0.0 text more a.1 k))
    ]

-- ---- n*HH
same_all : (n b : ℕ) → list_all (λ c. c == b) (replicate n b) ≡ true
same_all zero b = refl
same_all (suc n) b = join_tests _ _ (eq-eqb b b refl) (same_all n b)

once_replicate : (n b : ℕ) → once (replicate (suc n) b) ≡ Some b
once_replicate n b = rw (same_all n b) refl

small_replicate : (n b : ℕ) → b < 256 → Small (replicate n b)
small_replicate zero b h = tt
small_replicate (suc n) b h = (h, small_replicate n b h)

no_longer_times : (n b : ℕ) → n < 2 ^ 64 → length (payload_text (replicate n b)) ≤ length (decimal n) + 3
no_longer_times zero b h = omega (arith, le_pairs [])
no_longer_times (suc n) b h =
    let k = le_times (replicate (suc n) b) b (once_replicate n b) in
    let e = length-replicate (suc n) b in
    let f : length (times_text (length (replicate (suc n) b)) b) ≡ length (times_text (suc n) b) = ap (λ m. length (times_text m b)) e in
    omega (arith, k, f, length-append (decimal (suc n)) (42 ∷ hex_pair b))

two_parts : (text : List ℕ) (b : ℕ) → two_digits text ≡ Some b → (b < 256) × (length text ≡ 2)
two_parts [] b h = absurd (none-some b h)
two_parts (high ∷ []) b h = absurd (none-some b h)
two_parts (high ∷ low ∷ []) b h = (pair_small _ _ b h, refl)
two_parts (high ∷ low ∷ c ∷ text) b h = absurd (none-some b h)

-- a word n*HH, by its parts
record TimesWord (word bytes : List ℕ) : Type 0 where
  star : ℕ
  byte : ℕ
  small : byte < 256
  two : two_digits (drop (star + 1) word) ≡ Some byte
  numeral : is_numeral (take star word) ≡ true
  are : replicate (value (take star word)) byte ≡ bytes
  whole : word ≡ take star word ++ 42 ∷ drop (star + 1) word
  front : length (take star word) ≡ star
  long : length word ≡ star + 3

times_word : (word bytes : List ℕ) → times_of word ≡ Some bytes → TimesWord word bytes
unfolding times_of times_from
times_word word bytes h =
    let m = bound _ _ _ h in
    let at = cond_some (nat_lt (position_or_len (λ b. b == 42) word) _) (position_or_len (λ b. b == 42) word) m.0 m.1 in
    let inside = ltb-true _ _ at.0 in
    let passes = eqb-true _ 42 (subst (λ (i : ℕ). (get_or word i 0 == 42) ≡ true) at.1 (passes_at_first (λ b. b == 42) word 0 inside)) in
    let split =
    subst (λ i. word ≡ take i word ++ (get_or word i 0 ∷ drop (i + 1) word)) at.1 (split_at_first (λ b. b == 42) word 0 inside) ∙ ap (λ b. take m.0 word ++ b ∷ drop (m.0 + 1) word) passes in
    elim (either _ (option_map (λ byte. replicate (value (take m.0 word)) byte) (two_digits (drop (m.0 + 1) word))) None bytes m.2) [
      | inl p ↦
          let d = mapped _ (two_digits (drop (m.0 + 1) word)) bytes p.1 in
          let two = two_parts _ d.0 d.1 in
          let front = length-take-le m.0 word (omega (arith, inside, at.1)) in
          record {
            star = m.0;
            byte = d.0;
            small = two.0;
            two = d.1;
            numeral = p.0;
            are = d.2;
            whole = split;
            front = front;
            long = ap length split ∙ length-append _ (42 ∷ drop (m.0 + 1) word) ∙ (omega (arith, front, two.1));
          }
      | inr p ↦ absurd (none-some bytes p.1)
    ]

times_longer : (word bytes : List ℕ) → length bytes < 2 ^ 64 → times_of word ≡ Some bytes → (length (payload_text bytes) ≤ length word) × Small bytes
times_longer word bytes few h =
    let k = times_word _ _ h in
    let n = value (take _ _) in
    let count : n ≡ length bytes = sym (length-replicate n k.byte) ∙ ap length k.are in
    let small : n < 2 ^ 64 = omega arith in
    let digits : length (decimal n) ≡ k.star = ap length (decimal_of_value (take k.star word) k.numeral small) ∙ k.front in
    let same : length (payload_text (replicate n k.byte)) ≡ length (payload_text bytes) = ap (λ bs. length (payload_text bs)) k.are in
    (omega (arith, no_longer_times n k.byte small, k.long), subst Small k.are (small_replicate n k.byte k.small))

begun_by_digit : (word : List ℕ) → begins_with is_digit word ≡ true → payload_of word ≡ times_of word
unfolding payload_of
begun_by_digit [] h = cc
begun_by_digit (b ∷ word) h =
    let p = both (nat_le 48 b) (nat_le b 57) h in
    let low = leb-true 48 b p.0 in
    let high = leb-true b 57 p.1 in
    rw (ne_eqb b 34 (λ e. let q = e in absurd (omega arith)), ne_eqb b 120 (λ e. let q = e in absurd (omega arith))) refl

-- a payload that begins with a digit: n*HH, whose digits are the last two bytes
pub record KnownTimes (word : List ℕ) (n : ℕ) : Type 0 where
  pub byte : ℕ
  pub long : 3 ≤ length word
  pub few : n ≤ 1048576
  pub two : two_digits (drop (length word - 2) word) ≡ Some byte
  pub bytes : unwrap_or (payload_within 1048576 word) [] ≡ replicate n byte
  pub text : times_text n byte ≡ take (length word - 2) word ++ hex_pair byte
  pub len : length word ≡ length (times_text n byte)

pub known_times : (word : List ℕ) → begins_with is_digit word ≡ true → IsSome (payload_within 1048576 word) → KnownTimes word (value (take (length word - 3) word))
known_times word digit some =
    let bytes = unwrap_or (payload_within 1048576 word) [] in
    let m = bound _ _ _ (some_is _ some) in
    let c = cond_some (nat_le (length m.0) 1048576) m.0 bytes m.2 in
    let most : length m.0 ≤ 1048576 = leb-true (length m.0) 1048576 c.0 in
    let k = times_word word bytes (sym (begun_by_digit word digit) ∙ m.1 ∙ ap (λ (bs : List ℕ). Some bs) c.1) in
    let n : ℕ = value (take k.star word) in
    let few : n ≤ 1048576 = omega (arith, length-replicate n k.byte, ap length k.are, ap length c.1) in
    let small : n < 2 ^ 64 = omega (arith, few) in
    let decimal_is : decimal n ≡ take k.star word = decimal_of_value (take k.star word) k.numeral small in
    let front : List ℕ = take k.star word ++ 42 ∷ [] in
    let cut : take (length word - 2) word ≡ front = ap (take (length word - 2)) (k.whole ∙ sym (append_assoc (take k.star word) (42 ∷ []) (drop (k.star + 1) word)))
    ∙ take_at front (drop (k.star + 1) word) (length word - 2) (omega (arith, length-append (take k.star word) (42 ∷ []), k.front, k.long)) in
    let text : times_text n k.byte ≡ take (length word - 2) word ++ hex_pair k.byte =
    ap (λ t. t ++ 42 ∷ hex_pair k.byte) decimal_is ∙ sym (append_assoc (take k.star word) (42 ∷ []) (hex_pair k.byte)) ∙ ap (λ t. t ++ hex_pair k.byte) (sym cut) in
    let there : KnownTimes word n = record {
      byte = k.byte;
      long = omega (arith, k.long);
      few = few;
      two = subst (λ i. two_digits (drop i word) ≡ Some k.byte) (omega (arith, k.long)) k.two;
      bytes = sym k.are;
      text = text;
      len = k.long ∙ (omega (arith, ap length decimal_is, k.front, length-append (decimal n) (42 ∷ hex_pair k.byte)));
    } in
    subst (λ i. KnownTimes word (value (take i word))) (omega (arith, k.long)) there
  where
    some_is : (o : Option (List ℕ)) → IsSome o → o ≡ Some (unwrap_or o [])
    some_is None h = cc
    some_is (Some bytes) h = refl

-- ---- any spelling
pub payload_longer : (word bytes : List ℕ) → list_all (is_within 32 126) word ≡ true → length bytes < 2 ^ 64 → payload_of word ≡ Some bytes → (length (payload_text bytes) ≤ length word) × Small bytes
unfolding payload_of
payload_longer word bytes printable few h = elim (either (begins 34 word) (quoted_from escape.Plain (drop 1 word)) (cond (begins 120 word) (pairs_of (drop 1 word)) (times_of word)) bytes h) [
  | inl p ↦
      let e = begun 34 word p.0 in
      let rest : list_all (is_within 32 126) (drop 1 word) ≡ true = ap (list_all (is_within 32 126)) (sym e) ∙ printable in
      let k = quotes_longer escape.Plain (drop 1 word) bytes rest p.1 in
      (omega (arith, le_quotes bytes, k.short, ap length e, length-append (flat_map quoted_byte bytes) (34 ∷ [])), k.small)
  | inr p ↦ elim (either (begins 120 word) (pairs_of (drop 1 word)) (times_of word) bytes p.1) [
    | inl q ↦
        let e = begun 120 word q.0 in
        let k = pairs_long (drop 1 word) bytes q.1 in
        (omega (arith, le_pairs bytes, length-pairs bytes, k.0, ap length e), k.1)
    | inr q ↦ times_longer word bytes few q.1
  ]
]

pub no_shorter : (word bytes : List ℕ) → list_all (is_within 32 126) word ≡ true → payload_within 1048576 word ≡ Some bytes → length (payload_text bytes) ≤ length word
no_shorter word bytes printable h =
    let m = bound (payload_of word) (λ bs. if nat_le (length bs) 1048576 then Some bs else None) bytes h in
    let c = cond_some (nat_le (length m.0) 1048576) m.0 bytes m.2 in
    let le : length m.0 ≤ 1048576 = leb-true (length m.0) 1048576 c.0 in
    let few : length bytes < 2 ^ 64 = omega (arith, ap length c.1) in
    (payload_longer word bytes printable few (m.1 ∙ ap (λ (bs : List ℕ). Some bs) c.1)).0
