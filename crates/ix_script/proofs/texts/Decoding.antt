-- Decoding pairs of digits, each at its place.
use Rattle.std.proofs.Common.{◌≡◌, ℕ, zero, suc, ◌+◌, ◌*◌, ◌<◌, ◌≤◌, List, [], ◌∷◌, ◌++◌, length, take, drop, set, get_or, unwrap_or, Option, Some}
use Rattle.std.proofs.Common.{None, refl, sym, ◌∙◌, ap, add-zero, drop-drop, subst, append_assoc, arith}
use Rattle.std.{specs.{Prelude.IsSome, Simd.first_chunks}, proofs.lemmas.List.{append-nil, drop_all, take_more_set, length-set, get_or-take, get_or-drop}}
use Rattle.ix_script.specs.texts.Payloads.{◌>>=◌, digit_of, pair_of, pairs_of, after_bytes}

-- the bytes that pairs spell
abbrev pub bytes_at : ℕ → List ℕ → List ℕ
bytes_at k text = unwrap_or (pairs_of (drop k text)) []

-- ---- two digits for each byte
twice_of : (byte : Option ℕ) (rest : Option (List ℕ)) (n : ℕ) → (IsSome rest → n ≡ length (unwrap_or rest []) * 2) → IsSome (byte >>= λ x. after_bytes (x ∷ []) rest)
    → suc (suc n) ≡ length (unwrap_or (byte >>= λ x. after_bytes (x ∷ []) rest) []) * 2
twice_of None rest n f h = let k = h in absurd (cc)
twice_of (Some x) None n f h = let k = h in absurd (cc)
twice_of (Some x) (Some rest) n f h = omega (arith, f refl)

pub pairs_twice : (text : List ℕ) → IsSome (pairs_of text) → length text ≡ length (unwrap_or (pairs_of text) []) * 2
unfolding pairs_of
pairs_twice [] h = refl
pairs_twice (a ∷ []) h = let k = h in absurd (cc)
pairs_twice (a ∷ b ∷ text) h = twice_of _ _ _ (pairs_twice text) h

-- ---- one byte more
first_some : (byte : Option ℕ) (rest : Option (List ℕ)) → IsSome (byte >>= λ x. after_bytes (x ∷ []) rest) → IsSome byte
first_some None rest h = h
first_some (Some x) rest h = refl

rest_some : (found : Option ℕ) (rest : Option (List ℕ)) (byte : ℕ) → found ≡ Some byte → IsSome (found >>= λ x. after_bytes (x ∷ []) rest)
    → IsSome rest × (unwrap_or (found >>= λ x. after_bytes (x ∷ []) rest) [] ≡ byte ∷ unwrap_or rest [])
rest_some None rest byte e h = let k = h in absurd (cc)
rest_some (Some x) None byte e h = let k = h in absurd (cc)
rest_some (Some x) (Some rest) byte e h = (refl, ap (λ o. unwrap_or o 0 ∷ rest) e)

digits_from : (k : ℕ) (text : List ℕ) → k + 2 ≤ length text → IsSome (pairs_of (drop k text)) → IsSome (pair_of (get_or text k 0) (get_or text (suc k) 0))
unfolding pairs_of
digits_from k [] n h = absurd (omega arith)
digits_from zero (a ∷ []) n h = absurd (omega arith)
digits_from zero (a ∷ b ∷ text) n h = first_some _ _ h
digits_from (suc k) (a ∷ text) n h = digits_from k _ (omega arith) h

pub digits_at : (k : ℕ) (text : List ℕ) → k + 2 ≤ length text → IsSome (pairs_of (drop k text)) → IsSome (pair_of (get_or text k 0) (get_or text (k + 1) 0))
digits_at k text n h =
    let one : suc k ≡ k + 1 = omega arith in
    subst (λ j. IsSome (pair_of (get_or text k 0) (get_or text j 0))) one (digits_from k _ n h)

byte_from : (k : ℕ) (text : List ℕ) (byte : ℕ) → k + 2 ≤ length text → IsSome (pairs_of (drop k text)) → pair_of (get_or text k 0) (get_or text (suc k) 0) ≡ Some byte
    → IsSome (pairs_of (drop (suc (suc k)) text)) × (bytes_at k text ≡ byte ∷ bytes_at (suc (suc k)) text)
unfolding pairs_of
byte_from k [] byte n h e = absurd (omega arith)
byte_from zero (a ∷ []) byte n h e = absurd (omega arith)
byte_from zero (a ∷ b ∷ text) byte n h e = rest_some _ _ _ e h
byte_from (suc k) (a ∷ text) byte n h e = byte_from k _ _ (omega arith) h e

byte_at : (k : ℕ) (text : List ℕ) (byte : ℕ) → k + 2 ≤ length text → IsSome (pairs_of (drop k text)) → pair_of (get_or text k 0) (get_or text (k + 1) 0) ≡ Some byte
    → IsSome (pairs_of (drop (k + 2) text)) × (bytes_at k text ≡ byte ∷ bytes_at (k + 2) text)
byte_at k text byte n h e =
    let one : suc k ≡ k + 1 = omega arith in
    let two : suc (suc k) ≡ k + 2 = omega arith in
    subst (λ j. IsSome (pairs_of (drop j text)) × (bytes_at k text ≡ byte ∷ bytes_at j text)) two
    (byte_from k _ _ n h (subst (λ j. pair_of (get_or text k 0) (get_or text j 0) ≡ Some byte) (sym one) e))

-- ---- both digits at once
two_at : (text : List ℕ) (k i : ℕ) → i < k → get_or (first_chunks 2 k text) i [] ≡ take 2 (drop (2 * i) text)
two_at text zero i low = absurd (omega arith)
two_at text (suc k) zero low = refl
two_at text (suc k) (suc i) low =
    let place : 2 + 2 * i ≡ 2 * suc i = omega arith in
    two_at _ k i (omega arith) ∙ ap (take 2) (drop-drop _ 2 text ∙ ap (λ n. drop n text) place)

pub chunk_count : (k : ℕ) (text : List ℕ) → length (first_chunks 2 k text) ≡ k
chunk_count zero text = refl
chunk_count (suc k) text = ap (λ n. suc n) (chunk_count k (drop 2 text))

-- the digits of byte i, by chunks of two
pub chunk_pair : (text : List ℕ) (k i : ℕ) → i < k → pair_of (get_or (get_or (first_chunks 2 k text) i []) 0 0) (get_or (get_or (first_chunks 2 k text) i []) 1 0)
    ≡ pair_of (get_or text (2 * i) 0) (get_or text (2 * i + 1) 0)
chunk_pair text k i low =
    let from = drop _ text in
    let first = get_or-take 2 from 0 0 (omega arith) ∙ get_or-drop _ text 0 0 ∙ ap (λ n. get_or text n 0) (add-zero _) in
    let second = get_or-take 2 from 1 0 (omega arith) ∙ get_or-drop (2 * i) text 1 0 in
    rw (two_at text k i low, first, second) refl

-- ---- by the values of digits
both_there : (high low : Option ℕ) → IsSome (high >>= λ n. low >>= λ m. Some (n * 16 + m)) → IsSome high × IsSome low
both_there None low h = let k = h in absurd (cc)
both_there (Some n) None h = let k = h in absurd (cc)
both_there (Some n) (Some m) h = (refl, refl)

both_digits : (a b : ℕ) → IsSome (pair_of a b) → IsSome (digit_of a) × IsSome (digit_of b)
unfolding pair_of
both_digits a b h = both_there (digit_of a) (digit_of b) h

-- so are those of byte i
pub chunk_digits : (text : List ℕ) (k i : ℕ) → i < k → 2 * i + 2 ≤ length text → IsSome (pairs_of (drop (2 * i) text))
    → IsSome (digit_of (get_or (get_or (first_chunks 2 k text) i []) 0 0)) × IsSome (digit_of (get_or (get_or (first_chunks 2 k text) i []) 1 0))
chunk_digits text k i low room some = both_digits _ _ (subst (λ o. IsSome o) (sym (chunk_pair text k i low)) (digits_at (2 * i) text room some))

pub by_digits : (a b high low : ℕ) → digit_of a ≡ Some high → digit_of b ≡ Some low → pair_of a b ≡ Some (high * 16 + low)
unfolding pair_of
by_digits a b high low h l = rw (h, l) refl

-- ---- the loop
-- i bytes are in the buffer, and what is left spells the others
pub record Decoded (text buf : List ℕ) (i count n : ℕ) : Type 0 where
  pub twice : length text ≡ count * 2
  pub some : IsSome (pairs_of (drop (2 * i) text))
  pub front : take i buf ++ bytes_at (2 * i) text ≡ unwrap_or (pairs_of text) []
  pub len : length buf ≡ n

pub begin : (text buf : List ℕ) (count : ℕ) → IsSome (pairs_of text) → count ≡ length (unwrap_or (pairs_of text) []) → Decoded text buf 0 count (length buf)
begin text buf count h c = record { twice = omega (arith, pairs_twice text h, c); some = h; front = refl; len = refl }

pub more : (text buf : List ℕ) (i count n byte : ℕ) → i < count → count ≤ n → pair_of (get_or text (2 * i) 0) (get_or text (2 * i + 1) 0) ≡ Some byte → Decoded text buf i count n
    → Decoded text (set buf i byte) (i + 1) count n
more text buf i count n byte h room e d =
    let next = byte_at (2 * i) _ _ (omega (arith, d.twice)) d.some e in
    let place : 2 * i + 2 ≡ 2 * (i + 1) = omega arith in
    record {
      twice = d.twice;
      some = subst (λ k. IsSome (pairs_of (drop k text))) place next.0;
      front = ap (λ k. take (i + 1) (set buf i byte) ++ bytes_at k text) (sym place)
          ∙ (ap (λ bs. bs ++ bytes_at (2 * i + 2) text) (take_more_set buf i byte (omega (arith, d.len)))
          ∙ (append_assoc (take i _) (byte ∷ []) (bytes_at (2 * i + 2) text) ∙ (ap (λ bs. take i buf ++ bs) (sym next.1) ∙ d.front)));
      len = length-set buf i byte ∙ d.len;
    }

pub all_there : (text buf : List ℕ) (i count n : ℕ) → IsSome (pairs_of text) → count ≤ i → i ≤ count → Decoded text buf i count n
    → take (length (unwrap_or (pairs_of text) [])) buf ≡ unwrap_or (pairs_of text) []
unfolding pairs_of
all_there text buf i count n h past within d =
    let none : drop (2 * i) text ≡ [] = drop_all (2 * i) text (omega (arith, d.twice, past)) in
    let whole : take i buf ≡ unwrap_or (pairs_of text) [] = sym (append-nil (take i buf)) ∙ ap (λ rest. take i buf ++ unwrap_or (pairs_of rest) []) (sym none) ∙ d.front in
    let len : length (unwrap_or (pairs_of text) []) ≡ i = omega (arith, pairs_twice text h, d.twice, past, within) in
    ap (λ k. take k buf) len ∙ whole
