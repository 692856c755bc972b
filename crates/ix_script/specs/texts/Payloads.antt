-- The spellings of a payload.
use Rattle.std.specs.Prelude.{ℕ, ◌+◌, ◌*◌, ◌-◌, ◌==◌, Bool, false, ◌||◌, List, [], ◌∷◌, ◌++◌, take, drop, position, replicate, Option, Some, None, if◌then◌else◌}
use Rattle.std.proofs.Common.{option_map, option_and_then}
use Rattle.ix_model.specs.opening.Valid.{is_within}
use Rattle.ix_text.specs.Bytes.{begins, is_empty, is_digit}
use Rattle.ix_script.specs.texts.Words.{is_numeral, value}
use Rattle.ix_script.specs.declared.payload.Escape.{Escape}
use Rattle.ix_script.specs.declared.payload.Escape.TheVariants as escape

infixl 10 ◌>>=◌
abbrev pub ◌>>=◌ : {A B : Type 0} → Option A → (A → Option B) → Option B
o >>= f = option_and_then f o

-- with these bytes before them
abbrev pub after_bytes : List ℕ → Option (List ℕ) → Option (List ℕ)
after_bytes front bytes = option_map (λ more. front ++ more) bytes

-- a hexadecimal digit, in either case
unfoldable pub digit_of : ℕ → Option ℕ
digit_of b =
    if is_digit b then Some (b - 48)
    else if is_within 97 102 b then Some (b - 87)
    else if is_within 65 70 b then Some (b - 55)
    else None

-- the byte of two hexadecimal digits
unfoldable pub pair_of : ℕ → ℕ → Option ℕ
pair_of high low = do
  h ← digit_of high
  l ← digit_of low
  Some (h * 16 + l)

-- pairs of hexadecimal digits
unfoldable pub pairs_of : List ℕ → Option (List ℕ)
pairs_of [] = Some []
pairs_of (high ∷ []) = None
pairs_of (high ∷ low ∷ text) = pair_of high low >>= λ byte. after_bytes (byte ∷ []) (pairs_of text)

-- the byte that a backslash and this byte stand for: a backslash, a quote or a line feed
unfoldable pub escaped_byte : ℕ → Option ℕ
escaped_byte b = if b == 92 || b == 34 then Some b else if b == 110 then Some 10 else None

-- where the byte after one in quotes stands, and the byte that is read with it
unfoldable pub escape_step : Escape → ℕ → Option (Escape × Option ℕ)
escape_step escape.Plain b = if b == 92 then Some (escape.Begun, None) else Some (escape.Plain, Some b)
escape_step escape.Begun b = if b == 120 then Some (escape.High, None) else option_map (λ byte. (escape.Plain, Some byte)) (escaped_byte b)
escape_step escape.High b = Some (escape.Low b, None)
escape_step (escape.Low high) b = option_map (λ byte. (escape.Plain, Some byte)) (pair_of high b)

-- the quote that ends the text
abbrev pub ends : Escape → ℕ → Bool
ends escape.Plain b = b == 34
ends escape.Begun b = false
ends escape.High b = false
ends (escape.Low high) b = false

-- the bytes that were read with one
abbrev pub bytes_of : Option ℕ → List ℕ
bytes_of None = []
bytes_of (Some byte) = byte ∷ []

-- what stands in quotes, up to the quote that ends the text
unfoldable pub quoted_from : Escape → List ℕ → Option (List ℕ)
quoted_from at [] = None
quoted_from at (b ∷ text) =
    if ends at b then (if is_empty text then Some [] else None)
    else escape_step at b >>= λ s. after_bytes (bytes_of s.1) (quoted_from s.0 text)

-- the byte of two digits and nothing else
abbrev pub two_digits : List ℕ → Option ℕ
two_digits [] = None
two_digits (high ∷ []) = None
two_digits (high ∷ low ∷ []) = pair_of high low
two_digits (high ∷ low ∷ b ∷ text) = None

-- a byte so often as a number says
unfoldable pub times_from : List ℕ → List ℕ → Option (List ℕ)
times_from count digits = if is_numeral count then option_map (λ byte. replicate (value count) byte) (two_digits digits) else None

-- the byte of n*HH, n times
unfoldable pub times_of : List ℕ → Option (List ℕ)
times_of word = position (λ b. b == 42) word >>= λ star. times_from (take star word) (drop (star + 1) word)

-- a text in quotes, `x` and pairs of digits, or n*HH
unfoldable pub payload_of : List ℕ → Option (List ℕ)
payload_of word =
    if begins 34 word then quoted_from escape.Plain (drop 1 word)
    else if begins 120 word then pairs_of (drop 1 word)
    else times_of word
