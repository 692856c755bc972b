-- The words of a line.
use Rattle.std.specs.Prelude.{ℕ, ◌==◌, Bool, true, false, not, ◌&&◌, ◌||◌, List, [], ◌∷◌, drop, take, codes, if◌then◌else◌}
use Rattle.std.specs.List.{slice_index_or}
use Rattle.ix_model.specs.world.Naming.{same_bytes}
use Rattle.ix_text.specs.Bytes.{begins, is_empty}
use Rattle.ix_model.specs.world.Texts.{with_front}
use Rattle.ix_script.specs.declared.words.Spot.{Spot}
use Rattle.ix_script.specs.declared.words.Spot.TheVariants as spot

-- where the byte after this one stands: a word that begins with a quote is inside quotes up to the quote that closes it,
-- and there a backslash takes the byte after it along, whatever it is
abbrev pub after_byte : Spot → ℕ → Spot
after_byte spot.Front b = if b == 34 then spot.Quoted else spot.Plain
after_byte spot.Plain b = spot.Plain
after_byte spot.Quoted b = if b == 92 then spot.Escaped else if b == 34 then spot.Plain else spot.Quoted
after_byte spot.Escaped b = spot.Quoted

abbrev pub is_quoted : Spot → Bool
is_quoted spot.Front = false
is_quoted spot.Plain = false
is_quoted spot.Quoted = true
is_quoted spot.Escaped = true

-- a space that isn't inside quotes stands between two words
abbrev pub parts_words : Spot → ℕ → Bool
parts_words at b = b == 32 && not (is_quoted at)

-- a text is cut at the spaces between words
unfoldable pub pieces : Spot → List ℕ → List (List ℕ)
pieces at [] = [] ∷ []
pieces at (b ∷ text) = if parts_words at b then [] ∷ pieces spot.Front text else with_front b (pieces (after_byte at b) text)

-- the words of a line; no bytes have none
unfoldable pub words_of : List ℕ → List (List ℕ)
words_of [] = []
words_of (b ∷ text) = pieces spot.Front (b ∷ text)

-- the word at a place from 0, and no bytes where there is none
abbrev pub word_at : List (List ℕ) → ℕ → List ℕ
word_at words i = slice_index_or words i []

-- ---- what the first rules ask of words

-- a quote inside quotes, with no backslash before it, closes them
abbrev pub closes : Spot → ℕ → Bool
closes spot.Front b = false
closes spot.Plain b = false
closes spot.Quoted b = b == 34
closes spot.Escaped b = false

-- whether the quote that closes the word is its last byte
unfoldable pub is_closed : Spot → List ℕ → Bool
is_closed at [] = false
is_closed at (b ∷ text) = if closes at b then is_empty text else is_closed (after_byte at b) text

-- a word that begins with a quote, where no quote closes it or more follows the one that does
abbrev pub is_open : List ℕ → Bool
is_open word = begins 34 word && not (is_closed spot.Front word)

-- ---- lines that aren't cut into words
-- an empty line, or one that begins with `#`
abbrev pub is_skipped : List ℕ → Bool
is_skipped text = is_empty text || begins 35 text

-- a line whose first word is `policy`: what follows that word and one space stands as it is
unfoldable pub is_policy_line : List ℕ → Bool
is_policy_line text = same_bytes text (codes "policy") || same_bytes (take 7 text) (codes "policy ")

abbrev pub policy_text : List ℕ → List ℕ
policy_text text = drop 7 text
