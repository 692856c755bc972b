-- How values are spelled, in scripts and in reports alike.
use Rattle.std.specs.Prelude.{ℕ, ◌/◌, ◌%◌, ◌==◌, Bool, List, [], ◌∷◌, ◌++◌, if◌then◌else◌, codes, slice_index, bit_and}
use Rattle.std.specs.List.{flat_map}
use Rattle.ix_model.specs.world.Privs.{is_empty}
use Rattle.ix_model.specs.declared.call.Mode.{Mode}
use Rattle.ix_model.specs.declared.call.Mode.TheVariants as mode
use Rattle.ix_model.specs.declared.privs.PrivSet.{PrivSet}

-- ---- texts in a row
-- each text after that byte
abbrev pub further : ℕ → List (List ℕ) → List ℕ
further byte texts = flat_map (λ text. byte ∷ text) texts

-- texts with that byte between each two
abbrev pub joined : ℕ → List (List ℕ) → List ℕ
joined byte [] = []
joined byte (text ∷ texts) = text ++ further byte texts

-- ---- sets of privileges
-- the letter of each privilege and its bit: D, P, C, T and L
abbrev pub letters : List (ℕ × ℕ)
letters = (68, 1) ∷ (80, 2) ∷ (67, 4) ∷ (84, 8) ∷ (76, 16) ∷ []

-- a privilege's letter, where the set has the privilege
abbrev pub letter_in : PrivSet → ℕ × ℕ → List ℕ
letter_in set (letter, bit) = if bit_and set.0 bit == bit then letter ∷ [] else []

-- a dash for the empty set, else its letters in their order
unfoldable pub privs_text : PrivSet → List ℕ
privs_text set = if is_empty set then codes "-" else flat_map (letter_in set) letters

-- ---- words of a few spellings
-- what an open entry serves for
abbrev pub mode_text : Mode → List ℕ
mode_text mode.Read = codes "r"
mode_text mode.Write = codes "w"
mode_text mode.Both = codes "rw"

-- whether it is frozen
abbrev pub state_text : Bool → List ℕ
state_text frozen = if frozen then codes "frozen" else codes "free"

-- ---- bytes
-- a digit below 16, small
abbrev pub hex_digit : ℕ → ℕ
hex_digit n = slice_index (codes "0123456789abcdef") n

-- a byte as two digits, the higher one first
abbrev pub hex_pair : ℕ → List ℕ
hex_pair b = hex_digit (b / 16) ∷ hex_digit (b % 16) ∷ []
