-- The input of two scripts: the first line that is `twin` divides it.
use Rattle.std.specs.Prelude.{ℕ, ◌+◌, Bool, false, ◌||◌, List, [], ◌∷◌, length, drop, take, codes, if◌then◌else◌}
use Rattle.ix_model.specs.world.Naming.{same_bytes}
use Rattle.ix_judging.specs.Bytes.{joined}
use Rattle.ix_check.specs.Parts.{lines_in}

-- a line that is `twin`, with its line feed or at the end of the input
abbrev pub is_divider : List ℕ → Bool
is_divider l = same_bytes l (codes "twin\n") || same_bytes l (codes "twin")

-- whether the first of these lines is
abbrev pub divides : List (List ℕ) → Bool
divides [] = false
divides (l ∷ lines) = is_divider l

-- the lines before the first such line, and those from it on
abbrev pub before_divider : List (List ℕ) → List (List ℕ)
before_divider [] = []
before_divider (l ∷ lines) = if is_divider l then [] else l ∷ before_divider lines

abbrev pub from_divider : List (List ℕ) → List (List ℕ)
from_divider [] = []
from_divider (l ∷ lines) = if is_divider l then l ∷ lines else from_divider lines

-- the first script, which is all where no line is `twin`
unfoldable pub first_part : List ℕ → List ℕ
first_part input = joined (before_divider (lines_in input))

-- the second script, which has no bytes there
unfoldable pub second_part : List ℕ → List ℕ
second_part input = joined (drop 1 (from_divider (lines_in input)))

-- how many lines stand before the second script: those of the first, and the one that divides them, if there is one
unfoldable pub lines_before : List ℕ → ℕ
lines_before input = length (before_divider (lines_in input)) + length (take 1 (from_divider (lines_in input)))

-- what stands behind the first line
abbrev pub behind_line : List ℕ → List ℕ
behind_line rest = joined (drop 1 (lines_in rest))

-- how many lines bytes are that have no line feed
abbrev pub some_line : List ℕ → ℕ
some_line [] = 0
some_line (b ∷ rest) = 1
