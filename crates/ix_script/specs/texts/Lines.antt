-- The lines of an input.
use Rattle.std.specs.Prelude.{ℕ, ◌==◌, List, [], ◌∷◌, if◌then◌else◌}
use Rattle.ix_model.specs.world.Texts.{with_front}

-- Bytes are cut at line feeds. What follows the last one is a line where it isn't empty.
unfoldable pub cut : List ℕ → List (List ℕ)
cut [] = []
cut (b ∷ bytes) = if b == 10 then [] ∷ cut bytes else with_front b (cut bytes)

-- the lines of an input; no bytes are one empty line
unfoldable pub lines_of : List ℕ → List (List ℕ)
lines_of [] = [] ∷ []
lines_of (b ∷ bytes) = cut (b ∷ bytes)
