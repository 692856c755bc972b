-- The input of a check: a script, and behind it the text that claims to be its report.
use Rattle.std.specs.Prelude.{ℕ, ◌==◌, Bool, false, ◌||◌, List, [], ◌∷◌, ◌++◌, take, drop, codes, if◌then◌else◌}
use Rattle.ix_model.specs.world.Naming.{same_bytes}
use Rattle.ix_judging.specs.Bytes.{joined}

-- a byte more in front of the first line
abbrev pub with_front : ℕ → List (List ℕ) → List (List ℕ)
with_front b [] = (b ∷ []) ∷ []
with_front b (l ∷ lines) = (b ∷ l) ∷ lines

-- the lines of an input, each with its line feed; what follows the last of them is a line, too, where it isn't empty
abbrev pub lines_in : List ℕ → List (List ℕ)
lines_in [] = []
lines_in (b ∷ bytes) = if b == 10 then (10 ∷ []) ∷ lines_in bytes else with_front b (lines_in bytes)

-- a line that is the first one of a report
abbrev pub is_heading : List ℕ → Bool
is_heading l = same_bytes l (codes "ix 1 report\n") || same_bytes l (codes "ix 2 report\n") || same_bytes l (codes "ix 1 report") || same_bytes l (codes "ix 2 report")

-- whether the first of these lines is
abbrev pub heads : List (List ℕ) → Bool
heads [] = false
heads (l ∷ lines) = is_heading l

-- the lines before the first such line, and those from it on
abbrev pub before_report : List (List ℕ) → List (List ℕ)
before_report [] = []
before_report (l ∷ lines) = if is_heading l then [] else l ∷ before_report lines

abbrev pub from_report : List (List ℕ) → List (List ℕ)
from_report [] = []
from_report (l ∷ lines) = if is_heading l then l ∷ lines else from_report lines

-- Line 1 belongs to the script; the report begins at the first line after it that is the first one of a report. Where there is none it has no bytes.
unfoldable pub script_part : List ℕ → List ℕ
script_part input = joined (take 1 (lines_in input)) ++ joined (before_report (drop 1 (lines_in input)))

unfoldable pub report_part : List ℕ → List ℕ
report_part input = joined (from_report (drop 1 (lines_in input)))
