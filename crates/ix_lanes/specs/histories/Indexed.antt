-- The lines of a script by index.
use Rattle.std.specs.Prelude.{ℕ, List, slice_index_or}
use Rattle.ix_script.specs.declared.line.Line.{Line}
use Rattle.ix_script.specs.declared.line.Line.TheVariants as line

-- the line at an index from 0, and a skipped one past the end
abbrev pub line_in : List Line → ℕ → Line
line_in s index = slice_index_or s index line.Skipped
