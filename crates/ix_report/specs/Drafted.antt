-- A line that is being written at the end of bytes that are there.
use Rattle.std.specs.Prelude.{ℕ, List, take, drop}

-- what stood there before the line, and the line's text so far
pub record Drafted : Type 0 where
  pub before : List ℕ
  pub text : List ℕ

-- the bytes, cut where the line begins
abbrev pub cut_at : ℕ → List ℕ → Drafted
cut_at start bytes = record { before = take start bytes; text = drop start bytes }
