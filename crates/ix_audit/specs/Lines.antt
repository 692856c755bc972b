-- An audit log of a capacity.
use Rattle.std.specs.Prelude.{ℕ, ◌≤◌, ◌<◌, ◌^◌, Bool, nat_lt, List, [], ◌∷◌, ◌++◌, length}
use Rattle.ix_model.specs.declared.audit.AuditLine.{AuditLine}

-- the lines, in the order in which they came, and how many it takes at most
pub record Lines : Type 0 where
  pub cap : ℕ
  pub lines : List AuditLine

-- whether it takes one line more
abbrev pub has_room : Lines → Bool
has_room log = nat_lt (length log.lines) log.cap

-- the log with one line more
abbrev pub with_line : AuditLine → Lines → Lines
with_line line log = record log { lines = log.lines ++ line ∷ [] }

-- how a log lies in memory: never more lines than it takes, and room for all of these
pub record AreLines (cap room : ℕ) (lines : List AuditLine) : Type 0 where
  pub few : length lines ≤ cap
  pub fits : cap < 2 ^ 32
  pub reserved : cap ≤ room
