use Rattle.std.proofs.Common.{◌≡◌, ℕ, List, length}
use Rattle.ix_replay.specs.{report.Telling.{HasTold, pieces_of}, declared.reporting.closing.Closing.Closing}
use Rattle.ix_replay.proofs.reporting.closing.Closing.tell_line.Given as goal

-- nothing was told yet, or the next line was
pub record Told (old new : Closing) (before now : List ℕ) (length_then : ℕ) : Type 0 where
  pub count : length_then ≡ length before
  pub line : List ℕ
  pub told : HasTold old new before now line

abbrev pub invariant-pieces : goal.invariant-pieces
invariant-pieces l = Told l.fn.self l.self l.fn.out.items l.out.items l.before

abbrev pub decreases-pieces : goal.decreases-pieces
decreases-pieces l = pieces_of l.self
