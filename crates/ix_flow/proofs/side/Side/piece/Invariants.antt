use Rattle.std.proofs.Common.{◌≡◌, ◌≤◌, ◌<◌, ◌-◌, ℕ, true}
use Rattle.ix_flow.specs.Sides.{same_origin, source_in}
use Rattle.ix_flow.proofs.side.Side.piece.Given as goal

abbrev pub invariant-loop-until : goal.invariant-loop-until
invariant-loop-until l = record {
  further : l.number < l.until;
  within : l.until ≤ l.to;
  one : (n : ℕ) → l.number ≤ n → n < l.until → same_origin (source_in l.self.runs.entries n) l.source ≡ true;
}

abbrev pub decreases-loop-until : goal.decreases-loop-until
decreases-loop-until l = l.to - l.until
