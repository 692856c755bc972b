use Rattle.std.proofs.Common.{◌≡◌, ◌≤◌, ◌<◌, ℕ, length}
use Rattle.ix_flow.specs.Sides.{Begins, source_in}
use Rattle.ix_flow.proofs.side.Side.clear.Given as goal

abbrev pub invariant-loop-number : goal.invariant-loop-number
invariant-loop-number l = record {
  before : (n : ℕ) → n < l.from → source_in l.self.runs.entries n ≡ source_in l.fn.self.runs.entries n;
  begins : Begins l.to l.fn.self.runs.entries → Begins l.to l.self.runs.entries;
  behind : Begins l.to l.fn.self.runs.entries → (n : ℕ) → l.to ≤ n → source_in l.self.runs.entries n ≡ source_in l.fn.self.runs.entries n;
  front : l.self.front ≡ l.fn.self.front;
  end : l.self.end ≡ l.fn.self.end;
}

abbrev pub decreases-loop-number : goal.decreases-loop-number
decreases-loop-number l = length l.self.runs.entries
