use Rattle.std.proofs.Common.{◌≡◌, ℕ, ◌+◌, ◌*◌, ◌<◌, ◌≤◌, length, None}
use Rattle.ix_policing.specs.Differing.{difference_at}
use Rattle.ix_policing.proofs.difference.first_difference.Given as goal

-- the rules so far have no difference with any
abbrev pub invariant-loop-number : goal.invariant-loop-number
invariant-loop-number g l = record {
  none : (k : ℕ) → k < l.number → (m : ℕ) → m < length l.second + 1 → difference_at l.sought l.first l.second l.other k m ≡ None;
  looks : l.initial.steps ≤ l.steps;
  cost : l.steps ≤ l.initial.steps + l.number * ((length l.second + 1) * (length l.first + length l.second + 2));
}
