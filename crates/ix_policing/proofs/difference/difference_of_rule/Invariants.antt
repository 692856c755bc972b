use Rattle.std.proofs.Common.{◌≡◌, ℕ, ◌+◌, ◌*◌, ◌<◌, ◌≤◌, length, None}
use Rattle.ix_policing.specs.Differing.{difference_at}
use Rattle.ix_policing.proofs.difference.difference_of_rule.Given as goal

-- the rule and each rule so far have no difference
abbrev pub invariant-loop-theirs : goal.invariant-loop-theirs
invariant-loop-theirs g l = record {
  none : (j : ℕ) → j < l.theirs → difference_at l.sought l.first l.second l.other l.number j ≡ None;
  looks : l.initial.steps ≤ l.steps;
  cost : l.steps ≤ l.initial.steps + l.theirs * (length l.first + length l.second + 2);
}
