use Rattle.std.proofs.Common.{◌≡◌, ◌≤◌, length}
use Rattle.ix_asking.specs.serving.Messages.{longest_front, longest_up_to}
use Rattle.ix_asking.proofs.serving.fronts.bad_at.Given as goal

-- no longer front passes
abbrev pub invariant-fronts : goal.invariant-fronts
invariant-fronts g l = record {
  within : l.at ≤ length l.message;
  so_far : longest_up_to l.at g.R.Requests.begins l.message ≡ longest_front g.R.Requests.begins l.message;
}

abbrev pub decreases-fronts : goal.decreases-fronts
decreases-fronts g l = l.at
