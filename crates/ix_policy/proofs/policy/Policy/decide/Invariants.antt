use Rattle.std.proofs.Common.{◌≡◌, ◌≤◌, ◌+◌, length, drop, find}
use Rattle.ix_policy.specs.Deciding.{decide_from, matches}
use Rattle.ix_policy.proofs.policy.Policy.decide.Given as goal

-- no rule so far matches, so what is left decides
abbrev pub invariant-rules : goal.invariant-rules
invariant-rules g l = record {
  number : l.number ≡ l.rule-index;
  few : length l.rule-items ≤ 256;
  looks : l.initial.steps ≤ l.steps;
  cost : l.steps ≤ l.initial.steps + l.rule-index;
  verdict : decide_from l.number (drop l.rule-index l.rule-items) l.request ≡ decide_from 0 l.rule-items l.request;
  first : find (λ r. matches r l.request) (drop l.rule-index l.rule-items) ≡ find (λ r. matches r l.request) l.rule-items;
}
