use Rattle.std.proofs.Common.{◌≡◌, ◌≤◌, [], length, drop}
use Rattle.serde_json.specs.View.{items_view}
use Rattle.ix_policy.specs.Policies.{rules_after}
use Rattle.ix_policy.proofs.reading.rules_of.Given as goal

-- the rules so far and those of the elements that are left are those of all
abbrev pub invariant-elements : goal.invariant-elements
invariant-elements l = record {
  count : length l.rules ≡ l.element-index;
  few : length l.elements ≤ 256;
  read : rules_after l.form l.rules (items_view (drop l.element-index l.elements)) ≡ rules_after l.form [] (items_view l.elements);
}
