use Rattle.std.{proofs.Common.{◌≡◌, ◌++◌, ◌-◌, ◌||◌}, specs.List.{flat_map, list_any, range_with_len}}
use Rattle.ix_policy_texts.specs.Differences.{rule_differs, rule_lines}
use Rattle.ix_policy_texts.proofs.differences.push_rules.Given as goal

-- the lines so far and those that are left, and whether there are any
abbrev pub invariant-loop-number : goal.invariant-loop-number
invariant-loop-number g l = record {
  stays : l.line.before ≡ l.fn.line.before;
  text : l.line.text ++ flat_map (rule_lines l.form l.sought l.first l.second l.other) (range_with_len l.number (l.count - l.number)) ≡ l.fn.line.text ++ flat_map (rule_lines l.form l.sought l.first l.second l.other) (range_with_len 0 l.count);
  differ : (l.any || list_any (rule_differs l.sought l.first l.second l.other) (range_with_len l.number (l.count - l.number))) ≡ list_any (rule_differs l.sought l.first l.second l.other) (range_with_len 0 l.count);
}
