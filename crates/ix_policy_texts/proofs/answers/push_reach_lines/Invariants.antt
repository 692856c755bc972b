use Rattle.std.{proofs.Common.{◌≡◌, ◌++◌, ◌+◌, ◌-◌}, specs.List.{flat_map, range_with_len}}
use Rattle.ix_policy_texts.specs.Answers.{reach_line}
use Rattle.ix_policy_texts.proofs.answers.push_reach_lines.Given as goal

-- the lines so far, and those that are left
abbrev pub invariant-loop-rule : goal.invariant-loop-rule
invariant-loop-rule g l = record {
  stays : l.line.before ≡ l.fn.line.before;
  text : l.line.text ++ flat_map (reach_line l.form l.policy l.other) (range_with_len l.rule (l.count + 1 - l.rule)) ≡ l.fn.line.text ++ flat_map (reach_line l.form l.policy l.other) (range_with_len 1 l.count);
}
