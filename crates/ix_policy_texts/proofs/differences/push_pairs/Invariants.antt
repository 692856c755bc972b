use Rattle.std.{proofs.Common.{◌≡◌, ◌++◌, ◌-◌, ◌||◌}, specs.List.{flat_map, list_any, range_with_len}}
use Rattle.ix_policy_texts.specs.Differences.{pair_differs, pair_lines}
use Rattle.ix_policy_texts.proofs.differences.push_pairs.Given as goal

-- the lines so far and those that are left, and whether there are any
abbrev pub invariant-loop-theirs : goal.invariant-loop-theirs
invariant-loop-theirs g l = record {
  stays : l.line.before ≡ l.fn.line.before;
  text : l.line.text ++ flat_map (pair_lines l.form l.sought l.first l.second l.other l.number) (range_with_len l.theirs (l.count - l.theirs)) ≡ l.fn.line.text ++ flat_map (pair_lines l.form l.sought l.first l.second l.other l.number) (range_with_len 0 l.count);
  differ : (l.any || list_any (pair_differs l.sought l.first l.second l.other l.number) (range_with_len l.theirs (l.count - l.theirs))) ≡ list_any (pair_differs l.sought l.first l.second l.other l.number) (range_with_len 0 l.count);
}
