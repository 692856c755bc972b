use Rattle.std.proofs.Common.{◌≡◌, ◌≤◌, drop}
use Rattle.ix_script.specs.texts.Words.{value_from}
use Rattle.ix_script.proofs.values.value.Given as goal

abbrev pub invariant-loop-b : goal.invariant-loop-b
invariant-loop-b l = record {
  small : l.value ≤ 4294967295;
  same : value_from l.value (drop l.b-index l.word) ≡ value_from 0 l.word;
}
