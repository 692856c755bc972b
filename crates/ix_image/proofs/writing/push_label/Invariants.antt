use Rattle.std.{proofs.Common.{◌≡◌, ◌++◌, map}, specs.List.range_with_len}
use Rattle.ix_image.specs.Labelled.{label_byte}
use Rattle.ix_image.proofs.writing.push_label.Given as goal

abbrev pub invariant-loop-k : goal.invariant-loop-k
invariant-loop-k l = record {
  stays : l.line.before ≡ l.fn.line.before;
  text : l.line.text ≡ l.fn.line.text ++ map (label_byte l.label) (range_with_len 0 l.k);
}
