use Rattle.std.proofs.Common.{◌≡◌, ◌++◌, drop}
use Rattle.ix_report.specs.Names.{name_text}
use Rattle.ix_report.proofs.pieces.push_escaped.Given as goal

abbrev pub invariant-loop-byte : goal.invariant-loop-byte
invariant-loop-byte l = record {
  stays : l.line.before ≡ l.fn.line.before;
  text : l.line.text ++ name_text (drop l.byte-index l.text) ≡ l.fn.line.text ++ name_text l.text;
}
