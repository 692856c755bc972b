use Rattle.std.proofs.Common.{◌≡◌, ◌++◌, length}
use Rattle.ix_report.specs.Hex.{hex}
use Rattle.ix_report.proofs.pieces.push_hex.Given as goal

abbrev pub invariant-parts : goal.invariant-parts
invariant-parts l = record {
  stays : l.line.before ≡ l.fn.line.before;
  text : l.line.text ++ hex l.rest ≡ l.fn.line.text ++ hex l.fn.bytes;
}

abbrev pub decreases-parts : goal.decreases-parts
decreases-parts l = length l.rest
