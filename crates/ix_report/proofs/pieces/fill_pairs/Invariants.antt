use Rattle.std.proofs.Common.{◌≡◌, ◌*◌, ◌++◌, take, drop}
use Rattle.ix_report.specs.Hex.{hex}
use Rattle.ix_report.proofs.pieces.fill_pairs.Given as goal

abbrev pub invariant-loop-byte : goal.invariant-loop-byte
invariant-loop-byte l = record {
  place : l.at ≡ 2 * l.byte-index;
  told : take l.at l.pairs ++ hex (drop l.byte-index l.part) ≡ hex l.part;
}
