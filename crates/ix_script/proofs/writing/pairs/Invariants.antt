use Rattle.std.{proofs.Common.{◌≡◌, ◌++◌, drop}, specs.List.flat_map}
use Rattle.ix_text.specs.Spellings.{hex_pair}
use Rattle.ix_script.specs.texts.Spellings.{pairs_text}
use Rattle.ix_script.proofs.writing.pairs.Given as goal

abbrev pub invariant-loop-byte : goal.invariant-loop-byte
invariant-loop-byte l = l.out.items ++ flat_map hex_pair (drop l.byte-index l.bytes) ≡ l.fn.out.items ++ pairs_text l.bytes
