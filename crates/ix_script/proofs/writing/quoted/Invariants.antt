use Rattle.std.{proofs.Common.{◌≡◌, ◌++◌, drop}, specs.{Prelude.codes, List.flat_map}}
use Rattle.ix_script.specs.texts.Spellings.{quoted_byte, quoted_text}
use Rattle.ix_script.proofs.writing.quoted.Given as goal

abbrev pub invariant-loop-byte : goal.invariant-loop-byte
invariant-loop-byte l = l.out.items ++ (flat_map quoted_byte (drop l.byte-index l.bytes) ++ codes "\"") ≡ l.fn.out.items ++ quoted_text l.bytes
