use Rattle.std.{proofs.Common.{◌≡◌, ◌+◌, ◌*◌, ◌≤◌, length, drop}, specs.List.flat_map}
use Rattle.ix_script.specs.texts.Spellings.{quoted_byte, quoted_text}
use Rattle.ix_script.proofs.writing.quoted_len.Given as goal

abbrev pub invariant-loop-byte : goal.invariant-loop-byte
invariant-loop-byte l = record {
  so_far : l.len + length (flat_map quoted_byte (drop l.byte-index l.bytes)) ≡ length (quoted_text l.bytes);
  small : l.len ≤ 2 + 4 * l.byte-index;
}
