use Rattle.std.{proofs.Common.{◌≡◌, ◌++◌, ◌*◌, [], length, take, drop, unwrap_or}, specs.Prelude.IsSome}
use Rattle.ix_script.specs.texts.Payloads.{pairs_of}
use Rattle.ix_script.proofs.payload.decode_pairs.Given as goal

abbrev pub invariant-bytes : goal.invariant-bytes
invariant-bytes l = record {
  twice : length l.text ≡ l.count * 2;
  some : IsSome (pairs_of (drop (2 * l.i) l.text));
  front : take l.i l.buf ++ unwrap_or (pairs_of (drop (2 * l.i) l.text)) [] ≡ unwrap_or (pairs_of l.text) [];
  len : length l.buf ≡ length l.fn.buf;
}
