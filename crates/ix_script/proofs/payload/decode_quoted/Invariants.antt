use Rattle.std.{proofs.Common.{◌≡◌, ◌++◌, [], length, take, unwrap_or}, specs.Prelude.IsSome}
use Rattle.ix_script.specs.texts.Payloads.{quoted_from}
use Rattle.ix_script.specs.declared.payload.Escape.TheVariants as escape
use Rattle.ix_script.proofs.payload.decode_quoted.Given as goal

abbrev pub invariant-bytes : goal.invariant-bytes
invariant-bytes l = record {
  some : IsSome (quoted_from escape.Plain l.rest);
  front : take l.i l.buf ++ unwrap_or (quoted_from escape.Plain l.rest) [] ≡ unwrap_or (quoted_from escape.Plain l.text) [];
  len : length l.buf ≡ length l.fn.buf;
}
