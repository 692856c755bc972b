use Rattle.std.proofs.Common.{length, ap, arith, drop, length-append, length-drop}
use Rattle.ix_report.specs.Hex.{hex}
use Rattle.ix_report.proofs.Pairs.{length_hex}
use Rattle.ix_report.proofs.short.Short.hex.Goals as goal

pub bytes-requires : goal.bytes-requires
bytes-requires c =
    let bytes = c.args.bytes.now in
    let rest = drop c.pairs.left bytes in
    omega (
      arith,
      ap length c.pairs.invariant.told,
      length-append (hex rest) c.args.self.now,
      length_hex rest,
      length-drop c.pairs.left bytes,
      c.pairs.invariant.few,
      c.pairs-test.true,
      c.requires,
      ap length c.hex_pair.ensures,
    )

pub returns-clause-count : goal.returns-clause-count
returns-clause-count c =
    let rest = drop c.pairs.left c.args.bytes.now in
    omega (
      arith,
      ap length c.pairs.invariant.told,
      length-append (hex rest) c.args.self.now,
      length_hex rest,
      length-drop c.pairs.left c.args.bytes.now,
      c.pairs-test.false,
    )
