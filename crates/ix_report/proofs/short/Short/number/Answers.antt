use Rattle.std.proofs.Common.{length, ap, arith, length-drop}
use Rattle.ix_report.proofs.Pairs.{decimal_short}
use Rattle.ix_report.proofs.short.Short.number.Goals as goal

pub write_digits-self-inside-requires : goal.write_digits-self-inside-requires
write_digits-self-inside-requires c =
    let inside = c.self.inside in (
      omega (arith, decimal_short c.args.n c.ranges.n.fits, ap length c.self.view_is, length-drop inside.start inside.room, c.requires),
      omega (arith, c.self.invariant),
    )

pub returns-clause-few : goal.returns-clause-few
returns-clause-few c =
    let inside = c.self.inside in let wrote = c.write_digits-self-inside in
    omega (
      arith,
      decimal_short c.args.n c.ranges.n.fits,
      ap length c.self.view_is,
      length-drop inside.start inside.room,
      wrote.ensures.start,
      length-drop wrote.result wrote.new.buf,
    )
