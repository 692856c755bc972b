use Rattle.std.proofs.{Common.arith, lemmas.List.take-replicate}
use Rattle.ix_tables.proofs.Repeating.{goes_on, room_goes_on}
use Rattle.ix_tables.proofs.tables.Tables.write_times.Goals as goal

pub write-requires-clause-room : goal.write-requires-clause-room
write-requires-clause-room c =
    room_goes_on c.args.self.now c.args.n c.args.byte c.parts.done c.size-len.result c.from.result c.args.times c.min-part.result _ c.parts.self
    c.size-len.ensures c.from.ensures (take-replicate c.min-part.result 4096 c.args.byte (omega (arith, c.min-part.ensures)))
    (omega (arith, c.min-part.ensures, c.parts-test.true)) c.parts.invariant.kept c.requires.room

pub parts-preserved : goal.parts-preserved
parts-preserved c = record {
  kept = goes_on c.args.self.now c.args.n c.args.byte c.parts.done c.size-len.result c.from.result c.min-part.result _ c.parts.self c.write.new.self
      c.size-len.ensures c.from.ensures (take-replicate c.min-part.result 4096 c.args.byte (omega (arith, c.min-part.ensures))) c.parts.invariant.kept
      c.write.ensures;
  within = omega (arith, c.min-part.ensures, c.parts-test.true);
}
