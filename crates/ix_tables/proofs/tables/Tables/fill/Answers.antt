use Rattle.ix_tables.proofs.{OpeningLines.filled, Repeating.{filled_up, room_filled_up}}
use Rattle.ix_tables.proofs.tables.Tables.fill.Goals as goal

pub write_times-requires-clause-room : goal.write_times-requires-clause-room
write_times-requires-clause-room c =
    room_filled_up c.args.self.now c.args.n c.parts-times.result.0.now c.parts-times.result.1 c.parts-times.result.2 c.args.bytes.now c.write.new.self
    c.parts-times.ensures (filled c.args.self.now c.write.new.self c.args.n c.parts-times.result.0.now c.requires.empty c.write.ensures) c.requires.room

pub returns : goal.returns
returns c =
    filled_up c.args.self.now c.args.n c.parts-times.result.0.now c.parts-times.result.1 c.parts-times.result.2 c.args.bytes.now c.write.new.self
    c.write_times.new.self c.parts-times.ensures
    (filled c.args.self.now c.write.new.self c.args.n c.parts-times.result.0.now c.requires.empty c.write.ensures) c.write_times.ensures
