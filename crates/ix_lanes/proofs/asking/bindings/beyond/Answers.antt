use Rattle.std.proofs.Common.{sym}
use Rattle.ix_lanes.proofs.found.Near.{nowhere}
use Rattle.ix_lanes.proofs.asking.bindings.beyond.Goals as goal

pub returns-then-is_empty : goal.returns-then-is_empty
returns-then-is_empty g c = sym (nowhere c.args.name.now c.args.numbers.now.entries (c.is_empty.ensures.0 c.if-is_empty.true))
