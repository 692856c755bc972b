use Rattle.std.proofs.Common.{◌∙◌, ap, nat_lt}
use Rattle.ix_tables.proofs.Naming.{room_is}
use Rattle.ix_tables.proofs.tables.Tables.has_room_for_a_name.Goals as goal

pub returns : goal.returns
returns c = ap (nat_lt 0) c.free.ensures ∙ room_is _ _ _ _ _ _ _ c.self.invariant.0 c.self.view_is
