use Rattle.std.proofs.Common.{length, ap, arith}
use Rattle.ix_tables.{specs.Parts.Parts, proofs.Joining.length-all}
use Rattle.ix_tables.proofs.tables.Tables.objects.Goals as goal

pub returns : goal.returns
returns c = omega (arith, c.len.ensures, c.self.invariant.0.homes, ap (λ (v : Parts). length v.objects) c.self.view_is, length-all c.self.inside.inodes c.self.inside.names c.self.inside.pipes)
