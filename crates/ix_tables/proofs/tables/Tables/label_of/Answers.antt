use Rattle.std.proofs.Common.{ap, arith, ◌∙◌}
use Rattle.ix_tables.{specs.Parts.Parts, proofs.Telling.{inode_label, no_label}}
use Rattle.ix_tables.proofs.tables.Tables.label_of.Goals as goal

pub returns-in-Some : goal.returns-in-Some
returns-in-Some c = inode_label c.self.inside.inodes c.self.inside.names c.self.inside.pipes c.args.self.now.objects
    (ap (λ (v : Parts). v.objects) c.self.view_is) c.args.n _ c.in-Some.ensures

pub returns-in-None : goal.returns-in-None
returns-in-None c =
    c.bottom.ensures ∙ no_label c.self.inside.inodes c.self.inside.names c.self.inside.pipes c.args.self.now.objects
    (ap (λ (v : Parts). v.objects) c.self.view_is) c.args.n
    (omega (arith, c.if-n-self.false, c.self.invariant.1)) c.in-None.ensures
