use Rattle.std.proofs.Common.{ap, sym, ◌∙◌}
use Rattle.ix_name.specs.Directories.{under}
use Rattle.ix_tables.proofs.Joining.{names_there}
use Rattle.ix_tables.proofs.tables.Tables.child.Goals as goal

pub returns-in-Some : goal.returns-in-Some
returns-in-Some c = c.in-Some.ensures
    ∙ ap (under c.args.name.now.bytes.now)
    (sym (names_there c.self.invariant.0 c.self.view_is c.args.dir c.requires))

pub returns-in-None : goal.returns-in-None
returns-in-None c = c.in-None.ensures
    ∙ ap (under c.args.name.now.bytes.now)
    (sym (names_there c.self.invariant.0 c.self.view_is c.args.dir c.requires))
