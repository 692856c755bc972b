use Rattle.std.proofs.Common.{ap, sym, ◌∙◌, slice_get}
use Rattle.ix_tables.proofs.Joining.{directory_listed, names_there}
use Rattle.ix_tables.proofs.tables.Tables.name_at.Goals as goal

pub at-requires : goal.at-requires
at-requires c = directory_listed c.self.invariant.0 c.self.view_is c.args.dir c.requires

pub returns-in-Some : goal.returns-in-Some
returns-in-Some c = c.in-Some.ensures
    ∙ ap (λ ns. slice_get ns c.args.index)
    (sym (names_there c.self.invariant.0 c.self.view_is c.args.dir c.requires))

pub returns-in-None : goal.returns-in-None
returns-in-None c = c.in-None.ensures
    ∙ ap (λ ns. slice_get ns c.args.index)
    (sym (names_there c.self.invariant.0 c.self.view_is c.args.dir c.requires))
