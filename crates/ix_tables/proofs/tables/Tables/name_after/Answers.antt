use Rattle.std.proofs.Common.{ap, sym, ◌∙◌, ◌+◌, slice_get}
use Rattle.ix_tables.proofs.Joining.{names_there}
use Rattle.ix_tables.proofs.tables.Tables.name_after.Goals as goal

pub returns-in-Some : goal.returns-in-Some
returns-in-Some c = λ place o h.
    let names = names_there c.self.invariant.0 c.self.view_is c.args.dir c.requires in
    c.in-Some.ensures place o (ap (λ ns. slice_get ns place) (sym names) ∙ h) ∙ ap (λ ns. slice_get ns (place + 1)) (sym names)

pub returns-in-None : goal.returns-in-None
returns-in-None c = λ place o h.
    let names = names_there c.self.invariant.0 c.self.view_is c.args.dir c.requires in
    c.in-None.ensures place o (ap (λ ns. slice_get ns place) (sym names) ∙ h) ∙ ap (λ ns. slice_get ns (place + 1)) (sym names)
