use Rattle.std.proofs.Common.{ap, sym, ◌∙◌, length, List, ℕ}
use Rattle.ix_tables.proofs.Joining.{directory_listed, names_there}
use Rattle.ix_tables.proofs.tables.Tables.count_names.Goals as goal

pub count-requires : goal.count-requires
count-requires c = directory_listed c.self.invariant.0 c.self.view_is c.args.dir c.requires

pub returns : goal.returns
returns c = c.count.ensures
    ∙ ap (λ (ns : List (List ℕ × ℕ)). length ns)
    (sym (names_there c.self.invariant.0 c.self.view_is c.args.dir c.requires))
