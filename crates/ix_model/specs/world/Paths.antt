-- What lent paths mean.
use Rattle.std.specs.Prelude.{ℕ, Bool, List}
use Rattle.ix_model.specs.world.Naming.{PathOf}
use Rattle.ix_model.specs.world.Texts.{names_in}
use Rattle.ix_model.specs.declared.path.Path.{Path}
use Rattle.ix_model.specs.declared.path.Names.{Names}

-- the path with this text of its names
abbrev pub path_from : Bool → List ℕ → PathOf
path_from absolute text = record { absolute = absolute; names = names_in text }

-- the path that a lent path is
abbrev pub path_of : Path → PathOf
path_of p = path_from p.absolute p.text.now

-- the names that are left
abbrev pub names_left : Names → List (List ℕ)
names_left n = names_in n.rest.now
