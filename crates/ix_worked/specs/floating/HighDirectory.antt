-- A directory that is looked into raises the one who looks.
use Rattle.std.specs.Prelude.{List, [], ◌∷◌, codes}
use Rattle.ix_label.specs.Category.{bottom, top}
use Rattle.ix_model.specs.history.Events.{Event}
use Rattle.ix_model.specs.history.Events as op
use Rattle.ix_model.specs.declared.config.Config.{Config}
use Rattle.ix_model.specs.declared.refusal.Refusal.TheVariants as refusal
use Rattle.ix_worked.specs.Scripts.{seven, under, proc, dir, usual_fs, machine, entry, refuses}
use Rattle.ix_worked.specs.Sessions.{Shown}

-- proc a - * - -
-- dir /v 7 free
abbrev pub a_high_directory : Config
a_high_directory = machine usual_fs (proc bottom top ∷ []) (dir (codes "v") seven ∷ [])

-- stat a /v/no
abbrev pub looking_into_it : List Event
looking_into_it =
    entry 6 1 (op.StatAt (under (codes "v") (codes "no")))
    ∷ []

-- there is no such name, which is told at the label of the directory
abbrev pub looking_into_it_shows : Shown
looking_into_it_shows = record {
  lines = refuses refusal.NotFound seven ∷ [];
  objects = (0, bottom) ∷ (1, seven) ∷ [];
  processes = (1, seven) ∷ [];
  log = [];
}
