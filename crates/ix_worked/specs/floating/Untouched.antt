-- A machine on which nothing is called.
use Rattle.std.specs.Prelude.{List, [], ◌∷◌}
use Rattle.ix_label.specs.Category.{bottom}
use Rattle.ix_model.specs.history.Events.{Event}
use Rattle.ix_model.specs.declared.config.Config.{Config}
use Rattle.ix_worked.specs.Sessions.{Shown}
use Rattle.ix_worked.specs.Scripts.{usual_fs, machine}

-- a script of its first line alone
abbrev pub untouched : Config
untouched = machine usual_fs [] []

abbrev pub no_entries : List Event
no_entries = []

abbrev pub untouched_shows : Shown
untouched_shows = record { lines = []; objects = (0, bottom) ∷ []; processes = []; log = [] }
