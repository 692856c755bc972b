-- A file is raised between two reads through one descriptor.
use Rattle.std.specs.Prelude.{List, [], ◌∷◌, codes}
use Rattle.ix_label.specs.Category.{bottom, top}
use Rattle.ix_model.specs.history.Events.{Event}
use Rattle.ix_model.specs.history.Events as op
use Rattle.ix_model.specs.declared.call.Mode.TheVariants as mode
use Rattle.ix_model.specs.declared.config.Config.{Config}
use Rattle.ix_model.specs.declared.refusal.Refusal.TheVariants as refusal
use Rattle.ix_worked.specs.Sessions.{Shown}
use Rattle.ix_worked.specs.Scripts.{seven, in_root, proc, file, usual_fs, machine, entry, gives_bytes, gives_number, refuses}

-- proc l - - - -
-- proc h 7 * - -
-- file /d - free - - "xy"
abbrev pub held_low : Config
held_low = machine usual_fs (proc bottom bottom ∷ proc seven top ∷ []) (file (codes "d") bottom (codes "xy") ∷ [])

-- open h /d w as f
-- open l /d r as g
-- read l g 1
-- write h f "Z"
-- read l g 1
abbrev pub reading_twice : List Event
reading_twice =
    entry 7 2 (op.OpenAt (in_root (codes "d")) mode.Write)
    ∷ entry 8 1 (op.OpenAt (in_root (codes "d")) mode.Read)
    ∷ entry 9 1 (op.ReadFd 0 1)
    ∷ entry 10 2 (op.WriteFd 0 (codes "Z"))
    ∷ entry 11 1 (op.ReadFd 0 1)
    ∷ []

-- the second read is refused: that the first one passed counts for nothing
abbrev pub reading_twice_shows : Shown
reading_twice_shows = record {
  lines =
      gives_number 0 seven ∷ gives_number 0 bottom ∷ gives_bytes (codes "x") bottom ∷ gives_number 1 seven
      ∷ refuses refusal.ProcCeiling bottom ∷ [];
  objects = (0, bottom) ∷ (1, seven) ∷ [];
  processes = (1, bottom) ∷ (2, seven) ∷ [];
  log = [];
}
