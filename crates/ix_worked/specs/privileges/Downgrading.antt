-- A label is lowered by a capability and a licence together, and where the log has room.
use Rattle.std.specs.Prelude.{List, [], ◌∷◌, codes}
use Rattle.ix_label.specs.Category.{bottom, top}
use Rattle.ix_model.specs.history.Events.{Event}
use Rattle.ix_model.specs.history.Events as op
use Rattle.ix_model.specs.world.Privs.{to_lower}
use Rattle.ix_model.specs.declared.audit.Act.TheVariants as act
use Rattle.ix_model.specs.declared.config.Config.{Config}
use Rattle.ix_model.specs.declared.refusal.Refusal.TheVariants as refusal
use Rattle.ix_worked.specs.Scripts.{three, in_root, proc, file, usual_fs, usual_limits, machine, entry, log_line, gives_done, refuses}
use Rattle.ix_worked.specs.Sessions.{Shown}

-- limit log 1
-- proc a 3 * - -
-- proc b 3 * D -
-- proc c 3 * D D
-- file /f 3 free - - x
-- file /g 3 free - - x
abbrev pub one_line : Config
one_line = record
    (machine usual_fs
    (proc three top ∷ record (proc three top) { cap = to_lower } ∷ record (proc three top) { cap = to_lower; lic = to_lower } ∷ [])
    (file (codes "f") three [] ∷ file (codes "g") three [] ∷ []))
    { limits = record usual_limits { log = 1 } }

-- setlabel a /f -
-- setlabel b /f -
-- setlabel c /f -
-- setlabel c /g -
abbrev pub lowering : List Event
lowering =
    entry 10 1 (op.SetLabel (in_root (codes "f")) bottom)
    ∷ entry 11 2 (op.SetLabel (in_root (codes "f")) bottom)
    ∷ entry 12 3 (op.SetLabel (in_root (codes "f")) bottom)
    ∷ entry 13 3 (op.SetLabel (in_root (codes "g")) bottom)
    ∷ []

-- the one who has both lowers the first file, and the log is full then
abbrev pub lowering_shows : Shown
lowering_shows = record {
  lines = refuses refusal.NoCapability three ∷ refuses refusal.NoLicence three ∷ gives_done three ∷ refuses refusal.LogFull three ∷ [];
  objects = (0, bottom) ∷ (1, bottom) ∷ (2, three) ∷ [];
  processes = (1, three) ∷ (2, three) ∷ (3, three) ∷ [];
  log = log_line 3 3 act.DownFile 1 three bottom ∷ [];
}
