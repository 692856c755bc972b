-- A program brings its privileges, and the next one takes them away.
use Rattle.std.specs.Prelude.{true, List, [], ◌∷◌, codes}
use Rattle.ix_label.specs.Category.{bottom, top}
use Rattle.ix_model.specs.history.Events.{Event}
use Rattle.ix_model.specs.history.Events as op
use Rattle.ix_model.specs.world.Privs.{to_thaw}
use Rattle.ix_model.specs.declared.audit.Act.TheVariants as act
use Rattle.ix_model.specs.declared.config.Config.{Config}
use Rattle.ix_model.specs.declared.refusal.Refusal.TheVariants as refusal
use Rattle.ix_worked.specs.Scripts.{in_root, proc, file, usual_fs, machine, entry, log_line, gives_done, refuses}
use Rattle.ix_worked.specs.Sessions.{Shown}

-- file /prog - free T T x
-- file /plain - free - - x
-- file /q - frozen - - x
-- proc a - * - -
abbrev pub programs : Config
programs = machine usual_fs (proc bottom top ∷ [])
    (record (file (codes "prog") bottom []) { cap = to_thaw; lic = to_thaw }
    ∷ file (codes "plain") bottom []
    ∷ record (file (codes "q") bottom []) { frozen = true }
    ∷ [])

-- exec a /prog
-- thaw a /q
-- exec a /plain
-- thaw a /q
abbrev pub executing : List Event
executing =
    entry 8 1 (op.Exec (in_root (codes "prog")))
    ∷ entry 9 1 (op.Thaw (in_root (codes "q")))
    ∷ entry 10 1 (op.Exec (in_root (codes "plain")))
    ∷ entry 11 1 (op.Thaw (in_root (codes "q")))
    ∷ []

-- it thaws the file once
abbrev pub executing_shows : Shown
executing_shows = record {
  lines = gives_done bottom ∷ gives_done bottom ∷ gives_done bottom ∷ refuses refusal.NoCapability bottom ∷ [];
  objects = (0, bottom) ∷ (1, bottom) ∷ (2, bottom) ∷ (3, bottom) ∷ [];
  processes = (1, bottom) ∷ [];
  log = log_line 2 1 act.ThawFile 3 bottom bottom ∷ [];
}
