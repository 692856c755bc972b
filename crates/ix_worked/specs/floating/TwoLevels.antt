-- A high writer and a low reader on one machine.
use Rattle.std.specs.Prelude.{ℕ, List, [], ◌∷◌, codes}
use Rattle.ix_label.specs.Category.{bottom, top}
use Rattle.ix_model.specs.history.Events.{Event}
use Rattle.ix_model.specs.history.Events as op
use Rattle.ix_model.specs.declared.call.Mode.TheVariants as mode
use Rattle.ix_model.specs.declared.config.Config.{Config}
use Rattle.ix_model.specs.declared.reply.Reply.TheVariants as reply
use Rattle.ix_worked.specs.Sessions.{Shown}
use Rattle.ix_worked.specs.Scripts.{seven, in_root, proc, file, usual_fs, machine, entry, gives, gives_bytes, gives_number}

-- proc l - * - -
-- proc h 7 * - -
-- file /d - free - - x00
-- file /e - free - - "ok"
abbrev pub two_levels : Config
two_levels = machine usual_fs (proc bottom top ∷ proc seven top ∷ []) (file (codes "d") bottom (0 ∷ []) ∷ file (codes "e") bottom (codes "ok") ∷ [])

-- open h /d w as f
-- open l /d r as g
-- open l /e r as k
-- write h f BYTES
-- read l k 2
-- read l g 2
abbrev pub writing : List ℕ → List Event
writing bytes =
    entry 8 2 (op.OpenAt (in_root (codes "d")) mode.Write)
    ∷ entry 9 1 (op.OpenAt (in_root (codes "d")) mode.Read)
    ∷ entry 10 1 (op.OpenAt (in_root (codes "e")) mode.Read)
    ∷ entry 11 2 (op.WriteFd 0 bytes)
    ∷ entry 12 1 (op.ReadFd 1 2)
    ∷ entry 13 1 (op.ReadFd 0 2)
    ∷ []

-- two bytes are written: the low reader gets them only as it floats
abbrev pub writing_shows : List ℕ → Shown
writing_shows bytes = record {
  lines =
      gives_number 0 seven ∷ gives_number 0 bottom ∷ gives_number 1 bottom ∷ gives_number 2 seven ∷ gives_bytes (codes "ok") bottom
      ∷ gives (reply.Bytes 2) bytes seven ∷ [];
  objects = (0, bottom) ∷ (1, seven) ∷ (2, bottom) ∷ [];
  processes = (1, seven) ∷ (2, seven) ∷ [];
  log = [];
}
