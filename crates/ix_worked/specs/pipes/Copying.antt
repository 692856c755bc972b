-- A command that copies makes a read, and where bytes were read a write of them.
use Rattle.std.specs.Prelude.{List, [], ◌∷◌, codes}
use Rattle.ix_label.specs.Category.{bottom}
use Rattle.ix_model.specs.history.Events.{Event}
use Rattle.ix_model.specs.history.Events as op
use Rattle.ix_model.specs.declared.call.Mode.TheVariants as mode
use Rattle.ix_model.specs.declared.reply.Reply.TheVariants as reply
use Rattle.ix_worked.specs.Scripts.{in_root, entry, gives, gives_bytes, gives_number}
use Rattle.ix_worked.specs.Sessions.{Shown}

-- open a /n r as f
-- pipe a as g h
-- copy a f g 8
-- copy a f g 8
-- read a h 8
abbrev pub copying : List Event
copying =
    entry 6 1 (op.OpenAt (in_root (codes "n")) mode.Read)
    ∷ entry 7 1 op.MakePipe
    ∷ entry 8 1 (op.ReadFd 0 8)
    ∷ entry 8 1 (op.WriteFd 1 (codes "abc"))
    ∷ entry 9 1 (op.ReadFd 0 8)
    ∷ entry 10 1 (op.ReadFd 2 8)
    ∷ []

-- the second copy finds nothing more
abbrev pub copying_shows : Shown
copying_shows = record {
  lines =
      gives_number 0 bottom ∷ gives (reply.Two (record { 0 = 1 }) (record { 0 = 2 })) [] bottom ∷ gives_bytes (codes "abc") bottom
      ∷ gives_number 3 bottom ∷ gives_bytes [] bottom ∷ gives_bytes (codes "abc") bottom ∷ [];
  objects = (0, bottom) ∷ (1, bottom) ∷ (256, bottom) ∷ [];
  processes = (1, bottom) ∷ [];
  log = [];
}
