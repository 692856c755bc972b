-- A parent floats to the label of the child that it waits for.
use Rattle.std.specs.Prelude.{List, [], ◌∷◌, codes}
use Rattle.ix_label.specs.Category.{bottom, top}
use Rattle.ix_model.specs.history.Events.{Event}
use Rattle.ix_model.specs.history.Events as op
use Rattle.ix_model.specs.declared.call.Keep.TheVariants as keep
use Rattle.ix_model.specs.declared.call.Mode.TheVariants as mode
use Rattle.ix_model.specs.declared.config.Config.{Config}
use Rattle.ix_model.specs.declared.reply.Reply.TheVariants as reply
use Rattle.ix_worked.specs.Scripts.{four, in_root, proc, file, usual_fs, machine, entry, gives, gives_bytes, gives_done, gives_number}
use Rattle.ix_worked.specs.Sessions.{Shown}

-- proc a - * - -
-- file /s 4 free - - "k"
abbrev pub a_secret : Config
a_secret = machine usual_fs (proc bottom top ∷ []) (file (codes "s") four (codes "k") ∷ [])

-- fork a all as q
-- open q /s r as f
-- read q f 1
-- exit q 9
-- wait a
abbrev pub waiting : List Event
waiting =
    entry 6 1 (op.Fork keep.All)
    ∷ entry 7 2 (op.OpenAt (in_root (codes "s")) mode.Read)
    ∷ entry 8 2 (op.ReadFd 0 1)
    ∷ entry 9 2 (op.Exit 9)
    ∷ entry 10 1 op.WaitChild
    ∷ []

-- the parent gets the status at the label that the child had
abbrev pub waiting_shows : Shown
waiting_shows = record {
  lines =
      gives_number 2 bottom ∷ gives_number 0 bottom ∷ gives_bytes (codes "k") four ∷ gives_done four
      ∷ gives (reply.Child (record { 0 = 2 }) 9) [] four ∷ [];
  objects = (0, bottom) ∷ (1, four) ∷ [];
  processes = (1, four) ∷ [];
  log = [];
}
