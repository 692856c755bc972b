-- A reader floats to the label of what it reads, as far as its ceiling.
use Rattle.std.specs.Prelude.{List, [], ◌∷◌, codes}
use Rattle.ix_label.specs.Category.{Categories, bottom}
use Rattle.ix_model.specs.history.Events.{Event}
use Rattle.ix_model.specs.history.Events as op
use Rattle.ix_model.specs.declared.call.Mode.TheVariants as mode
use Rattle.ix_model.specs.declared.config.Config.{Config}
use Rattle.ix_model.specs.declared.refusal.Refusal.TheVariants as refusal
use Rattle.ix_model.specs.declared.reply.Reply.TheVariants as reply
use Rattle.ix_worked.specs.Sessions.{Shown}
use Rattle.ix_worked.specs.Scripts.{three, three_and_five, in_root, proc, file, usual_fs, machine, entry, gives, gives_bytes, gives_number, refuses}

-- proc a - 3 - -
-- file /s LABEL free - - "hi"
abbrev pub reading_up : Categories → Config
reading_up label = machine usual_fs (proc bottom three ∷ []) (file (codes "s") label (codes "hi") ∷ [])

-- open a /s r as f
-- read a f 8
-- self a
abbrev pub reading : List Event
reading =
    entry 6 1 (op.OpenAt (in_root (codes "s")) mode.Read)
    ∷ entry 7 1 (op.ReadFd 0 8)
    ∷ entry 8 1 op.SelfLabel
    ∷ []

-- at its ceiling, it reads
abbrev pub floating_shows : Shown
floating_shows = record {
  lines = gives_number 0 bottom ∷ gives_bytes (codes "hi") three ∷ gives (reply.Lab three) [] three ∷ [];
  objects = (0, bottom) ∷ (1, three) ∷ [];
  processes = (1, three) ∷ [];
  log = [];
}

-- past its ceiling, it is refused, and stays where it was
abbrev pub stopped_shows : Shown
stopped_shows = record {
  lines = gives_number 0 bottom ∷ refuses refusal.ProcCeiling bottom ∷ gives (reply.Lab bottom) [] bottom ∷ [];
  objects = (0, bottom) ∷ (1, three_and_five) ∷ [];
  processes = (1, bottom) ∷ [];
  log = [];
}
