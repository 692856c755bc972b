-- A pipe takes what fits whole, and breaks where its other end is let go.
use Rattle.std.specs.Prelude.{List, [], ◌∷◌, replicate, codes}
use Rattle.ix_label.specs.Category.{bottom, top}
use Rattle.ix_model.specs.history.Events.{Event}
use Rattle.ix_model.specs.history.Events as op
use Rattle.ix_model.specs.declared.config.Config.{Config}
use Rattle.ix_model.specs.declared.refusal.Refusal.TheVariants as refusal
use Rattle.ix_model.specs.declared.reply.Reply.TheVariants as reply
use Rattle.ix_worked.specs.Scripts.{proc, usual_fs, machine, entry, gives, gives_bytes, gives_done, gives_number, refuses}
use Rattle.ix_worked.specs.Sessions.{Shown}

-- proc a - * - -
abbrev pub one_process : Config
one_process = machine usual_fs (proc bottom top ∷ []) []

-- pipe a as f g
-- write a f 4096*41
-- write a f x42
-- read a g 4096
-- read a g 1
-- close a f
-- read a g 1
-- write a g x43
abbrev pub piping : List Event
piping =
    entry 5 1 op.MakePipe
    ∷ entry 6 1 (op.WriteFd 0 (replicate 4096 65))
    ∷ entry 7 1 (op.WriteFd 0 (codes "B"))
    ∷ entry 8 1 (op.ReadFd 1 4096)
    ∷ entry 9 1 (op.ReadFd 1 1)
    ∷ entry 10 1 (op.CloseFd 0)
    ∷ entry 11 1 (op.ReadFd 1 1)
    ∷ entry 12 1 (op.WriteFd 1 (codes "C"))
    ∷ []

-- an empty pipe answers that there may be more while its other end is held, and that there is no more once it is not
abbrev pub piping_shows : Shown
piping_shows = record {
  lines =
      gives (reply.Two (record { 0 = 0 }) (record { 0 = 1 })) [] bottom ∷ gives_number 4096 bottom ∷ refuses refusal.PipeFull bottom
      ∷ gives_bytes (replicate 4096 65) bottom ∷ refuses refusal.Again bottom ∷ gives_done bottom ∷ gives_bytes [] bottom
      ∷ refuses refusal.Broken bottom ∷ [];
  objects = (0, bottom) ∷ (256, bottom) ∷ [];
  processes = (1, bottom) ∷ [];
  log = [];
}
