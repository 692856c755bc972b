-- Two descriptors of one open entry share its offset.
use Rattle.std.specs.Prelude.{List, [], ◌∷◌, codes}
use Rattle.ix_label.specs.Category.{bottom, top}
use Rattle.ix_model.specs.history.Events.{Event}
use Rattle.ix_model.specs.history.Events as op
use Rattle.ix_model.specs.declared.call.Mode.TheVariants as mode
use Rattle.ix_model.specs.declared.config.Config.{Config}
use Rattle.ix_model.specs.declared.refusal.Refusal.TheVariants as refusal
use Rattle.ix_worked.specs.Scripts.{in_root, proc, file, usual_fs, machine, entry, gives_bytes, gives_done, gives_number, refuses}
use Rattle.ix_worked.specs.Sessions.{Shown}

-- proc a - * - -
-- file /n - free - - "abc"
abbrev pub one_file : Config
one_file = machine usual_fs (proc bottom top ∷ []) (file (codes "n") bottom (codes "abc") ∷ [])

-- open a /n r as f
-- dup a f as g
-- read a f 1
-- read a g 1
-- close a f
-- seek a g 1048577
-- read a g 8
abbrev pub sharing : List Event
sharing =
    entry 6 1 (op.OpenAt (in_root (codes "n")) mode.Read)
    ∷ entry 7 1 (op.DupFd 0)
    ∷ entry 8 1 (op.ReadFd 0 1)
    ∷ entry 9 1 (op.ReadFd 1 1)
    ∷ entry 10 1 (op.CloseFd 0)
    ∷ entry 11 1 (op.SeekFd 1 1048577)
    ∷ entry 12 1 (op.ReadFd 1 8)
    ∷ []

-- each goes on where the other stopped, also once the other is closed; a seek past the greatest length moves nothing
abbrev pub sharing_shows : Shown
sharing_shows = record {
  lines =
      gives_number 0 bottom ∷ gives_number 1 bottom ∷ gives_bytes (codes "a") bottom ∷ gives_bytes (codes "b") bottom ∷ gives_done bottom
      ∷ refuses refusal.TooBig bottom ∷ gives_bytes (codes "c") bottom ∷ [];
  objects = (0, bottom) ∷ (1, bottom) ∷ [];
  processes = (1, bottom) ∷ [];
  log = [];
}
