-- A child has its parent's descriptors, and shares their open entries.
use Rattle.std.specs.Prelude.{List, [], ◌∷◌, codes}
use Rattle.ix_label.specs.Category.{bottom, top}
use Rattle.ix_model.specs.history.Events.{Event}
use Rattle.ix_model.specs.history.Events as op
use Rattle.ix_model.specs.declared.call.Keep.TheVariants as keep
use Rattle.ix_model.specs.declared.call.Mode.TheVariants as mode
use Rattle.ix_model.specs.declared.config.Config.{Config}
use Rattle.ix_worked.specs.Scripts.{in_root, proc, file, usual_fs, machine, entry, gives_bytes, gives_done, gives_number}
use Rattle.ix_worked.specs.Sessions.{Shown}

-- proc a - * - -
-- file /n - free - - "abcdefgh"
abbrev pub letters : Config
letters = machine usual_fs (proc bottom top ∷ []) (file (codes "n") bottom (codes "abcdefgh") ∷ [])

-- open a /n r as f
-- fork a all as q
-- read a f 4
-- read q f 4
-- close a f
-- read q f 1
abbrev pub inheriting : List Event
inheriting =
    entry 6 1 (op.OpenAt (in_root (codes "n")) mode.Read)
    ∷ entry 7 1 (op.Fork keep.All)
    ∷ entry 8 1 (op.ReadFd 0 4)
    ∷ entry 9 2 (op.ReadFd 0 4)
    ∷ entry 10 1 (op.CloseFd 0)
    ∷ entry 11 2 (op.ReadFd 0 1)
    ∷ []

-- the child reads on where its parent stopped, and is at the end; that the parent closes changes nothing
abbrev pub inheriting_shows : Shown
inheriting_shows = record {
  lines =
      gives_number 0 bottom ∷ gives_number 2 bottom ∷ gives_bytes (codes "abcd") bottom ∷ gives_bytes (codes "efgh") bottom
      ∷ gives_done bottom ∷ gives_bytes [] bottom ∷ [];
  objects = (0, bottom) ∷ (1, bottom) ∷ [];
  processes = (1, bottom) ∷ (2, bottom) ∷ [];
  log = [];
}
