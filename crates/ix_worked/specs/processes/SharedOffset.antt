-- A high child reads on through an open entry that it shares with its low parent.
use Rattle.std.specs.Prelude.{List, [], ◌∷◌, ◌++◌, codes}
use Rattle.ix_label.specs.Category.{bottom, top}
use Rattle.ix_model.specs.history.Events.{Op, Event}
use Rattle.ix_model.specs.history.Events as op
use Rattle.ix_model.specs.declared.call.Keep.TheVariants as keep
use Rattle.ix_model.specs.declared.call.Mode.TheVariants as mode
use Rattle.ix_model.specs.declared.config.Config.{Config}
use Rattle.ix_model.specs.declared.config.FsSpec.{FsSpec}
use Rattle.ix_model.specs.declared.refusal.Refusal.TheVariants as refusal
use Rattle.ix_model.specs.declared.reply.Reply.TheVariants as reply
use Rattle.ix_worked.specs.Scripts.{seven, in_root, proc, file, usual_fs, machine, entry, gives, gives_bytes, gives_done, gives_number, refuses}
use Rattle.ix_worked.specs.Sessions.{Line, Shown}

-- proc a - * - -
-- file /n - free - - "abcdefgh"
-- file /s 7 free - - "zz"
abbrev pub low_and_secret : FsSpec → Config
low_and_secret fs = machine fs (proc bottom top ∷ []) (file (codes "n") bottom (codes "abcdefgh") ∷ file (codes "s") seven (codes "zz") ∷ [])

abbrev pub one_shared : Config
one_shared = low_and_secret usual_fs

-- fs root 7 64 16
abbrev pub seven_fs : FsSpec
seven_fs = record { name = codes "root"; ceiling = seven; blocks = 64; inodes = 16 }

abbrev pub below_seven : Config
below_seven = low_and_secret seven_fs

-- open a /n rw as f
-- fork a all as q
-- open q /s r as g
-- read q g 2
-- read q f 4
abbrev pub reading_far : List Event
reading_far =
    entry 7 1 (op.OpenAt (in_root (codes "n")) mode.Both)
    ∷ entry 8 1 (op.Fork keep.All)
    ∷ entry 9 2 (op.OpenAt (in_root (codes "s")) mode.Read)
    ∷ entry 10 2 (op.ReadFd 1 2)
    ∷ entry 11 2 (op.ReadFd 0 4)
    ∷ []

-- and then
-- read a f 1
abbrev pub reading_on : List Event
reading_on = reading_far ++ entry 12 1 (op.ReadFd 0 1) ∷ []

-- or
-- write a f "x"
abbrev pub writing_on : List Event
writing_on = reading_far ++ entry 12 1 (op.WriteFd 0 (codes "x")) ∷ []

-- open a /n rw as f
-- freeze a /n
-- fork a all as q
-- open q /s r as g
-- read q g 2
-- read q f 4
-- write a f "x"
abbrev pub writing_frozen : List Event
writing_frozen =
    entry 8 1 (op.OpenAt (in_root (codes "n")) mode.Both)
    ∷ entry 9 1 (op.Freeze (in_root (codes "n")))
    ∷ entry 10 1 (op.Fork keep.All)
    ∷ entry 11 2 (op.OpenAt (in_root (codes "s")) mode.Read)
    ∷ entry 12 2 (op.ReadFd 1 2)
    ∷ entry 13 2 (op.ReadFd 0 4)
    ∷ entry 14 1 (op.WriteFd 0 (codes "x"))
    ∷ []

abbrev pub reading_far_gives : List Line
reading_far_gives =
    gives (reply.Number 0) [] bottom
    ∷ gives (reply.Number 2) [] bottom
    ∷ gives (reply.Number 1) [] bottom
    ∷ gives (reply.Bytes 2) (codes "zz") seven
    ∷ gives (reply.Bytes 4) (codes "abcd") seven
    ∷ []

-- where the child has come to is told at its label
abbrev pub reading_on_shows : Shown
reading_on_shows = record {
  lines = reading_far_gives ++ gives (reply.Bytes 1) (codes "e") seven ∷ [];
  objects = (0, bottom) ∷ (1, bottom) ∷ (2, seven) ∷ [];
  processes = (1, seven) ∷ (2, seven) ∷ [];
  log = [];
}

-- and so is a file that is written there
abbrev pub writing_on_shows : Shown
writing_on_shows = record {
  lines = reading_far_gives ++ gives (reply.Number 1) [] bottom ∷ [];
  objects = (0, bottom) ∷ (1, seven) ∷ (2, seven) ∷ [];
  processes = (1, bottom) ∷ (2, seven) ∷ [];
  log = [];
}

-- which a frozen one can't be
abbrev pub writing_frozen_shows : Shown
writing_frozen_shows = record {
  lines =
      gives_number 0 bottom ∷ gives_done bottom ∷ gives_number 2 bottom ∷ gives_number 1 bottom ∷ gives_bytes (codes "zz") seven
      ∷ gives_bytes (codes "abcd") seven ∷ refuses refusal.FileFrozen bottom ∷ [];
  objects = (0, bottom) ∷ (1, bottom) ∷ (2, seven) ∷ [];
  processes = (1, bottom) ∷ (2, seven) ∷ [];
  log = [];
}
