-- A file floats to the label of its writer, as far as its file system's ceiling.
use Rattle.std.specs.Prelude.{List, [], ◌∷◌, codes}
use Rattle.ix_label.specs.Category.{bottom, top}
use Rattle.ix_model.specs.history.Events.{Event}
use Rattle.ix_model.specs.history.Events as op
use Rattle.ix_model.specs.declared.call.Mode.TheVariants as mode
use Rattle.ix_model.specs.declared.config.Config.{Config}
use Rattle.ix_model.specs.declared.config.FsSpec.{FsSpec}
use Rattle.ix_model.specs.declared.refusal.Refusal.TheVariants as refusal
use Rattle.ix_worked.specs.Sessions.{Shown}
use Rattle.ix_worked.specs.Scripts.{three, five, in_root, proc, file, machine, entry, gives_bytes, gives_number, refuses}

-- fs root 5 64 16
abbrev pub low_fs : FsSpec
low_fs = record { name = codes "root"; ceiling = five; blocks = 64; inodes = 16 }

-- proc a 3 * - -
-- file /t - free - - "old"
abbrev pub low_files : Config
low_files = machine low_fs (proc three top ∷ []) (file (codes "t") bottom (codes "old") ∷ [])

-- open a /t rw as f
-- write a f "new"
-- read a f 3
abbrev pub writing_down : List Event
writing_down =
    entry 7 1 (op.OpenAt (in_root (codes "t")) mode.Both)
    ∷ entry 8 1 (op.WriteFd 0 (codes "new"))
    ∷ entry 9 1 (op.ReadFd 0 3)
    ∷ []

-- the write is refused, and the file has its label and its bytes still
abbrev pub writing_down_shows : Shown
writing_down_shows = record {
  lines = gives_number 0 three ∷ refuses refusal.FsCeiling three ∷ gives_bytes (codes "old") three ∷ [];
  objects = (0, bottom) ∷ (1, bottom) ∷ [];
  processes = (1, three) ∷ [];
  log = [];
}
