-- A file takes the blocks that there are, and gaps in it are zeros.
use Rattle.std.specs.Prelude.{List, [], ◌∷◌, replicate, codes}
use Rattle.ix_label.specs.Category.{bottom, top}
use Rattle.ix_model.specs.history.Events.{Event}
use Rattle.ix_model.specs.history.Events as op
use Rattle.ix_model.specs.declared.call.Mode.TheVariants as mode
use Rattle.ix_model.specs.declared.config.Config.{Config}
use Rattle.ix_model.specs.declared.config.FsSpec.{FsSpec}
use Rattle.ix_model.specs.declared.refusal.Refusal.TheVariants as refusal
use Rattle.ix_worked.specs.Scripts.{in_root, proc, file, machine, entry, gives_bytes, gives_done, gives_number, refuses}
use Rattle.ix_worked.specs.Sessions.{Shown}

-- fs root * 2 8
abbrev pub two_block_fs : FsSpec
two_block_fs = record { name = codes "root"; ceiling = top; blocks = 2; inodes = 8 }

-- proc a - * - -
-- file /e - free - - x
abbrev pub two_blocks : Config
two_blocks = machine two_block_fs (proc bottom top ∷ []) (file (codes "e") bottom [] ∷ [])

-- open a /e rw as f
-- write a f 1025*41
-- write a f 1024*41
-- cut a f 0
-- seek a f 5
-- write a f x42
-- seek a f 0
-- read a f 8
abbrev pub filling : List Event
filling =
    entry 7 1 (op.OpenAt (in_root (codes "e")) mode.Both)
    ∷ entry 8 1 (op.WriteFd 0 (replicate 1025 65))
    ∷ entry 9 1 (op.WriteFd 0 (replicate 1024 65))
    ∷ entry 10 1 (op.CutFd 0 0)
    ∷ entry 11 1 (op.SeekFd 0 5)
    ∷ entry 12 1 (op.WriteFd 0 (codes "B"))
    ∷ entry 13 1 (op.SeekFd 0 0)
    ∷ entry 14 1 (op.ReadFd 0 8)
    ∷ []

-- one byte more than two blocks is refused; what is cut is gone, and five zeros stand before the byte at 5
abbrev pub filling_shows : Shown
filling_shows = record {
  lines =
      gives_number 0 bottom ∷ refuses refusal.NoSpace bottom ∷ gives_number 1024 bottom ∷ gives_done bottom ∷ gives_done bottom
      ∷ gives_number 1 bottom ∷ gives_done bottom ∷ gives_bytes (0 ∷ 0 ∷ 0 ∷ 0 ∷ 0 ∷ 66 ∷ []) bottom ∷ [];
  objects = (0, bottom) ∷ (1, bottom) ∷ [];
  processes = (1, bottom) ∷ [];
  log = [];
}
