-- Names come and go in directories, on two file systems.
use Rattle.std.specs.Prelude.{List, [], ◌∷◌, codes}
use Rattle.ix_label.specs.Category.{bottom, top}
use Rattle.ix_model.specs.history.Events.{Event}
use Rattle.ix_model.specs.history.Events as op
use Rattle.ix_model.specs.declared.config.Config.{Config}
use Rattle.ix_model.specs.declared.config.FsSpec.{FsSpec}
use Rattle.ix_model.specs.declared.refusal.Refusal.TheVariants as refusal
use Rattle.ix_model.specs.declared.reply.Reply.TheVariants as reply
use Rattle.ix_worked.specs.Scripts.{five, seven, in_root, at_root, under, proc, dir, machine, entry, gives, gives_done, gives_number, refuses}
use Rattle.ix_worked.specs.Sessions.{Shown}

-- fs root * 64 8
abbrev pub root_fs : FsSpec
root_fs = record { name = codes "root"; ceiling = top; blocks = 64; inodes = 8 }

-- fs vol 5 8 4
abbrev pub vol_fs : FsSpec
vol_fs = record { name = codes "vol"; ceiling = five; blocks = 8; inodes = 4 }

-- proc a - * - -
-- dir /v 7 free
abbrev pub two_file_systems : Config
two_file_systems = record (machine root_fs (proc bottom top ∷ []) (dir (codes "v") seven ∷ [])) { fss = root_fs ∷ vol_fs ∷ [] }

-- mkdir a /d
-- create a /d/n
-- link a /d/n /vol/n
-- rmdir a /d
-- unlink a /d/n
-- rmdir a /d
-- list a / 0
-- create a /v/q
-- create a /vol/m
abbrev pub naming : List Event
naming =
    entry 8 1 (op.MakeDir (in_root (codes "d")))
    ∷ entry 9 1 (op.CreateAt (under (codes "d") (codes "n")))
    ∷ entry 10 1 (op.LinkAt (under (codes "d") (codes "n")) (under (codes "vol") (codes "n")))
    ∷ entry 11 1 (op.RemoveDir (in_root (codes "d")))
    ∷ entry 12 1 (op.UnlinkAt (under (codes "d") (codes "n")))
    ∷ entry 13 1 (op.RemoveDir (in_root (codes "d")))
    ∷ entry 14 1 (op.ListAt at_root 0)
    ∷ entry 15 1 (op.CreateAt (under (codes "v") (codes "q")))
    ∷ entry 16 1 (op.CreateAt (under (codes "vol") (codes "m")))
    ∷ []

-- a name stays on its file system, and a directory with a name stays; the second file system is the first name in the
-- root; a file that is made is at bottom, also where its maker has floated; and the second file system is not raised past
-- its ceiling
abbrev pub naming_shows : Shown
naming_shows = record {
  lines =
      gives_number 2 bottom ∷ gives_number 3 bottom ∷ refuses refusal.CrossFs bottom ∷ refuses refusal.NotEmpty bottom ∷ gives_done bottom
      ∷ gives_done bottom ∷ gives (reply.Named (codes "vol") (record { 0 = 8 })) [] bottom ∷ gives_number 2 seven
      ∷ refuses refusal.FsCeiling seven ∷ [];
  objects = (0, bottom) ∷ (1, seven) ∷ (2, bottom) ∷ (8, bottom) ∷ [];
  processes = (1, seven) ∷ [];
  log = [];
}
