-- Short histories of the calls on paths.
use Rattle.std.specs.Prelude.{true, false, List, [], ◌∷◌, map, replicate, codes}
use Rattle.ix_label.specs.Category.{bottom, top}
use Rattle.ix_model.specs.history.Events.{Event}
use Rattle.ix_model.specs.history.Events as op
use Rattle.ix_model.specs.world.Privs.{to_lower, no_privileges}
use Rattle.ix_model.specs.declared.call.Keep.TheVariants as keep
use Rattle.ix_model.specs.declared.call.Mode.TheVariants as mode
use Rattle.ix_model.specs.declared.config.Config.{Config}
use Rattle.ix_model.specs.declared.refusal.Refusal.TheVariants as refusal
use Rattle.ix_model.specs.declared.reply.Kind.TheVariants as kind
use Rattle.ix_model.specs.declared.reply.Reply.TheVariants as reply
use Rattle.ix_worked.specs.Scripts.{three, small_limits, in_root, from_here, at_root, under, proc, file, dir, gives, by, refuses, here, small_fs, small}
use Rattle.ix_worked.specs.Sessions.{Line}

-- fs root * 4 4
-- fs vol * 4 2
-- proc a - * - -
-- file /n - free - - "abc"
-- dir /d - free
abbrev pub shelves : Config
shelves = record (small (proc bottom top ∷ []) (file (codes "n") bottom (codes "abc") ∷ dir (codes "d") bottom ∷ []))
    { fss = small_fs ∷ record small_fs { name = codes "vol"; inodes = 2 } ∷ [] }

-- fs root * 4 6
-- fs vol * 4 3
-- proc a - * - -
-- dir /d - free
-- file /d/n - free - - "abc"
-- file /vol/m - free - - x
-- file /o - frozen - - "o"
abbrev pub furnished : Config
furnished = record
    (small (proc bottom top ∷ [])
    (dir (codes "d") bottom
    ∷ record (file (codes "n") bottom (codes "abc")) { path = under (codes "d") (codes "n") }
    ∷ record (file (codes "m") bottom []) { path = under (codes "vol") (codes "m") }
    ∷ record (file (codes "o") bottom (codes "o")) { frozen = true }
    ∷ []))
    { fss = record small_fs { inodes = 6 } ∷ record small_fs { name = codes "vol"; inodes = 3 } ∷ [] }

-- fs root * 4 32
-- proc a - * - -
-- file /a - free - - x, and so on to /p
abbrev pub full : Config
full = record (small (proc bottom top ∷ []) (map (λ letter. file (letter ∷ []) bottom []) (codes "abcdefghijklmnop"))) { fss = record small_fs { inodes = 32 } ∷ [] }

-- fs root * 4 32
-- fs vol * 4 2
-- proc a - * - -
-- file /a - free - - x, and so on to /o
abbrev pub full_with_a_root : Config
full_with_a_root = record (small (proc bottom top ∷ []) (map (λ letter. file (letter ∷ []) bottom []) (codes "abcdefghijklmno")))
    { fss = record small_fs { inodes = 32 } ∷ record small_fs { name = codes "vol"; inodes = 2 } ∷ [] }

-- the same, where the second file system has its root alone
abbrev pub crowded : Config
crowded = record full_with_a_root { fss = record small_fs { inodes = 32 } ∷ record small_fs { name = codes "vol"; inodes = 1 } ∷ [] }

-- limit procs 1
-- limit opens 1
-- limit pipes 0
-- proc a - * - -
-- file /n - free - - x
-- dir /d - free
abbrev pub poor : Config
poor = record (small (proc bottom top ∷ []) (file (codes "n") bottom [] ∷ dir (codes "d") bottom ∷ []))
    { limits = record small_limits { procs = 1; opens = 1; pipes = 0 } }

-- fs root * 2 4
-- fs vol * 1 2
-- proc a - * - -
-- file /n - free - - "abc"
-- file /m - free - - x
abbrev pub tight : Config
tight = record (small (proc bottom top ∷ []) (file (codes "n") bottom (codes "abc") ∷ file (codes "m") bottom [] ∷ []))
    { fss = record small_fs { blocks = 2 } ∷ record small_fs { name = codes "vol"; blocks = 1; inodes = 2 } ∷ [] }

-- only the last name of what is made may be missing
abbrev pub seeking : List (Event × Line)
seeking =
    (by 1 (op.OpenAt (in_root (codes "x")) mode.Read), refuses refusal.NotFound bottom)
    ∷ (by 1 (op.StatAt (under (codes "x") (codes "y"))), refuses refusal.NotFound bottom)
    ∷ (by 1 (op.CreateAt (under (codes "x") (codes "y"))), refuses refusal.NotFound bottom)
    ∷ (by 1 (op.LinkAt (in_root (codes "x")) (in_root (codes "y"))), refuses refusal.NotFound bottom)
    ∷ (by 1 (op.UnlinkAt (under (codes "d") (codes "x"))), refuses refusal.NotFound bottom)
    ∷ (by 1 (op.RemoveDir (in_root (codes "x"))), refuses refusal.NotFound bottom)
    ∷ (by 1 (op.RemoveDir (under (codes "x") (codes "y"))), refuses refusal.NotFound bottom)
    ∷ (by 1 (op.LabelOf (in_root (codes "x"))), refuses refusal.NotFound bottom)
    ∷ []

-- /n is a file
abbrev pub looking_into_a_file : List (Event × Line)
looking_into_a_file =
    (by 1 (op.StatAt (under (codes "n") (codes "x"))), refuses refusal.NotDir bottom)
    ∷ (by 1 (op.CreateAt (under (codes "n") (codes "x"))), refuses refusal.NotDir bottom)
    ∷ (by 1 (op.OpenAt (under (codes "n") (codes "x")) mode.Read), refuses refusal.NotDir bottom)
    ∷ (by 1 (op.UnlinkAt (under (codes "n") (codes "x"))), refuses refusal.NotDir bottom)
    ∷ (by 1 (op.ChangeDir (in_root (codes "n"))), refuses refusal.NotDir bottom)
    ∷ (by 1 (op.RemoveDir (in_root (codes "n"))), refuses refusal.NotDir bottom)
    ∷ (by 1 (op.ListAt (in_root (codes "n")) 0), refuses refusal.NotDir bottom)
    ∷ []

-- /d and / are directories
abbrev pub using_a_directory : List (Event × Line)
using_a_directory =
    (by 1 (op.OpenAt (in_root (codes "d")) mode.Read), refuses refusal.IsDir bottom)
    ∷ (by 1 (op.UnlinkAt (in_root (codes "d"))), refuses refusal.IsDir bottom)
    ∷ (by 1 (op.UnlinkAt at_root), refuses refusal.IsDir bottom)
    ∷ (by 1 (op.LinkAt (in_root (codes "d")) (in_root (codes "x"))), refuses refusal.IsDir bottom)
    ∷ (by 1 (op.Exec (in_root (codes "d"))), refuses refusal.IsDir bottom)
    ∷ (by 1 (op.SetPriv (in_root (codes "d")) to_lower to_lower), refuses refusal.IsDir bottom)
    ∷ []

-- /n, /d and / are there
abbrev pub making_again : List (Event × Line)
making_again =
    (by 1 (op.CreateAt (in_root (codes "n"))), refuses refusal.Exists bottom)
    ∷ (by 1 (op.MakeDir (in_root (codes "d"))), refuses refusal.Exists bottom)
    ∷ (by 1 (op.CreateAt at_root), refuses refusal.Exists bottom)
    ∷ (by 1 (op.MakeDir here), refuses refusal.Exists bottom)
    ∷ (by 1 (op.LinkAt (in_root (codes "n")) (in_root (codes "d"))), refuses refusal.Exists bottom)
    ∷ (by 1 (op.LinkAt (in_root (codes "n")) at_root), refuses refusal.Exists bottom)
    ∷ []

-- / and /vol are roots
abbrev pub crossing : List (Event × Line)
crossing =
    (by 1 (op.RemoveDir at_root), refuses refusal.CrossFs bottom)
    ∷ (by 1 (op.RemoveDir (in_root (codes "vol"))), refuses refusal.CrossFs bottom)
    ∷ (by 1 (op.LinkAt (in_root (codes "n")) (under (codes "vol") (codes "n"))), refuses refusal.CrossFs bottom)
    ∷ []

-- and it is removed once it is none any more
abbrev pub removing_a_home : List (Event × Line)
removing_a_home =
    (by 1 (op.ChangeDir (in_root (codes "d"))), gives reply.Done [] bottom)
    ∷ (by 1 (op.RemoveDir (in_root (codes "d"))), refuses refusal.InUse bottom)
    ∷ (by 1 (op.RemoveDir here), refuses refusal.InUse bottom)
    ∷ (by 1 (op.ChangeDir at_root), gives reply.Done [] bottom)
    ∷ (by 1 (op.RemoveDir (in_root (codes "d"))), gives reply.Done [] bottom)
    ∷ []

-- there is one on each
abbrev pub making_files : List (Event × Line)
making_files =
    (by 1 (op.CreateAt (in_root (codes "a"))), gives (reply.Number 3) [] bottom)
    ∷ (by 1 (op.CreateAt (in_root (codes "b"))), refuses refusal.NoInode bottom)
    ∷ (by 1 (op.MakeDir (in_root (codes "b"))), refuses refusal.NoInode bottom)
    ∷ (by 1 (op.CreateAt (under (codes "vol") (codes "b"))), gives (reply.Number 5) [] bottom)
    ∷ (by 1 (op.CreateAt (under (codes "vol") (codes "c"))), refuses refusal.NoInode bottom)
    ∷ []

-- there are 16
abbrev pub making_names : List (Event × Line)
making_names =
    (by 1 (op.CreateAt (in_root (codes "q"))), refuses refusal.NoEntry bottom)
    ∷ (by 1 (op.MakeDir (in_root (codes "q"))), refuses refusal.NoEntry bottom)
    ∷ (by 1 (op.LinkAt (in_root (codes "a")) (in_root (codes "q"))), refuses refusal.NoEntry bottom)
    ∷ (by 1 (op.UnlinkAt (in_root (codes "a"))), gives reply.Done [] bottom)
    ∷ (by 1 (op.LinkAt (in_root (codes "b")) (in_root (codes "a"))), gives reply.Done [] bottom)
    ∷ []

-- the file gets a second name
abbrev pub asking_for_objects : List (Event × Line)
asking_for_objects =
    (by 1 (op.StatAt (in_root (codes "n"))), gives (reply.Stat (record { 0 = 1 }) kind.File 3 1 false no_privileges no_privileges) [] bottom)
    ∷ (by 1 (op.LinkAt (in_root (codes "n")) (under (codes "d") (codes "k"))), gives reply.Done [] bottom)
    ∷ (by 1 (op.StatAt (under (codes "d") (codes "k"))), gives (reply.Stat (record { 0 = 1 }) kind.File 3 2 false no_privileges no_privileges) [] bottom)
    ∷ (by 1 (op.StatAt (in_root (codes "d"))), gives (reply.Stat (record { 0 = 2 }) kind.Dir 0 1 false no_privileges no_privileges) [] bottom)
    ∷ (by 1 (op.ListAt at_root 0), gives (reply.Named (codes "vol") (record { 0 = 4 })) [] bottom)
    ∷ (by 1 (op.ListAt at_root 1), gives (reply.Named (codes "n") (record { 0 = 1 })) [] bottom)
    ∷ (by 1 (op.ListAt (in_root (codes "d")) 0), gives (reply.Named (codes "k") (record { 0 = 1 })) [] bottom)
    ∷ (by 1 (op.ListAt (in_root (codes "d")) 1), refuses refusal.EndOfList bottom)
    ∷ []

-- a file is made before it goes, and one after
abbrev pub unlinking_an_open_file : List (Event × Line)
unlinking_an_open_file =
    (by 1 (op.OpenAt (in_root (codes "n")) mode.Read), gives (reply.Number 0) [] bottom)
    ∷ (by 1 (op.UnlinkAt (in_root (codes "n"))), gives reply.Done [] bottom)
    ∷ (by 1 (op.StatAt (in_root (codes "n"))), refuses refusal.NotFound bottom)
    ∷ (by 1 (op.CreateAt (in_root (codes "m"))), gives (reply.Number 3) [] bottom)
    ∷ (by 1 (op.ReadFd 0 8), gives (reply.Bytes 3) (codes "abc") bottom)
    ∷ (by 1 (op.CloseFd 0), gives reply.Done [] bottom)
    ∷ (by 1 (op.CreateAt (in_root (codes "k"))), gives (reply.Number 1) [] bottom)
    ∷ (by 1 (op.OpenAt (in_root (codes "k")) mode.Read), gives (reply.Number 0) [] bottom)
    ∷ (by 1 (op.ReadFd 0 8), gives (reply.Bytes 0) [] bottom)
    ∷ []

-- directories are numbered as files are
abbrev pub looking_around : List (Event × Line)
looking_around =
    (by 1 (op.StatAt (in_root (codes "d"))), gives (reply.Stat (record { 0 = 1 }) kind.Dir 0 1 false no_privileges no_privileges) [] bottom)
    ∷ (by 1 (op.StatAt (under (codes "d") (codes "n"))), gives (reply.Stat (record { 0 = 2 }) kind.File 3 1 false no_privileges no_privileges) [] bottom)
    ∷ (by 1 (op.StatAt (in_root (codes "vol"))), gives (reply.Stat (record { 0 = 6 }) kind.Dir 0 1 false no_privileges no_privileges) [] bottom)
    ∷ (by 1 (op.StatAt (under (codes "vol") (codes "m"))), gives (reply.Stat (record { 0 = 7 }) kind.File 0 1 false no_privileges no_privileges) [] bottom)
    ∷ (by 1 (op.StatAt (in_root (codes "o"))), gives (reply.Stat (record { 0 = 3 }) kind.File 1 1 true no_privileges no_privileges) [] bottom)
    ∷ (by 1 (op.ListAt at_root 0), gives (reply.Named (codes "vol") (record { 0 = 6 })) [] bottom)
    ∷ (by 1 (op.ListAt at_root 1), gives (reply.Named (codes "d") (record { 0 = 1 })) [] bottom)
    ∷ (by 1 (op.ListAt at_root 2), gives (reply.Named (codes "o") (record { 0 = 3 })) [] bottom)
    ∷ (by 1 (op.ListAt (in_root (codes "vol")) 0), gives (reply.Named (codes "m") (record { 0 = 7 })) [] bottom)
    ∷ []

-- a file is made in /d, and removed
abbrev pub working_in_a_directory : List (Event × Line)
working_in_a_directory =
    (by 1 (op.ChangeDir (in_root (codes "d"))), gives reply.Done [] bottom)
    ∷ (by 1 (op.CreateAt (from_here (codes "x"))), gives (reply.Number 3) [] bottom)
    ∷ (by 1 (op.StatAt (under (codes "d") (codes "x"))), gives (reply.Stat (record { 0 = 3 }) kind.File 0 1 false no_privileges no_privileges) [] bottom)
    ∷ (by 1 (op.StatAt (from_here (codes "n"))), refuses refusal.NotFound bottom)
    ∷ (by 1 (op.RemoveDir (in_root (codes "d"))), refuses refusal.NotEmpty bottom)
    ∷ (by 1 (op.UnlinkAt (from_here (codes "x"))), gives reply.Done [] bottom)
    ∷ []

-- /n takes one of two blocks, and /vol has one; what a file has already counts once
abbrev pub sharing_blocks : List (Event × Line)
sharing_blocks =
    (by 1 (op.OpenAt (in_root (codes "m")) mode.Write), gives (reply.Number 0) [] bottom)
    ∷ (by 1 (op.WriteFd 0 (replicate 513 65)), refuses refusal.NoSpace bottom)
    ∷ (by 1 (op.WriteFd 0 (replicate 512 65)), gives (reply.Number 512) [] bottom)
    ∷ (by 1 (op.SeekFd 0 0), gives reply.Done [] bottom)
    ∷ (by 1 (op.WriteFd 0 (replicate 512 66)), gives (reply.Number 512) [] bottom)
    ∷ (by 1 (op.CutFd 0 513), refuses refusal.NoSpace bottom)
    ∷ (by 1 (op.CutFd 0 512), gives reply.Done [] bottom)
    ∷ (by 1 (op.CreateAt (under (codes "vol") (codes "k"))), gives (reply.Number 5) [] bottom)
    ∷ (by 1 (op.OpenAt (under (codes "vol") (codes "k")) mode.Write), gives (reply.Number 1) [] bottom)
    ∷ (by 1 (op.WriteFd 1 (replicate 513 65)), refuses refusal.NoSpace bottom)
    ∷ (by 1 (op.WriteFd 1 (replicate 512 65)), gives (reply.Number 512) [] bottom)
    ∷ []

-- there are 16 names with that of the second file system
abbrev pub making_one_name_more : List (Event × Line)
making_one_name_more =
    (by 1 (op.CreateAt (in_root (codes "q"))), refuses refusal.NoEntry bottom)
    ∷ (by 1 (op.UnlinkAt (in_root (codes "a"))), gives reply.Done [] bottom)
    ∷ (by 1 (op.CreateAt (under (codes "vol") (codes "q"))), gives (reply.Number 33) [] bottom)
    ∷ []

-- the other file goes, and the one that is open takes both blocks
abbrev pub freeing_blocks : List (Event × Line)
freeing_blocks =
    (by 1 (op.OpenAt (in_root (codes "m")) mode.Write), gives (reply.Number 0) [] bottom)
    ∷ (by 1 (op.WriteFd 0 (replicate 1024 65)), refuses refusal.NoSpace bottom)
    ∷ (by 1 (op.UnlinkAt (in_root (codes "n"))), gives reply.Done [] bottom)
    ∷ (by 1 (op.WriteFd 0 (replicate 1024 65)), gives (reply.Number 1024) [] bottom)
    ∷ []

-- the first name of two goes, and then the second
abbrev pub unlinking_one_of_two : List (Event × Line)
unlinking_one_of_two =
    (by 1 (op.LinkAt (in_root (codes "n")) (under (codes "d") (codes "k"))), gives reply.Done [] bottom)
    ∷ (by 1 (op.UnlinkAt (in_root (codes "n"))), gives reply.Done [] bottom)
    ∷ (by 1 (op.StatAt (under (codes "d") (codes "k"))), gives (reply.Stat (record { 0 = 1 }) kind.File 3 1 false no_privileges no_privileges) [] bottom)
    ∷ (by 1 (op.UnlinkAt (under (codes "d") (codes "k"))), gives reply.Done [] bottom)
    ∷ (by 1 (op.CreateAt (in_root (codes "x"))), gives (reply.Number 1) [] bottom)
    ∷ []

-- there is no name left, and no inode on the second file system
abbrev pub making_without_room : List (Event × Line)
making_without_room =
    (by 1 (op.CreateAt (in_root (codes "a"))), refuses refusal.Exists bottom)
    ∷ (by 1 (op.CreateAt (under (codes "vol") (codes "q"))), refuses refusal.NoInode bottom)
    ∷ (by 1 (op.LinkAt (in_root (codes "vol")) (in_root (codes "a"))), refuses refusal.IsDir bottom)
    ∷ (by 1 (op.LinkAt (in_root (codes "x")) (in_root (codes "a"))), refuses refusal.NotFound bottom)
    ∷ (by 1 (op.LinkAt (in_root (codes "a")) (in_root (codes "vol"))), refuses refusal.Exists bottom)
    ∷ (by 1 (op.LinkAt (in_root (codes "a")) (under (codes "vol") (codes "q"))), refuses refusal.CrossFs bottom)
    ∷ (by 1 (op.RemoveDir (in_root (codes "vol"))), refuses refusal.CrossFs bottom)
    ∷ []

-- the only open entry is in use, and there is no pipe and no slot
abbrev pub asking_without_room : List (Event × Line)
asking_without_room =
    (by 1 (op.OpenAt (in_root (codes "n")) mode.Read), gives (reply.Number 0) [] bottom)
    ∷ (by 1 (op.OpenAt (in_root (codes "d")) mode.Read), refuses refusal.IsDir bottom)
    ∷ (by 1 (op.OpenAt (in_root (codes "x")) mode.Read), refuses refusal.NotFound bottom)
    ∷ (by 1 (op.OpenAt (in_root (codes "n")) mode.Read), refuses refusal.NoOpen bottom)
    ∷ (by 1 op.MakePipe, refuses refusal.NoInode bottom)
    ∷ (by 1 (op.Fork (keep.One (record { 0 = 1 }))), refuses refusal.BadFd bottom)
    ∷ (by 1 (op.Fork (keep.One (record { 0 = 0 }))), refuses refusal.NoSlot bottom)
    ∷ []

-- proc a 3 * - -
-- dir /d - free
-- file /n - free - - "abc"
-- dir /e - free
abbrev pub attic : Config
attic = small (proc three top ∷ []) (dir (codes "d") bottom ∷ file (codes "n") bottom (codes "abc") ∷ dir (codes "e") bottom ∷ [])

-- the file gets a name in /d, and /e goes from the root
abbrev pub naming_high : List (Event × Line)
naming_high =
    (by 1 (op.LinkAt (in_root (codes "n")) (under (codes "d") (codes "k"))), gives reply.Done [] three)
    ∷ (by 1 (op.LabelOf (in_root (codes "d"))), gives (reply.Lab three) [] three)
    ∷ (by 1 (op.LabelOf at_root), gives (reply.Lab bottom) [] three)
    ∷ (by 1 (op.RemoveDir (in_root (codes "e"))), gives reply.Done [] three)
    ∷ (by 1 (op.LabelOf at_root), gives (reply.Lab three) [] three)
    ∷ (by 1 (op.LabelOf (in_root (codes "e"))), refuses refusal.NotFound three)
    ∷ (by 1 (op.MakeDir (in_root (codes "e"))), gives (reply.Number 3) [] three)
    ∷ []
