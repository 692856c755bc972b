-- The calls on paths: their tests in order, their effects and replies.
use Rattle.std.specs.Prelude.{ℕ, ◌==◌, Bool, false, not, ◌&&◌, [], length, Option, Some, None, slice_get, if◌then◌else◌}
use Rattle.std.specs.Option.{option_map_or}
use Rattle.std.specs.List.{list_any}
use Rattle.ix_label.specs.Category.{bottom}
use Rattle.ix_model.specs.world.Naming.{PathOf, last_name}
use Rattle.ix_model.specs.world.Privs.{no_privileges}
use Rattle.ix_model.specs.world.Numbers.{free_inode, fs_number, is_root}
use Rattle.ix_model.specs.world.Owners.{times_named}
use Rattle.ix_model.specs.world.Directories.{with_name, without_name, has_room_for_a_name}
use Rattle.ix_model.specs.world.World.{Frame, Object, Process, put, lowest_free, is_dir, no_claims}
use Rattle.ix_model.specs.rows.Outcomes.{Row}
use Rattle.ix_model.specs.rows.Rows.{◌>>=◌, ◌>>◌, pass, need, some, frame, process, object, change_process, change_object, put_object, put_open, observe, affect}
use Rattle.ix_model.specs.rows.Walks.{walked_to, found_object, vacant, object_at, spot_at, missing}
use Rattle.ix_model.specs.rows.Lifetimes.{let_go_object}
use Rattle.ix_model.specs.declared.call.Mode.{Mode}
use Rattle.ix_model.specs.declared.refusal.Refusal.TheVariants as refusal
use Rattle.ix_model.specs.declared.reply.Kind.{Kind}
use Rattle.ix_model.specs.declared.reply.Kind.TheVariants as kind
use Rattle.ix_model.specs.declared.reply.Reply.{Reply}
use Rattle.ix_model.specs.declared.reply.Reply.TheVariants as reply

-- ---- making
-- a new file, directory or pipe: at bottom, not frozen, without privileges
abbrev pub new_object : Kind → Option ℕ → Object
new_object kind fs = record { kind = kind; fs = fs; label = bottom; frozen = false; cap = no_privileges; lic = no_privileges; claims = no_claims; names = [] }

-- a new file or directory under a name that is missing, on the file system of its directory
unfoldable pub make : ℕ → PathOf → Kind → Row Reply
make pid path kind = do
  d ← missing pid path
  x ← object d
  f ← frame
  o ← some (free_inode f (fs_number x)) refusal.NoInode
  need (has_room_for_a_name f) refusal.NoEntry
  affect pid d bottom
  put_object o (Some (new_object kind (Some (fs_number x))))
  change_object d (with_name (last_name path.names) o)
  pass (reply.Number o)

-- CreateAt: an empty file
unfoldable pub create_at : ℕ → PathOf → Row Reply
create_at pid path = make pid path kind.File

-- MakeDir: an empty directory
unfoldable pub make_dir : ℕ → PathOf → Row Reply
make_dir pid path = make pid path kind.Dir

-- LinkAt: one name more for a file, on its file system; the directories of both walks are looked into first
unfoldable pub link_at : ℕ → PathOf → PathOf → Row Reply
link_at pid target path = do
  a ← walked_to pid target
  b ← walked_to pid path
  o ← found_object a
  x ← object o
  need (not (is_dir x)) refusal.IsDir
  d ← vacant b
  y ← object d
  need (fs_number x == fs_number y) refusal.CrossFs
  f ← frame
  need (has_room_for_a_name f) refusal.NoEntry
  affect pid d bottom
  change_object d (with_name (last_name path.names) o)
  pass reply.Done

-- ---- unmaking
-- UnlinkAt: one name of a file fewer; without a name and an open entry the file is gone. A path of no names leads to a directory.
unfoldable pub unlink_at : ℕ → PathOf → Row Reply
unlink_at pid path = do
  s ← spot_at pid path
  x ← object s.object
  need (not (is_dir x)) refusal.IsDir
  d ← some s.dir refusal.IsDir
  affect pid d bottom
  change_object d (without_name (last_name path.names))
  let_go_object s.object
  pass reply.Done

-- a working directory of a living process
abbrev pub is_home : ℕ → Option Process → Bool
is_home o p = option_map_or (λ q. not q.ended && q.cwd == o) p false

-- RemoveDir: an empty directory that is no root and nobody's working directory. A path of no names that leads to no root
-- leads to the caller's own.
unfoldable pub remove_dir : ℕ → PathOf → Row Reply
remove_dir pid path = do
  s ← spot_at pid path
  x ← object s.object
  need (is_dir x) refusal.NotDir
  observe pid x.label
  f ← frame
  need (not (is_root f.fss s.object x)) refusal.CrossFs
  need (length x.names == 0) refusal.NotEmpty
  need (not (list_any (is_home s.object) f.processes)) refusal.InUse
  d ← some s.dir refusal.InUse
  affect pid d bottom
  change_object d (without_name (last_name path.names))
  put_object s.object None
  pass reply.Done

-- ---- going and looking
-- OpenAt: an open entry at bottom and offset 0 under the lowest free descriptor
unfoldable pub open_at : ℕ → PathOf → Mode → Row Reply
open_at pid path mode = do
  o ← object_at pid path
  x ← object o
  need (not (is_dir x)) refusal.IsDir
  p ← process pid
  fd ← some (lowest_free p.fds) refusal.NoFd
  f ← frame
  e ← some (lowest_free f.opens) refusal.NoOpen
  put_open e (Some (record { object = o; end = 0; mode = mode; label = bottom }))
  change_process pid (λ q. record q { fds = put q.fds fd (Some e) })
  pass (reply.Number fd)

-- ChangeDir: the working directory
unfoldable pub change_dir : ℕ → PathOf → Row Reply
change_dir pid path = do
  o ← object_at pid path
  x ← object o
  need (is_dir x) refusal.NotDir
  change_process pid (λ q. record q { cwd = o })
  pass reply.Done

-- how many names an object has; a directory is told to have one
abbrev pub links_of : Frame → ℕ → Object → ℕ
links_of f o x = if is_dir x then 1 else times_named f.objects o

-- what a row answers to a look at an object: the content fills in its size
abbrev pub stat_passed : ℕ → Object → ℕ → Reply
stat_passed o x links = reply.Stat (record { 0 = o }) x.kind 0 links x.frozen x.cap x.lic

-- StatAt: what an object is
unfoldable pub stat_at : ℕ → PathOf → Row Reply
stat_at pid path = do
  o ← object_at pid path
  x ← object o
  observe pid x.label
  f ← frame
  pass (stat_passed o x (links_of f o x))

-- ListAt: a name of a directory, counted from 0 in order of making
unfoldable pub list_at : ℕ → PathOf → ℕ → Row Reply
list_at pid path index = do
  o ← object_at pid path
  x ← object o
  need (is_dir x) refusal.NotDir
  observe pid x.label
  n ← some (slice_get x.names index) refusal.EndOfList
  pass (reply.Named n.0 (record { 0 = n.1 }))
