-- How the tables come to be: before any object line, and by one line more.
use Rattle.std.specs.Prelude.{◌≡◌, ◌+◌, ◌-◌, ◌≤◌, ◌<◌, ℕ, true, nat_lt, List, [], ◌∷◌, length, take, drop, replicate, Option, Some, None, if◌then◌else◌, slice_set, unwrap_or}
use Rattle.ix_label.specs.Category.{leq}
use Rattle.ix_model.specs.world.World.{World, Object, fs_at, at, put, change, is_dir}
use Rattle.ix_model.specs.world.Directories.{with_name}
use Rattle.ix_model.specs.world.Naming.{last_name}
use Rattle.ix_model.specs.world.Numbers.{first_inode}
use Rattle.ix_model.specs.world.Owners.{names_in_all}
use Rattle.ix_model.specs.rows.Telling.{blocks_for, blocks_where, lies_on}
use Rattle.ix_model.specs.rows.Walks.{node, child}
use Rattle.ix_model.specs.opening.Opening.{mounts, object_of, bare_world, with_objects}
use Rattle.ix_model.specs.declared.reply.Kind.{Kind}
use Rattle.ix_model.specs.declared.reply.Kind.TheVariants as kind
use Rattle.ix_model.specs.declared.config.Config.{Config}
use Rattle.ix_model.specs.declared.config.FsSpec.{FsSpec}
use Rattle.ix_model.specs.declared.config.ObjSpec.{ObjSpec}
use Rattle.ix_name.specs.Directories.{Directories}
use Rattle.ix_tables.specs.Parts.{Parts}
use Rattle.ix_tables.specs.Views.{frame_alone, vacant_inode}

-- ---- before any line
-- the names of the further file systems in the first root, with so many entries in all and lists for so many inodes
abbrev pub roots_named : ℕ → ℕ → List FsSpec → Directories
roots_named entries inodes fss = record { lists = slice_set (replicate inodes []) 0 (mounts (first_inode fss 1) (drop 1 fss)); free = entries - (length fss - 1) }

-- so many numbers, with so many processes at home at the first and none at the others
abbrev pub homes_at_first : ℕ → ℕ → List ℕ
homes_at_first objects processes = slice_set (replicate objects 0) 0 processes

-- ---- lines
-- the world after the first so many object lines
abbrev pub opening_after : ℕ → Config → World
opening_after n c = with_objects (bare_world c) (take n c.objects)

-- all names but the last lead from directory to directory
abbrev pub Leads : List (Option Object) → ℕ → List (List ℕ) → Type 0
Leads objects n [] = is_dir (node objects n) ≡ true
Leads objects n (name ∷ []) = is_dir (node objects n) ≡ true
Leads objects n (name ∷ next ∷ names) = (is_dir (node objects n) ≡ true) × Leads objects (unwrap_or (child (node objects n) name) n) (next ∷ names)

-- what a line makes
abbrev pub kind_said : ObjSpec → Kind
kind_said b = if b.dir then kind.Dir else kind.File

-- an object with the label and the privileges that a line says, and frozen or not
abbrev pub as_said : ObjSpec → Object → Object
as_said b x = record x { label = b.label; frozen = b.frozen; cap = b.cap; lic = b.lic }

-- the parts with the object of a line under a number of a file system, and in a directory under the last name of its path
abbrev pub with_line : ObjSpec → ℕ → ℕ → ℕ → Parts → Parts
with_line b d k o t = record t {
  objects = change (put t.objects o (Some (object_of k b))) d (with_name (last_name b.path.names) o);
  holdings = slice_set t.holdings o (record { first = b.bytes; second = [] });
}

-- the directory is there and lacks the name, the number is the file system's lowest free one, and there is a name and blocks
pub record HasPlace (b : ObjSpec) (d k o : ℕ) (t : Parts) : Type 0 where
  pub named : 1 ≤ length b.path.names
  pub dir : is_dir (node t.objects d) ≡ true
  pub absent : child (node t.objects d) (last_name b.path.names) ≡ None
  pub room : nat_lt (names_in_all t.objects) t.limits.names ≡ true
  pub fs : k < length t.fss
  pub vacant : vacant_inode t.fss t.objects k ≡ Some o
  pub free : at t.objects o ≡ None
  pub within : o < length t.objects
  pub low : leq b.label (fs_at t.fss k).ceiling ≡ true
  pub bare : b.dir ≡ true → b.bytes ≡ []
  pub short : length b.bytes ≤ 1048576
  pub blocks : blocks_where (lies_on (frame_alone t) (Some k)) 0 t.holdings + blocks_for (length b.bytes) ≤ (fs_at t.fss k).blocks
