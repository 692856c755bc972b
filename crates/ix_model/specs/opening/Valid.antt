-- What makes a config valid.
use Rattle.std.specs.Prelude.{ℕ, suc, ◌+◌, ◌-◌, ◌==◌, nat_le, Bool, true, not, ◌&&◌, ◌||◌, List, [], ◌∷◌, ◌++◌, length, map, sum, filter, take, drop, position, Option}
use Rattle.std.specs.Option.{option_map_or}
use Rattle.std.specs.List.{list_all, list_any}
use Rattle.ix_label.specs.Category.{leq}
use Rattle.ix_model.specs.world.Naming.{same_bytes, same_names}
use Rattle.ix_model.specs.world.Privs.{is_empty}
use Rattle.ix_model.specs.world.World.{fs_at}
use Rattle.ix_model.specs.rows.Telling.{blocks_for}
use Rattle.ix_model.specs.declared.config.Config.{Config}
use Rattle.ix_model.specs.declared.config.FsSpec.{FsSpec}
use Rattle.ix_model.specs.declared.config.Limits.{Limits}
use Rattle.ix_model.specs.declared.config.ProcSpec.{ProcSpec}
use Rattle.ix_model.specs.declared.config.ObjSpec.{ObjSpec}

-- whether a number is from low to high
abbrev pub is_within : ℕ → ℕ → ℕ → Bool
is_within low high n = nat_le low n && nat_le n high

-- ---- file systems, limits and processes
-- no name stands twice
abbrev pub all_differ : List (List ℕ) → Bool
all_differ [] = true
all_differ (name ∷ names) = not (list_any (same_bytes name) names) && all_differ names

-- a file system has 1 to 65,536 blocks, and as many inodes
abbrev pub fs_fits : FsSpec → Bool
fs_fits s = is_within 1 65536 s.blocks && is_within 1 65536 s.inodes

-- 1 to 16 file systems, with names that differ
unfoldable pub fss_fit : List FsSpec → Bool
fss_fit fss = is_within 1 16 (length fss) && list_all fs_fits fss && all_differ (map (λ s. s.name) fss)

-- each limit is within its own
unfoldable pub limits_fit : Limits → Bool
limits_fit l = is_within 1 1024 l.procs && is_within 1 4096 l.opens && nat_le l.pipes 1024 && is_within 16 65536 l.names && nat_le l.log 65536

-- no more processes than the limit, each at or below its ceiling
unfoldable pub procs_fit : Limits → List ProcSpec → Bool
procs_fit l procs = nat_le (length procs) l.procs && list_all (λ p. leq p.label p.ceiling) procs

-- ---- objects
-- the further file system of that name, counted from 1
abbrev pub mount_of : List FsSpec → List ℕ → Option ℕ
mount_of fss name = position (λ s. same_bytes s.name name) (drop 1 fss)

-- the file system on which a path lies: the further one that its first name names, else the first
abbrev pub fs_of : List FsSpec → List (List ℕ) → ℕ
fs_of fss [] = 0
fs_of fss (name ∷ names) = option_map_or suc (mount_of fss name) 0

-- a further file system's root
abbrev pub is_mount : List FsSpec → List (List ℕ) → Bool
is_mount fss names = list_any (λ s. same_names (s.name ∷ []) names) (drop 1 fss)

-- an object line stands for an absolute path with a name, for at most 1,048,576 bytes, and a directory for no sets and no bytes
abbrev pub is_well_formed : ObjSpec → Bool
is_well_formed o =
    o.path.absolute && nat_le 1 (length o.path.names) && nat_le (length o.bytes) 1048576
    && (not o.dir || (is_empty o.cap && is_empty o.lic && length o.bytes == 0))

-- something is there already under the names, with these lines before
abbrev pub is_taken : List FsSpec → List ObjSpec → List (List ℕ) → Bool
is_taken fss before names = is_mount fss names || list_any (λ b. same_names b.path.names names) before

-- a directory is there under the names: the root, a further root, or one made before
abbrev pub has_directory : List FsSpec → List ObjSpec → List (List ℕ) → Bool
has_directory fss before names = same_names [] names || is_mount fss names || list_any (λ b. b.dir && same_names b.path.names names) before

-- the lines before that lie on a file system
abbrev pub lying_on : List FsSpec → ℕ → List ObjSpec → List ObjSpec
lying_on fss k before = filter (λ b. fs_of fss b.path.names == k) before

-- the blocks that the lines on a file system take
abbrev pub blocks_taken : List FsSpec → ℕ → List ObjSpec → ℕ
blocks_taken fss k lines = sum (map (λ b. blocks_for (length b.bytes)) (lying_on fss k lines))

-- there is a name, an inode and blocks for one object more
abbrev pub has_room : List FsSpec → Limits → List ObjSpec → ObjSpec → Bool
has_room fss l before o =
    let k = fs_of fss o.path.names in
    nat_le (length fss + length before) l.names
    && nat_le (length (lying_on fss k before) + 2) (fs_at fss k).inodes
    && nat_le (blocks_taken fss k before + blocks_for (length o.bytes)) (fs_at fss k).blocks

-- an object line fits after those before it
unfoldable pub object_fits : List FsSpec → Limits → List ObjSpec → ObjSpec → Bool
object_fits fss l before o =
    is_well_formed o
    && leq o.label (fs_at fss (fs_of fss o.path.names)).ceiling
    && not (is_taken fss before o.path.names)
    && has_directory fss before (take (length o.path.names - 1) o.path.names)
    && has_room fss l before o

-- each object line fits after those before it
abbrev pub objects_fit : List FsSpec → Limits → List ObjSpec → List ObjSpec → Bool
objects_fit fss l before [] = true
objects_fit fss l before (o ∷ os) = object_fits fss l before o && objects_fit fss l (before ++ o ∷ []) os

-- ---- the whole
-- a config is valid where each part of it fits, and its journal is within the limit
unfoldable pub is_valid : Config → Bool
is_valid c = fss_fit c.fss && limits_fit c.limits && procs_fit c.limits c.procs && objects_fit c.fss c.limits [] c.objects && nat_le c.journal 870400000
