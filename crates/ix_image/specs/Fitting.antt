-- Whether the names of a tree fit: what is looked at last, of the whole.
use Rattle.std.specs.Prelude.{ℕ, suc, zero, ◌==◌, nat_le, nat_lt, Bool, ◌&&◌, ◌||◌, List, [], length, map, count_by, if◌then◌else◌}
use Rattle.std.specs.List.{list_all, list_any, flat_map, range_with_len, sum_by}
use Rattle.ix_model.specs.opening.Opening.{mounts}
use Rattle.ix_model.specs.opening.Valid.{all_differ}
use Rattle.ix_model.specs.rows.Telling.{blocks_for}
use Rattle.ix_model.specs.world.Naming.{same_bytes}
use Rattle.ix_model.specs.world.World.{fs_at}
use Rattle.ix_model.specs.declared.config.FsSpec.{FsSpec}
use Rattle.ix_image.specs.Trees.{TreeOf, NodeOf, LinkOf, links_of, size_of, is_directory, home, further_roots}

-- ---- finding
-- whether two names with their objects are one
abbrev pub same_link : LinkOf → LinkOf → Bool
same_link a b = same_bytes a.0 b.0 && a.1 == b.1

-- whether an object of that number is there, and whether it is a directory
abbrev pub has_object : List NodeOf → ℕ → Bool
has_object nodes n = list_any (λ x. x.number == n) nodes

abbrev pub has_directory : List NodeOf → ℕ → Bool
has_directory nodes n = list_any (λ x. x.number == n && is_directory x) nodes

-- the names in object 0
abbrev pub root_links : List NodeOf → List LinkOf
root_links nodes = flat_map (λ x. if x.number == 0 then links_of x else []) nodes

-- how often an object is named
abbrev pub times_named : List NodeOf → ℕ → ℕ
times_named nodes n = sum_by (λ x. count_by (λ l. l.1 == n) (links_of x)) nodes

-- whether an object names one of that number
abbrev pub names_it : ℕ → NodeOf → Bool
names_it n x = list_any (λ l. l.1 == n) (links_of x)

-- whether a number is reached from object 0 over so many names at most
unfoldable pub is_reached : List NodeOf → ℕ → ℕ → Bool
is_reached nodes zero n = n == 0
is_reached nodes (suc k) n = n == 0 || list_any (λ x. names_it n x && is_reached nodes k x.number) nodes

-- ---- file systems
-- the names of the file systems differ
abbrev pub file_systems_differ : List FsSpec → Bool
file_systems_differ fss = all_differ (map (λ s. s.name) fss)

-- the first inode of each file system is a directory
abbrev pub roots_are_there : TreeOf → Bool
roots_are_there t = list_all (λ root. has_directory t.nodes root.1) (mounts 0 t.fss)

-- that of each further one is named in object 0 by the file system's name; and nowhere else, since each directory but object 0 is
-- named once
abbrev pub roots_are_named : TreeOf → Bool
roots_are_named t = list_all (λ root. list_any (same_link root) (root_links t.nodes)) (further_roots t.fss)

-- the blocks that the files of a file system take
abbrev pub blocks_taken : List FsSpec → List NodeOf → ℕ → ℕ
blocks_taken fss nodes k = sum_by (λ x. if home fss x.number == k then blocks_for (size_of x) else 0) nodes

-- the files of each file system fit its blocks
abbrev pub blocks_fit : TreeOf → Bool
blocks_fit t = list_all (λ k. nat_le (blocks_taken t.fss t.nodes k) (fs_at t.fss k).blocks) (range_with_len 0 (length t.fss))

-- ---- names
-- the names in one directory differ
abbrev pub links_differ : NodeOf → Bool
links_differ x = all_differ (map (λ l. l.0) (links_of x))

-- a name gives an object of the list in the directory's own file system, or it is that of a further file system, in object 0
abbrev pub leads : TreeOf → NodeOf → LinkOf → Bool
leads t x l =
    has_object t.nodes l.1 && home t.fss l.1 == home t.fss x.number
    || x.number == 0 && list_any (λ root. same_link root l) (further_roots t.fss)

-- each name of a directory does
abbrev pub links_lead : TreeOf → NodeOf → Bool
links_lead t x = list_all (leads t x) (links_of x)

-- each file is named; each directory but object 0 is named once, and is reached from object 0
abbrev pub is_well_named : List NodeOf → NodeOf → Bool
is_well_named nodes x =
    if is_directory x then x.number == 0 || times_named nodes x.number == 1 && is_reached nodes (length nodes) x.number
    else nat_lt 0 (times_named nodes x.number)

-- ---- the whole
unfoldable pub names_fit : TreeOf → Bool
names_fit t =
    file_systems_differ t.fss && roots_are_there t && roots_are_named t && blocks_fit t
    && list_all links_differ t.nodes && list_all (links_lead t) t.nodes && list_all (is_well_named t.nodes) t.nodes
