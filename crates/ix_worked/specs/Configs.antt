-- Configs at the edge of what is valid, and just past it.
use Rattle.std.specs.Prelude.{◌≡◌, ℕ, Bool, List, [], ◌∷◌, map, replicate, codes}
use Rattle.ix_label.specs.Category.{bottom, top}
use Rattle.ix_model.specs.world.Privs.{to_lower}
use Rattle.ix_model.specs.opening.Valid.{is_valid}
use Rattle.ix_model.specs.declared.config.Config.{Config}
use Rattle.ix_model.specs.declared.config.Limits.{Limits}
use Rattle.ix_model.specs.declared.config.FsSpec.{FsSpec}
use Rattle.ix_model.specs.declared.config.ObjSpec.{ObjSpec}
use Rattle.ix_worked.specs.Scripts.{three, at_root, under, from_here, proc, file, dir, small_fs, small_limits, small}

-- whether each of these is valid is this
abbrev pub AllValid : Bool → List Config → Type 0
AllValid answer configs = map is_valid configs ≡ map (λ c. answer) configs

-- ---- file systems
abbrev pub with_file_systems : List FsSpec → Config
with_file_systems fss = record (small [] []) { fss = fss }

-- file systems of these names, of one letter each
abbrev pub named_by : List ℕ → List FsSpec
named_by letters = map (λ letter. record small_fs { name = letter ∷ [] }) letters

-- one, sixteen, and the fewest and most blocks and inodes
abbrev pub file_systems_that_fit : List Config
file_systems_that_fit =
    with_file_systems (small_fs ∷ [])
    ∷ with_file_systems (named_by (codes "abcdefghijklmnop"))
    ∷ with_file_systems (record small_fs { blocks = 1; inodes = 1 } ∷ [])
    ∷ with_file_systems (record small_fs { blocks = 65536; inodes = 65536 } ∷ [])
    ∷ []

-- none, seventeen, one name twice, and a block or inode too few or too many
abbrev pub file_systems_that_do_not : List Config
file_systems_that_do_not =
    with_file_systems []
    ∷ with_file_systems (named_by (codes "abcdefghijklmnopq"))
    ∷ with_file_systems (named_by (codes "aba"))
    ∷ with_file_systems (record small_fs { blocks = 0 } ∷ [])
    ∷ with_file_systems (record small_fs { blocks = 65537 } ∷ [])
    ∷ with_file_systems (record small_fs { inodes = 0 } ∷ [])
    ∷ with_file_systems (record small_fs { inodes = 65537 } ∷ [])
    ∷ []

-- ---- limits
abbrev pub with_limits : Limits → Config
with_limits limits = record (small [] []) { limits = limits }

-- the least and the greatest of each, and the longest journal
abbrev pub limits_that_fit : List Config
limits_that_fit =
    with_limits (record { procs = 1; opens = 1; pipes = 0; names = 16; log = 0 })
    ∷ with_limits (record { procs = 1024; opens = 4096; pipes = 1024; names = 65536; log = 65536 })
    ∷ record (small [] []) { journal = 870400000 }
    ∷ []

-- each of them one too small or too great
abbrev pub limits_that_do_not : List Config
limits_that_do_not =
    with_limits (record small_limits { procs = 0 })
    ∷ with_limits (record small_limits { procs = 1025 })
    ∷ with_limits (record small_limits { opens = 0 })
    ∷ with_limits (record small_limits { opens = 4097 })
    ∷ with_limits (record small_limits { pipes = 1025 })
    ∷ with_limits (record small_limits { names = 15 })
    ∷ with_limits (record small_limits { names = 65537 })
    ∷ with_limits (record small_limits { log = 65537 })
    ∷ record (small [] []) { journal = 870400001 }
    ∷ []

-- ---- processes
-- three, which is the limit, and one at its ceiling
abbrev pub processes_that_fit : List Config
processes_that_fit = small (replicate 3 (proc bottom top)) [] ∷ small (proc three three ∷ []) [] ∷ []

-- four, and one above its ceiling
abbrev pub processes_that_do_not : List Config
processes_that_do_not = small (replicate 4 (proc bottom top)) [] ∷ small (proc three bottom ∷ []) [] ∷ []

-- ---- objects
abbrev pub with_objects : List ObjSpec → Config
with_objects objects = record (small [] objects) { fss = small_fs ∷ record small_fs { name = codes "vol"; ceiling = bottom; blocks = 1; inodes = 2 } ∷ [] }

abbrev pub at : List ℕ → List ℕ → ObjSpec
at directory name = record (file name bottom []) { path = under directory name }

-- so many files, of a letter each
abbrev pub files_by : List ℕ → List ObjSpec
files_by letters = map (λ letter. file (letter ∷ []) bottom []) letters

-- all inodes and all blocks in use, and files in a directory and on the second file system
abbrev pub objects_that_fit : List Config
objects_that_fit =
    with_objects (files_by (codes "abc"))
    ∷ with_objects (file (codes "a") three (replicate 2048 65) ∷ [])
    ∷ with_objects (dir (codes "d") bottom ∷ at (codes "d") (codes "n") ∷ at (codes "vol") (codes "n") ∷ [])
    ∷ []

-- A path that is relative, that has no name, that stands twice, that is a root, whose directory is missing, comes later or
-- is a file; a directory with privileges, and with bytes; a label above the ceiling; an inode, a block and a name too many.
abbrev pub objects_that_do_not : List Config
objects_that_do_not =
    with_objects (record (file (codes "a") bottom []) { path = from_here (codes "a") } ∷ [])
    ∷ with_objects (record (file (codes "a") bottom []) { path = at_root } ∷ [])
    ∷ with_objects (files_by (codes "aa"))
    ∷ with_objects (dir (codes "vol") bottom ∷ [])
    ∷ with_objects (at (codes "d") (codes "n") ∷ [])
    ∷ with_objects (at (codes "d") (codes "n") ∷ dir (codes "d") bottom ∷ [])
    ∷ with_objects (file (codes "d") bottom [] ∷ at (codes "d") (codes "n") ∷ [])
    ∷ with_objects (record (dir (codes "d") bottom) { cap = to_lower } ∷ [])
    ∷ with_objects (record (dir (codes "d") bottom) { bytes = codes "x" } ∷ [])
    ∷ with_objects (record (at (codes "vol") (codes "n")) { label = three } ∷ [])
    ∷ with_objects (files_by (codes "abcd"))
    ∷ with_objects (at (codes "vol") (codes "a") ∷ at (codes "vol") (codes "b") ∷ [])
    ∷ with_objects (file (codes "a") bottom (replicate 2049 65) ∷ [])
    ∷ with_objects (file (codes "a") bottom (replicate 2048 65) ∷ file (codes "b") bottom (codes "x") ∷ [])
    ∷ with_objects (record (at (codes "vol") (codes "n")) { bytes = replicate 513 65 } ∷ [])
    ∷ record (small [] (files_by (codes "abcdefghijklmnop"))) { fss = record small_fs { inodes = 32 } ∷ record small_fs { name = codes "vol" } ∷ [] }
    ∷ []
