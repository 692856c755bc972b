-- Trees of files: what an image holds.
use Rattle.std.specs.Prelude.{ℕ, nat_lt, suc, ◌-◌, Bool, true, false, List, [], ◌∷◌, length, if◌then◌else◌}
use Rattle.std.specs.List.{sum_by}
use Rattle.ix_label.specs.Category.{Categories}
use Rattle.ix_model.specs.opening.Opening.{mounts}
use Rattle.ix_model.specs.declared.config.FsSpec.{FsSpec}
use Rattle.ix_model.specs.declared.privs.PrivSet.{PrivSet}

-- a name, and the number of the object that it gives
abbrev pub LinkOf : Type 0
LinkOf = List ℕ × ℕ

-- what an object holds: a file bytes, and a directory names, in order of making
pub data Holds : Type 0 where
  Bytes : (bytes : List ℕ) → Holds
  Links : (links : List LinkOf) → Holds

-- a file or a directory, under its number
pub record NodeOf : Type 0 where
  pub number : ℕ
  pub frozen : Bool
  pub cap : PrivSet
  pub lic : PrivSet
  pub label : Categories
  pub holds : Holds

-- file systems, and the directories and files on them, by rising number
pub record TreeOf : Type 0 where
  pub fss : List FsSpec
  pub nodes : List NodeOf

-- ---- what an object holds
-- the names of a directory; a file has none
abbrev pub links_held : Holds → List LinkOf
links_held (Bytes bytes) = []
links_held (Links links) = links

-- how many bytes a file has; a directory has none
abbrev pub size_held : Holds → ℕ
size_held (Bytes bytes) = length bytes
size_held (Links links) = 0

abbrev pub are_links : Holds → Bool
are_links (Bytes bytes) = false
are_links (Links links) = true

abbrev pub links_of : NodeOf → List LinkOf
links_of x = links_held x.holds

abbrev pub size_of : NodeOf → ℕ
size_of x = size_held x.holds

-- whether it is a directory
abbrev pub is_directory : NodeOf → Bool
is_directory x = are_links x.holds

-- ---- numbers
-- how many inodes file systems have in all
abbrev pub inodes_in : List FsSpec → ℕ
inodes_in fss = sum_by (λ s. s.inodes) fss

-- which file system a number is of, from 0: the first has the numbers from 0 on, then comes the next; how many there are, where it
-- is of none
unfoldable pub home : List FsSpec → ℕ → ℕ
home [] n = 0
home (s ∷ fss) n = if nat_lt n s.inodes then 0 else suc (home fss (n - s.inodes))

-- the names of the further file systems, with their first inodes
abbrev pub further_roots : List FsSpec → List LinkOf
further_roots [] = []
further_roots (s ∷ fss) = mounts s.inodes fss
