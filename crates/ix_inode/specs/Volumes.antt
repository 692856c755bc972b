-- The inodes of one file system, and how those of all file systems lie one behind the other.
use Rattle.std.specs.Prelude.{◌≡◌, ℕ, ◌+◌, ◌-◌, ◌*◌, ◌<◌, ◌≤◌, true, List, [], ◌∷◌, length, map, take, replicate, get_or, Option, Some, None}
use Rattle.std.specs.List.{flat_map}
use Rattle.ix_label.specs.Category.{Categories, leq}
use Rattle.ix_model.specs.world.Numbers.{first_inode}
use Rattle.ix_model.specs.declared.config.FsSpec.{FsSpec}
use Rattle.ix_blocks.specs.Files.{all_empty}
use Rattle.ix_inode.specs.declared.node.Node.{Node}
use Rattle.ix_inode.specs.declared.volume.Volume.{Volume}
use Rattle.ix_inode.specs.Shown.{new_node}
use Rattle.ix_inode.specs.Nodes.{Nodes, bare}

-- a file system as it is made: its root directory, and nothing else
pub record IsNew (fs n : ℕ) (s : FsSpec) (v : Volume) : Type 0 where
  pub spec : v.spec ≡ s
  pub first : v.first ≡ n
  pub nodes : v.nodes ≡ Some (new_node fs true) ∷ replicate (s.inodes - 1) None
  pub blocks : v.blocks ≡ all_empty s.blocks s.inodes

-- each inode is on that file system, at or below its ceiling, and nothing is held where none stands
pub record AreOn (k : ℕ) (ceiling : Categories) (nodes : List (Option Node)) (bytes : List (List ℕ)) : Type 0 where
  pub fs : (n : ℕ) (x : Node) → get_or nodes n None ≡ Some x → x.fs ≡ k
  pub below : (n : ℕ) (x : Node) → get_or nodes n None ≡ Some x → leq x.label ceiling ≡ true
  pub empty : (n : ℕ) → get_or nodes n None ≡ None → get_or bytes n [] ≡ []

-- one of the file systems, in its place
pub record IsVolume (fss : List FsSpec) (k : ℕ) (v : Volume) : Type 0 where
  pub first : v.first ≡ first_inode fss k
  pub nodes : length v.nodes ≡ v.spec.inodes
  pub files : length v.blocks.files ≡ v.spec.inodes
  pub blocks : v.blocks.blocks ≡ v.spec.blocks
  pub low : v.first + v.spec.inodes ≤ (k + 1) * 65536
  pub on : AreOn k v.spec.ceiling v.nodes v.blocks.files

-- what is said of the file systems, and the inodes and bytes of all
abbrev pub specs : List Volume → List FsSpec
specs vs = map (λ v. v.spec) vs

abbrev pub all_nodes : List Volume → List (Option Node)
all_nodes vs = flat_map (λ v. v.nodes) vs

abbrev pub all_bytes : List Volume → List (List ℕ)
all_bytes vs = flat_map (λ v. v.blocks.files) vs

pub record AreVolumes (vs : List Volume) : Type 0 where
  pub each : (k : ℕ) (v : Volume) → k < length vs → v ≡ get_or vs k v → IsVolume (specs vs) k v
  pub few : length vs ≤ 16

abbrev pub nodes_of : List Volume → Nodes
nodes_of vs = record { fss = specs vs; nodes = all_nodes vs; bytes = all_bytes vs }

-- a number is that of an inode of a file system
pub record IsSpot (vs : List Volume) (k n o : ℕ) : Type 0 where
  pub within : k < length vs
  pub there : (v : Volume) → v ≡ get_or vs k v → n < length v.nodes
  pub number : o ≡ length (all_nodes (take k vs)) + n

-- the first so many file systems as they are made, and the number of the inode after theirs
pub record AreNew (fss : List FsSpec) (k n : ℕ) (vs : List Volume) : Type 0 where
  pub laid : AreVolumes vs
  pub long : length vs ≡ k
  pub said : specs vs ≡ take k fss
  pub bare : all_nodes vs ≡ bare 0 (take k fss)
  pub empty : all_bytes vs ≡ replicate n []
  pub first : n ≡ first_inode (take k fss) k
  pub low : n ≤ k * 65536
