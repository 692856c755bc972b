-- The image of a tree: how it is written, and which trees may be.
use Rattle.std.specs.Prelude.{◌≡◌, ℕ, ◌+◌, ◌<◌, ◌≤◌, ◌^◌, Bool, true, List, [], ◌∷◌, ◌++◌, length, codes, if◌then◌else◌}
use Rattle.std.specs.List.{flat_map, AllByRecursion}
use Rattle.std.specs.Int.{w32, to_be_bytes}
use Rattle.ix_label.specs.Category.{IsLabel, leq}
use Rattle.ix_model.specs.opening.Valid.{is_within}
use Rattle.ix_model.specs.world.Naming.{is_name}
use Rattle.ix_model.specs.world.World.{fs_at}
use Rattle.ix_model.specs.declared.config.FsSpec.{FsSpec}
use Rattle.ix_text.specs.Names.{is_script_name}
use Rattle.ix_image.specs.Trees.{TreeOf, NodeOf, LinkOf, Holds, Bytes, Links, is_directory, inodes_in, home}
use Rattle.ix_image.specs.declared.marks.Marks.{Marks}
use Rattle.ix_image.specs.Labelled.{label_bytes}
use Rattle.ix_image.specs.Fitting.{names_fit}

-- ---- how it is written
-- the first bytes
abbrev pub first_bytes : List ℕ
first_bytes = codes "IXIMAGE1"

-- a number of four bytes, the most significant first
abbrev pub four : ℕ → List ℕ
four n = to_be_bytes w32 n

-- a name behind its length
abbrev pub name_bytes : List ℕ → List ℕ
name_bytes name = length name ∷ name

-- a file system: its name, its ceiling, and how many blocks and inodes it has
abbrev pub file_system_bytes : FsSpec → List ℕ
file_system_bytes s = name_bytes s.name ++ (label_bytes s.ceiling ++ (four s.blocks ++ four s.inodes))

-- a name with the number of its object
abbrev pub link_bytes : LinkOf → List ℕ
link_bytes l = name_bytes l.0 ++ four l.1

-- a file's bytes behind their number, and a directory's names behind theirs
abbrev pub held_bytes : Holds → List ℕ
held_bytes (Bytes bytes) = four (length bytes) ++ bytes
held_bytes (Links links) = four (length links) ++ flat_map link_bytes links

-- 1 where something holds, else 0
abbrev pub flag : Bool → ℕ
flag b = if b then 1 else 0

-- whether an object is a directory, whether it is frozen, and its two sets, each in a byte
abbrev pub marks_bytes : Marks → List ℕ
marks_bytes m = flag m.is_dir ∷ flag m.frozen ∷ m.cap.0 ∷ m.lic.0 ∷ []

abbrev pub marks_of : NodeOf → Marks
marks_of x = record { is_dir = is_directory x; frozen = x.frozen; cap = x.cap; lic = x.lic }

-- an object: its number, its marks, its label, and what it holds
abbrev pub node_bytes : NodeOf → List ℕ
node_bytes x = four x.number ++ (marks_bytes (marks_of x) ++ (label_bytes x.label ++ held_bytes x.holds))

-- the whole
unfoldable pub image_of : TreeOf → List ℕ
image_of t =
    first_bytes ++ (four (length t.fss) ++ (flat_map file_system_bytes t.fss
    ++ (four (length t.nodes) ++ flat_map node_bytes t.nodes)))

-- ---- the most and the least
-- 1 to 16 file systems, each with 1 to 65,536 blocks, and as many inodes
abbrev pub is_count_of_file_systems : ℕ → Bool
is_count_of_file_systems n = is_within 1 16 n

abbrev pub is_size_of_file_system : ℕ → Bool
is_size_of_file_system n = is_within 1 65536 n

-- a file has at most 1,048,576 bytes, a directory at most 65,536 names
abbrev pub is_size_of_file : ℕ → Bool
is_size_of_file n = is_within 0 1048576 n

abbrev pub is_count_of_names : ℕ → Bool
is_count_of_names n = is_within 0 65536 n

-- the most bytes that an image has
abbrev pub longest : ℕ
longest = 671088640

-- ---- which trees have an image that can be read
-- a file system: named as scripts name them, of a size, with a label for a ceiling
pub record IsFileSystem (s : FsSpec) : Type 0 where
  pub name : is_script_name s.name ≡ true
  pub ceiling : IsLabel s.ceiling
  pub blocks : is_size_of_file_system s.blocks ≡ true
  pub inodes : is_size_of_file_system s.inodes ≡ true

-- a name gives some number
pub record IsLink (l : LinkOf) : Type 0 where
  pub name : is_name l.0 ≡ true
  pub object : l.1 < 2 ^ 32

-- what an object holds is not too much
abbrev pub AreHeld : Holds → Type 0
AreHeld (Bytes bytes) = is_size_of_file (length bytes) ≡ true
AreHeld (Links links) = (is_count_of_names (length links) ≡ true) × AllByRecursion IsLink links

-- an object is of some file system and not above its ceiling, and has no privileges but the five
pub record IsNode (fss : List FsSpec) (x : NodeOf) : Type 0 where
  pub inside : x.number < inodes_in fss
  pub cap : x.cap.0 < 32
  pub lic : x.lic.0 < 32
  pub label : IsLabel x.label
  pub below : leq x.label (fs_at fss (home fss x.number)).ceiling ≡ true
  pub holds : AreHeld x.holds

-- numbers rise, the first of them from a least one on
abbrev pub NumbersRise : ℕ → List NodeOf → Type 0
NumbersRise least [] = Unit {0}
NumbersRise least (x ∷ nodes) = (least ≤ x.number) × NumbersRise (x.number + 1) nodes

-- the whole, but for its names and its length
pub record IsTree (t : TreeOf) : Type 0 where
  pub count : is_count_of_file_systems (length t.fss) ≡ true
  pub fss : AllByRecursion IsFileSystem t.fss
  pub objects : length t.nodes ≤ inodes_in t.fss
  pub rise : NumbersRise 0 t.nodes
  pub nodes : AllByRecursion (IsNode t.fss) t.nodes

-- the whole: a tree that meets all rules
pub record IsSound (t : TreeOf) : Type 0 where
  pub tree : IsTree t
  pub names : names_fit t ≡ true
  pub short : length (image_of t) ≤ longest
