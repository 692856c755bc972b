-- What contracts see of files and directories: a record at each number, and bytes.
use Rattle.std.specs.Prelude.{ℕ, suc, ◌+◌, ◌-◌, ◌==◌, nat_le, if◌then◌else◌, Bool, true, false, not, ◌&&◌, List, [], ◌∷◌, ◌++◌, length, take, drop}
use Rattle.std.specs.Prelude.{replicate, Option, Some, None, slice_set, slice_index_or}
use Rattle.std.specs.List.{list_all}
use Rattle.std.specs.Option.{option_map_or}
use Rattle.std.proofs.Common.{option_map}
use Rattle.ix_label.specs.Category.{Categories, top}
use Rattle.ix_model.specs.opening.Valid.{fs_fits}
use Rattle.ix_model.specs.world.World.{at, put, change, lowest_free, fs_at}
use Rattle.ix_model.specs.world.Numbers.{first_inode}
use Rattle.ix_model.specs.declared.config.FsSpec.{FsSpec}
use Rattle.ix_model.specs.rows.Telling.{blocks_for, length_then}
use Rattle.ix_blocks.specs.Files.{used}
use Rattle.ix_inode.specs.declared.node.Inode.{Inode}
use Rattle.ix_inode.specs.declared.node.Node.{Node}
use Rattle.ix_inode.specs.Shown.{new_node, told}

-- The file systems, and by number a file or a directory or none, and bytes. Where nothing stands there are none.
pub record Nodes : Type 0 where
  pub fss : List FsSpec
  pub nodes : List (Option Node)
  pub bytes : List (List ℕ)

-- ---- what stands at a number
-- the bytes
abbrev pub bytes_at : ℕ → Nodes → List ℕ
bytes_at o s = slice_index_or s.bytes o []

-- whether it is a file
abbrev pub is_file_at : ℕ → Nodes → Bool
is_file_at o s = option_map_or (λ x. not x.dir) (at s.nodes o) false

-- the ceiling of a file system, and that of the one on which an inode lies
abbrev pub fs_ceiling : ℕ → Nodes → Categories
fs_ceiling k s = (fs_at s.fss k).ceiling

abbrev pub ceiling_at : ℕ → Nodes → Categories
ceiling_at o s = option_map_or (λ x. fs_ceiling x.fs s) (at s.nodes o) top

-- what is told of it
abbrev pub told_at : ℕ → Nodes → Node → Inode
told_at o s x = told (fs_ceiling x.fs s) (length (bytes_at o s)) x

-- ---- edits of one number
-- with what stands there changed
abbrev pub changed : ℕ → (Node → Node) → Nodes → Nodes
changed o h s = record s { nodes = change s.nodes o h }

-- with another inode
abbrev pub with_node : ℕ → Node → Nodes → Nodes
with_node o x s = record s { nodes = put s.nodes o (Some x) }

-- with other bytes
abbrev pub holding : ℕ → List ℕ → Nodes → Nodes
holding o bytes s = record s { bytes = slice_set s.bytes o bytes }

-- with that in the place of what stood there, and those bytes
abbrev pub with_inode : ℕ → Option Node → List ℕ → Nodes → Nodes
with_inode o x bytes s = record s { nodes = put s.nodes o x; bytes = slice_set s.bytes o bytes }

-- with an inode more, where a number is free
abbrev pub made : Option ℕ → Node → Nodes → Nodes
made None x s = s
made (Some o) x s = with_inode o (Some x) [] s

-- with nothing there
abbrev pub without : ℕ → Nodes → Nodes
without o s = with_inode o None [] s

-- ---- file systems
-- the lowest free number of one
abbrev pub vacant_in : ℕ → Nodes → Option ℕ
vacant_in k s = option_map (λ n. first_inode s.fss k + n) (lowest_free (take (fs_at s.fss k).inodes (drop (first_inode s.fss k) s.nodes)))

-- the bytes of its inodes, and its blocks that they don't use
abbrev pub bytes_on : ℕ → Nodes → List (List ℕ)
bytes_on k s = take (fs_at s.fss k).inodes (drop (first_inode s.fss k) s.bytes)

abbrev pub free_blocks : ℕ → Nodes → ℕ
free_blocks k s = (fs_at s.fss k).blocks - used (bytes_on k s)

-- the blocks that the inodes which name a file system use together
abbrev pub blocks_of : ℕ → List (Option Node) → List (List ℕ) → ℕ
blocks_of k [] bytes = 0
blocks_of k (x ∷ nodes) [] = 0
blocks_of k (x ∷ nodes) (b ∷ bytes) = (if option_map_or (λ y. y.fs == k) x false then blocks_for (length b) else 0) + blocks_of k nodes bytes

-- whether a file may have that length: it needs no more blocks than it has and are free on its file system
abbrev pub has_space : ℕ → ℕ → Nodes → Bool
has_space o len s = nat_le (blocks_for len - blocks_for (length (bytes_at o s))) (option_map_or (λ x. free_blocks x.fs s) (at s.nodes o) 0)

-- how long a file is once so many bytes are written at an offset
abbrev pub length_after : ℕ → ℕ → ℕ → Nodes → ℕ
length_after o offset n s = length_then offset n (length (bytes_at o s))

-- the inodes of file systems from number k on: the root directory of each, and nothing else
abbrev pub bare : ℕ → List FsSpec → List (Option Node)
bare k [] = []
bare k (s ∷ fss) = (Some (new_node k true) ∷ replicate (s.inodes - 1) None) ++ bare (suc k) fss

-- file systems as they are made
abbrev pub opened : List FsSpec → Nodes
opened fss = record { fss = fss; nodes = bare 0 fss; bytes = replicate (first_inode fss (length fss)) [] }

-- at most 16 file systems, of 1 to 65,536 blocks and inodes each
abbrev pub are_within : List FsSpec → Bool
are_within fss = nat_le (length fss) 16 && list_all fs_fits fss
