-- The numbers of objects: the inodes of the first file system from 0, then those of the next and so on, then the pipes.
use Rattle.std.specs.Prelude.{ℕ, ◌+◌, ◌==◌, Bool, List, length, map, sum, take, drop, Option}
use Rattle.std.specs.Option.{option_map_or}
use Rattle.std.proofs.Common.{option_map}
use Rattle.ix_model.specs.world.World.{fs_at, Frame, Object, lowest_free}
use Rattle.ix_model.specs.declared.config.FsSpec.{FsSpec}

-- the first inode of a file system, which is its root directory
abbrev pub first_inode : List FsSpec → ℕ → ℕ
first_inode fss k = sum (map (λ s. s.inodes) (take k fss))

-- the lowest free inode of a file system
unfoldable pub free_inode : Frame → ℕ → Option ℕ
free_inode f k = option_map (λ n. first_inode f.fss k + n) (lowest_free (take (fs_at f.fss k).inodes (drop (first_inode f.fss k) f.objects)))

-- the number of the first pipe
abbrev pub first_pipe : List FsSpec → ℕ
first_pipe fss = first_inode fss (length fss)

-- the lowest free pipe
unfoldable pub free_pipe : Frame → Option ℕ
free_pipe f = option_map (λ n. first_pipe f.fss + n) (lowest_free (drop (first_pipe f.fss) f.objects))

-- the file system on which an object lies; a pipe lies on none, and no row asks for its
abbrev pub fs_number : Object → ℕ
fs_number x = option_map_or (λ k. k) x.fs 0

-- whether an object is the root of its file system
abbrev pub is_root : List FsSpec → ℕ → Object → Bool
is_root fss o x = o == first_inode fss (fs_number x)
