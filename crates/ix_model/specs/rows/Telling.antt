-- What lengths and offsets tell the rows of the calls that look at them.
use Rattle.std.specs.Prelude.{ℕ, suc, ◌+◌, ◌-◌, ◌/◌, ◌==◌, nat_lt, max, Bool, false, not, ◌&&◌, ◌||◌, List, [], ◌∷◌, length, Option, Some, None, if◌then◌else◌}
use Rattle.std.specs.Option.{option_map_or, option_and_then}
use Rattle.ix_model.specs.world.World.{fs_at, Frame, Content, World, Holding, at}
use Rattle.ix_model.specs.rows.Walks.{OpenFile, behind}
use Rattle.ix_model.specs.rows.OnDescriptors.{LengthChecks}
use Rattle.ix_model.specs.world.Contents.{holding_of, offset_of, side, on_pipe, readable}
use Rattle.ix_model.specs.history.Events.{Op}
use Rattle.ix_model.specs.history.Events as op

-- ---- blocks
-- the blocks that so many bytes use, 512 bytes each
abbrev pub blocks_for : ℕ → ℕ
blocks_for n = (n + 511) / 512

-- the blocks of the files at the numbers that pass, counted from n
abbrev pub blocks_where : (ℕ → Bool) → ℕ → List Holding → ℕ
blocks_where p n [] = 0
blocks_where p n (h ∷ hs) = (if p n then blocks_for (length h.first) else 0) + blocks_where p (suc n) hs

-- whether an object lies on a file system
abbrev pub lies_on : Frame → Option ℕ → ℕ → Bool
lies_on f None o = false
lies_on f (Some k) o = option_map_or (λ x. option_map_or (λ j. j == k) x.fs false) (at f.objects o) false

-- the file system of an object, and how many blocks a file system has
abbrev pub fs_of_object : Frame → ℕ → Option ℕ
fs_of_object f o = option_and_then (λ x. x.fs) (at f.objects o)

abbrev pub blocks_on : Frame → Option ℕ → ℕ
blocks_on f None = 0
blocks_on f (Some k) = (fs_at f.fss k).blocks

-- the blocks of the other files of an object's file system
abbrev pub blocks_beside : Frame → Content → ℕ → ℕ
blocks_beside f c o = blocks_where (λ m. not (m == o) && lies_on f (fs_of_object f o) m) 0 c.holdings

-- the length of a file of so many bytes once n bytes stand at an offset
abbrev pub length_then : ℕ → ℕ → ℕ → ℕ
length_then offset n old = if n == 0 then old else max old (offset + n)

-- ---- what lengths and offsets tell
-- no test fails
abbrev pub nothing_told : LengthChecks
nothing_told = record { too_big = false; full = false; no_space = false; empty = false }

-- whether there is nothing to read
unfoldable pub told_of_read : Frame → Content → Option OpenFile → LengthChecks
told_of_read f c None = nothing_told
told_of_read f c (Some e) = record nothing_told { empty = length (readable f c e) == 0 }

-- a pipe takes at most 4,096 bytes in each direction
abbrev pub told_of_pipe_write : ℕ → ℕ → LengthChecks
told_of_pipe_write there n = record nothing_told { too_big = nat_lt 4096 n; full = nat_lt 4096 (there + n) }

-- a write has at most 4,096 bytes and ends at 1,048,576 at the latest; there is no space where the file would need more blocks
-- than the other files of its file system leave it. Where the write is too big, nothing is told of space.
abbrev pub told_of_file_write : Frame → Content → OpenFile → ℕ → LengthChecks
told_of_file_write f c e n =
    let o = e.entry.object in
    let big = nat_lt 4096 n || nat_lt 1048576 (offset_of c e.id + n) in
    record nothing_told {
      too_big = big;
      no_space = not big && nat_lt (blocks_on f (fs_of_object f o)) (blocks_beside f c o + blocks_for (length_then (offset_of c e.id) n (length (side e.entry.end (holding_of c o)))));
    }

-- a write to a pipe, or to a file
unfoldable pub told_of_write : Frame → Content → ℕ → Option OpenFile → LengthChecks
told_of_write f c n None = nothing_told
told_of_write f c n (Some e) = if on_pipe f e then told_of_pipe_write (length (side (1 - e.entry.end) (holding_of c e.entry.object))) n else told_of_file_write f c e n

-- there is no space where the file would need more blocks than the other files of its file system leave it
unfoldable pub told_of_cut : Frame → Content → ℕ → Option OpenFile → LengthChecks
told_of_cut f c len None = nothing_told
told_of_cut f c len (Some e) = record nothing_told { no_space = nat_lt (blocks_on f (fs_of_object f e.entry.object)) (blocks_beside f c e.entry.object + blocks_for len) }

-- what a call is told; calls but reads, writes and cuts are told nothing
unfoldable pub told : World → ℕ → Op → LengthChecks
told w pid (op.ReadFd fd count) = told_of_read w.frame w.content (behind w.frame pid fd)
told w pid (op.WriteFd fd bytes) = told_of_write w.frame w.content (length bytes) (behind w.frame pid fd)
told w pid (op.CutFd fd len) = told_of_cut w.frame w.content len (behind w.frame pid fd)
told w pid _ = nothing_told
