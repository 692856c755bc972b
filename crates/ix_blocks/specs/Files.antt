-- What contracts see: a list of bytes for each file, and how many blocks there are.
use Rattle.std.specs.Prelude.{ℕ, ◌+◌, ◌-◌, Bool, nat_le, List, [], ◌∷◌, ◌++◌, length, take, drop, set, get_or, replicate}
use Rattle.ix_model.specs.rows.Telling.{blocks_for, length_then}

-- the bytes of each file, and the number of blocks of the pool
pub record Files : Type 0 where
  pub files : List (List ℕ)
  pub blocks : ℕ

-- how many bytes a file has at most
abbrev pub most : ℕ
most = 1048576

-- the blocks that files use together
abbrev pub used : List (List ℕ) → ℕ
used [] = 0
used (xs ∷ xss) = blocks_for (length xs) + used xss

-- the bytes of a file
abbrev pub bytes_of : ℕ → Files → List ℕ
bytes_of f s = get_or s.files f []

-- a file of other bytes
abbrev pub with_bytes : ℕ → List ℕ → Files → Files
with_bytes f bytes s = record { files = set s.files f bytes; blocks = s.blocks }

-- all blocks free, and each file empty
abbrev pub all_empty : ℕ → ℕ → Files
all_empty blocks files = record { files = replicate files []; blocks = blocks }

-- a file may have that length: it needs no more blocks than it has and are free
abbrev pub has_room : ℕ → ℕ → Files → Bool
has_room f len s = nat_le (blocks_for len - blocks_for (length (bytes_of f s))) (s.blocks - used s.files)

-- bytes laid over others from a place on
abbrev pub laid_over : ℕ → List ℕ → List ℕ → List ℕ
laid_over place xs old = take place old ++ (xs ++ drop (place + length xs) old)

-- how long a file is once those bytes are written at an offset
abbrev pub length_after : ℕ → ℕ → List ℕ → Files → ℕ
length_after f offset new s = length_then offset (length new) (length (bytes_of f s))
