-- What the store holds: whole blocks, one behind the other.
use Rattle.std.specs.Prelude.{ℕ, ◌+◌, ◌-◌, ◌*◌, List, [], ◌++◌, length, take, set, get_or, replicate}
use Rattle.ix_blocks.specs.Files.{laid_over}

-- all bytes of the blocks of each file, and the free blocks
pub record Wholes : Type 0 where
  pub wholes : List (List ℕ)
  pub free : ℕ

-- all bytes of the blocks of a file
abbrev pub whole_of : ℕ → Wholes → List ℕ
whole_of f s = get_or s.wholes f []

-- so many free blocks, and files without any
abbrev pub none_held : ℕ → ℕ → Wholes
none_held blocks files = record { wholes = replicate files []; free = blocks }

-- so many free blocks, of zeros, put at the end of a file
abbrev pub blocks_added : ℕ → ℕ → Wholes → Wholes
blocks_added n f s = record { wholes = set s.wholes f (whole_of f s ++ replicate (512 * n) 0); free = s.free - n }

-- so many of the last blocks of a file given back
abbrev pub blocks_dropped : ℕ → ℕ → Wholes → Wholes
blocks_dropped n f s = record { wholes = set s.wholes f (take (length (whole_of f s) - 512 * n) (whole_of f s)); free = s.free + n }

-- bytes laid over those of one file
abbrev pub laid_in : ℕ → ℕ → List ℕ → List (List ℕ) → List (List ℕ)
laid_in f place xs ws = set ws f (laid_over place xs (get_or ws f []))

-- a store with bytes laid over those of a file
abbrev pub with_laid_over : ℕ → ℕ → List ℕ → Wholes → Wholes
with_laid_over f place xs s = record { wholes = laid_in f place xs s.wholes; free = s.free }
