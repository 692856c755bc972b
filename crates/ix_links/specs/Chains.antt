-- What contracts see of the pool: lists of indices.
use Rattle.std.specs.Prelude.{ℕ, zero, suc, ◌+◌, ◌==◌, List, [], ◌∷◌, length, set, get_or, Option, None, ◌++◌, if◌then◌else◌, slice_get, replicate}
use Rattle.std.specs.List.{range_with_len}

-- the list of each chain, and that of the free indices
pub record Chains : Type 0 where
  pub chains : List (List ℕ)
  pub free : List ℕ

-- the free list, and behind it that of each chain
abbrev pub lists : Chains → List (List ℕ)
lists s = s.free ∷ s.chains

-- the sum of a number over lists
abbrev pub total : (List ℕ → ℕ) → List (List ℕ) → ℕ
total f [] = 0
total f (xs ∷ xss) = f xs + total f xss

-- how often an index stands in a list
abbrev pub times : ℕ → List ℕ → ℕ
times i [] = 0
times i (x ∷ xs) = (if x == i then 1 else 0) + times i xs

-- how many indices the pool has
abbrev pub pool : Chains → ℕ
pool s = total length (lists s)

-- the list of a chain
abbrev pub chain_of : ℕ → Chains → List ℕ
chain_of k s = get_or s.chains k []

-- all indices free, in ascending order, and each chain empty
abbrev pub all_free : ℕ → ℕ → Chains
all_free items chains = record { chains = replicate chains []; free = range_with_len 0 items }

-- the first of the free indices moved to the front of a chain; all as it was where none is free
abbrev pub front_moved : ℕ → List ℕ → List (List ℕ) → Chains
front_moved k [] chains = record { chains = chains; free = [] }
front_moved k (i ∷ rest) chains = record { chains = set chains k (i ∷ get_or chains k []); free = rest }

abbrev pub pushed_front : ℕ → Chains → Chains
pushed_front k s = front_moved k s.free s.chains

-- the first of the free indices moved to the back of a chain; all as it was where none is free
abbrev pub back_moved : ℕ → List ℕ → List (List ℕ) → Chains
back_moved k [] chains = record { chains = chains; free = [] }
back_moved k (i ∷ rest) chains = record { chains = set chains k (get_or chains k [] ++ i ∷ []); free = rest }

abbrev pub pushed_back : ℕ → Chains → Chains
pushed_back k s = back_moved k s.free s.chains

-- a list without the first place of an index
abbrev pub without : ℕ → List ℕ → List ℕ
without i [] = []
without i (x ∷ xs) = if x == i then xs else x ∷ without i xs

-- an index moved from its chain to the front of the free list
abbrev pub removed : ℕ → ℕ → Chains → Chains
removed k i s = record { chains = set s.chains k (without i (chain_of k s)); free = i ∷ s.free }

-- what stands before a place of a list
abbrev pub before : List ℕ → ℕ → Option ℕ
before xs zero = None
before xs (suc p) = slice_get xs p
