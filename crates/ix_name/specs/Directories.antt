-- What a contract sees of the names of directories: a list of pairs for each, in order of making.
use Rattle.std.specs.Prelude.{ℕ, ◌+◌, ◌-◌, ◌≡◌, true, not, List, [], ◌∷◌, ◌++◌, filter, find, Option, Some, None, slice_index_or, slice_set, slice_get}
use Rattle.std.proofs.Common.{option_map}
use Rattle.ix_model.specs.world.Naming.{same_bytes}

-- the names of each directory with their objects' numbers, and how many entries are free for more
pub record Directories : Type 0 where
  pub lists : List (List (List ℕ × ℕ))
  pub free : ℕ

-- the names of a directory
abbrev pub names_of : Directories → ℕ → List (List ℕ × ℕ)
names_of n d = slice_index_or n.lists d []

-- the object under a name
abbrev pub under : List ℕ → List (List ℕ × ℕ) → Option ℕ
under name names = option_map (λ e. e.1) (find (λ e. same_bytes e.0 name) names)

-- a list without a name; those after it close up
abbrev pub without : List ℕ → List (List ℕ × ℕ) → List (List ℕ × ℕ)
without name names = filter (λ e. not (same_bytes e.0 name)) names

-- a directory with one name more, at the end, which takes an entry
abbrev pub with_more : ℕ → List ℕ → ℕ → Directories → Directories
with_more d name o n = record { lists = slice_set n.lists d (names_of n d ++ (name, o) ∷ []); free = n.free - 1 }

-- a directory with one name fewer, which gives its entry back
abbrev pub with_fewer : ℕ → List ℕ → Directories → Directories
with_fewer d name n = record { lists = slice_set n.lists d (without name (names_of n d)); free = n.free + 1 }

-- where there was such a name
abbrev pub removed : Option ℕ → ℕ → List ℕ → Directories → Directories
removed None d name n = n
removed (Some o) d name n = with_fewer d name n

-- no name stands twice in a list
abbrev pub AreDifferent : List (List ℕ × ℕ) → Type 0
AreDifferent names = (i j : ℕ) (a b : List ℕ × ℕ) → slice_get names i ≡ Some a → slice_get names j ≡ Some b → same_bytes a.0 b.0 ≡ true → i ≡ j
