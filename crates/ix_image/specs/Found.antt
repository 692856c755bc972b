-- How the directories that are reached from object 0 are found.
use Rattle.std.specs.Prelude.{◌≡◌, ℕ, ◌+◌, ◌==◌, Bool, true, false, List, ◌++◌, length, count_by, slice_get, slice_index_or, Some, ◌⊎◌}
use Rattle.std.specs.List.{Contains, list_any}
use Rattle.ix_image.specs.Trees.{NodeOf, is_directory}

-- whether an object is marked
abbrev pub marked : List Bool → ℕ → Bool
marked marks i = slice_index_or marks i false

-- a directory stands at a place
pub record IsDirAt (nodes : List NodeOf) (i : ℕ) (x : NodeOf) : Type 0 where
  pub is : slice_get nodes i ≡ Some x
  pub dir : is_directory x ≡ true

-- the directories of these numbers were found, and no others: those that weren't found before stand behind those that were
pub record Finds (nodes : List NodeOf) (numbers : List ℕ) (marks : List Bool) (places : List ℕ) (marks' : List Bool) (places' : List ℕ) : Type 0 where
  pub more : List ℕ
  pub behind : places' ≡ places ++ more
  pub long : length marks' ≡ length marks
  pub few : count_by (λ b. b) marks' ≡ count_by (λ b. b) marks + length more
  pub kept : (i : ℕ) → marked marks i ≡ true → marked marks' i ≡ true
  pub new : (i : ℕ) → marked marks' i ≡ true → (marked marks i ≡ true) ⊎ Contains more i
  pub named : (i : ℕ) → Contains more i → (x : NodeOf) × IsDirAt nodes i x × (list_any (λ n. n == x.number) numbers ≡ true) × (marked marks' i ≡ true)
  pub all : (i : ℕ) (x : NodeOf) → IsDirAt nodes i x → list_any (λ n. n == x.number) numbers ≡ true → marked marks' i ≡ true
