-- Which row is which pid's.
use Rattle.std.specs.Prelude.{ℕ, suc, ◌≡◌, ◌<◌, ◌+◌, ◌==◌, ◌%◌, Bool, false, List, [], ◌∷◌, length, Option, Some, None, if◌then◌else◌, is_some, count_by, slice_index_or}
use Rattle.std.specs.List.{list_any}
use Rattle.std.specs.Option.{option_map_or}
use Rattle.std.proofs.Common.{option_map}
use Rattle.ix_links.specs.Chains.{Chains, pool}

-- the pid of each row, and how many rows are free
pub record RowOwners : Type 0 where
  pub pids : List (Option ℕ)
  pub free : ℕ

-- whether a row is a pid's
abbrev pub sits : ℕ → Option ℕ → Bool
sits pid x = option_map_or (λ p. p == pid) x false

-- the row of a pid, if it has one
unfoldable pub row_of : ℕ → List (Option ℕ) → Option ℕ
row_of pid [] = None
row_of pid (x ∷ xs) = if sits pid x then Some 0 else option_map suc (row_of pid xs)

-- how many rows are free once this one is
abbrev pub freed : Option ℕ → ℕ → ℕ
freed None free = free
freed (Some row) free = free + 1

-- ---- what the code keeps
abbrev pub pid_at : List (Option ℕ) → ℕ → Option ℕ
pid_at pids i = slice_index_or pids i None

abbrev pub is_at : List (Option ℕ) → ℕ → ℕ → Bool
is_at pids pid i = sits pid (pid_at pids i)

-- whether an index stands in a chain
abbrev pub stands_in : List (List ℕ) → ℕ → ℕ → Bool
stands_in chains c i = list_any (λ j. j == i) (slice_index_or chains c [])

-- no pid has two rows
abbrev pub AreDifferent : List (Option ℕ) → Type 0
AreDifferent pids = (i j p : ℕ) → pid_at pids i ≡ Some p → pid_at pids j ≡ Some p → i ≡ j

-- a row stands in the bucket of its pid and in no other; a free one stands in none
pub record IsRowIndex (pids : List (Option ℕ)) (buckets : Chains) (width : ℕ) : Type 0 where
  pub filed : (c i : ℕ) → stands_in buckets.chains c i ≡ option_map_or (λ p. p % width == c) (pid_at pids i) false
  pub different : AreDifferent pids
  pub wide : length buckets.chains ≡ width
  pub some : 0 < width
  pub pooled : pool buckets ≡ length pids
  pub spare : length buckets.free + count_by is_some pids ≡ length pids
