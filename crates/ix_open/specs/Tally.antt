-- How many entries are on each end of each object.
use Rattle.std.specs.Prelude.{◌≡◌, ℕ, ◌+◌, ◌*◌, ◌<◌, ◌^◌, ◌==◌, Bool, false, List, length, count_by, Option, None, Some, slice_index_or}
use Rattle.std.specs.Option.{option_map_or}
use Rattle.ix_open.specs.declared.view.OpenView.{OpenView}

-- the place of an object's end among the counts
abbrev pub place : ℕ → ℕ → ℕ
place o end = 2 * o + end

abbrev pub is_at : ℕ → Option OpenView → Bool
is_at k e = option_map_or (λ v. place v.obj.0 v.end == k) e false

-- each count is that of the entries at its place, and each entry has an owner and is on end 0 or 1
pub record AreCounted (es : List (Option OpenView)) (counts : List ℕ) (objects : ℕ) : Type 0 where
  pub counted : (k : ℕ) → slice_index_or counts k 0 ≡ count_by (is_at k) es
  pub places : length counts ≡ 2 * objects
  pub owned : (n : ℕ) (v : OpenView) → slice_index_or es n None ≡ Some v → 0 < v.owners
  pub ends : (n : ℕ) (v : OpenView) → slice_index_or es n None ≡ Some v → v.end < 2
  pub few : length es < 2 ^ 32
