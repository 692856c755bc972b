-- Entries that a slab keeps under keys of its own, and the keys by number.
use Rattle.std.specs.Prelude.{◌≡◌, ◌≤◌, ℕ, true, List, length, map, count_by, Option, Some, None, is_some, slice_index_or}
use Rattle.slab.specs.Slab.{Slab, get, slab_len}
use Rattle.ix_open.specs.declared.view.OpenView.{OpenView}

abbrev pub entry_in : Slab OpenView → Option ℕ → Option OpenView
entry_in s None = None
entry_in s (Some k) = get s k

-- the entry of each number
abbrev pub seen : Slab OpenView → List (Option ℕ) → List (Option OpenView)
seen s keys = map (entry_in s) keys

pub record IsIndex (s : Slab OpenView) (keys : List (Option ℕ)) : Type 0 where
  pub lives : (n k : ℕ) → slice_index_or keys n None ≡ Some k → is_some (get s k) ≡ true
  pub differ : (n m k : ℕ) → slice_index_or keys n None ≡ Some k → slice_index_or keys m None ≡ Some k → n ≡ m
  pub stored : slab_len s ≡ count_by is_some keys
  pub fits : length keys ≤ s.capacity
