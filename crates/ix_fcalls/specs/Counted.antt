-- What the parts count of processes.
use Rattle.std.specs.Prelude.{◌≡◌, ◌&&◌, ℕ, Bool, nat_lt, length, List, Option, Some, false, is_some, is_none, slice_index_or}
use Rattle.std.specs.Option.{option_map_or}
use Rattle.ix_model.specs.world.World.{Process, at, put, living}
use Rattle.ix_tables.specs.Parts.{Parts, owners_of, homes_of}

-- it is counted right how many descriptors name each open entry, and how many processes are at home in each object
pub record IsCounted (t : Parts) (processes : List (Option Process)) : Type 0 where
  pub owners : t.owners ≡ owners_of (length t.opens) processes
  pub homes : t.homes ≡ homes_of (length t.objects) processes

-- what is held, and where entries stand, is as it was
pub record Keeps (t u : Parts) : Type 0 where
  pub holdings : u.holdings ≡ t.holdings
  pub offsets : u.offsets ≡ t.offsets

-- a free entry has no owner and stands at offset 0
pub record IsClear (t : Parts) : Type 0 where
  pub owners : (e : ℕ) → is_some (at t.opens e) ≡ false → slice_index_or t.owners e 0 ≡ 0
  pub offsets : (e : ℕ) → is_some (at t.opens e) ≡ false → slice_index_or t.offsets e 0 ≡ 0

-- whether a living process has that descriptor, and it is free
abbrev pub has_free : List (Option Process) → ℕ → ℕ → Bool
has_free processes pid fd = option_map_or (λ q. nat_lt fd (length q.fds) && is_none (at q.fds fd)) (living (at processes pid)) false

-- whether another descriptor of a process is free once one of it names an entry
abbrev pub free_beside : Option Process → ℕ → ℕ → ℕ → Bool
free_beside p first id fd = option_map_or (λ q. nat_lt fd (length (put q.fds first (Some id))) && is_none (at (put q.fds first (Some id)) fd)) p false
