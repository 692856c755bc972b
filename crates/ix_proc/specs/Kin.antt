-- The children of each process stand on a chain of links, and the processes without a parent on one of their own.
use Rattle.std.specs.Prelude.{◌≡◌, ℕ, ◌+◌, ◌<◌, ◌≤◌, nat_lt, Bool, true, List, [], ◌∷◌, length, map, Option, None, Some, is_some, is_none, if◌then◌else◌, slice_get}
use Rattle.ix_model.specs.world.World.{living}
use Rattle.ix_links.specs.Chains.{Chains, times, chain_of, pool}
use Rattle.ix_proc.specs.Slots.{record_at, lookup, found, process_in, is_child_record}
use Rattle.ix_model.specs.declared.ids.Pid.{Pid}
use Rattle.ix_proc.specs.declared.slot.Slot.{Slot}
use Rattle.ix_proc.specs.declared.slot.Record.{Record}

-- the links of the records that pass a test, in the order of their pids
abbrev pub linked : (Record → Bool) → List Slot → List Record → List ℕ
linked P [] records = []
linked P (s ∷ t) records = if P (record_at records s.link) then s.link ∷ linked P t records else linked P t records

abbrev pub is_root : Record → Bool
is_root r = is_none r.parent

-- Chain i has the children of the process of link i, and the chain after all those the processes without a parent.
-- A link is either free or one slot's; the parent of each process lives.
pub record AreKin (slots : List Slot) (records : List Record) (k : Chains) (limit : ℕ) : Type 0 where
  pub children : (p : ℕ) (s : Slot) → lookup slots p ≡ Some s → chain_of s.link k ≡ linked (is_child_record p) slots records
  pub roots : chain_of limit k ≡ linked is_root slots records
  pub parents : (p : ℕ) (s : Slot) (q : Pid) → lookup slots p ≡ Some s → (record_at records s.link).parent ≡ Some q → is_some (living (process_in (found slots records q.0))) ≡ true
  pub idle : (i : ℕ) → i < limit → times i (map (λ (s : Slot). s.link) slots) ≡ 0 → chain_of i k ≡ []
  pub whole : (i : ℕ) → times i k.free + times i (map (λ (s : Slot). s.link) slots) ≡ (if nat_lt i limit then 1 else 0)
  pub spare : length k.free + length slots ≡ limit
  pub wide : length k.chains ≡ limit + 1
  pub pooled : pool k ≡ limit

-- the chain on which a process with that parent hangs
abbrev pub Hangs : List Slot → ℕ → Option Pid → ℕ → Type 0
Hangs t limit None c = c ≡ limit
Hangs t limit (Some q) c = (s : Slot) × ((lookup t q.0 ≡ Some s) × (c ≡ s.link))

-- a parent that is given has a slot
abbrev pub Parented : List Slot → Option Pid → Type 0
Parented t None = Unit {0}
Parented t (Some q) = is_some (lookup t q.0) ≡ true

-- the links of a chain differ, and each is below a number
pub record IsWalk (xs : List ℕ) (n : ℕ) : Type 0 where
  pub once : (i : ℕ) → times i xs ≤ 1
  pub low : (place i : ℕ) → slice_get xs place ≡ Some i → i < n
