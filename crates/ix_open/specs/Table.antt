-- What a contract sees of the open entries: tables by number.
use Rattle.std.specs.Prelude.{ℕ, ◌-◌, Bool, true, false, List, replicate, Option, Some, None, slice_set, slice_index_or}
use Rattle.ix_label.specs.Category.{Categories}
use Rattle.ix_model.specs.world.World.{Open, put, change}

-- Where each entry stands and its label, its offset, and how many own it; at a free number there is none, and 0.
-- The numbers of objects are below the last field.
pub record OpenTable : Type 0 where
  pub opens : List (Option Open)
  pub offsets : List ℕ
  pub owners : List ℕ
  pub objects : ℕ

-- so many numbers, all free
abbrev pub none_open : ℕ → ℕ → OpenTable
none_open n objects = record { opens = replicate n None; offsets = replicate n 0; owners = replicate n 0; objects = objects }

-- with an entry more that has one owner, where a number is free
abbrev pub opened : Option ℕ → Open → OpenTable → OpenTable
opened None e t = t
opened (Some n) e t = record t { opens = put t.opens n (Some e); offsets = slice_set t.offsets n 0; owners = slice_set t.owners n 1 }

-- with so many owners, that offset, or that label of an entry
abbrev pub with_owners : ℕ → ℕ → OpenTable → OpenTable
with_owners n k t = record t { owners = slice_set t.owners n k }

abbrev pub with_offset : ℕ → ℕ → OpenTable → OpenTable
with_offset n k t = record t { offsets = slice_set t.offsets n k }

abbrev pub with_label : ℕ → Categories → OpenTable → OpenTable
with_label n l t = record t { opens = change t.opens n (λ e. record e { label = l }) }

-- without the entry: its number is free
abbrev pub without : ℕ → OpenTable → OpenTable
without n t = record t { opens = put t.opens n None; offsets = slice_set t.offsets n 0; owners = slice_set t.owners n 0 }

-- after a release: without the entry where that was the last owner, and else with an owner fewer
abbrev pub released : Bool → ℕ → OpenTable → OpenTable
released true n t = without n t
released false n t = with_owners n (slice_index_or t.owners n 0 - 1) t
