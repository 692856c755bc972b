-- The tables of the entries that the code keeps, and an entry as the tables show it.
use Rattle.std.specs.Prelude.{ℕ, List, map, Option, Some, None, slice_set, slice_index_or}
use Rattle.std.specs.Option.{option_map_or}
use Rattle.std.proofs.Common.{option_map}
use Rattle.ix_model.specs.world.World.{Open, put}
use Rattle.ix_open.specs.Table.{OpenTable}
use Rattle.ix_open.specs.declared.view.OpenView.{OpenView}

abbrev pub open_of : OpenView → Open
open_of v = record { object = v.obj.0; end = v.end; mode = v.mode; label = v.label }

abbrev pub offset_of : OpenView → ℕ
offset_of v = v.at

abbrev pub owners_of : OpenView → ℕ
owners_of v = v.owners

abbrev pub open_in : Option OpenView → Option Open
open_in e = option_map open_of e

abbrev pub offset_in : Option OpenView → ℕ
offset_in e = option_map_or offset_of e 0

abbrev pub owners_in : Option OpenView → ℕ
owners_in e = option_map_or owners_of e 0

abbrev pub table_of : List (Option OpenView) → ℕ → OpenTable
table_of es objects = record { opens = map open_in es; offsets = map offset_in es; owners = map owners_in es; objects = objects }

-- what a reader is shown of the entry that stands at a number
abbrev pub shown : OpenTable → ℕ → Open → OpenView
shown t n e = record { obj = record { 0 = e.object }; end = e.end; mode = e.mode; at = slice_index_or t.offsets n 0; owners = slice_index_or t.owners n 0; label = e.label }

-- the tables with that entry at a number
abbrev pub with_entry : ℕ → OpenView → OpenTable → OpenTable
with_entry n v t = record t { opens = put t.opens n (Some (open_of v)); offsets = slice_set t.offsets n v.at; owners = slice_set t.owners n v.owners }

-- the tables with that entry at the number that was free, if there was one
abbrev pub with_new : Option ℕ → OpenView → OpenTable → OpenTable
with_new None v t = t
with_new (Some n) v t = with_entry n v t
