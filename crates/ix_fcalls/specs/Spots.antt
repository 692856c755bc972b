-- What stands behind a descriptor, as the code gives it, and how much an object holds.
use Rattle.std.specs.Prelude.{ℕ, false, List, [], length, map, sum, drop, Option, Some, None, if◌then◌else◌, slice_index_or}
use Rattle.std.specs.Option.{option_and_then, option_map_or}
use Rattle.ix_model.specs.declared.ids.Obj.{Obj}
use Rattle.ix_model.specs.history.Views.{has_side}
use Rattle.ix_model.specs.rows.Walks.{OpenFile}
use Rattle.ix_model.specs.world.Contents.{offset_of, side, held_at}
use Rattle.ix_model.specs.world.World.{World, at, is_file}
use Rattle.ix_fresh.specs.Laws.{Spot}
use Rattle.ix_open.specs.declared.view.OpenView.{OpenView}
use Rattle.ix_tables.specs.Parts.{Parts, named_by}

-- an open entry and its object
abbrev pub spot_in : ℕ × Obj → Spot
spot_in s = record { entry = s.0; object = s.1.0 }

-- the spot of an open entry
abbrev pub spot_through : OpenFile → Spot
spot_through b = record { entry = b.id; object = b.entry.object }

-- an open entry with its offset, and how many descriptors name it
abbrev pub viewed : ℕ → ℕ → OpenFile → OpenView
viewed offset owners b = record { obj = record { 0 = b.entry.object }; end = b.entry.end; mode = b.entry.mode; at = offset; owners = owners; label = b.entry.label }

-- as it stands in the files' parts, and in a world
abbrev pub view_in : Parts → OpenFile → OpenView
view_in t b = viewed (slice_index_or t.offsets b.id 0) (slice_index_or t.owners b.id 0) b

abbrev pub view_through : World → OpenFile → OpenView
view_through w b = viewed (offset_of w.content b.id) (sum (map (named_by b.id) w.frame.processes)) b

-- how much there is at an end of an object, in the files' parts
unfoldable pub size_in : Parts → ℕ → ℕ → Option ℕ
size_in t o end = option_and_then (λ x. if has_side x end then Some (length (side end (held_at t.holdings o))) else None) (at t.objects o)

-- the bytes of a file from an offset on, in the files' parts; none where no file is there
unfoldable pub bytes_in : Parts → ℕ → ℕ → List ℕ
bytes_in t o offset = if option_map_or is_file (at t.objects o) false then drop offset (held_at t.holdings o).first else []
