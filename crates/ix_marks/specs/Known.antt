-- Which descriptors are fresh, and what the code keeps to know it.
use Rattle.std.specs.Prelude.{ℕ, ◌≡◌, ◌+◌, ◌^◌, ◌≤◌, ◌==◌, ◌&&◌, Bool, true, false, List, [], length, map, Option, Some, None, is_some, if◌then◌else◌, slice_index_or}
use Rattle.ix_float.specs.Marks.{last_set}
use Rattle.ix_float.specs.declared.mark.Way.{Way}
use Rattle.ix_float.specs.declared.mark.Way.TheVariants.{Reading, Writing}
use Rattle.ix_marks.specs.declared.row.Spot.{Spot}
use Rattle.ix_marks.specs.declared.row.Place.{Place}
use Rattle.ix_marks.specs.declared.row.Row.{Row}
use Rattle.ix_marks.specs.RowIndex.{RowOwners, row_of}
use Rattle.ix_marks.specs.Places.{spot_in, place_in, row_in}

-- for each way the spot at which a descriptor was set and is fresh, if it is
pub record Spots : Type 0 where
  pub reading : Option Spot
  pub writing : Option Spot

-- how many rows, objects and open entries there are
pub record Sizes : Type 0 where
  pub rows : ℕ
  pub objects : ℕ
  pub opens : ℕ

-- whose the rows are, the descriptors of each, and how often a label was said to have changed
pub record Known : Type 0 where
  pub owners : RowOwners
  pub rows : List (List Spots)
  pub sizes : Sizes
  pub raised : ℕ

abbrev pub for_way : Way → Spots → Option Spot
for_way Reading s = s.reading
for_way Writing s = s.writing

-- no spot
abbrev pub stale : Spots
stale = record { reading = None; writing = None }

-- the spot of a descriptor of a row
abbrev pub spot_at : List (List Spots) → Option ℕ → ℕ → Way → Option Spot
spot_at rows None d w = None
spot_at rows (Some i) d w = for_way w (slice_index_or (slice_index_or rows i []) d stale)

-- the spot at which a descriptor of a process is fresh for a way, if it is
abbrev pub spot_of : Known → ℕ → ℕ → Way → Option Spot
spot_of k pid fd way = spot_at k.rows (row_of pid k.owners.pids) fd way

abbrev pub has_row : Known → ℕ → Bool
has_row k pid = is_some (row_of pid k.owners.pids)

abbrev pub same_way : Way → Way → Bool
same_way Reading Reading = true
same_way Writing Writing = true
same_way Reading Writing = false
same_way Writing Reading = false

-- whether a process, a descriptor and a way are these
abbrev pub is_it : ℕ → ℕ → Way → ℕ → ℕ → Way → Bool
is_it pid fd way q d w = q == pid && (d == fd && same_way way w)

-- a spot that doesn't pass
abbrev pub unless : (Spot → Bool) → Option Spot → Option Spot
unless test None = None
unless test (Some s) = if test s then None else Some s

abbrev pub on_object : ℕ → Spot → Bool
on_object o s = s.object == o

abbrev pub on_entry : ℕ → Spot → Bool
on_entry e s = s.entry == e

-- ---- what the code keeps
abbrev pub generation_at : List ℕ → ℕ → ℕ
generation_at generations i = slice_index_or generations i 0

-- the generations of the object and of the open entry
abbrev pub sum_at : List ℕ → List ℕ → Spot → ℕ
sum_at objects opens s = generation_at objects s.object + generation_at opens s.entry

-- a spot, where its mark was set with the generations of now
abbrev pub still : ℕ × ℕ → Option (ℕ × ℕ) → Spot → Option Spot
still now None s = None
still now (Some g) s = if g.0 == now.0 && g.1 == now.1 then Some s else None

-- the spot of a place for a way, if it is fresh
abbrev pub fresh_in : List ℕ → List ℕ → ℕ → Way → Place → Option Spot
fresh_in objects opens generation w p = still (generation, sum_at objects opens (spot_in w p)) (last_set w p.mark) (spot_in w p)

abbrev pub shown_place : List ℕ → List ℕ → ℕ → Place → Spots
shown_place objects opens generation p = record { reading = fresh_in objects opens generation Reading p; writing = fresh_in objects opens generation Writing p }

abbrev pub shown_row : List ℕ → List ℕ → Row → List Spots
shown_row objects opens r = map (shown_place objects opens r.generation) r.places

abbrev pub known : RowOwners → List Row → List ℕ → List ℕ → ℕ → Known
known owners rows objects opens raised = record {
  owners = owners;
  rows = map (shown_row objects opens) rows;
  sizes =
      record { rows = length owners.pids; objects = length objects; opens = length opens };
  raised = raised;
}

-- a mark was set with generations that are no greater than those of now
abbrev pub IsPast : List ℕ → List ℕ → ℕ → Way → Place → Type 0
IsPast objects opens generation w p = (g : ℕ × ℕ) → last_set w p.mark ≡ Some g → (g.0 ≤ generation) × (g.1 ≤ sum_at objects opens (spot_in w p))

-- no generation is above the number of raises, which is bounded
pub record AreKept (owners : RowOwners) (rows : List Row) (objects opens : List ℕ) (raised : ℕ) : Type 0 where
  pub enough : length rows ≡ length owners.pids
  pub past : (i d : ℕ) (w : Way) → IsPast objects opens (row_in rows i).generation w (place_in (row_in rows i) d)
  pub rows_low : (i : ℕ) → (row_in rows i).generation ≤ raised
  pub objects_low : (o : ℕ) → generation_at objects o ≤ raised
  pub opens_low : (e : ℕ) → generation_at opens e ≤ raised
  pub few : raised ≤ 2 ^ 62
