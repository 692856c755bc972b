-- The marks of a row.
use Rattle.std.specs.Prelude.{ℕ, List, [], replicate, None, slice_index_or}
use Rattle.ix_float.specs.Marks.{marked}
use Rattle.ix_float.specs.declared.mark.Way.{Way}
use Rattle.ix_float.specs.declared.mark.Way.TheVariants.{Reading, Writing}
use Rattle.ix_marks.specs.declared.row.Spot.{Spot}
use Rattle.ix_marks.specs.declared.row.Place.{Place}
use Rattle.ix_marks.specs.declared.row.Row.{Row}

-- where a mark was never set
abbrev pub nowhere : Spot
nowhere = record { entry = 0; object = 0 }

abbrev pub no_place : Place
no_place = record { mark = record { reading = None; writing = None }; reading = nowhere; writing = nowhere }

-- where it was last set for a way
abbrev pub spot_in : Way → Place → Spot
spot_in Reading p = p.reading
spot_in Writing p = p.writing

-- set for a way, at a spot, with two generations
abbrev pub set_place : Way → Spot → ℕ × ℕ → Place → Place
set_place Reading s generations p = record { mark = marked Reading generations p.mark; reading = s; writing = p.writing }
set_place Writing s generations p = record { mark = marked Writing generations p.mark; reading = p.reading; writing = s }

-- a row in which each mark is like one, and in which none was ever set
abbrev pub row_of : Place → Row
row_of p = record { generation = 0; places = replicate 32 p }

abbrev pub empty_row : Row
empty_row = row_of no_place

-- the mark of a descriptor of a row
abbrev pub place_in : Row → ℕ → Place
place_in r d = slice_index_or r.places d no_place

-- past all rows stands one without marks
abbrev pub no_row : Row
no_row = record { generation = 0; places = [] }

abbrev pub row_in : List Row → ℕ → Row
row_in rows i = slice_index_or rows i no_row
