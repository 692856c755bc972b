-- What is said of where bytes came from: a line for each piece that an entry read, and one at the end.
use Rattle.std.specs.Prelude.{ℕ, suc, ◌+◌, ◌==◌, Bool, true, false, ◌&&◌, List, [], ◌∷◌, ◌++◌, length, Option, if◌then◌else◌, codes}
use Rattle.std.specs.Fmt.{decimal}
use Rattle.std.specs.List.{flat_map}
use Rattle.std.specs.Option.{option_map_or}
use Rattle.ix_label.specs.Spelling.{spelling}
use Rattle.ix_label.specs.declared.form.Form.TheVariants as form
use Rattle.ix_model.specs.rows.Walks.{behind}
use Rattle.ix_model.specs.history.Events.{Op, Event}
use Rattle.ix_model.specs.history.Events as op
use Rattle.ix_model.specs.history.History.{History, world_of, with_entry}
use Rattle.ix_flow.specs.Origins.{Origin, Written, InConfig, Gap, origins_of}
use Rattle.ix_flow.specs.Marks.{marks_read}
use Rattle.ix_flow.specs.Lowerings.{label_of, via}

-- ---- pieces
-- bytes in a row of what was read: the number of the first, how many there are, and where the first came from
pub record Piece : Type 0 where
  pub first : ℕ
  pub count : ℕ
  pub origin : Origin

-- whether an origin is that of the byte behind another's: of one write, of one file, or both of gaps
abbrev pub follows : Origin → Origin → Bool
follows (Written place b) (Written that c) = place == that && suc b == c
follows (InConfig o b) (InConfig that c) = o == that && suc b == c
follows Gap Gap = true
follows _ _ = false

-- one byte more at the front: in the first piece, where that follows, or in one of its own
abbrev pub in_front : ℕ → Origin → List Piece → List Piece
in_front n x [] = record { first = n; count = 1; origin = x } ∷ []
in_front n x (p ∷ pieces) = if follows x p.origin then record { first = n; count = suc p.count; origin = x } ∷ pieces else record { first = n; count = 1; origin = x } ∷ p ∷ pieces

-- the longest pieces of what has these origins; the first is that of this number
unfoldable pub pieces_from : ℕ → List Origin → List Piece
pieces_from n [] = []
pieces_from n (x ∷ origins) = in_front n x (pieces_from (suc n) origins)

-- the pieces of what the next entry of a history reads
abbrev pub pieces_read : History → Event → List Piece
pieces_read h e = pieces_from 0 (origins_of (marks_read h e))

-- ---- lines
-- a place, or none
abbrev pub place_text : Option ℕ → List ℕ
place_text place = option_map_or decimal place (codes "-")

-- the label that an origin in an object was written under, and what let the object down since
abbrev pub under : History → ℕ → Origin → List ℕ
under h o origin = spelling form.Two (label_of h origin) ++ codes " " ++ place_text (via h o origin)

-- an origin in an object: the write of a place, or the file of a number, with the number of the byte
abbrev pub origin_text : History → ℕ → Origin → List ℕ
origin_text h o (Written place b) = codes "write " ++ decimal place ++ codes " " ++ decimal b ++ codes " " ++ under h o (Written place b)
origin_text h o (InConfig that b) = codes "file " ++ decimal that ++ codes " " ++ decimal b ++ codes " " ++ under h o (InConfig that b)
origin_text h o Gap = codes "gap"

-- a piece of what the entry of a place read from an object
abbrev pub piece_line : History → ℕ → ℕ → Piece → List ℕ
piece_line h place o p = decimal place ++ codes " " ++ decimal p.first ++ codes " " ++ decimal p.count ++ codes " " ++ origin_text h o p.origin ++ codes "\n"

-- the object that a call reads from
abbrev pub object_read : History → ℕ → Op → ℕ
object_read h pid (op.ReadFd fd count) = option_map_or (λ b. b.entry.object) (behind (world_of h).frame pid fd) 0
object_read h pid _ = 0

-- the lines of the next entry of a history
unfoldable pub lines_of_entry : History → Event → List ℕ
lines_of_entry h e = flat_map (piece_line h (length h.events + 1) (object_read h e.pid e.op)) (pieces_read h e)

-- ---- the whole
-- how many entries gave bytes, and how many lines there are
pub record Counts : Type 0 where
  pub reads : ℕ
  pub lines : ℕ

-- with those of one entry more
abbrev pub with_pieces : List Piece → Counts → Counts
with_pieces [] n = n
with_pieces (p ∷ pieces) n = record { reads = n.reads + 1; lines = n.lines + length (p ∷ pieces) }

-- the last line
abbrev pub end_line : Counts → List ℕ
end_line n = codes "end " ++ decimal n.reads ++ codes " " ++ decimal n.lines ++ codes "\n"

-- all lines of entries that go on a history of which there are so many lines already, and the last one
unfoldable pub lines_from : History → Counts → List Event → List ℕ
lines_from h n [] = end_line n
lines_from h n (e ∷ events) = lines_of_entry h e ++ lines_from (with_entry h e) (with_pieces (pieces_read h e) n) events

-- of a whole history
abbrev pub flow_text : History → List ℕ
flow_text h = lines_from (record { config = h.config; events = [] }) (record { reads = 0; lines = 0 }) h.events
