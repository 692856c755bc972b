-- The marked run of a history: what objects hold, each byte with its origin.
use Rattle.std.specs.Prelude.{ℕ, suc, List, [], ◌∷◌, take, Option, Some}
use Rattle.ix_model.specs.world.World.{World, HoldingOf, Holding}
use Rattle.ix_model.specs.world.Contents.{offset_of, readable_in}
use Rattle.ix_model.specs.rows.Walks.{OpenFile, behind}
use Rattle.ix_model.specs.opening.Opening.{opening_world}
use Rattle.ix_model.specs.history.Step.{Given, step_of}
use Rattle.ix_model.specs.history.Events.{Op, Event}
use Rattle.ix_model.specs.history.Events as op
use Rattle.ix_model.specs.history.History.{History, world_of, next}
use Rattle.ix_model.specs.declared.config.Config.{Config}
use Rattle.ix_model.specs.declared.reply.Reply.{Reply}
use Rattle.ix_model.specs.declared.reply.Reply.TheVariants as reply
use Rattle.ix_flow.specs.Origins.{Written, InConfig, Marked, gap_mark, marked_from}
use Rattle.ix_flow.specs.Moves.{moved, bytes_written}

-- what an object holds at first: each byte came from the config's file of its number
abbrev pub marked_in : ℕ → Holding → HoldingOf Marked
marked_in o h = record { first = marked_from (InConfig o) 0 h.first; second = marked_from (InConfig o) 0 h.second }

-- what objects from number o on hold at first
unfoldable pub marked_all : ℕ → List Holding → List (HoldingOf Marked)
marked_all o [] = []
marked_all o (h ∷ hs) = marked_in o h ∷ marked_all (suc o) hs

-- what all objects of a config hold
unfoldable pub opening_marks : Config → List (HoldingOf Marked)
opening_marks c = marked_all 0 (opening_world c).content.holdings

-- an entry moves them as it moves bytes, and marks those that it writes with its place
abbrev pub marks_after : World → ℕ → Event → List (HoldingOf Marked) → List (HoldingOf Marked)
marks_after w place e ms = moved gap_mark (marked_from (Written place) 0 (bytes_written e.op)) w e.pid e.op (step_of w place e) ms

-- all entries, the first of which is at this place
unfoldable pub marks_from : World → ℕ → List Event → List (HoldingOf Marked) → List (HoldingOf Marked)
marks_from w place [] ms = ms
marks_from w place (e ∷ events) ms = marks_from (step_of w place e).world (suc place) events (marks_after w place e ms)

-- what objects hold after a history
unfoldable pub marks_of : History → List (HoldingOf Marked)
marks_of h = marks_from (opening_world h.config) 1 h.events (opening_marks h.config)

-- ---- what is read
-- a read that gave bytes gave those at the front of what there is to read
abbrev pub read_through : World → List (HoldingOf Marked) → Option OpenFile → Reply → List Marked
read_through w ms (Some e) (reply.Bytes k) = take k (readable_in w.frame (offset_of w.content e.id) e ms)
read_through w ms _ r = []

-- what a call read, where it is a read
unfoldable pub read_by : World → List (HoldingOf Marked) → ℕ → Op → Given → List Marked
read_by w ms pid (op.ReadFd fd count) given = read_through w ms (behind w.frame pid fd) given.reply
read_by w ms pid _ given = []

-- what the next entry of a history reads
abbrev pub marks_read : History → Event → List Marked
marks_read h e = read_by (world_of h) (marks_of h) e.pid e.op (next h e)
