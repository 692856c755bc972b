-- A journal: the entries of a history, and what they may cost.
use Rattle.std.specs.Prelude.{ℕ, ◌+◌, ◌*◌, ◌/◌, ◌≤◌, ◌≡◌, List, [], ◌∷◌, ◌++◌, length, map}
use Rattle.std.specs.List.{All, slice_range}
use Rattle.ix_label.specs.Category.{Categories}
use Rattle.ix_model.specs.history.Events.{Event}
use Rattle.ix_model.specs.history.Cost.{cost_of, cost_of_history}
use Rattle.ix_journal.specs.Heads.{head_of, labels_for, op_in, IsPacked}
use Rattle.ix_model.specs.declared.call.Call.{Call}
use Rattle.ix_journal.specs.Recorded.{Recorded}

-- the entries, in order, and what they may cost together
pub record Entries : Type 0 where
  pub cap : ℕ
  pub events : List Event

-- one entry more costs no more than it may
abbrev pub Fits : Entries → Event → Type 0
Fits j e = cost_of_history j.events + cost_of e.op ≤ j.cap

-- the journal with one entry more
abbrev pub with_event : Event → Entries → Entries
with_event e j = record j { events = j.events ++ e ∷ [] }

-- ---- how they lie in memory
-- the words of an entry among all words, and the entry
abbrev pub words_in : List ℕ → Recorded → List ℕ
words_in words r = slice_range words r.start (r.start + r.len)

abbrev pub event_in : List Categories → List ℕ → Recorded → Event
event_in labels words r = record { seat = r.seat; line = r.line; pid = r.pid; op = op_in labels r.head (words_in words r) }

-- the record of an entry of a call whose words begin there, and take so many bytes, and whose label comes at that place
abbrev pub record_of : Event → Call → ℕ → ℕ → ℕ → Recorded
record_of e c at start len = record { seat = e.seat; line = e.line; pid = e.pid; start = start; len = len; head = head_of at c }

-- all of an entry is there
pub record IsWhole (labels : List Categories) (words : List ℕ) (r : Recorded) : Type 0 where
  pub within : r.start + r.len ≤ length words
  pub packed : IsPacked r.head (words_in words r)
  pub labelled : labels_for r.head ≤ length labels

-- Records, words and labels, what the entries cost together, and the room for each that was reserved. An entry costs 128, and its words no less than they
-- are long; it has one label at most.
pub record AreEntries (cap used records_room words_room labels_room : ℕ) (records : List Recorded) (words : List ℕ) (labels : List Categories) : Type 0 where
  pub small : cap ≤ 870400000
  pub cost : cost_of_history (map (event_in labels words) records) ≡ used
  pub within : used ≤ cap
  pub held : 128 * length records + length words ≤ used
  pub whole : All (IsWhole labels words) records
  pub records_fit : cap / 128 ≤ records_room
  pub words_fit : cap ≤ words_room
  pub labels_held : length labels ≤ length records
  pub labels_fit : cap / 128 ≤ labels_room
