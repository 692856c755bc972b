-- What a system made of what was asked for.
use Rattle.std.specs.Prelude.{◌≡◌, ℕ, List, [], ◌∷◌, ◌++◌, length, map, Option, Some, None, Result, Ok, Err}
use Rattle.ix_model.specs.history.Events.{Event}
use Rattle.ix_model.specs.history.Made.{Made}
use Rattle.ix_model.specs.history.Systems.{FullFor, one_more}
use Rattle.ix_model.specs.declared.reply.Reply.{Reply}
use Rattle.ix_model.specs.declared.reply.Reply.TheVariants as reply
use Rattle.ix_model.specs.declared.reply.Answer.{Answer}
use Rattle.ix_model.specs.declared.reply.Answer.TheVariants as answer
use Rattle.ix_asking.specs.declared.stop.Stop.{Stop}
use Rattle.ix_asking.specs.declared.stop.Stop.TheVariants as stop
use Rattle.ix_asking.specs.Asking.{Asked, Answered, Asking, Done, Ask, Next, Came, Due}

-- ---- entries
-- the entry of a seat's call that is asked for
abbrev pub entry_of : ℕ → Asked → Event
entry_of seat a = record { seat = seat; line = a.line; pid = a.pid; op = a.op }

abbrev pub answer_of : Made → Answered
answer_of m = record { reply = m.reply; bytes = m.bytes }

abbrev pub answers_of : List Made → List Answered
answers_of made = map answer_of made

-- Each entry is the call that is asked for next where those before it are answered as they were.
abbrev pub AsAsked : {R : Type 0} → ℕ → Asking R → List Made → Type 0
AsAsked seat p [] = Unit {0}
AsAsked seat (Done r) (m ∷ made) = ⊥
AsAsked seat (Ask a more) (m ∷ made) = (m.event ≡ entry_of seat a) × AsAsked seat (more (answer_of m)) made

-- how many bytes a reply says were read
abbrev pub count_in : Reply → ℕ
count_in (reply.Bytes k) = k
count_in _ = 0

-- ---- stops
-- the answer that a stop is
abbrev pub answer_at : Stop → Answer
answer_at (stop.Full used need cap) = answer.JournalFull used need cap
answer_at stop.NoMemory = answer.NoMemory

-- A call stands next, and this stop is the answer to it.
abbrev pub StopsAt : {R : Type 0} → Next R → Stop → Type 0
StopsAt (Came r) stop = ⊥
StopsAt (Due a) stop = FullFor a.op (answer_at stop)

-- ---- systems
module _ {S : Type 0} (seat_of : S → ℕ) (made_of : S → List Made) (follows_of : S → S → Type 0) where
  -- A system made these entries more, each as it was asked for.
  pub record Makes {R : Type 0} (p : Asking R) (old new : S) (more : List Made) : Type 0 where
    pub seat : seat_of new ≡ seat_of old
    pub made : made_of new ≡ made_of old ++ more
    pub asked : AsAsked (seat_of old) p more
    pub follows : follows_of old new

module _ {S : Type 0} (stops_of : S → ℕ) (stopped_of : S → Answer) where
  -- How one turn went: nothing more is asked for, and this came of it; or the next call was made; or it stopped so.
  abbrev pub Turn : {R : Type 0} → Next R → S → S → List Made → Result (Option R) Stop → Type 0
  Turn n old new more (Ok (Some r)) = (n ≡ Came r) × (more ≡ []) × (stops_of new ≡ stops_of old)
  Turn n old new more (Ok None) = (length more ≡ 1) × (stops_of new ≡ stops_of old)
  Turn n old new more (Err stop) = StopsAt n stop × (more ≡ []) × (stops_of new ≡ one_more (stops_of old)) × (stopped_of new ≡ answer_at stop)

  -- How it ended: nothing more is asked for, this came of it, and no call stopped; or the next call stopped so.
  abbrev pub Ends : {R : Type 0} → Next R → S → S → Result R Stop → Type 0
  Ends n old new (Ok r) = (n ≡ Came r) × (stops_of new ≡ stops_of old)
  Ends n old new (Err stop) = StopsAt n stop × (stops_of new ≡ one_more (stops_of old)) × (stopped_of new ≡ answer_at stop)
