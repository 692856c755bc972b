-- What a call of a seat does in its turn.
use Rattle.std.specs.Prelude.{◌≡◌, ℕ, ◌+◌, ◌<◌, ◌≤◌, List, Some}
use mathlib.Core.List.{IsPrefix}
use Rattle.ix_gate.specs.History.{entries_of, KeepsEnded}
use Rattle.ix_gate.specs.Seat.{LearnsServed}
use Rattle.ix_core.specs.Stepping.{StepsTo, Shows, AnswersAlike}
use Rattle.ix_iso.specs.Noninterference.{Noninterferent}
use Rattle.ix_model.specs.opening.Opening.{opening_world}
use Rattle.ix_model.specs.history.Cost.{cost_of, cost_of_history}
use Rattle.ix_model.specs.history.Events.{Op, Event}
use Rattle.ix_model.specs.history.History.{History, next}
use Rattle.ix_model.specs.declared.config.Config.{Config}
use Rattle.ix_model.specs.declared.reply.Answer.{Answer}
use Rattle.ix_model.specs.declared.reply.Answer.TheVariants as answer
use Rattle.ix_kernel.specs.Seen.{KSeatState, seat_of, own}

-- A call in its turn. The turn found a history of the seat's config that begins with all that the seat had seen, and that has
-- just the seat's entries under its number; the last look found the turn's ticket. There the call was answered as a core answers it,
-- and the seat has seen what came of it.
pub record InTurn (a : Answer) (old new : KSeatState) (e : Event) (before after : List ℕ) : Type 0 where
  pub found : History
  pub base : old.base ≡ Some found.config
  pub begins : IsPrefix old.seen found.events
  pub own : entries_of seat_of old.number found.events ≡ own old
  pub ended : KeepsEnded seat_of old.ended found.events
  pub served : LearnsServed old found.events new.look_found
  pub step : StepsTo a found (record found { events = new.seen }) before after e
  -- where bytes were read, they are the first ones of the buffer
  pub shown : Shows a after (next found e).bytes
  -- a low caller is told what it is told in each run that agrees with this one there
  pub alike : AnswersAlike a found e before after

-- The journal had room for a call that is given a reply, and has none for one that is answered so: the three numbers are what the history
-- costs that the seat has then seen, what the call costs, and what its config allows.
abbrev pub HasRoom : Answer → KSeatState → Op → Type 0
HasRoom (answer.Given r) k o = (c : Config) → k.base ≡ Some c → cost_of_history k.seen ≤ c.journal
HasRoom (answer.JournalFull used need cap) k o =
    (used ≡ cost_of_history k.seen) × (need ≡ cost_of o) × ((c : Config) → k.base ≡ Some c → cap ≡ c.journal) × (cap < used + need)
HasRoom answer.NoMemory k o = ⊥

-- what the seat has seen hides what is high
abbrev pub SeenNoninterferent : KSeatState → Type 0
SeenNoninterferent k = (c : Config) → k.base ≡ Some c → Noninterferent (opening_world c) k.seen
