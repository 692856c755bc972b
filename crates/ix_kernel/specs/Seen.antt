-- What the seat of a kernel has seen: a history of the kernel's config.
use Rattle.std.specs.Prelude.{ℕ, ◌+◌, List, [], ◌∷◌, ◌++◌}
use Rattle.ix_gate.specs.Seat.{SeatState, own_entries}
use Rattle.ix_model.specs.history.Events.{Event}
use Rattle.ix_model.specs.declared.config.Config.{Config}
use Rattle.ix_model.specs.declared.reply.Answer.{Answer}
use Rattle.ix_model.specs.declared.reply.Answer.TheVariants as answer

-- the number of the seat that made an entry
abbrev pub seat_of : Event → ℕ
seat_of e = e.seat

-- what contracts see of a seat: its number, its config, the history that it has seen, and so on
abbrev pub KSeatState : Type 0
KSeatState = SeatState Config Event

-- the entries that a seat has made
abbrev pub own : KSeatState → List Event
own k = own_entries seat_of k

-- a call that is given a reply is one entry more of the seat's own; any other makes none
abbrev pub own_after : Answer → Event → List Event → List Event
own_after (answer.Given r) e entries = entries ++ e ∷ []
own_after _ e entries = entries

-- one turn more, and what was seen then, with some looks more, of which the last found the turn's ticket
abbrev pub after_turn : KSeatState → List Event → ℕ → ℕ → KSeatState
after_turn k seen looks ticket = record k { seen = seen; turns = k.turns + 1; ticket = ticket; looks = looks; look_found = ticket }
