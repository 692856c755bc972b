-- One seat's system over a core: what it is of, and how it goes on.
use Rattle.std.specs.Prelude.{◌≡◌, ℕ, List}
use Rattle.std.specs.Borrow.{MutBor}
use Rattle.ix_model.specs.history.History.{History}
use Rattle.ix_model.specs.history.Made.{Made}
use Rattle.ix_model.specs.history.Seats.{made_by, GoesOn}
use Rattle.ix_model.specs.declared.reply.Answer.{Answer}
use Rattle.ix_model.specs.declared.reply.Answer.TheVariants as answer
use Rattle.ix_core.specs.declared.system.CoreSys.{CoreSys}

-- the core that it borrows
abbrev pub core_of : CoreSys → MutBor History
core_of s = s.core

-- its seat
abbrev pub seat_of : CoreSys → ℕ
seat_of s = s.seat

-- what the seat has made of the core's history
abbrev pub made_of : CoreSys → List Made
made_of s = made_by s.seat s.core.now

-- how many of its calls stopped
abbrev pub stops_of : CoreSys → ℕ
stops_of s = s.stops.count

-- the last stop: a full journal, and what it told
abbrev pub stopped_of : CoreSys → Answer
stopped_of s = answer.JournalFull s.stops.used s.stops.need s.stops.cap

-- the same core is borrowed for the same seat, and its history goes on by that seat alone
abbrev pub Onward : CoreSys → CoreSys → Type 0
Onward s t = (t.core.ghost_name ≡ s.core.ghost_name) × (t.seat ≡ s.seat) × GoesOn s.seat s.core.now t.core.now
