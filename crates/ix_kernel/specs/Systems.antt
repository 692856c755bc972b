-- What a seat is as what makes calls: what it has made, how it goes on, and what its last stop told.
use Rattle.std.specs.Prelude.{◌≡◌, ◌≤◌, ◌<◌, ℕ, List, [], ◌++◌, Some, refl}
use Rattle.std.specs.Option.{option_map_or}
use Rattle.std.proofs.Common.{◌∙◌, sym, ap, append_assoc, append-nil}
use mathlib.Core.List.{IsPrefix}
use Rattle.ix_gate.specs.Gate.{GateState}
use Rattle.ix_model.specs.history.Cost.{cost_of_history}
use Rattle.ix_model.specs.history.Made.{Made}
use Rattle.ix_model.specs.history.Seats.{made_by}
use Rattle.ix_model.specs.declared.config.Config.{Config}
use Rattle.ix_model.specs.declared.reply.Answer.{Answer}
use Rattle.ix_model.specs.declared.reply.Answer.TheVariants as answer
use Rattle.ix_kernel.specs.Seen.{KSeatState}

-- what contracts see of a seat's system: its kernel and its seat; how many of its calls stopped, and what the last stop told
pub record SystemState : Type 0 where
  pub kernel : GateState
  pub seat : KSeatState
  pub stops : ℕ
  pub used : ℕ
  pub need : ℕ
  pub cap : ℕ

-- the entries that a seat has made, each with the reply and the bytes that the run of what it has seen gives
abbrev pub made_at : KSeatState → List Made
made_at k = option_map_or (λ c. made_by k.number (record { config = c; events = k.seen })) k.base []

-- a seat goes on: its kernel, config, number and ended seats stay, and what it had seen begins what it has seen then
pub record SeatGoesOn (old new : KSeatState) : Type 0 where
  pub gate : new.gate ≡ old.gate
  pub base : new.base ≡ old.base
  pub number : new.number ≡ old.number
  pub ended : new.ended ≡ old.ended
  pub seen : IsPrefix old.seen new.seen

seat_goes_on_not : (k : KSeatState) → SeatGoesOn k k
seat_goes_on_not k = record { gate = refl; base = refl; number = refl; ended = refl; seen = ([], append-nil k.seen) }

pub seat_goes_on_further : (k l m : KSeatState) → SeatGoesOn k l → SeatGoesOn l m → SeatGoesOn k m
seat_goes_on_further k l m p q = record {
  gate = q.gate ∙ p.gate;
  base = q.base ∙ p.base;
  number = q.number ∙ p.number;
  ended = q.ended ∙ p.ended;
  seen = (p.seen.0 ++ q.seen.0, sym (append_assoc k.seen p.seen.0 q.seen.0) ∙ ap (λ es. es ++ q.seen.0) p.seen.1 ∙ q.seen.1);
}

-- a system as what makes calls: its seat, what that has made, and the last stop, which is a full journal and what it told
abbrev pub seat_of : SystemState → ℕ
seat_of s = s.seat.number

abbrev pub made_of : SystemState → List Made
made_of s = made_at s.seat

abbrev pub stopped_of : SystemState → Answer
stopped_of s = answer.JournalFull s.used s.need s.cap

-- and how it goes on
abbrev pub GoesOn : SystemState → SystemState → Type 0
GoesOn s t = (t.kernel ≡ s.kernel) × SeatGoesOn s.seat t.seat

pub goes_on_not : (s : SystemState) → GoesOn s s
goes_on_not s = (refl, seat_goes_on_not s.seat)

pub goes_on_further : (s t u : SystemState) → GoesOn s t → GoesOn t u → GoesOn s u
goes_on_further s t u p q = (q.0 ∙ p.0, seat_goes_on_further s.seat t.seat u.seat p.1 q.1)

-- What a full journal told fits what a seat has seen since: what was used is at most what that costs, and the journal's room
-- is its config's.
abbrev pub FilledUp : ℕ → ℕ → KSeatState → Type 0
FilledUp used cap k = (used ≤ cost_of_history k.seen) × ((c : Config) → k.base ≡ Some c → cap ≡ c.journal)

-- the seat is one of the kernel, and what the last stop told fits
pub record Sits (s : SystemState) : Type 0 where
  pub here : s.seat.gate ≡ s.kernel.id
  pub last : 0 < s.stops → FilledUp s.used s.cap s.seat
