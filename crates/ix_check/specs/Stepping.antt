-- A lane of a script that makes one call at a time.
use Rattle.std.specs.Prelude.{◌≡◌, ℕ, ◌+◌, ◌≤◌, nat_le, Bool, true, List, [], ◌∷◌, ◌++◌, length, Option, Some, None, IfSome}
use Rattle.std.proofs.Common.{option_map}
use Rattle.ix_model.specs.history.Cost.{cost_of, cost_of_history}
use Rattle.ix_model.specs.history.Events.{Event}
use Rattle.ix_model.specs.history.History.{History, next, with_entry, world_of}
use Rattle.ix_model.specs.history.Made.{Made}
use Rattle.ix_model.specs.history.Systems.{FullFor}
use Rattle.ix_model.specs.declared.reply.Answer.{Answer}
use Rattle.ix_script.specs.lines.Before.{form_told, lanes_of}
use Rattle.ix_script.specs.declared.line.Line.{Line}
use Rattle.ix_asking.specs.Asking.{Answered, Asking, Came, Due, Next, first, heard}
use Rattle.ix_asking.specs.Runs.{answer_of, entry_of}
use Rattle.ix_lanes.specs.asking.Asked.{Names}
use Rattle.ix_lanes.specs.histories.History.{phase_of}
use Rattle.ix_lanes.specs.histories.Lanes.{lane_asks}
use Rattle.ix_lanes.specs.histories.Serial.{answered}
use Rattle.ix_lanes.specs.running.Left.{LaneLeft, asks_left}
use Rattle.ix_replay.specs.report.Report.{entry_text}

-- a lane's script and seat, and what it has still to ask for
pub record LaneAt : Type 0 where
  pub script : List Line
  pub seat : ℕ
  pub asking : Asking Names

-- the entry of a seat's call that stands next, if any
abbrev pub entry_due : ℕ → Next Names → Option Event
entry_due seat (Came names) = None
entry_due seat (Due a) = Some (entry_of seat a)

-- its next call, where it makes one more
abbrev pub next_call : LaneAt → Option Event
next_call l = entry_due l.seat (first l.asking)

-- the phase of that call
abbrev pub next_phase : LaneAt → Option ℕ
next_phase l = option_map (λ e. phase_of l.script e.line) (next_call l)

-- the lane once that call was answered so
abbrev pub answered_so : LaneAt → Answered → LaneAt
answered_so l a = record l { asking = heard l.asking a }

-- what a lane of the script's library is
abbrev pub lane_now : LaneLeft → LaneAt
lane_now l = record { script = l.script; seat = l.seat; asking = asks_left l }

-- the lane of a seat before its first call
abbrev pub first_at : List Line → ℕ → LaneAt
first_at s seat = record { script = s; seat = seat; asking = lane_asks s seat }

-- A system made the next call of a lane, and the lane heard the answer.
pub record MakesCall (old new : LaneAt) (before after : List Made) : Type 0 where
  pub entry : Made
  pub call : next_call old ≡ Some entry.event
  pub made : after ≡ before ++ entry ∷ []
  pub heard : new ≡ answered_so old (answer_of entry)

-- The next call of a lane was stopped so, and all else stays.
pub record StopsCall (old new : LaneAt) (before after : List Made) (stop : Answer) : Type 0 where
  pub lane : new ≡ old
  pub made : after ≡ before
  pub full : IfSome (next_call old) (λ e. FullFor e.op stop)

-- a journal has room for the next call of a lane
abbrev pub HasRoom : LaneAt → History → Type 0
HasRoom l h = IfSome (next_call l) (λ e. cost_of_history h.events + cost_of e.op ≤ h.config.journal)

-- a phase, if any, is no earlier than that one
abbrev pub is_from : ℕ → Option ℕ → Bool
is_from phase None = true
is_from phase (Some other) = nat_le phase other

-- The next call of a lane was made and printed: it is the core's next entry, the lane heard what that was answered, and these bytes are its line.
abbrev pub PrintsCall : List Line → LaneAt → LaneAt → History → History → List ℕ → Type 0
PrintsCall s old new before after line =
    (e : Event) → next_call old ≡ Some e
    → (after ≡ with_entry before e) × (new ≡ answered_so old (answered (next before e)))
    × (line ≡ entry_text (form_told s) (lanes_of s) (length before.events + 1) (world_of before) e)
