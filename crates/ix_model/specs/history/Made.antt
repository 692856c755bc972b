-- The entries that a system has made.
use Rattle.std.specs.Prelude.{ℕ, List}
use Rattle.ix_model.specs.history.Events.{Op, Event}
use Rattle.ix_model.specs.declared.ids.Pid.{Pid}
use Rattle.ix_model.specs.declared.reply.Reply.{Reply}

-- an entry, the reply to it, and the bytes that it was given
pub record Made : Type 0 where
  pub event : Event
  pub reply : Reply
  pub bytes : List ℕ

-- the entry of a seat's call: the line that it comes from, who calls, and the call
abbrev pub entry : ℕ → ℕ → Pid → Op → Event
entry seat line pid o = record { seat = seat; line = line; pid = pid.0; op = o }
