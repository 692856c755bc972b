-- The summary of a history of a script: a line that says how many entries it has, and what they come to.
use Rattle.std.specs.Prelude.{ℕ, Bool, not, List, length}
use Rattle.std.specs.List.{count_by, sum_by}
use Rattle.ix_model.specs.opening.Opening.{opening_world}
use Rattle.ix_model.specs.history.AuditLog.{is_answer}
use Rattle.ix_model.specs.history.Events.{Op, Event}
use Rattle.ix_model.specs.history.Events as op
use Rattle.ix_model.specs.history.Made.{Made}
use Rattle.ix_model.specs.history.Seats.{replied}
use Rattle.ix_model.specs.history.Step.{run}
use Rattle.ix_model.specs.declared.reply.Reply.{Reply}
use Rattle.ix_model.specs.declared.reply.Reply.TheVariants as reply
use Rattle.ix_script.specs.scripts.Scripts.{config_of}
use Rattle.ix_script.specs.declared.line.Line.{Line}
use Rattle.ix_asking.specs.Runs.{count_in}
use Rattle.ix_report.specs.LineText.{totals_line}
use Rattle.ix_report.specs.declared.totals.Totals.{Totals}

-- ---- one entry
-- whether a reply is a refusal
abbrev pub is_refused : Reply → Bool
is_refused r = not (is_answer r)

-- the bytes that a call wrote: the number that a write is answered
abbrev pub bytes_written : Op → Reply → ℕ
bytes_written (op.WriteFd fd bytes) (reply.Number n) = n
bytes_written _ _ = 0

-- ---- many entries
-- how many of them were refused
unfoldable pub refused_in : List Made → ℕ
refused_in made = count_by (λ m. is_refused m.reply) made

-- the bytes that they read
unfoldable pub read_in : List Made → ℕ
read_in made = sum_by (λ m. count_in m.reply) made

-- the bytes that they wrote
unfoldable pub written_in : List Made → ℕ
written_in made = sum_by (λ m. bytes_written m.event.op m.reply) made

-- ---- a history
-- what a history of a script comes to, each entry made in the world to which those before it lead
abbrev pub totals_of : List Line → List Event → Totals
totals_of s events =
    let first = opening_world (config_of s) in
    let made = replied first 1 events in
    record { entries = length events; refused = refused_in made; read = read_in made; written = written_in made; lines = length (run first 1 events).frame.log }

-- the summary of a history of a script that was made of so many commands
unfoldable pub summary_line : ℕ → List Line → List Event → List ℕ
summary_line count s events = totals_line count (totals_of s events)
