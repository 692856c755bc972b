-- How far the entries of a history were added up.
use Rattle.std.specs.Prelude.{◌≡◌, ◌+◌, ◌<◌, ◌^◌, List, if◌then◌else◌}
use Rattle.ix_model.specs.history.Events.{Op}
use Rattle.ix_model.specs.history.History.{History}
use Rattle.ix_model.specs.history.Made.{Made}
use Rattle.ix_model.specs.history.Seats.{replied}
use Rattle.ix_model.specs.opening.Opening.{opening_world}
use Rattle.ix_model.specs.declared.reply.Reply.{Reply}
use Rattle.ix_asking.specs.Runs.{count_in}
use Rattle.ix_replay.specs.Summary.{is_refused, bytes_written, refused_in, read_in, written_in}
use Rattle.ix_replay.specs.declared.tally.Tally.{Tally}

-- a tally with one entry more, by its call and the reply to it
abbrev pub with_reply : Tally → Op → Reply → Tally
with_reply t o r = record { refused = t.refused + (if is_refused r then 1 else 0); read = t.read + count_in r; written = t.written + bytes_written o r }

-- numbers that a tally has room for
pub record IsSmall (t : Tally) : Type 0 where
  pub refused : t.refused < 2 ^ 32
  pub read : t.read < 2 ^ 64
  pub written : t.written < 2 ^ 64

-- what entries come to
abbrev pub tally_of : List Made → Tally
tally_of made = record { refused = refused_in made; read = read_in made; written = written_in made }

-- a tally has seen the entries of a history, each with the reply that the history's run gives
abbrev pub HasSeen : History → Tally → Type 0
HasSeen h t = t ≡ tally_of (replied (opening_world h.config) 1 h.events)
