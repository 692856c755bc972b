-- What stops a call on a core.
use Rattle.std.specs.Prelude.{◌≡◌, ◌≤◌, ℕ}
use Rattle.ix_model.specs.history.Cost.{cost_of_history}
use Rattle.ix_model.specs.history.History.{History}
use Rattle.ix_model.specs.declared.reply.Answer.{Answer}
use Rattle.ix_model.specs.declared.reply.Answer.TheVariants as answer

-- what a full journal told fits a history to which it led: what was used is at most what that costs, and the journal's
-- room is its config's
abbrev pub FilledUp : ℕ → ℕ → History → Type 0
FilledUp used cap h = (used ≤ cost_of_history h.events) × (cap ≡ h.config.journal)

-- a full journal alone stops a call, and memory never runs out
abbrev pub StopsWhereFull : Answer → History → Type 0
StopsWhereFull (answer.Given r) h = Unit {0}
StopsWhereFull (answer.JournalFull used need cap) h = FilledUp used cap h
StopsWhereFull answer.NoMemory h = ⊥
