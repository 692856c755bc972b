-- The line of an entry that was just made.
use Rattle.std.specs.Prelude.{◌≡◌, ℕ, ◌+◌, List, length}
use Rattle.ix_model.specs.history.Events.{Event}
use Rattle.ix_model.specs.history.History.{History, with_entry, world_of}
use Rattle.ix_script.specs.lines.Before.{form_told, lanes_of}
use Rattle.ix_script.specs.declared.line.Line.{Line}
use Rattle.ix_replay.specs.report.Report.{entry_text}

-- These bytes are the line of the last entry of a history of a script, where so many stand before it.
abbrev pub IsLastLine : List Line → ℕ → History → List ℕ → Type 0
IsLastLine s count h line =
    (old : History) (e : Event) → h ≡ with_entry old e → length old.events ≡ count
    → line ≡ entry_text (form_told s) (lanes_of s) (length old.events + 1) (world_of old) e
