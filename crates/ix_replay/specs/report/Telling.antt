-- How far the closing part of a report was told.
use Rattle.std.specs.Prelude.{◌≡◌, ℕ, ◌+◌, ◌-◌, ◌≤◌, ◌<◌, List, [], ◌++◌, length, drop, codes, ◌⊎◌}
use Rattle.std.specs.List.{flat_map}
use Rattle.ix_model.specs.world.World.{World}
use Rattle.ix_model.specs.history.History.{world_of}
use Rattle.ix_report.specs.Feeds.{EndsOnce}
use Rattle.ix_report.specs.LineText.{audit_line, tail_line}
use Rattle.ix_replay.specs.report.Report.{object_text, process_text, texts_from}
use Rattle.ix_replay.specs.declared.reporting.closing.Next.{Next}
use Rattle.ix_replay.specs.declared.reporting.closing.Next.TheVariants as next
use Rattle.ix_replay.specs.declared.reporting.closing.Closing.{Closing}

-- the world that a report closes with
abbrev pub last_world : Closing → World
last_world r = world_of r.history.now

-- ---- what is left to tell
-- the lines of the audit log from an index on, and the last line
abbrev pub log_left : Closing → ℕ → List ℕ
log_left r n = flat_map (audit_line r.form) (drop n (last_world r).frame.log) ++ tail_line (length r.history.now.events) (length (last_world r).frame.log)

-- the processes from a pid on
unfoldable pub processes_left : Closing → ℕ → List ℕ
processes_left r pid = texts_from (process_text r.form (last_world r).frame.processes) pid (length (last_world r).frame.processes - pid) ++ (codes "log\n" ++ log_left r 0)

-- the objects from a number on
unfoldable pub objects_left : Closing → ℕ → List ℕ
objects_left r n = texts_from (object_text r.form (last_world r).frame.objects) n (length (last_world r).frame.objects - n) ++ codes "processes\n" ++ processes_left r 0

-- the text that is left
abbrev pub text_left : Next → Closing → List ℕ
text_left next.Head r = codes "objects\n" ++ objects_left r 0
text_left (next.Object n) r = objects_left r n
text_left (next.Process pid) r = processes_left r pid
text_left (next.Log n) r = log_left r n
text_left next.End r = []

unfoldable pub left_of : Closing → List ℕ
left_of r = text_left r.next r

-- ---- how many pieces are left
abbrev pub pieces_left : Next → Closing → ℕ
pieces_left next.Head r = 4 + length (last_world r).frame.objects + length (last_world r).frame.processes + length (last_world r).frame.log
pieces_left (next.Object n) r = 3 + (length (last_world r).frame.objects - n) + length (last_world r).frame.processes + length (last_world r).frame.log
pieces_left (next.Process pid) r = 2 + (length (last_world r).frame.processes - pid) + length (last_world r).frame.log
pieces_left (next.Log n) r = 1 + (length (last_world r).frame.log - n)
pieces_left next.End r = 0

unfoldable pub pieces_of : Closing → ℕ
pieces_of r = pieces_left r.next r

-- a piece is one line, or nothing
abbrev pub IsPiece : List ℕ → Type 0
IsPiece piece = (piece ≡ []) ⊎ EndsOnce piece

-- what closes one history in one form, at two moments
pub record ClosesSame (old new : Closing) : Type 0 where
  pub form : new.form ≡ old.form
  pub history : new.history.now ≡ old.history.now

-- one piece more was told
pub record Tells (old new : Closing) (before after : List ℕ) : Type 0 where
  pub text : after ++ left_of new ≡ before ++ left_of old
  pub piece : (told : List ℕ) × (after ≡ before ++ told) × IsPiece told
  pub fewer : pieces_of new < pieces_of old
  pub same : ClosesSame old new

-- this line was told, or nothing yet
pub record HasTold (old new : Closing) (before after line : List ℕ) : Type 0 where
  pub told : after ≡ before ++ line
  pub rest : line ++ left_of new ≡ left_of old
  pub piece : IsPiece line
  pub fewer : pieces_of new ≤ pieces_of old
  pub some : EndsOnce line → pieces_of new < pieces_of old
  pub same : ClosesSame old new

-- the next line was told, or nothing where none is left
abbrev pub TellsLine : Closing → Closing → List ℕ → List ℕ → Type 0
TellsLine old new before after = (line : List ℕ) × HasTold old new before after line × (line ≡ [] → left_of old ≡ [])
