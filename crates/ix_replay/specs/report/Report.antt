-- The report of a history of a script: its entries, and the world to which they lead.
use Rattle.std.specs.Prelude.{ℕ, ◌+◌, List, [], ◌∷◌, ◌++◌, length, Option, codes, slice_index_or}
use Rattle.std.specs.Option.{option_map_or}
use Rattle.std.proofs.Common.{option_map}
use Rattle.std.specs.List.{range_with_len, flat_map}
use Rattle.ix_model.specs.world.World.{World, Object, Process, at}
use Rattle.ix_model.specs.opening.Opening.{opening_world}
use Rattle.ix_model.specs.history.Step.{step_of, run}
use Rattle.ix_model.specs.history.Events.{Event}
use Rattle.ix_model.specs.history.Views.{view_of, shown_of}
use Rattle.ix_label.specs.declared.form.Form.{Form}
use Rattle.ix_script.specs.lines.Before.{form_told, lanes_of}
use Rattle.ix_script.specs.scripts.Scripts.{config_of}
use Rattle.ix_script.specs.declared.line.Line.{Line}
use Rattle.ix_report.specs.LineText.{head_line, entry_line, object_line, process_line, audit_line, tail_line}

-- the name of a seat's lane
abbrev pub lane_name : List (List ℕ) → ℕ → List ℕ
lane_name lanes seat = slice_index_or lanes seat []

-- an entry that is made in a world: its lane, the call, what it gives, and the label of its caller after it
abbrev pub entry_text : Form → List (List ℕ) → ℕ → World → Event → List ℕ
entry_text form lanes place w e =
    let given = step_of w place e in
    entry_line form place (lane_name lanes e.seat) e given.reply given.bytes (option_map (λ (p : Process). p.label) (at given.world.frame.processes e.pid))

-- the lines of entries, each by itself
abbrev pub entry_lines : Form → List (List ℕ) → ℕ → World → List Event → List (List ℕ)
entry_lines form lanes place w [] = []
entry_lines form lanes place w (e ∷ events) = entry_text form lanes place w e ∷ entry_lines form lanes (place + 1) (step_of w place e).world events

-- entries, one after the other
abbrev pub entries_text : Form → List (List ℕ) → ℕ → World → List Event → List ℕ
entries_text form lanes place w events = flat_map (λ line. line) (entry_lines form lanes place w events)

-- the object of a number, where there is one
abbrev pub object_text : Form → List (Option Object) → ℕ → List ℕ
object_text form objects n = option_map_or (λ o. object_line form n (view_of o)) (at objects n) []

-- the process of a pid, where there is one
abbrev pub process_text : Form → List (Option Process) → ℕ → List ℕ
process_text form processes pid = option_map_or (λ p. process_line form pid (shown_of p)) (at processes pid) []

-- the texts of so many numbers from a first one on
abbrev pub texts_from : (ℕ → List ℕ) → ℕ → ℕ → List ℕ
texts_from text first count = flat_map text (range_with_len first count)

-- all objects by their numbers
unfoldable pub objects_text : Form → World → List ℕ
objects_text form w = texts_from (object_text form w.frame.objects) 0 (length w.frame.objects)

-- all processes by their pids
unfoldable pub processes_text : Form → World → List ℕ
processes_text form w = texts_from (process_text form w.frame.processes) 0 (length w.frame.processes)

-- what a report says of a world after so many entries: all labels, and the audit log
unfoldable pub closing_text : Form → World → ℕ → List ℕ
closing_text form w count =
    codes "objects\n" ++ objects_text form w ++ codes "processes\n" ++ processes_text form w
    ++ codes "log\n" ++ flat_map (audit_line form) w.frame.log ++ tail_line count (length w.frame.log)

-- the report of a history of a script, in the script's form: each entry, then the world to which they lead
unfoldable pub report_of : List Line → List Event → List ℕ
report_of s events =
    let form = form_told s in
    let first = opening_world (config_of s) in
    head_line form ++ entries_text form (lanes_of s) 1 first events ++ closing_text form (run first 1 events) (length events)
