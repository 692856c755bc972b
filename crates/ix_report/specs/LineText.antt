-- The lines of a report, each with its line feed.
use Rattle.std.specs.Prelude.{ℕ, List, ◌++◌, codes, Option}
use Rattle.std.specs.Option.{option_map_or}
use Rattle.std.specs.Fmt.{decimal}
use Rattle.ix_label.specs.Category.{Categories}
use Rattle.ix_model.specs.history.Events.{Event}
use Rattle.ix_model.specs.declared.reply.Reply.{Reply}
use Rattle.ix_model.specs.declared.audit.AuditLine.{AuditLine}
use Rattle.ix_model.specs.declared.views.ObjView.{ObjView}
use Rattle.ix_model.specs.declared.views.ProcView.{ProcView}
use Rattle.ix_label.specs.declared.form.Form.{Form}
use Rattle.ix_label.specs.declared.form.Form.TheVariants.{One, Two}
use Rattle.ix_label.specs.Spelling.{spelling}
use Rattle.ix_text.specs.Spellings.{state_text}
use Rattle.ix_report.specs.declared.totals.Totals.{Totals}
use Rattle.ix_report.specs.Words.{kind_text, life_text}
use Rattle.ix_report.specs.CallText.{call_text}
use Rattle.ix_report.specs.ReplyText.{reply_text, audit_text}

-- the first line tells the form
unfoldable pub head_line : Form → List ℕ
head_line One = codes "ix 1 report\n"
head_line Two = codes "ix 2 report\n"

-- the label of the caller's record, or that there is no such record
abbrev pub seen_text : Form → Option Categories → List ℕ
seen_text form label = option_map_or (spelling form) label (codes "none")

-- an entry: its place in the history, its lane, its line of the script, the call, the reply, and the caller's label after it
unfoldable pub entry_line : Form → ℕ → List ℕ → Event → Reply → List ℕ → Option Categories → List ℕ
entry_line form place lane e reply bytes label =
    decimal place ++ codes " " ++ lane ++ codes " " ++ decimal e.line ++ codes " " ++ call_text form e.pid e.op
    ++ codes " = " ++ reply_text form reply bytes ++ codes " @ " ++ seen_text form label ++ codes "\n"

-- an object
unfoldable pub object_line : Form → ℕ → ObjView → List ℕ
object_line form number view =
    decimal number ++ codes " " ++ kind_text view.kind ++ codes " " ++ spelling form view.label ++ codes " " ++ state_text view.frozen ++ codes "\n"

-- a process
unfoldable pub process_line : Form → ℕ → ProcView → List ℕ
process_line form pid view = codes "p" ++ decimal pid ++ codes " " ++ spelling form view.label ++ codes " " ++ life_text view.ended ++ codes "\n"

-- a line of the audit log
unfoldable pub audit_line : Form → AuditLine → List ℕ
audit_line form line = audit_text form line ++ codes "\n"

-- the last line: how many entries and audit lines there are
unfoldable pub tail_line : ℕ → ℕ → List ℕ
tail_line entries lines = codes "end " ++ decimal entries ++ codes " " ++ decimal lines ++ codes "\n"

-- a number after its word
abbrev pub counted : List ℕ → ℕ → List ℕ
counted word n = word ++ decimal n

-- the one line of a summary: how many commands the script was made of, and what its history comes to
unfoldable pub totals_line : ℕ → Totals → List ℕ
totals_line commands t =
    counted (codes "gen ") commands ++ counted (codes " entries ") t.entries ++ counted (codes " refused ") t.refused ++ counted (codes " read ") t.read
    ++ counted (codes " written ") t.written ++ counted (codes " log ") t.lines ++ codes "\n"
