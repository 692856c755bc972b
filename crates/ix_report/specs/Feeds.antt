-- Line feeds in a report: each line has one, at its end.
use Rattle.std.specs.Prelude.{◌≡◌, ℕ, ◌==◌, Bool, true, not, List, [], ◌∷◌, ◌++◌, Option}
use Rattle.std.specs.List.{list_all}
use Rattle.ix_label.specs.Category.{Categories}
use Rattle.ix_label.specs.declared.form.Form.{Form}
use Rattle.ix_model.specs.history.Events.{Event}
use Rattle.ix_model.specs.declared.reply.Reply.{Reply}
use Rattle.ix_model.specs.declared.audit.AuditLine.{AuditLine}
use Rattle.ix_model.specs.declared.views.ObjView.{ObjView}
use Rattle.ix_model.specs.declared.views.ProcView.{ProcView}
use Rattle.ix_report.specs.LineText.{audit_line, entry_line, head_line, object_line, process_line, tail_line}

-- none of the bytes is a line feed
abbrev pub has_no_feed : List ℕ → Bool
has_no_feed text = list_all (λ b. not (b == 10)) text

-- a text has one line feed, at its end
abbrev pub EndsOnce : List ℕ → Type 0
EndsOnce text = (front : List ℕ) × (has_no_feed front ≡ true) × (text ≡ front ++ 10 ∷ [])

-- so has each line of a report, where the name of an entry's lane has none
pub record LinesEndOnce : Type 0 where
  pub head : (form : Form) → EndsOnce (head_line form)
  pub entry : (form : Form) (place : ℕ) (lane : List ℕ) (e : Event) (reply : Reply) (bytes : List ℕ) (label : Option Categories)
      → has_no_feed lane ≡ true → EndsOnce (entry_line form place lane e reply bytes label)
  pub object : (form : Form) (number : ℕ) (view : ObjView) → EndsOnce (object_line form number view)
  pub process : (form : Form) (pid : ℕ) (view : ProcView) → EndsOnce (process_line form pid view)
  pub audit : (form : Form) (line : AuditLine) → EndsOnce (audit_line form line)
  pub tail : (entries lines : ℕ) → EndsOnce (tail_line entries lines)
