-- Each line of a report has one line feed, at its end.
use Rattle.std.{proofs.{Common.{◌≡◌, ℕ, ◌++◌, true, List, Option, Some, None, refl}, lemmas.List.Folds.list_all-append}, specs.{Prelude.codes, Fmt.decimal}}
use Rattle.ix_label.specs.{Category.Categories, declared.form.Form.{Form, TheVariants.{One, Two}}, Spelling.spelling}
use Rattle.ix_model.specs.{history.Events.Event, declared.reply.Reply.Reply}
use Rattle.ix_text.specs.Spellings.{state_text}
use Rattle.ix_report.specs.{CallText.call_text, Feeds.{EndsOnce, LinesEndOnce, has_no_feed}, ReplyText.{audit_text, reply_text}, Words.{kind_text, life_text}}
use Rattle.ix_report.specs.LineText.{audit_line, entry_line, head_line, object_line, process_line, seen_text, tail_line}
use Rattle.ix_report.proofs.feeds.{Plain.{decimal_plain, label_plain}, Calls.{audit_plain, call_plain, kind_plain, life_plain, reply_plain, state_plain}}

seen_plain : (form : Form) (label : Option Categories) → has_no_feed (seen_text form label) ≡ true
seen_plain form None = refl
seen_plain form (Some s) = label_plain form s

head_ends : (form : Form) → EndsOnce (head_line form)
unfolding head_line
head_ends One = (codes "ix 1 report", refl, refl)
head_ends Two = (codes "ix 2 report", refl, refl)

entry_ends : (form : Form) (place : ℕ) (lane : List ℕ) (e : Event) (r : Reply) (bytes : List ℕ) (label : Option Categories) → has_no_feed lane ≡ true
    → EndsOnce (entry_line form place lane e r bytes label)
unfolding entry_line
entry_ends form place lane e r bytes label h = (
  decimal place ++ codes " " ++ lane ++ codes " " ++ decimal e.line ++ codes " " ++ call_text form e.pid e.op
      ++ codes " = " ++ reply_text form r bytes ++ codes " @ " ++ seen_text form label,
  simp (list_all-append, h, decimal_plain, call_plain, reply_plain, seen_plain) refl,
  refl,
)

pub lines_end : LinesEndOnce
unfolding object_line process_line audit_line tail_line
lines_end = record {
  head = head_ends;
  entry = entry_ends;
  object = λ form number view. (
    decimal number ++ codes " " ++ kind_text view.kind ++ codes " " ++ spelling form view.label ++ codes " " ++ state_text view.frozen,
    simp (list_all-append, decimal_plain, kind_plain, label_plain, state_plain) refl,
    refl,
  );
  process = λ form pid view. (
    codes "p" ++ decimal pid ++ codes " " ++ spelling form view.label ++ codes " " ++ life_text view.ended,
    simp (list_all-append, decimal_plain, label_plain, life_plain) refl,
    refl,
  );
  audit = λ form line. (audit_text form line, audit_plain form line, refl);
  tail = λ entries lines. (codes "end " ++ decimal entries ++ codes " " ++ decimal lines, simp (list_all-append, decimal_plain) refl, refl);
}
