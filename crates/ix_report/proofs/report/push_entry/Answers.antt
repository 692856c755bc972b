use Rattle.std.proofs.Common.{◌≡◌, ◌++◌, [], OnOk, append_assoc, refl, subst, true, false}
use Rattle.std.specs.{Prelude.codes, Option.option_copied}
use Rattle.ix_model.specs.{history.Calls.op_of, history.Made.entry}
use Rattle.ix_report.specs.{LineText.{entry_line}, ReplyText.reply_text}
use Rattle.ix_report.proofs.report.push_entry.Goals as goal
use Rattle.ix_report.proofs.report.push_entry.Goals.{then-not-told+in_ok-push_reply+in_ok-push, else-not-told}

pub returns-clause-text : goal.returns-clause-text
unfolding entry_line
returns-clause-text c seat =
    let whole = codes " = " ++ reply_text c.args.form c.args.reply.now c.args.bytes.now ++ codes " @ " in
    let made = entry seat c.args.number c.args.pid (op_of c.args.call.now) in
    let line = c.args.line.now.text
    ++ entry_line c.args.form c.args.place c.args.lane.now made c.args.reply.now c.args.bytes.now (option_copied c.args.label) in
    let all : c.push_seen.new.line.text ++ codes "\n" ≡ line = elim c.if-not-told.branch [
      | then-not-told+in_ok-push_reply+in_ok-push w ↦
          let no : c.put_reply-told.result ≡ false = w.if-not-told.true in
          let none : c.put_reply-told.new.text ≡ [] = c.put_reply-told.ensures.stays no in
          simp (append_assoc, c.in_ok-push_seen.ensures.text, w.line-is, w.in_ok-push.ensures.text, w.in_ok-push_reply.ensures.text, c.in_ok-push_made.ensures.text, none) refl
      | else-not-told w ↦
          let yes : c.put_reply-told.result ≡ true = w.if-not-told.false in
          let some : c.put_reply-told.new.text ≡ whole = c.put_reply-told.ensures.put c.args.form yes in
          simp (append_assoc, c.in_ok-push_seen.ensures.text, w.line-is, c.in_ok-push_made.ensures.text, some) refl
    ] in
    subst (λ t. OnOk c.push_byte.result (c.push_byte.new.self.text ≡ t)) all c.push_byte.ensures.text
