use Rattle.std.{proofs.Common.{◌≡◌, ◌++◌, [], ℕ, List, Result, Ok, Err, sym, ap, ◌∙◌, subst, OnOk}, specs.Option.option_copied}
use Rattle.ix_model.specs.history.{Calls.op_of, Made.entry}
use Rattle.ix_report.specs.LineText.{entry_line}
use Rattle.ix_report.proofs.report.entry_line.Goals as goal

-- a line that was written after what stood there
line_ended : {E : Type 0} (written : Result (Unit {0}) E) (out before text was line none : List ℕ) → before ≡ was → none ≡ [] → OnOk written (out ≡ before ++ text)
    → OnOk written (text ≡ none ++ line) → OnOk written (out ≡ was ++ line)
line_ended (Ok done) out before text was line none at empty ended said = let all : text ≡ line = said ∙ ap (λ e. e ++ line) empty in ended ∙ (λ i. at i ++ all i)
line_ended (Err e) out before text was line none at empty ended said = tt

pub returns-clause-ok : goal.returns-clause-ok
returns-clause-ok c seat =
    let wrote = c.push_entry-written in
    let line = entry_line c.args.form c.args.place c.args.lane.now (entry seat c.args.number c.args.pid (op_of c.args.call.now)) c.args.reply.now c.args.bytes.now (option_copied c.args.label) in
    let told = line_ended wrote.result c.end.new.out.items wrote.new.line.before wrote.new.line.text c.args.out.now.items line c.begin-line.result.text
    (wrote.ensures.stays ∙ c.begin-line.ensures.before) c.begin-line.ensures.text c.end.ensures.ok (wrote.ensures.text seat) in
    subst (λ r. OnOk r (c.end.new.out.items ≡ c.args.out.now.items ++ line)) (sym c.end.ensures.same) told
