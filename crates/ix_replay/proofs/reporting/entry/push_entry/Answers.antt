use Rattle.std.{proofs.Common.{◌≡◌, ◌++◌, List, ℕ, ap, ◌∙◌, subst, OnOk}, specs.Option.{option_copied, option_map}}
use Rattle.ix_label.specs.declared.form.Form.{Form}
use Rattle.ix_model.specs.{history.{Calls.op_of, Made.entry}, declared.views.ProcView.ProcView}
use Rattle.ix_script.specs.lines.Before.{form_told, lanes_of}
use Rattle.ix_report.specs.LineText.{entry_line}
use Rattle.ix_replay.proofs.piecewise.Shown.{bytes_of_shown, label_shown, line_of_next}
use Rattle.ix_replay.proofs.reporting.entry.push_entry.Goals as goal

pub entry_line-requires : goal.entry_line-requires
entry_line-requires c = record { bytes = bytes_of_shown c.args.reply.now c.args.bytes.now c.requires }

pub returns : goal.returns
returns c before is =
    let e = entry c.args.seat c.args.line c.args.pid (op_of c.args.call.now) in
    let P : List ℕ → Type 0 = λ t. OnOk c.entry_line.result (c.entry_line.new.out.items ≡ c.args.out.now.items ++ t) in
    let Q : Form → Type 0 = λ form. P (entry_line form c.len.result c.lane_name-lane.result.now e c.args.reply.now c.args.bytes.now (option_copied c.label_of-label.result)) in
    let label = c.label_of-label.ensures ∙ ap (λ o. option_map (λ (v : ProcView). v.label) o) c.process-caller.ensures ∙ label_shown _ in
    subst P (line_of_next (form_told c.args.script.now) (lanes_of c.args.script.now) before c.args.core.now e c.args.reply.now c.args.bytes.now
    c.lane_name-lane.result.now c.len.result _ is c.len.ensures.len c.lane_name-lane.ensures label)
    (subst Q c.form.ensures (c.entry_line.ensures.ok c.args.seat))
