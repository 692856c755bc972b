use Rattle.std.proofs.{Common.{length, refl, sym, ap, ◌∙◌, arith, length-append}, lemmas.List.{drop_all, take_all}}
use Rattle.ix_check.proofs.InputParts.{cut_there, first_behind, line_behind, lines_none, none_behind, one_line, report_behind}
use Rattle.ix_check.proofs.input.parts.Goals as goal

pub returns-in_default-clause-script : goal.returns-in_default-clause-script
returns-in_default-clause-script c =
    c.split_at.ensures.front ∙ take_all _ _ (omega arith)
    ∙ sym (one_line _ (lines_none _ (c.in_default.ensures.none refl))).0

pub returns-in_default-clause-report : goal.returns-in_default-clause-report
returns-in_default-clause-report c =
    c.split_at.ensures.back ∙ drop_all (length _) c.args.input.now (omega arith)
    ∙ sym (one_line _ (lines_none _ (c.in_default.ensures.none refl))).1

pub lines-init : goal.lines-init
lines-init c = first_behind _ _ _ c.in-Some.ensures.line c.in-Some.ensures.parts

pub returns-in_default-first_line-clause-script : goal.returns-in_default-first_line-clause-script
returns-in_default-first_line-clause-script c =
    let parts = none_behind _ _ c.lines.invariant (lines_none _ (c.in_default-first_line.ensures.none refl)) (sym c.begins_report.ensures ∙ c.lines-test.true) in
    c.split_at-in_default-first_line.ensures.front ∙ take_all _ _ (omega arith) ∙ sym parts.0

pub returns-in_default-first_line-clause-report : goal.returns-in_default-first_line-clause-report
returns-in_default-first_line-clause-report c =
    let parts = none_behind _ _ c.lines.invariant (lines_none _ (c.in_default-first_line.ensures.none refl)) (sym c.begins_report.ensures ∙ c.lines-test.true) in
    c.split_at-in_default-first_line.ensures.back ∙ drop_all (length _) c.args.input.now (omega arith) ∙ sym parts.1

pub lines-smaller : goal.lines-smaller
lines-smaller c = c.in-Some-first_line.ensures.fewer

pub lines-preserved : goal.lines-preserved
lines-preserved c =
    let found = c.in-Some-first_line.ensures in
    line_behind _ _ _ _ c.lines.invariant found.line found.parts
    (sym c.begins_report.ensures ∙ c.lines-test.true)

pub overflow_sub-input : goal.overflow_sub-input
overflow_sub-input c =
    let is = c.lines.invariant in
    let more = length-append is.front c.lines.rest.now in omega (arith, ap length is.parts, more)

pub returns-clause-script : goal.returns-clause-script
returns-clause-script c =
    let is = c.lines.invariant in
    let parts = report_behind _ _ is (sym c.begins_report.ensures ∙ c.lines-test.false) in
    c.split_at-2.ensures.front ∙ (cut_there _ _ _ is.parts).0 ∙ sym parts.0

pub returns-clause-report : goal.returns-clause-report
returns-clause-report c =
    let is = c.lines.invariant in
    let parts = report_behind _ _ is (sym c.begins_report.ensures ∙ c.lines-test.false) in
    c.split_at-2.ensures.back ∙ (cut_there _ _ _ is.parts).1 ∙ sym parts.1
