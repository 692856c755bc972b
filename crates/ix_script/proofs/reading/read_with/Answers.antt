use Rattle.std.proofs.{Common.{Some, List, sym, ap, ◌∙◌}, lemmas.{Bool.eqb-true, List.nil_from_length, Result.err_from_is_err_and}}
use Rattle.ix_script.{specs.declared.line.Line.Line, proofs.reader.Whole.{too_long, no_bytes, has_cause, script_is}}
use Rattle.ix_script.proofs.reading.read_with.Goals as goal

pub returns-then-bytes-gt16777216-clause-fail : goal.returns-then-bytes-gt16777216-clause-fail
returns-then-bytes-gt16777216-clause-fail g c = rw (too_long c.args.bytes.now c.if-bytes-gt16777216.true) c.fault_at.ensures

pub returns-then-is_empty-clause-fail : goal.returns-then-is_empty-clause-fail
returns-then-is_empty-clause-fail g c = rw (no_bytes c.args.bytes.now (nil_from_length c.args.bytes.now (eqb-true _ 0 (sym c.is_empty.ensures
    ∙ c.if-is_empty.true)))) c.fault_at-then-is_empty.ensures

pub returns-in_err-add_lines-clause-fail : goal.returns-in_err-add_lines-clause-fail
returns-in_err-add_lines-clause-fail g c =
    let p = err_from_is_err_and c.from_residual-in_err-add_lines.result c.from_residual-in_err-add_lines.ensures.1 in
    rw (p.1, p.2) (has_cause c.in_err-add_lines.field-0.0 c.args.bytes.now c.if-bytes-gt16777216.false c.in_err-add_lines.ensures.fail)

pub returns-clause-script : goal.returns-clause-script
returns-clause-script g c =
    script_is c.args.bytes.now c.add_lines.new.self.lines.said c.if-bytes-gt16777216.false c.in_ok-add_lines.ensures.faultless c.in_ok-add_lines.ensures.said
    ∙ ap (λ (ls : List Line). Some ls) (sym c.in_ok-script.ensures)
