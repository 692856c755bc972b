use Rattle.std.proofs.Common.{refl, sym, ◌∙◌}
use Rattle.ix_check.proofs.InputParts.{heads-alone, heads-line, lines_none}
use Rattle.ix_check.proofs.input.begins_report.Goals as goal

pub returns-in-Some : goal.returns-in-Some
returns-in-Some c =
    let found = c.in-Some.ensures in
    c.is_heading.ensures ∙ sym (heads-line c.in-Some.line.now c.in-Some.field-0-1.now _ found.line found.parts)

pub returns-in-None : goal.returns-in-None
returns-in-None c = c.is_heading-in-None.ensures ∙ sym (heads-alone c.args.rest.now (lines_none _ (c.in-None.ensures.none refl)))
