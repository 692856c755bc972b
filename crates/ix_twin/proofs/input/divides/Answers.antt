use Rattle.std.proofs.Common.{refl, sym, ◌∙◌}
use Rattle.ix_check.proofs.InputParts.{lines_none}
use Rattle.ix_twin.proofs.InputParts.{divides-alone, divides-line}
use Rattle.ix_twin.proofs.input.divides.Goals as goal

pub returns-in-Some : goal.returns-in-Some
returns-in-Some c =
    let found = c.in-Some.ensures in
    c.is_divider.ensures ∙ sym (divides-line c.in-Some.line.now c.in-Some.field-0-1.now _ found.line found.parts)

pub returns-in-None : goal.returns-in-None
returns-in-None c = c.is_divider-in-None.ensures ∙ sym (divides-alone c.args.rest.now (lines_none _ (c.in-None.ensures.none refl)))
