use Rattle.std.proofs.Common.{refl, sym, ◌∙◌, arith}
use Rattle.ix_check.proofs.InputParts.{cut_there, lines_none}
use Rattle.ix_twin.proofs.InputParts.{behind_nothing, divider_behind, divider_there, line_behind, line_few, none_behind}
use Rattle.ix_twin.proofs.input.divide.Goals as goal

pub lines-init : goal.lines-init
lines-init c = behind_nothing _

pub lines-smaller : goal.lines-smaller
lines-smaller c = c.in-Some.ensures.fewer

pub lines-preserved : goal.lines-preserved
lines-preserved c =
    let found = c.in-Some.ensures in
    line_behind _ _ _ _ _ c.lines.invariant found.line found.parts (omega (arith, found.fewer))
    (sym c.divides.ensures ∙ c.lines-test.true)

pub overflow_sub-input : goal.overflow_sub-input
overflow_sub-input c = omega (arith, c.lines.invariant.few)

pub returns-in_default-clause-first : goal.returns-in_default-clause-first
returns-in_default-clause-first c =
    sym (none_behind _ _ _ c.lines.invariant (lines_none _ (c.in_default.ensures.none refl))
    (sym c.divides.ensures ∙ c.lines-test.true)).first_is

pub returns-in_default-clause-second : goal.returns-in_default-clause-second
returns-in_default-clause-second c =
    sym (none_behind _ _ _ c.lines.invariant (lines_none _ (c.in_default.ensures.none refl))
    (sym c.divides.ensures ∙ c.lines-test.true)).second_is

pub returns-clause-first : goal.returns-clause-first
returns-clause-first c =
    let is = c.lines.invariant in
    c.split_at.ensures.front ∙ (cut_there _ _ _ is.parts).0 ∙ sym (divider_behind _ _ _ is (sym c.divides.ensures ∙ c.lines-test.false)).first_is

pub returns-clause-second : goal.returns-clause-second
returns-clause-second c =
    c.behind_line.ensures ∙ sym (divider_behind _ _ _ c.lines.invariant (sym c.divides.ensures ∙ c.lines-test.false)).second_is

pub returns-clause-lines : goal.returns-clause-lines
returns-clause-lines c = sym (divider_behind _ _ _ c.lines.invariant (sym c.divides.ensures ∙ c.lines-test.false)).lines_is

pub returns-clause-few : goal.returns-clause-few
returns-clause-few c = omega (arith, c.lines.invariant.few, divider_there c.lines.rest.now (sym c.divides.ensures ∙ c.lines-test.false))

pub returns-in_default-clause-lines : goal.returns-in_default-clause-lines
returns-in_default-clause-lines c =
    omega (arith, (none_behind _ _ _ c.lines.invariant (lines_none _ (c.in_default.ensures.none refl)) (sym c.divides.ensures ∙ c.lines-test.true)).lines_is, c.some_line.ensures)

pub returns-in_default-clause-few : goal.returns-in_default-clause-few
returns-in_default-clause-few c = omega (arith, c.lines.invariant.few, c.some_line.ensures, line_few c.lines.rest.now)
