use Rattle.std.proofs.Common.{sym, ◌∙◌, arith}
use Rattle.ix_script.proofs.reader.Scheduling.{part_here, part_later, part_none, part_role, other_part, part_at}
use Rattle.ix_script.proofs.schedule.part_end.Goals as goal

pub returns-in-Phase : goal.returns-in-Phase
returns-in-Phase c =
    let none = part_here c.args.lines.now.said c.lines.index (sym (part_at _ c.unwrap.result (sym c.unwrap.ensures ∙ c.role.ensures)) ∙ part_role c.unwrap.result c.in-Phase.is) in
    omega (arith, c.lines.invariant, none)

pub lines-preserved : goal.lines-preserved
lines-preserved c =
    c.lines.invariant ∙ part_later c.args.lines.now.said c.lines.index (omega (arith, c.lines-test.true, c.len-index-end.ensures))
    (sym (part_at _ c.unwrap.result (sym c.unwrap.ensures ∙ c.role.ensures)) ∙ other_part c.unwrap.result c.in_default.not-Phase c.in_default.not-Lane)

pub returns : goal.returns
returns c =
    let none = part_none c.args.lines.now.said c.lines.index (omega (arith, c.lines-test.false, c.len-index-end.ensures)) in
    omega (arith, c.lines.invariant, none, c.lines.auto.index-end, c.lines-test.false, c.len-index-end.ensures, c.len.ensures)
