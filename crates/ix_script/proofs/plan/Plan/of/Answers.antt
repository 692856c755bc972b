use Rattle.std.proofs.Common.{◌<◌, length, sym, ap, ◌∙◌, take, arith}
use Rattle.ix_script.specs.lines.Roles.{header_only}
use Rattle.ix_script.proofs.{reader.Planning.{plan_more, plan_same, plan_all}, plan.Plan.of.Goals.{in-Some+in_ok-add, in_default}}
use Rattle.ix_script.proofs.plan.Plan.of.Goals as goal

pub lines-preserved : goal.lines-preserved
lines-preserved c =
    let low : c.lines.index < length c.args.lines.now.said = omega (arith, c.lines-test.true, c.header_end-index-end.ensures.within) in
    elim c.match-get.branch [
      | in-Some+in_ok-add w ↦
          rw w.plan-is (plan_more c.args.lines.now.said c.lines.index w.in-Some.line w.add.new.self low (sym c.get.ensures ∙ w.in-Some.is)
          (w.in_ok-add.ensures (take c.lines.index c.args.lines.now.said) c.lines.invariant))
      | in_default w ↦ rw w.plan-is (plan_same c.args.lines.now.said c.lines.index c.lines.plan low (ap header_only (sym c.get.ensures ∙ w.in_default.is)) c.lines.invariant)
    ]

pub returns : goal.returns
returns c = plan_all c.args.lines.now.said _ c.lines.index c.lines.plan c.header_end-index-end.ensures.ends (omega (arith, c.lines-test.false)) c.lines.invariant
