use Rattle.std.proofs.Common.{sym, ap, ◌∙◌, subst, arith}
use Rattle.ix_judging.specs.{Judge.No, Walk.ended}
use Rattle.ix_check.{specs.{Judging.Stands, Plans.judged_plan}, proofs.Ends.no_end}
use Rattle.ix_check.proofs.judge.Judge.end.Goals as goal

pub returns-in-Entries : goal.returns-in-Entries
returns-in-Entries g c before stands =
    let at = g.L.LaneSteps.at in
    let s = c.args.self.now.printer.script.now in
    let h = c.args.self.now.core in
    let is = subst (λ x. Stands at s h c.args.self.now.lanes.items x before) c.in-Entries.is stands in
    ap (λ n. No n) (omega (arith, c.from.ensures, c.len.ensures.len)) ∙ sym (no_end at s h _ is.0 is.2 c.args.whole) ∙ ap (λ w. ended (judged_plan s) w c.args.whole) (sym is.1)
