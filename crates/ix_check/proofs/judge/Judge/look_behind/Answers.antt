use Rattle.std.{proofs.Common.{◌≡◌, ◌+◌, is_none, length, OnOk, sym, ap, ◌∙◌, subst, arith}, specs.List.list_all}
use Rattle.ix_judging.specs.Walk.{closes, line_after}
use Rattle.ix_check.{specs.{Judging.{AreLeft, Stands}, Plans.judged_plan}, proofs.{Ends.{closing, closing_left, walk_on}, LaneTurns.all_over_is}}
use Rattle.ix_replay.specs.declared.reporting.closing.Next.TheVariants as next
use Rattle.ix_check.proofs.judge.Judge.look_behind.Goals as goal

pub returns-then-not-all_over-clause-walks : goal.returns-then-not-all_over-clause-walks
returns-then-not-all_over-clause-walks g c state among =
    let at = g.L.LaneSteps.at in
    let s = c.args.self.now.printer.script.now in
    let h = c.args.self.now.core in
    let new = c.look_at_entry.new.self in
    subst (λ w. OnOk c.look_at_entry.result (Stands at s new.core new.lanes.items new.stage w))
    (sym (walk_on at s h _ state among c.args.line.now _ (sym (all_over_is at s _ _ among.stand) ∙ ap (list_all (λ l. is_none _)) (sym c.as_slice.ensures.value)
    ∙ sym c.all_over.ensures ∙ c.if-not-all_over.true))) (c.look_at_entry.ensures.walks state among)

pub look_at_closing-requires : goal.look_at_closing-requires
look_at_closing-requires g c =
    let at = g.L.LaneSteps.at in
    let s = c.args.self.now.printer.script.now in
    let h = c.args.self.now.core in
    let state = c.requires.came.0 in
    let among = c.requires.came.1 in
    let number : line_after (length h.events) ≡ c.from-number.result + 2 = omega (arith, c.from-number.ensures, c.len.ensures.len) in
    let left = closing_left at s h _ state among (omega (arith, c.len.ensures.len, c.len.ensures.few))
    (omega (arith, c.objects.ensures, c.objects.type_inv)) (omega (arith, c.processes.ensures, c.processes.type_inv))
    (omega (arith, c.log_len.ensures.len, c.log_len.type_inv)) in
    record { left = (closing at s h _ state among, subst (λ n. AreLeft s h next.Head n (closing at s h _ state among)) number left) }

pub returns-clause-walks : goal.returns-clause-walks
returns-clause-walks g c state among =
    let at = g.L.LaneSteps.at in
    let s = c.args.self.now.printer.script.now in
    let h = c.args.self.now.core in
    let over =
    sym (all_over_is at s _ _ among.stand) ∙ ap (list_all (λ l. is_none _)) (sym c.as_slice.ensures.value)
    ∙ sym c.all_over.ensures ∙ c.if-not-all_over.false in
    let new = c.look_at_closing.new.self in
    let number : line_after (length h.events) ≡ c.from-number.result + 2 = omega (arith, c.from-number.ensures, c.len.ensures.len) in
    let left = closing_left at s h _ state among (omega (arith, c.len.ensures.len, c.len.ensures.few))
    (omega (arith, c.objects.ensures, c.objects.type_inv)) (omega (arith, c.processes.ensures, c.processes.type_inv))
    (omega (arith, c.log_len.ensures.len, c.log_len.type_inv)) in
    let there = subst (λ n. AreLeft s h next.Head n (closing at s h _ state among)) number left in
    subst (λ w. OnOk c.look_at_closing.result (Stands at s new.core new.lanes.items new.stage w)) (sym (walk_on at s h _ state among c.args.line.now _ over
    ∙ ap (λ n. closes (judged_plan s) n (length h.events) (closing at s h _ state among) c.args.line.now) number))
    (c.look_at_closing.ensures.walks _ there)
