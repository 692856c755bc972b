use Rattle.std.proofs.Common.{◌≡◌, ◌+◌, false, [], ◌⊎◌, sym, ap, ◌∙◌, subst}
use Rattle.ix_model.specs.world.Naming.{same_bytes}
use Rattle.ix_replay.specs.report.Telling.{TellsLine}
use Rattle.ix_check.{specs.Judging.{AreLeft, IsClosing}, proofs.ClosingLine.{right_line, wrong_or_none}}
use Rattle.ix_check.proofs.judge.Judge.look_at_closing.Goals as goal

pub returns-then-not-is_said-clause-walks : goal.returns-then-not-is_said-clause-walks
returns-then-not-is_said-clause-walks g c left are =
    let s = c.args.self.now.printer.script.now in
    let h = c.args.self.now.core in
    let old = c.at-closing.result in
    let printed = c.tell_line.new.out.items in
    let is : IsClosing s h c.args.next old =
    record { form = c.at-closing.ensures.form ∙ c.form.ensures; history = c.at-closing.ensures.history; stage = c.at-closing.ensures.next } in
    let tells = subst (λ t. TellsLine old c.tell_line.new.self t printed) c.clear.ensures.items c.in_ok-tell_line.ensures in
    let other = c.is_said.ensures.other c.if-not-is_said.true in
    wrong_or_none s h _ _ _ are _ _ is _ _ tells _
    (subst (λ t. (t ≡ []) ⊎ (same_bytes t c.args.line.now ≡ false)) c.as_slice.ensures.value other)

pub returns-clause-walks : goal.returns-clause-walks
returns-clause-walks g c left are =
    let s = c.args.self.now.printer.script.now in
    let h = c.args.self.now.core in
    let old = c.at-closing.result in
    let new = c.tell_line.new.self in
    let printed = c.tell_line.new.out.items in
    let tells = subst (λ t. TellsLine old new t printed) c.clear.ensures.items c.in_ok-tell_line.ensures in
    let value = c.as_slice.ensures.value in
    let some : printed ≡ [] → ⊥ = λ none. c.is_said.ensures.there c.if-not-is_said.false (value ∙ none) in
    let same =
    ap (λ t. same_bytes t c.args.line.now) (sym value) ∙ c.is_said.ensures.same c.if-not-is_said.false in
    let right = right_line s h _ _ _ are _ new (record {
      form = c.at-closing.ensures.form ∙ c.form.ensures;
      history = c.at-closing.ensures.history;
      stage =
          c.at-closing.ensures.next;
    }) _ _ tells _ some same in
    (right.0, right.1, subst (λ n. AreLeft s h n (c.args.number + 1) right.0) (sym c.next-after.ensures) right.2)
