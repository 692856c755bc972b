use Rattle.std.proofs.Common.{sym, subst}
use Rattle.ix_model.specs.history.Step.{step}
use Rattle.ix_fcalls.specs.Filed.{Answers}
use Rattle.ix_core.proofs.Marked.{told_own}
use Rattle.ix_core.proofs.marking.own_label.Goals as goal

pub returns-clause-answers : goal.returns-clause-answers
returns-clause-answers c =
    subst (λ o. Answers (step c.args.machine.now c.args.place c.args.pid.0 o) c.args.machine.now c.told_label.result c.args.buf.now c.args.buf.now)
    (sym c.requires.own) (c.told_label.ensures _ _)

pub returns-clause-told : goal.returns-clause-told
returns-clause-told c = told_own _ _ _ _ _ c.requires.ready c.requires.own
