use Rattle.std.proofs.Common.{sym, subst, ◌∙◌}
use Rattle.ix_model.specs.{declared.call.Call.Call, history.{Calls.op_of, Step.step}}
use Rattle.ix_fcalls.specs.Filed.{Answers}
use Rattle.ix_machine.proofs.Stepped.{dead_step}
use Rattle.ix_machine.proofs.machine.Machine.call.Goals as goal

pub returns-then-not-lives : goal.returns-then-not-lives
returns-then-not-lives g c = dead_step _ _ _ _ _ c.requires.sound.holdings.clean (sym c.lives.ensures ∙ c.if-not-lives.true)

pub returns-in-SelfLabel : goal.returns-in-SelfLabel
returns-in-SelfLabel g c =
    subst (λ (x : Call). Answers (step c.args.self.now c.args.place c.args.pid.0 (op_of x)) c.args.self.now c.told_label.result c.args.buf.now c.args.buf.now)
    (sym c.in-SelfLabel.is) (c.told_label.ensures c.args.place c.args.buf.now)
