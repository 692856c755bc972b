use Rattle.std.proofs.Common.{sym, ◌∙◌}
use Rattle.ix_model.specs.history.Events as op
use Rattle.ix_machine.proofs.Stepped.{dead_step, label_step}
use Rattle.ix_machine.proofs.machine.Machine.told_label.Goals as goal

pub returns-then-not-lives : goal.returns-then-not-lives
returns-then-not-lives c place buf = dead_step _ place _ op.SelfLabel buf c.requires.holdings.clean (sym c.lives.ensures ∙ c.if-not-lives.true)

pub returns : goal.returns
returns c place buf = label_step _ place _ _ buf c.requires.holdings.clean (sym c.lives.ensures ∙ c.if-not-lives.false) c.self_label.ensures
