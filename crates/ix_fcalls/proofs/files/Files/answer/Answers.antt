use Rattle.std.proofs.Common.{sym, subst}
use Rattle.ix_model.specs.history.Calls.{op_of}
use Rattle.ix_fcalls.{specs.Filed.IsLook, proofs.Turning.{answers_as, plain_left}}
use Rattle.ix_fcalls.proofs.files.Files.answer.Goals as goal

pub returns-in-ReadFd-clause-step : goal.returns-in-ReadFd-clause-step
returns-in-ReadFd-clause-step g c = answers_as _ _ _ _ _ _ _ _ _ c.in-ReadFd.is c.read.ensures.step

pub returns-in-WriteFd-clause-step : goal.returns-in-WriteFd-clause-step
returns-in-WriteFd-clause-step g c = answers_as _ _ _ _ _ _ _ _ _ c.in-WriteFd.is (c.write.ensures.step _)

pub returns-in-CutFd-clause-step : goal.returns-in-CutFd-clause-step
returns-in-CutFd-clause-step g c = answers_as _ _ _ _ _ _ _ _ _ c.in-CutFd.is (c.cut.ensures.step _)

pub returns-in-SeekFd-clause-step : goal.returns-in-SeekFd-clause-step
returns-in-SeekFd-clause-step g c = answers_as _ _ _ _ _ _ _ _ _ c.in-SeekFd.is (c.seek.ensures.step _)

pub look-requires-clause-look : goal.look-requires-clause-look
look-requires-clause-look g c = subst (λ x. IsLook (op_of x)) (sym c.in-StatAt.is) tt

pub returns-in-StatAt-clause-step : goal.returns-in-StatAt-clause-step
returns-in-StatAt-clause-step g c = c.look.ensures.step _

pub plain-requires-clause-plain : goal.plain-requires-clause-plain
plain-requires-clause-plain g c = plain_left _ c.requires.filed c.in_default.not-ReadFd c.in_default.not-WriteFd c.in_default.not-CutFd c.in_default.not-SeekFd c.in_default.not-StatAt

pub returns-in_default-clause-step : goal.returns-in_default-clause-step
returns-in_default-clause-step g c = c.plain.ensures.step _
