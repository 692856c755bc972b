use Rattle.std.proofs.Common.{subst}
use Rattle.ix_model.specs.history.Calls.{op_of}
use Rattle.ix_fcalls.{specs.{Around.frame_of, Tested.IsKnown}, proofs.{KnownSteps.known_left, Turning.answers_as}}
use Rattle.ix_fcalls.proofs.files.Files.answer_known.Goals as goal

pub read_known-requires-clause-known : goal.read_known-requires-clause-known
read_known-requires-clause-known g c = subst (λ x. IsKnown (frame_of g.R.Others.rest c.args.self.now c.args.who.now) g.R.Others.rest.pid (op_of x)) c.in-ReadFd.is c.requires.known

pub returns-in-ReadFd-clause-step : goal.returns-in-ReadFd-clause-step
returns-in-ReadFd-clause-step g c = answers_as _ _ _ _ _ _ _ _ _ c.in-ReadFd.is c.read_known.ensures.step

pub write_known-requires-clause-known : goal.write_known-requires-clause-known
write_known-requires-clause-known g c = subst (λ x. IsKnown (frame_of g.R.Others.rest c.args.self.now c.args.who.now) g.R.Others.rest.pid (op_of x)) c.in-WriteFd.is c.requires.known

pub returns-in-WriteFd-clause-step : goal.returns-in-WriteFd-clause-step
returns-in-WriteFd-clause-step g c = answers_as _ _ _ _ _ _ _ _ _ c.in-WriteFd.is (c.write_known.ensures.step _)

pub unreachable-requires : goal.unreachable-requires
unreachable-requires g c = known_left _ _ _ c.requires.known c.in_default.not-ReadFd c.in_default.not-WriteFd
