use Rattle.std.proofs.Common.{sym, subst, List, Option}
use Rattle.ix_model.specs.{world.World.Process, history.{Calls.op_of, Step.step}}
use Rattle.ix_fcalls.specs.{Around.{frame_of, world_of}, Filed.Answers, Moving.reply_of, Tested.IsKnown}
use Rattle.ix_fcalls.proofs.files.Files.turn_known.Goals as goal

pub answer_known-requires-clause-known : goal.answer_known-requires-clause-known
answer_known-requires-clause-known g c = subst (λ ps. IsKnown (frame_of g.R.Others.rest c.args.self.now ps) g.R.Others.rest.pid (op_of c.args.call.now))
    (sym c.new-who.ensures) c.requires.known

pub returns-clause-step : goal.returns-clause-step
returns-clause-step g c =
    subst (λ (ps : List (Option Process)). Answers (step (world_of g.R.Others.rest c.args.self.now ps) g.R.Others.rest.place g.R.Others.rest.pid
    (op_of c.args.call.now)) (world_of g.R.Others.rest c.answer_known.new.self ps) (reply_of c.answer_known.result) c.args.buf.now c.answer_known.new.buf)
    c.new-who.ensures c.answer_known.ensures.step
