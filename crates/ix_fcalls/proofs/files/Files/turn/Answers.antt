use Rattle.std.proofs.Common.{◌≡◌, ◌∙◌, sym, subst, List, Option}
use Rattle.ix_model.specs.{world.World.Process, history.{Calls.op_of, Step.step}}
use Rattle.ix_fcalls.{specs.{Around.{world_of, with_who}, Counted.IsCounted, Filed.Answers}, proofs.Callers.who_set}
use Rattle.ix_fcalls.proofs.files.Files.turn.Goals as goal

pub returns-clause-step : goal.returns-clause-step
returns-clause-step g c =
    let a = g.R.Others.rest in
    let new : with_who a.processes c.caller.result.now ≡ c.answer-reply.new.who = who_set a _ c.caller.ensures.pid ∙ sym c.caller.ensures.table in
    subst (λ (ps : List (Option Process)). Answers (step (world_of a c.args.self.now (with_who a.processes c.args.caller.now)) a.place a.pid
    (op_of c.args.call.now)) (world_of a c.answer-reply.new.self ps) c.answer-reply.result c.args.buf.now c.answer-reply.new.buf) (sym new)
    (subst (λ (ps : List (Option Process)). Answers (step (world_of a c.args.self.now ps) a.place a.pid (op_of c.args.call.now))
    (world_of a c.answer-reply.new.self c.answer-reply.new.who) c.answer-reply.result c.args.buf.now c.answer-reply.new.buf) c.new-who.ensures c.answer-reply.ensures.step)

pub returns-clause-counted : goal.returns-clause-counted
returns-clause-counted g c =
    let a = g.R.Others.rest in
    let new = who_set a _ c.caller.ensures.pid ∙ sym c.caller.ensures.table in
    subst (λ ps. IsCounted c.answer-reply.new.self ps) (sym new) c.answer-reply.ensures.counted
