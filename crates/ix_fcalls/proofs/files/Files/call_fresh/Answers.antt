use Rattle.std.proofs.Common.{sym, subst, List, Option}
use Rattle.ix_model.specs.{laws.Sound.Sound, world.World.{World, Process}, history.{Calls.op_of, Step.step}}
use Rattle.ix_fcalls.specs.{Around.{around, world_of}, Counted.IsCounted, Filed.Answers, Moving.reply_of, Tested.IsKnown}
use Rattle.ix_fcalls.proofs.{Bare.counted_parts, Turning.{world_there, answers_there, parts_after}}
use Rattle.ix_fcalls.proofs.files.Files.call_fresh.Goals as goal

pub turn_known-requires-clause-known : goal.turn_known-requires-clause-known
turn_known-requires-clause-known g c =
    subst (λ (x : World). IsKnown x.frame c.args.who.now.pid.0 (op_of c.args.call.now))
    (sym (world_there g.moment.place c.args.who.now.pid.0 g.moment.world _ _ c.requires.1.1.0 c.requires.1.1.1.0)) c.requires.0

pub turn_known-requires-clause-sound : goal.turn_known-requires-clause-sound
turn_known-requires-clause-sound g c = subst (λ (x : World). Sound x)
    (sym (world_there g.moment.place c.args.who.now.pid.0 _ _ _ c.requires.1.1.0 c.requires.1.1.1.0)) c.requires.1.0

pub turn_known-requires-clause-counted : goal.turn_known-requires-clause-counted
turn_known-requires-clause-counted g c = counted_parts g.moment.world _ _ c.requires.1.1.0 c.requires.1.1.1.0

pub returns-clause-step : goal.returns-clause-step
returns-clause-step g c =
    subst (λ (ps : List (Option Process)). Answers (step g.moment.world g.moment.place c.args.who.now.pid.0 (op_of c.args.call.now))
    (world_of (around g.moment.place c.args.who.now.pid.0 g.moment.world) c.turn_known.new.self ps) (reply_of c.turn_known.result) c.args.buf.now c.turn_known.new.buf)
    c.requires.1.1.1.0 (answers_there _ _ _ _ _ _ _ _ _ _ c.requires.1.1.0 c.requires.1.1.1.0 c.turn_known.ensures.step)

pub returns-clause-parts : goal.returns-clause-parts
returns-clause-parts g c =
    let w = g.moment.world in
    parts_after (around g.moment.place c.args.who.now.pid.0 w) _ w.frame.processes (step w g.moment.place c.args.who.now.pid.0 (op_of c.args.call.now)).world
    (returns-clause-step g c).world (subst (λ (ps : List (Option Process)). IsCounted c.turn_known.new.self ps) c.requires.1.1.1.0 c.turn_known.ensures.counted)
