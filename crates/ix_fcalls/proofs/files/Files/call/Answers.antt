use Rattle.std.proofs.Common.{◌≤◌, sym, subst}
use Rattle.ix_model.specs.{laws.Sound.Sound, world.World.World, history.{Calls.op_of, Step.step}}
use Rattle.ix_fcalls.{specs.Around.{around}, proofs.{Bare.counted_parts, Turning.{world_there, answers_there, parts_after}}}
use Rattle.ix_fcalls.proofs.files.Files.call.Goals as goal

pub turn-requires-clause-sound : goal.turn-requires-clause-sound
turn-requires-clause-sound g c = subst (λ (x : World). Sound x) (sym (world_there g.moment.place c.args.who.now.pid.0 _ _ _ c.requires.1.1.1.0 c.requires.1.1.1.1.0)) c.requires.1.1.0

pub turn-requires-clause-counted : goal.turn-requires-clause-counted
turn-requires-clause-counted g c = counted_parts g.moment.world _ _ c.requires.1.1.1.0 c.requires.1.1.1.1.0

pub turn-requires-clause-few : goal.turn-requires-clause-few
turn-requires-clause-few g c = subst (λ v. v.limits.procs ≤ 1024) (sym c.requires.1.1.1.0) c.requires.1.1.1.1.1.1

pub returns-clause-step : goal.returns-clause-step
returns-clause-step g c = answers_there _ _ _ _ _ _ _ _ _ _ c.requires.1.1.1.0 c.requires.1.1.1.1.0 c.turn.ensures.step

pub returns-clause-parts : goal.returns-clause-parts
returns-clause-parts g c =
    let w = g.moment.world in
    parts_after (around g.moment.place c.args.who.now.pid.0 w) _ _ (step w g.moment.place c.args.who.now.pid.0 (op_of c.args.call.now)).world (returns-clause-step g c).world c.turn.ensures.counted
