use Rattle.std.proofs.Common.{arith, ◌∙◌, subst}
use Rattle.ix_model.specs.history.Seats.{GoesOn, made_by}
use Rattle.ix_model.specs.declared.reply.Answer.TheVariants as answer
use Rattle.ix_check.{specs.Stepping.StopsCall, proofs.OneCall.not_full}
use Rattle.ix_check.proofs.lane.make_call.Goals as goal

pub unreachable-requires : goal.unreachable-requires
unreachable-requires g c =
    let sys = c.step.new.sys in
    let begun = c.new-sys.ensures in
    let follows = c.step.ensures.follows in
    let seat = follows.2 ∙ begun.seat in
    let stop = c.in-Some.ensures.stop in
    let filled = sys.last (omega (arith, rw begun.fresh at c.in-Some.ensures.stops.0)) in
    let on =
    subst (λ n. GoesOn n c.args.core.now sys.core.now) begun.seat
    (subst (λ h. GoesOn c.new-sys.result.seat h sys.core.now) begun.core.1 follows.3.on) in
    let after = g.L.LaneSteps.at _ in
    let full = answer.JournalFull sys.stops.used sys.stops.need sys.stops.cap in
    let stopped : StopsCall (g.L.LaneSteps.at _) after (made_by c.args.seat c.args.core.now) (made_by c.args.seat sys.core.now) full =
    rw (c.in-Some.ensures.stops.1, begun.seat, begun.core.1, seat) at stop in
    not_full _ _ _ on _ _ _ _ _ stopped c.requires.call c.requires.room filled
