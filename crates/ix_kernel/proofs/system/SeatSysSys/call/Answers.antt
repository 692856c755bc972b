use Rattle.std.proofs.Common.{◌≡◌, ap, ◌∙◌, subst}
use Rattle.ix_model.specs.history.{Calls.op_of, Made.entry, Systems.made_after}
use Rattle.ix_model.specs.declared.reply.Answer.TheVariants as answer
use Rattle.ix_kernel.{specs.{Seen.KSeatState, Systems.{SystemState, made_at, SeatGoesOn}}, proofs.Seated.{call_goes, made_call, still_fits, given_else}}
use Rattle.ix_kernel.proofs.system.SeatSysSys.call.Goals as goal

pub invariant_of-self-in_default : goal.invariant_of-self-in_default
invariant_of-self-in_default g c = still_fits _ _ (call_goes _ _ c.call-answer.ensures.seen c.call-answer.ensures.seat) c.self.invariant

pub returns-in-JournalFull-clause-made : goal.returns-in-JournalFull-clause-made
returns-in-JournalFull-clause-made g c =
    let goes : SeatGoesOn c.self.inside.seat c.call-answer.new.self = call_goes _ _ c.call-answer.ensures.seen c.call-answer.ensures.seat in
    made_call _ _ _ _ _ _ _ _ c.call-answer.ensures.turn goes
    ∙ ap (λ a. made_after a (entry c.self.inside.seat.number c.args.line c.args.pid (op_of c.args.call.now)) c.call-answer.new.buf (made_at c.self.inside.seat)) c.in-JournalFull.is
    ∙ ap (λ (s : SystemState). made_at s.seat) c.self.view_is

pub returns-in_default : goal.returns-in_default
returns-in_default g c =
    let goes : SeatGoesOn c.self.inside.seat c.call-answer.new.self = call_goes _ _ c.call-answer.ensures.seen c.call-answer.ensures.seat in
    let given = given_else _ _ _ c.call-answer.ensures.room c.in_default.not-JournalFull in
    let same : c.self.inside.seat ≡ c.args.self.now.seat = ap (λ (s : SystemState). s.seat) c.self.view_is in
    record {
      seat = goes.number ∙ ap (λ (k : KSeatState). k.number) same;
      made =
          made_call _ _ _ _ _ _ _ _ c.call-answer.ensures.turn goes
          ∙ ap (λ (k : KSeatState). made_after c.call-answer.result (entry k.number c.args.line c.args.pid (op_of c.args.call.now)) c.call-answer.new.buf (made_at k)) same;
      stops = ap (λ (s : SystemState). s.stops) c.self.view_is ∙ given.stops c.args.self.now.stops;
      stopped = ap (λ (s : SystemState). answer.JournalFull s.used s.need s.cap) c.self.view_is ∙ given.last _;
      full = given.full;
      fits = c.call-answer.ensures.fits;
      rest = c.call-answer.ensures.rest;
      follows = (ap (λ (s : SystemState). s.kernel) c.self.view_is, subst (λ (k : KSeatState). SeatGoesOn k c.call-answer.new.self) same goes);
    }
