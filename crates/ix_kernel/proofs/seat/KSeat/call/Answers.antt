use Rattle.std.proofs.Common.{ℕ, ap, ◌∙◌, subst}
use Rattle.ix_gate.specs.History.{Grows}
use Rattle.ix_model.specs.history.Calls.{op_of}
use Rattle.ix_kernel.{specs.Seen.{KSeatState, seat_of}, proofs.Turning.{step_grows, entry_tells}}
use Rattle.ix_kernel.proofs.seat.KSeat.call.Goals as goal

pub give-requires-clause-history : goal.give-requires-clause-history
give-requires-clause-history g c κs = (
  c.take-held.result.core.value.events,
  ap (λ (k : KSeatState). k.taken) c.take-held.ensures.seat,
  subst (λ (n : ℕ). Grows seat_of n c.take-held.result.core.value.events c.step-answer.new.self.core.value.events) c.number-number.ensures.number (step_grows _ _ _ _ _ _ c.step-answer.ensures.step),
)

pub returns : goal.returns
returns g c =
    let tells = entry_tells c.args.self.now c.self.inside.seat c.take-held.new.self c.give.new.self c.take-held.result.core.value c.step-answer.new.self.core.value
    c.step-answer.result c.number-number.result c.args.line c.args.pid (op_of c.args.call.now) c.args.buf.now c.step-answer.new.buf (record {
      same = c.self.view_is;
      mine = c.number-number.ensures.number ∙ ap (λ (k : KSeatState). k.number) c.take-held.ensures.seat ∙ ap (λ (k : KSeatState). k.number) c.self.view_is;
      base = c.take-held.ensures.base;
      begins = c.take-held.ensures.seen;
      own = c.take-held.ensures.own;
      ended = c.take-held.ensures.ended;
      free = c.self.invariant;
      looks = c.take-held.ensures.looks;
      served = c.take-held.ensures.served;
      took = c.take-held.ensures.seat;
      back = c.give.ensures;
      did = c.step-answer.ensures;
    }) in
    record {
      seen = tells.seen;
      own = tells.own;
      turn = tells.turn;
      room = tells.room;
      fits = c.step-answer.ensures.fits;
      rest = c.step-answer.ensures.rest;
      noninterference = tells.noninterference;
      looks = tells.looks;
      seat = tells.seat;
    }
