use Rattle.std.proofs.Common.{◌≡◌, ℕ, ◌+◌, ap, sym, ◌∙◌, refl, subst, arith}
use Rattle.ix_gate.specs.{History.Grows, Seat.after_take}
use Rattle.ix_model.specs.history.Calls.{op_of}
use Rattle.ix_kernel.{specs.Seen.{KSeatState, seat_of, after_turn}, proofs.Turning.{step_grows, entry_tells}}
use Rattle.ix_kernel.proofs.seat.KSeat.try_call.Goals as goal

pub give-requires-clause-history : goal.give-requires-clause-history
give-requires-clause-history c κs = (
  c.in_ok-held.held.core.value.events,
  ap (λ (k : KSeatState). k.taken) c.in_ok-held.ensures.seat,
  subst (λ (n : ℕ). Grows seat_of n c.in_ok-held.held.core.value.events c.step-answer.new.self.core.value.events) c.number.ensures.number (step_grows _ _ _ _ _ _ c.step-answer.ensures.step),
)

pub returns : goal.returns
returns c =
    let looked : c.try_take.new.self.looks ≡ c.self.inside.seat.looks + 2 = ap (λ (k : KSeatState). k.looks) c.in_ok-held.ensures.seat in
    let looks : c.give.new.self.looks ≡ c.args.self.now.looks + 2 = ap (λ (k : KSeatState). k.looks) c.give.ensures ∙ looked ∙ ap (λ (k : KSeatState). k.looks + 2) c.self.view_is in
    let tells = entry_tells c.args.self.now c.self.inside.seat c.try_take.new.self c.give.new.self c.in_ok-held.held.core.value c.step-answer.new.self.core.value c.step-answer.result c.number.result
    c.args.line c.args.pid (op_of c.args.call.now) c.args.buf.now c.step-answer.new.buf (record {
      same = c.self.view_is;
      mine = c.number.ensures.number ∙ ap (λ (k : KSeatState). k.number) c.in_ok-held.ensures.seat ∙ ap (λ (k : KSeatState). k.number) c.self.view_is;
      base = c.in_ok-held.ensures.base;
      begins = c.in_ok-held.ensures.seen;
      own = c.in_ok-held.ensures.own;
      ended = c.in_ok-held.ensures.ended;
      free = c.self.invariant;
      looks = omega (arith, looked);
      served = c.in_ok-held.ensures.served;
      took = c.in_ok-held.ensures.seat ∙ ap (λ n. after_take c.self.inside.seat c.in_ok-held.held.core.value.events n c.try_take.new.self.look_found) (sym looked);
      back = c.give.ensures;
      did = c.step-answer.ensures;
    }) in
    record {
      seen = tells.seen;
      own = tells.own;
      turn = tells.turn;
      room = tells.room;
      fits = c.step-answer.ensures.fits;
      rest = c.step-answer.ensures.rest;
      noninterference = tells.noninterference;
      seat =
          tells.seat ∙ ap (λ n. after_turn c.args.self.now c.give.new.self.seen n c.give.new.self.look_found) looks;
      busy = tt;
      late = tt;
      buffer = tt;
      alone =
          λ _. refl;
    }
