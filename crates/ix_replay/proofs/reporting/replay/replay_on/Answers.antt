use Rattle.std.{proofs.Common.{◌≡◌, ◌+◌, List, ℕ, length, take, sym, ◌∙◌, ap, arith, subst}, specs.Option.option_map}
use Rattle.ix_model.specs.{history.{Calls.event_of, Events.Event, History.{History, world_of, next}, Shown.AreShown}, declared.reply.Reply.Reply}
use Rattle.ix_model.proofs.clean.Showing.{shown_step}
use Rattle.ix_lanes.proofs.found.Indexed.{counted_from_one, is_there}
use Rattle.ix_replay.proofs.Remade.{Remade, remade_all, remade_next, remade_none, remade_room}
use Rattle.ix_replay.proofs.reporting.replay.replay_on.Goals as goal

pub loop-made-init : goal.loop-made-init
loop-made-init g c = record {
  made = rw c.requires.bare (remade_none c.args.history.now c.requires.fits);
  seen = λ first known. known;
}

pub unreachable-requires : goal.unreachable-requires
unreachable-requires g c = is_there c.args.history.now.events c.loop-made.made (omega (arith, c.loop-made-test.true, c.len-made-end.ensures.len))
    (sym (counted_from_one c.args.history.now.events c.loop-made.made) ∙ sym c.entry.ensures ∙ ap (option_map event_of) c.in_default.is)

pub make-reply-requires : goal.make-reply-requires
make-reply-requires g c =
    remade_room c.args.history.now c.loop-made.replay c.loop-made.made (event_of c.in-Some.entry) c.loop-made.invariant.made
    (sym (counted_from_one c.args.history.now.events c.loop-made.made) ∙ sym c.in-Some.ensures)

pub see-requires : goal.see-requires
see-requires g c =
    let old : History = c.loop-made.replay in
    let e : Event = event_of c.in-Some.entry in
    let bytes : take c.count_in.result c.make-reply.new.buf ≡ (next old e).bytes = ap (λ n. take n c.make-reply.new.buf) c.count_in.ensures ∙ c.make-reply.ensures.shown in
    record {
      shown = subst (λ (l : List ℕ). AreShown c.make-reply.result l) (sym bytes)
          (subst (λ (r : Reply). AreShown r (next old e).bytes) (sym c.make-reply.ensures.reply) (shown_step (world_of old) (length old.events + 1) e.pid e.op));
    }

pub loop-made-preserved : goal.loop-made-preserved
loop-made-preserved g c =
    let old : History = c.loop-made.replay in
    let e : Event = event_of c.in-Some.entry in
    let at = sym (counted_from_one c.args.history.now.events c.loop-made.made) ∙ sym c.in-Some.ensures in
    let bytes : take c.count_in.result c.make-reply.new.buf ≡ (next old e).bytes = ap (λ n. take n c.make-reply.new.buf) c.count_in.ensures ∙ c.make-reply.ensures.shown in
    record {
      made = subst (λ (h : History). Remade c.args.history.now h (c.loop-made.made + 1)) (sym c.make-reply.ensures.core)
          (remade_next c.args.history.now old c.loop-made.made e c.loop-made.invariant.made at);
      seen = λ first known. c.see.ensures.knows first old (record { history = c.make-reply.ensures.core; reply = c.make-reply.ensures.reply; bytes = bytes }) (c.loop-made.invariant.seen first known);
    }

pub returns : goal.returns
returns g c =
    let all = remade_all c.args.history.now c.loop-made.replay c.loop-made.made c.loop-made.invariant.made (omega (arith, c.loop-made-test.false, c.len-made-end.ensures.len)) in
    λ first known. subst (λ (h : History). g.W.Witness.knows first h c.loop-made.witness) all (c.loop-made.invariant.seen first known)
