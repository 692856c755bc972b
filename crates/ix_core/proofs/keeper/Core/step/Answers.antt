use Rattle.std.proofs.Common.{rules, true≢false, ap, sym, ◌∙◌, subst, arith}
use Rattle.ix_model.specs.{history.{Calls.op_of, Events.Event}, laws.Sound.Sound}
use Rattle.ix_iso.proofs.Noninterference.{noninterference}
use Rattle.ix_core.{specs.Marking.{AreKnown, AreReady, goes_fresh}, proofs.{Answered.{kept_next, replied}, Keeping.{few_raised, goes_by, marked_known}}}
use Rattle.ix_core.proofs.Standing.{entries_are_few, pids_core, small_journal, sound_core}
use Rattle.ix_core.proofs.keeper.Core.step.Goals as goal

pub overflow_add-place : goal.overflow_add-place
overflow_add-place g c =
    omega (
      arith,
      c.len-place.ensures,
      entries_are_few _ _ c.self.invariant.stands.fits (small_journal _ c.self.invariant.stands.valid),
    )

pub returns-then-not-takes-clause-noninterference : goal.returns-then-not-takes-clause-noninterference
returns-then-not-takes-clause-noninterference g c = noninterference _ _

pub known-requires-clause-sound : goal.known-requires-clause-sound
known-requires-clause-sound g c = subst (λ u. Sound u) (sym c.self.invariant.stands.run) (sound_core _ _ _ c.self.invariant.stands)

pub known-requires-clause-ready : goal.known-requires-clause-ready
known-requires-clause-ready g c = subst (λ u. AreReady c.self.inside.marks u.frame) (sym c.self.invariant.stands.run) c.self.invariant.marked.ready

pub known-requires-clause-known : goal.known-requires-clause-known
known-requires-clause-known g c = subst (λ u. AreKnown c.self.inside.marks u.frame) (sym c.self.invariant.stands.run)
    (marked_known _ _ c.self.invariant.stands.valid c.self.invariant.marked)

pub invariant_of-self : goal.invariant_of-self
invariant_of-self g c =
    kept_next _ _ _ _ _ _ _ _ _ _ _ _ c.self.invariant c.len-place.ensures (c.takes.ensures.0 c.if-not-takes.false) c.known.ensures.answers c.known.ensures.told c.keep.ensures

pub returns-then-goes_fresh : goal.returns-then-goes_fresh
returns-then-goes_fresh g c =
    let e : Event = record { seat = c.args.seat; line = c.args.line; pid = c.args.pid.0; op = op_of c.args.call.now } in
    let r = replied _ _ _ _ _ e _ _ _ _ c.self.invariant.stands c.self.view_is c.len-place.ensures c.known.ensures.answers in
    record {
      step = search rules;
      shown = r.shown;
      fits = r.fits;
      rest = r.rest;
      alike = r.alike;
      noninterference = noninterference _ _;
      fresh = search rules;
    }

pub own_label-requires-clause-sound : goal.own_label-requires-clause-sound
own_label-requires-clause-sound g c = subst (λ u. Sound u) (sym c.self.invariant.stands.run) (sound_core _ _ _ c.self.invariant.stands)

pub own_label-requires-clause-ready : goal.own_label-requires-clause-ready
own_label-requires-clause-ready g c = subst (λ u. AreReady c.self.inside.marks u.frame) (sym c.self.invariant.stands.run) c.self.invariant.marked.ready

pub invariant_of-self-then-is_own_label : goal.invariant_of-self-then-is_own_label
invariant_of-self-then-is_own_label g c =
    kept_next _ _ _ _ _ _ _ _ _ _ _ _ c.self.invariant c.len-place.ensures (c.takes.ensures.0 c.if-not-takes.false) c.own_label.ensures.answers c.own_label.ensures.told c.keep.ensures

pub returns-then-is_own_label : goal.returns-then-is_own_label
returns-then-is_own_label g c =
    let e : Event = record { seat = c.args.seat; line = c.args.line; pid = c.args.pid.0; op = op_of c.args.call.now } in
    let r = replied _ _ _ _ _ e _ _ _ _ c.self.invariant.stands c.self.view_is c.len-place.ensures c.own_label.ensures.answers in
    record {
      step = search rules;
      shown = r.shown;
      fits = r.fits;
      rest = r.rest;
      alike = r.alike;
      noninterference = noninterference _ _;
      fresh = search rules;
    }

pub call_checked-requires-clause-sound : goal.call_checked-requires-clause-sound
call_checked-requires-clause-sound g c = subst (λ u. Sound u) (sym c.self.invariant.stands.run) (sound_core _ _ _ c.self.invariant.stands)

pub call_checked-requires-clause-few : goal.call_checked-requires-clause-few
call_checked-requires-clause-few g c = pids_core _ _ _ c.self.invariant.stands

pub call_checked-requires-clause-ready : goal.call_checked-requires-clause-ready
call_checked-requires-clause-ready g c = subst (λ u. AreReady c.self.inside.marks u.frame) (sym c.self.invariant.stands.run) c.self.invariant.marked.ready

pub call_checked-requires-clause-raised : goal.call_checked-requires-clause-raised
call_checked-requires-clause-raised g c = few_raised _ _ c.self.invariant.stands.valid c.self.invariant.marked c.self.invariant.stands.fits

pub invariant_of-self-2 : goal.invariant_of-self-2
invariant_of-self-2 g c =
    kept_next _ _ _ _ _ _ _ _ _ _ _ _ c.self.invariant c.len-place.ensures (c.takes.ensures.0 c.if-not-takes.false) c.call_checked.ensures.answers c.call_checked.ensures.told c.keep.ensures

pub returns : goal.returns
returns g c =
    let e : Event = record { seat = c.args.seat; line = c.args.line; pid = c.args.pid.0; op = op_of c.args.call.now } in
    let r = replied _ _ _ _ _ e _ _ _ _ c.self.invariant.stands c.self.view_is c.len-place.ensures c.call_checked.ensures.answers in
    record {
      step = search rules;
      shown = r.shown;
      fits = r.fits;
      rest = r.rest;
      alike = r.alike;
      noninterference = noninterference _ _;
      fresh = λ goes. absurd (true≢false (sym goes ∙ sym (goes_by _ _ c.self.invariant.stands.valid c.self.invariant.marked _ _
          ∙ ap (λ k. goes_fresh k c.args.pid.0 (op_of c.args.call.now)) c.self.view_is) ∙ sym c.goes_fresh.ensures ∙ c.if-goes_fresh.false));
    }
