use Rattle.std.proofs.Common.{true, false, not, sym, ap, ◌∙◌, subst}
use Rattle.ix_model.{specs.{history.{Calls.event_of, History.world_of}, two_runs.TwoRuns.is_one_kind}, proofs.words.Runs.world_of-push}
use Rattle.ix_twin.{specs.{Configs.differ_above, Tests.is_low, Twins.{HaveAgreed, IsGiven, Twins, with_entries}}, proofs.twin.step_uncounted.Goals.{else-clear, then-clear}}
use Rattle.ix_twin.proofs.{Crossing.clear_decides, SameCalls.low_decides, Alongside.{apart_calls, apart_kinds, both_agreed, clear_with}}
use Rattle.ix_twin.proofs.twin.step_uncounted.Goals as goal

pub returns-then-not-agrees : goal.returns-then-not-agrees
returns-then-not-agrees g c =
    let agreed = subst (λ x. HaveAgreed x) (sym c.twin.view_is) c.requires.agreed in
    let apart = apart_calls (record { at = c.twin.inside.at; first = c.twin.inside.first; second = c.twin.inside.second }) agreed _ _ (sym c.agrees.ensures ∙ c.if-not-agrees.true) in
    subst (λ x. HaveAgreed (with_entries x (event_of c.args.one.now) (event_of c.args.two.now)) → ⊥) c.twin.view_is apart

pub invariant_of-twin : goal.invariant_of-twin
invariant_of-twin g c =
    let clear = clear_with _ _ _ _ c.make-first.ensures.made in (
      c.twin.invariant.0 ∙ (λ i. differ_above c.twin.inside.at (sym c.make-first.ensures.made i).config (sym c.make-second.ensures.made i).config),
      elim c.if-clear.branch [
        | then-clear w ↦
            w.twin-is ∙ ap not (w.has_crossed.ensures c.twin.inside.first _ c.make-first.ensures.made c.log_len-lines.ensures.len)
            ∙ clear true (sym w.if-clear.true ∙ c.twin.invariant.1)
        | else-clear w ↦ w.twin-is ∙ w.if-clear.false ∙ clear false (sym w.if-clear.false ∙ c.twin.invariant.1)
      ],
    )

pub invariant_of-twin-2 : goal.invariant_of-twin-2
invariant_of-twin-2 g c =
    let clear = clear_with _ _ _ _ c.make-first.ensures.made in (
      c.twin.invariant.0 ∙ (λ i. differ_above c.twin.inside.at (sym c.make-first.ensures.made i).config (sym c.make-second.ensures.made i).config),
      elim c.if-clear.branch [
        | then-clear w ↦
            w.twin-is ∙ ap not (w.has_crossed.ensures c.twin.inside.first _ c.make-first.ensures.made c.log_len-lines.ensures.len)
            ∙ clear true (sym w.if-clear.true ∙ c.twin.invariant.1)
        | else-clear w ↦ w.twin-is ∙ w.if-clear.false ∙ clear false (sym w.if-clear.false ∙ c.twin.invariant.1)
      ],
    )

pub returns-then-is_one_kind : goal.returns-then-is_one_kind
returns-then-is_one_kind g c =
    let e = event_of c.args.one.now in
    let d = event_of c.args.two.now in
    let h = c.twin.inside.first in
    let at = c.twin.inside.at in
    let t : Twins = record { at = at; first = h; second = c.twin.inside.second } in
    let made = c.make-first.ensures.made in
    let also = c.make-second.ensures.made in
    let calls = sym c.agrees.ensures ∙ c.if-not-agrees.false in
    let kind =
    (λ i. is_one_kind (sym c.make-first.ensures.given.reply i) (sym c.make-second.ensures.given.reply i)) ∙ sym c.is_one_kind.ensures ∙ c.if-is_one_kind.true in
    let all = both_agreed t (subst (λ x. HaveAgreed x) (sym c.twin.view_is) c.requires.agreed) e d calls kind in
    let entries = (λ i. record { at = at; first = made i; second = also i }) ∙ ap (λ x. with_entries x e d) c.twin.view_is in
    let low =
    c.is_low-low.ensures ∙ ap (λ x. is_low at (world_of x).frame e.pid) made ∙ ap (λ w. is_low at w.frame e.pid) (world_of-push h e) in
    record {
      entries = entries;
      agree = subst (λ x. HaveAgreed x) (sym (λ i. record { at = at; first = made i; second = also i })) all;
      first_given = subst (λ x. IsGiven x.first e c.make-first.result c.args.buf1.now c.make-first.new.buf) c.twin.view_is c.make-first.ensures.given;
      second_given = subst (λ x. IsGiven x.second d c.make-second.result c.args.buf2.now c.make-second.new.buf) c.twin.view_is c.make-second.ensures.given;
      low_after = rw (sym c.twin.view_is) (
        λ is. (low_decides at _ _).0 (sym low ∙ is),
        λ is. low ∙ (low_decides at _ _).1 is,
      );
      clear_before = rw (sym c.twin.view_is) (
        λ is. (clear_decides at _ 1 _).0 (sym c.twin.invariant.1 ∙ is),
        λ is. c.twin.invariant.1 ∙ (clear_decides at _ 1 _).1 is,
      );
    }

pub returns : goal.returns
returns g c =
    let e = event_of c.args.one.now in
    let d = event_of c.args.two.now in
    let k = c.twin.inside.second in
    let t : Twins = record { at = c.twin.inside.at; first = c.twin.inside.first; second = k } in
    let kind =
    (λ i. is_one_kind (sym c.make-first.ensures.given.reply i) (sym c.make-second.ensures.given.reply i)) ∙ sym c.is_one_kind.ensures ∙ c.if-is_one_kind.false in
    subst (λ x. HaveAgreed (with_entries x e d) → ⊥) c.twin.view_is (apart_kinds t (subst (λ x. HaveAgreed x) (sym c.twin.view_is) c.requires.agreed) e d kind)
