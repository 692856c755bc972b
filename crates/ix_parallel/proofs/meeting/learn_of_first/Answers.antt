use Rattle.std.proofs.{Common.{◌+◌, ◌∙◌, true, arith, subst, sym, true≢false}, lemmas.Option.get_or_from_slice_get}
use Rattle.ix_parallel.{specs.Meeting.LearnOfFirst, proofs.together.Meeting.{kernel_stays, learnt_next, learnt_none, learnt_other}}
use Rattle.ix_parallel.{proofs.together.MetAt.same_kernels, proofs.meeting.learn_of_first.Goals.{then-parts-one, else-parts-one}}
use Rattle.ix_parallel.proofs.meeting.learn_of_first.Goals as goal

pub loop-one-init : goal.loop-one-init
loop-one-init g c = record { met = learnt_none c.args.parts.now c.args.lanes.now; some = omega arith }

pub meet_two-requires-clause-may : goal.meet_two-requires-clause-may
meet_two-requires-clause-may g c = same_kernels c.loop-one.lanes c.loop-one.one 0 (kernel_stays c.args.lanes.now c.loop-one.lanes c.loop-one.invariant.met.learn c.requires.kernel)

pub loop-one-preserved : goal.loop-one-preserved
loop-one-preserved g c = record {
  met = elim c.if-parts-one.branch [
    | then-parts-one w ↦ subst (LearnOfFirst c.args.parts.now (c.loop-one.one + 1) c.args.lanes.now) (sym w.lanes-is)
        (learnt_next c.args.parts.now c.loop-one.one c.args.lanes.now c.loop-one.lanes w.meet_two.new.all c.loop-one.invariant.some c.loop-one-test.true c.loop-one.invariant.met w.meet_two.ensures)
    | else-parts-one w ↦ subst (LearnOfFirst c.args.parts.now (c.loop-one.one + 1) c.args.lanes.now) (sym w.lanes-is)
        (learnt_other c.args.parts.now c.loop-one.one c.args.lanes.now c.loop-one.lanes
        (λ takes. true≢false (sym (get_or_from_slice_get c.args.parts.now c.loop-one.one true _ takes) ∙ w.if-parts-one.false)) c.loop-one.invariant.met)
  ];
  some = omega arith;
}

pub returns : goal.returns
returns g c = let h = c.loop-one.invariant.met in record {
  learn = h.learn;
  first = h.first;
  sees = λ n some low. h.sees n some (omega (arith, low, c.loop-one-test.false));
  within = h.within;
}
