use Rattle.std.proofs.{Common.{◌+◌, ◌∙◌, true, arith, subst, sym, true≢false}, lemmas.Option.get_or_from_slice_get}
use Rattle.ix_parallel.{specs.Meeting.FirstLearns, proofs.together.Meeting.{heard_next, heard_none, heard_other, kernel_stays}}
use Rattle.ix_parallel.{proofs.together.MetAt.same_kernels, proofs.meeting.first_learns.Goals.{then-parts-other, else-parts-other}}
use Rattle.ix_parallel.proofs.meeting.first_learns.Goals as goal

pub loop-other-init : goal.loop-other-init
loop-other-init g c = record { met = heard_none c.args.parts.now c.args.lanes.now; some = omega arith }

pub meet_two-requires-clause-may : goal.meet_two-requires-clause-may
meet_two-requires-clause-may g c = same_kernels c.loop-other.lanes 0 c.loop-other.other (kernel_stays c.args.lanes.now c.loop-other.lanes c.loop-other.invariant.met.learn c.requires.kernel)

pub loop-other-preserved : goal.loop-other-preserved
loop-other-preserved g c = record {
  met = elim c.if-parts-other.branch [
    | then-parts-other w ↦ subst (FirstLearns c.args.parts.now (c.loop-other.other + 1) c.args.lanes.now) (sym w.lanes-is)
        (heard_next c.args.parts.now c.loop-other.other c.args.lanes.now c.loop-other.lanes w.meet_two.new.all c.loop-other.invariant.some c.loop-other-test.true c.loop-other.invariant.met
        w.meet_two.ensures)
    | else-parts-other w ↦ subst (FirstLearns c.args.parts.now (c.loop-other.other + 1) c.args.lanes.now) (sym w.lanes-is)
        (heard_other c.args.parts.now c.loop-other.other c.args.lanes.now c.loop-other.lanes
        (λ takes. true≢false (sym (get_or_from_slice_get c.args.parts.now c.loop-other.other true _ takes) ∙ w.if-parts-other.false)) c.loop-other.invariant.met)
  ];
  some = omega arith;
}

pub returns : goal.returns
returns g c = let h = c.loop-other.invariant.met in record {
  learn = h.learn;
  others = h.others;
  sees = λ n some low. h.sees n some (omega (arith, low, c.loop-other-test.false));
}
