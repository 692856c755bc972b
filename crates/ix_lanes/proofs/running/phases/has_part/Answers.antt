use Rattle.std.proofs.{Common.{◌≡◌, ◌+◌, [], drop, length, List, Some, sym, subst, arith, slice_get}, lemmas.List.drop_all}
use Rattle.ix_script.specs.{scripts.Schedule.stretches_of, declared.{line.Line.Line, schedule.Stretch.Stretch}}
use Rattle.ix_lanes.specs.running.{Phases.lines_before, Stretches.AreLeft}
use Rattle.ix_lanes.proofs.found.Indexed.{none_left, rest_is}
use Rattle.ix_lanes.proofs.phased.{Among.stretch_phase, Stretching.few_stretches, TakingPart.{empty_passed, later_there, none_left_there, one_there}}
use Rattle.ix_lanes.proofs.running.phases.has_part.Goals as goal

pub returns-in_default : goal.returns-in_default
returns-in_default c = λ all.
    let s : List Line = c.args.script.now in
    none_left_there s c.args.lane c.args.phase
    (subst (AreLeft s c.args.lane (length (lines_before c.args.phase s))) (none_left (stretches_of s c.args.lane) c.loop-n.n (sym c.in_default.ensures)) (c.loop-n.invariant.left all))

pub returns-then-phase-stretch : goal.returns-then-phase-stretch
returns-then-phase-stretch c = λ all.
    let s : List Line = c.args.script.now in
    let t : Stretch = c.in-Some.stretch in
    let at : slice_get (stretches_of s c.args.lane) c.loop-n.n ≡ Some t = sym c.in-Some.ensures in
    later_there s c.args.lane c.args.phase t _
    (subst (AreLeft s c.args.lane (length (lines_before c.args.phase s))) (rest_is (stretches_of s c.args.lane) c.loop-n.n t at) (c.loop-n.invariant.left all))
    (stretch_phase c.lanes_are_stretches.ensures.phases s c.args.lane c.loop-n.n t at) (omega (arith, c.if-phase-stretch.true))

pub returns-then-stretch : goal.returns-then-stretch
returns-then-stretch c = λ all.
    let s : List Line = c.args.script.now in
    let t : Stretch = c.in-Some.stretch in
    let at : slice_get (stretches_of s c.args.lane) c.loop-n.n ≡ Some t = sym c.in-Some.ensures in
    one_there s c.args.lane c.args.phase t _
    (subst (AreLeft s c.args.lane (length (lines_before c.args.phase s))) (rest_is (stretches_of s c.args.lane) c.loop-n.n t at) (c.loop-n.invariant.left all))
    (stretch_phase c.lanes_are_stretches.ensures.phases s c.args.lane c.loop-n.n t at) (omega (arith, c.if-phase-stretch.false)) (omega (arith, c.if-stretch.true))

pub loop-n-preserved : goal.loop-n-preserved
loop-n-preserved c =
    let s : List Line = c.args.script.now in
    let t : Stretch = c.in-Some.stretch in
    let at : slice_get (stretches_of s c.args.lane) c.loop-n.n ≡ Some t = sym c.in-Some.ensures in
    record {
      left = λ all.
          empty_passed s c.args.lane c.args.phase t (drop (c.loop-n.n + 1) (stretches_of s c.args.lane))
          (subst (AreLeft s c.args.lane (length (lines_before c.args.phase s))) (rest_is (stretches_of s c.args.lane) c.loop-n.n t at) (c.loop-n.invariant.left all))
          (omega (arith, c.if-stretch.false));
    }

pub returns : goal.returns
returns c = λ all.
    let s : List Line = c.args.script.now in
    let none : drop c.loop-n.n (stretches_of s c.args.lane) ≡ [] =
    drop_all c.loop-n.n (stretches_of s c.args.lane) (omega (arith, few_stretches s c.args.lane, c.loop-n-test.false, c.len-n-end.ensures.len)) in
    none_left_there s c.args.lane c.args.phase (subst (AreLeft s c.args.lane (length (lines_before c.args.phase s))) none (c.loop-n.invariant.left all))
