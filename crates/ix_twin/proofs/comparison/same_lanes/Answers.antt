use Rattle.std.{proofs.Common.{◌&&◌, ◌+◌, drop, sym, ap, ◌∙◌}, specs.Cmp.Lexicographic.pointwise}
use Rattle.ix_model.specs.world.Naming.{same_bytes}
use Rattle.ix_script.specs.lines.Before.{lanes_of}
use Rattle.ix_lanes.proofs.found.Indexed.{rest_is}
use Rattle.ix_twin.proofs.comparison.same_lanes.Goals as goal

pub returns-then-not-same_name : goal.returns-then-not-same_name
returns-then-not-same_name c =
    let i = c.loop-seat.seat in
    let two = rest_is _ i _ (sym c.in-Some-Some.ensures') in
    sym (c.loop-seat.invariant.left ∙ (λ j. pointwise same_bytes ((rest_is _ i _ (sym c.in-Some-Some.ensures)) j) (two j))
    ∙ ap (λ b. b && pointwise same_bytes (drop (i + 1) (lanes_of c.args.one.now)) (drop (i + 1) (lanes_of c.args.two.now))) (sym c.same_name.ensures ∙ c.if-not-same_name.true))

pub loop-seat-preserved : goal.loop-seat-preserved
loop-seat-preserved c =
    let i = c.loop-seat.seat in
    let two = rest_is _ i _ (sym c.in-Some-Some.ensures') in
    record {
      lengths = c.loop-seat.invariant.lengths;
      left = c.loop-seat.invariant.left ∙ (λ j. pointwise same_bytes ((rest_is _ i _ (sym c.in-Some-Some.ensures)) j) (two j))
          ∙ ap (λ b. b && pointwise same_bytes (drop (i + 1) (lanes_of c.args.one.now)) (drop (i + 1) (lanes_of c.args.two.now))) (sym c.same_name.ensures ∙ c.if-not-same_name.false);
    }
