use Rattle.std.{proofs.Common.{◌<◌, length, sym, ap, ◌∙◌, arith}, specs.Option.is_some}
use Rattle.ix_model.specs.history.History.{world_of}
use Rattle.ix_image.proofs.{Marked.{count_some, count_none}, named.count_kept.Goals.{then-is_some, else-is_some}}
use Rattle.ix_image.proofs.named.count_kept.Goals as goal

pub loop-n-preserved : goal.loop-n-preserved
loop-n-preserved c =
    let w = world_of c.args.core.now in
    let low : c.loop-n.n < length w.frame.objects = omega (arith, c.objects-n-end.ensures, c.loop-n-test.true) in
    let seen = c.is_some.ensures ∙ ap (λ o. is_some o) c.kept.ensures in
    elim c.if-is_some.branch [
      | then-is_some z ↦ record {
        so_far = omega (arith, z.count-is, count_some w c.loop-n.n low (sym seen ∙ z.if-is_some.true), c.loop-n.invariant.so_far);
        few = omega (arith, z.count-is, c.loop-n.invariant.few);
      }
      | else-is_some z ↦ record {
        so_far = omega (arith, z.count-is, count_none w c.loop-n.n low (sym seen ∙ z.if-is_some.false), c.loop-n.invariant.so_far);
        few = omega (arith, z.count-is, c.loop-n.invariant.few);
      }
    ]
