use Rattle.std.{proofs.Common.{◌≡◌, Some, sym, subst, ◌∙◌}, specs.Prelude.slice_get}
use Rattle.ix_model.specs.history.History.{world_of}
use Rattle.ix_image.{specs.Saving.names_at, proofs.Marked.{names_are, one_marked, entry_there, next_there}}
use Rattle.ix_image.proofs.named.mark_names.Goals as goal

pub loop-preserved : goal.loop-preserved
loop-preserved c =
    let w = world_of c.args.core.now in
    let here = entry_there _ _ _ (names_at w c.args.dir.0) c.loop.counter c.in-Some-next.is c.loop.invariant.next in
    record {
      long = c.mark.auto.named ∙ c.loop.invariant.long;
      next = next_there w _ _ _ _ _ (names_are w _ _ (sym c.in-Some.ensures)).0
          (subst (λ name. slice_get (names_at w c.args.dir.0) c.loop.counter ≡ Some (name, c.in-Some-next.entry.1.0)) (sym c.as_ref.ensures) here) c.named_after-next.ensures.next;
      marks = one_marked (names_at w c.args.dir.0) c.loop.counter _ _ _ _ here c.loop.invariant.long c.mark.ensures c.loop.invariant.marks;
    }
