use Rattle.std.proofs.Common.{◌∙◌, sym, ap, subst}
use Rattle.ix_flow.{specs.Sides.{Begins, source_in}, proofs.LastSource.{ascends, early, remove_before, remove_begins, remove_behind}}
use Rattle.ix_flow.specs.declared.source.Source.TheVariants as source
use Rattle.ix_flow.proofs.side.Side.clear.Goals as goal

pub loop-number-preserved : goal.loop-number-preserved
loop-number-preserved c = record {
  before = λ n low. ap (λ es. source_in es n) c.remove.ensures.entries
      ∙ remove_before _ n source.Gap c.loop-number.self.runs.entries (early n _ _ low c.in-Some.ensures.within.0) ∙ c.loop-number.invariant.before n low;
  begins = λ begins. subst (Begins c.args.to) (sym c.remove.ensures.entries)
      (remove_begins _ _ _ c.in-Some.ensures.within.1 (c.loop-number.invariant.begins begins));
  behind = λ begins n high. ap (λ es. source_in es n) c.remove.ensures.entries
      ∙ remove_behind 0 _ _ n _ _ (ascends _ c.first_within.ensures.ordered)
      (c.loop-number.invariant.begins begins) c.in-Some.ensures.within.1 high
      ∙ c.loop-number.invariant.behind begins n high;
  front = c.loop-number.invariant.front;
  end = c.loop-number.invariant.end;
}
