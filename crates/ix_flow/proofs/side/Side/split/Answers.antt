use Rattle.std.proofs.Common.{◌∙◌, refl, sym, ap, subst}
use Rattle.ix_flow.{specs.Sides.{Begins, source_in}, proofs.LastSource.{ascends, insert_begins, split_same}}
use Rattle.ix_flow.proofs.side.Side.split.Goals as goal

pub returns-in-Ok : goal.returns-in-Ok
returns-in-Ok c = record {
  same = λ n. ap (λ es. source_in es n) c.in-Ok.ensures.entries
      ∙ split_same _ _ _ (ascends _ c.insert.ensures.was_ordered) c.source-source.ensures n;
  begins = subst (Begins c.args.number) (sym c.in-Ok.ensures.entries) (insert_begins c.args.number c.source-source.result c.args.self.now.runs.entries);
  front = refl;
  end = refl;
}
