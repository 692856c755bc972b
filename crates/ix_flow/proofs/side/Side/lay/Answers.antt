use Rattle.std.proofs.Common.{◌∙◌, sym, ap, subst, arith}
use Rattle.ix_flow.{specs.Sides.{Begins, source_in}, proofs.side.Side.lay.Goals.{then-to-self+in_ok-split, else-to-self}}
use Rattle.ix_flow.proofs.side.Side.lay.Goals as goal

pub returns-clause-there : goal.returns-clause-there
returns-clause-there c = λ n low high. c.in_ok-begin.ensures.there _ n c.clear.ensures.none low high

pub returns-clause-behind : goal.returns-clause-behind
returns-clause-behind c = λ n high low. elim c.if-to-self.branch [
  | then-to-self+in_ok-split w ↦
      let begins = subst (λ s. Begins c.args.to s.runs.entries) (sym w.self-is) w.in_ok-split.ensures.begins in
      c.in_ok-begin.ensures.behind _ n (c.clear.ensures.begins begins) c.requires.some high
      ∙ c.clear.ensures.behind begins n high
      ∙ ap (λ s. source_in s.runs.entries n) w.self-is
      ∙ w.in_ok-split.ensures.same n
  | else-to-self w ↦ absurd (omega (arith, low, high, w.if-to-self.false))
]
