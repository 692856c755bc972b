use Rattle.std.proofs.Common.{◌+◌, drop, sym, ap, ◌∙◌, arith}
use Rattle.ix_image.{specs.Trees.home, proofs.Counting.{home_here, home_further, home_past}}
use Rattle.ix_image.proofs.systems.home.Goals as goal

pub returns-then-rest-fs : goal.returns-then-rest-fs
returns-then-rest-fs c = sym (home_here _ _ _ _ (omega arith) c.index-fss-k.is c.if-rest-fs.true) ∙ c.loop-k.invariant

pub loop-k-preserved : goal.loop-k-preserved
loop-k-preserved c = home_further _ _ _ _ (omega arith) c.index-fss-k.is c.if-rest-fs.false ∙ c.loop-k.invariant

pub returns : goal.returns
returns c =
    sym (home_past _ c.loop-k.rest) ∙ ap (λ k. k + home (drop k c.args.fss.now) c.loop-k.rest) (sym (omega arith)) ∙ c.loop-k.invariant
