use Rattle.std.proofs.Common.{◌<◌, arith}
use Rattle.ix_label.proofs.{Texts.length-more, Walk.{IsSpelledBelow-none, IsSpelledBelow-more, IsSpelledBelow-all}}
use Rattle.ix_label.proofs.label.Label.push_runs.Goals as goal

pub loop-first-init : goal.loop-first-init
loop-first-init c = rw c.requires (IsSpelledBelow-none c.args.self.now)

pub push_item-requires : goal.push_item-requires
push_item-requires c = let small : c.in-Some.last < 512 = c.in-Some.ensures.1.small in omega
    (arith, length-more c.loop-first.out c.in-Some.first c.in-Some.last c.loop-first.from c.loop-first.invariant.room c.in-Some.ensures.0.start c.in-Some.ensures.1.order c.in-Some.ensures.1.small)

pub loop-first-preserved : goal.loop-first-preserved
loop-first-preserved c = rw c.push_item.ensures (IsSpelledBelow-more _ _ _ _ _ c.loop-first.invariant c.in-Some.ensures.0 c.in-Some.ensures.1)

pub returns-clause-items : goal.returns-clause-items
returns-clause-items c = IsSpelledBelow-all _ _ _ c.loop-first.invariant c.in_default.ensures
