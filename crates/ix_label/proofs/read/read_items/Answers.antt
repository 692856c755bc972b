use Rattle.std.proofs.Common.{◌∙◌, sym, true≢false, arith}
use Rattle.ix_label.proofs.{Numbers.greatest-below, Items.{IsReadTo-start, IsReadTo-more, bad_follower, all_read, shrinks}}
use Rattle.ix_label.proofs.read.read_items.Goals as goal

pub items-init : goal.items-init
items-init c = rw c.bottom-label.ensures (IsReadTo-start c.args.form c.args.text.now)

pub with_run-label-requires-clause-small : goal.with_run-label-requires-clause-small
with_run-label-requires-clause-small c = omega (arith, c.in_ok-item.ensures.small, greatest-below c.args.form)

pub returns-then-item-text : goal.returns-then-item-text
returns-then-item-text c = all_read _ _ _ _ _ _ _ _ _ c.items.invariant c.in_ok-item.ensures c.with_run-label.ensures c.if-item-text.true

pub returns-then-not-stands_at : goal.returns-then-not-stands_at
returns-then-not-stands_at c = bad_follower _ _ _ _ _ _ _ _ _ c.items.invariant c.in_ok-item.ensures c.with_run-label.ensures c.if-item-text.false
    (λ is. true≢false (sym (c.stands_at.ensures.1 is) ∙ c.if-not-stands_at.true))

pub items-smaller : goal.items-smaller
items-smaller c = shrinks _ _ _ _ _ _ _ _ _ c.items.invariant c.in_ok-item.ensures c.with_run-label.ensures (c.stands_at.ensures.0 c.if-not-stands_at.false)

pub items-preserved : goal.items-preserved
items-preserved c = IsReadTo-more _ _ _ _ _ _ _ _ _ c.items.invariant c.in_ok-item.ensures c.with_run-label.ensures (c.stands_at.ensures.0 c.if-not-stands_at.false)
