use Rattle.std.proofs.Common.{[], ◌∷◌, length, length-append, ap, arith}
use Rattle.ix_script.proofs.reader.Scheduling.{none_yet, none_more}
use Rattle.ix_script.proofs.schedule.no_stretches.Goals as goal

pub lists-init : goal.lists-init
lists-init c = (ap length c.new-lists.ensures.items, none_yet _ c.new-lists.ensures.items)

pub lists-preserved : goal.lists-preserved
lists-preserved c = (
  omega (arith, ap length c.in_ok-push.ensures.items, length-append c.lists.lists.items (c.in_ok-with_capacity.field-0 ∷ []), c.lists.invariant.0),
  none_more _ _ _ c.in_ok-with_capacity.ensures.items c.in_ok-push.ensures.items c.lists.invariant.1,
)
