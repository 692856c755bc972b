use Rattle.std.proofs.Common.{◌+◌, sym, ap, ◌∙◌, arith}
use Rattle.ix_links.specs.Chains.{all_free}
use Rattle.ix_proc.{specs.Table.no_processes, proofs.{Laying.{are_none, no_tables}, Starting.kin_none}}
use Rattle.ix_proc.proofs.procs.Procs.new.Goals as goal

pub invariant_of-result : goal.invariant_of-result
invariant_of-result c = (
  are_none _ _ c.in_ok-slots.ensures.items,
  kin_none _ _ _ _ c.in_ok-slots.ensures.items (c.in_ok-kin.ensures ∙ ap (all_free _) c.in-Some.ensures.1
      ∙ ap (λ m. all_free m (m + 1)) (sym c.in_ok-slots.ensures.exact)),
  omega (arith, c.in_ok-records.ensures.len, c.in_ok-records.records.ok, c.in_ok-slots.ensures.exact),
  omega (arith, c.in_ok-slots.ensures.exact, c.ranges.procs),
)

pub returns : goal.returns
returns c = no_tables _ _ _ c.in_ok-slots.ensures.items ∙ ap no_processes c.in_ok-slots.ensures.exact
