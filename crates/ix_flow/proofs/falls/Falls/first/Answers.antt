use Rattle.std.proofs.{Common.{◌≤◌, ◌-◌, ◌∙◌, ℕ, List, Some, IfSome, is_some, sym, ap, subst, arith}, lemmas.Map.Keys.le_from_not_gt}
use Rattle.std.specs.{Prelude.slice_get, BTreeMap.Range.{IsEntryInRange, IsLeBy}, Ordering.nat_cmp, declared.ops.Bound.TheVariants.Included}
use Rattle.ix_flow.proofs.{FirstFall.{first_noted, none_noted, not_above}, Pushing.none_later}
use Rattle.ix_flow.proofs.falls.Falls.first.Goals as goal

pub returns-then-after-eq4294967295 : goal.returns-then-after-eq4294967295
returns-then-after-eq4294967295 c = record {
  first = λ h are. sym (none_later _ 1 _ _ _ (omega (arith, are.few)));
}

pub returns-in-Some : goal.returns-in-Some
returns-in-Some c = record {
  first = λ h are.
      let found = c.in-Some.found.now in
      let from = c.new.result.start in
      let to : ℕ = c.new.result.end in
      let lies = c.range.ensures.in_range c.new.ensures.exhausted in
      let head = c.in-Some.ensures.steps in
      let one = subst (λ (es : List (ℕ × Unit {0})). IfSome (slice_get es 0) (IsEntryInRange nat_cmp (Included from) (Included to) c.args.self.now.places)) head lies.1 in
      let high : found ≤ to = le_from_not_gt found to one.0.1 in
      ap (λ k. Some (found - k)) c.key.ensures
      ∙ first_noted c.args.self.now h are c.args.object.0 c.args.after found (omega (
        arith,
        le_from_not_gt from found one.0.0,
        c.new.ensures.start,
        c.key-from.ensures,
      )) (omega (arith, high, c.new.ensures.end, c.key-to.ensures))
      (ap is_some one.1)
      (λ k least most is. le_from_not_gt found k (subst (λ (es : List (ℕ × Unit {0})). IfSome (slice_get es 0) (λ e. IsLeBy nat_cmp e.0 k)) head
      (lies.2 k (not_above from k (omega (arith, least, c.new.ensures.start, c.key-from.ensures)), not_above k to (omega (arith, most, c.new.ensures.end, c.key-to.ensures))) is)));
}

pub returns-in-None : goal.returns-in-None
returns-in-None c = record {
  first = λ h are.
      let to = c.new.result.end in
      none_noted _ h are _ _
      (λ k least most. ap is_some ((c.range.ensures.in_range c.new.ensures.exhausted).5 c.in-None.ensures.steps.0 k
      (not_above _ k (omega (arith, least, c.new.ensures.start, c.key-from.ensures)), not_above k to (omega (arith, most, c.new.ensures.end, c.key-to.ensures)))));
}
