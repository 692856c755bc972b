use Rattle.std.proofs.Common.{◌<◌, length, sym, ap, ◌∙◌, subst}
use Rattle.ix_links.{specs.Chains.pushed_back, proofs.{Running.length-unlinked, Calls.{last_within, closes_back}}}
use Rattle.ix_links.proofs.links.Links.push_back.Goals as goal

pub insert-requires-clause-previous : goal.insert-requires-clause-previous
insert-requires-clause-previous c = last_within _ _ _ _ c.self.invariant
    (ap length c.unlink.ensures.items ∙ length-unlinked _ _ ∙ ap length c.as_mut_slice-items.ensures.value)
    (subst (λ v. c.args.chain < length v.chains) (sym c.self.view_is) c.requires)
    c.index_mut-ends.ensures.value

pub invariant_of-self : goal.invariant_of-self
invariant_of-self c = (closes_back _ _ _ _ _ _ _ _ _ c.self.invariant c.in_ok-index.was
    (subst (λ v. c.args.chain < length v.chains) (sym c.self.view_is) c.requires)
    c.index_mut-ends.ensures.value c.as_mut_slice-items.ensures.value c.unlink.ensures.items c.unlink.ensures.ends c.insert.ensures.items c.insert.ensures.ends).whole

pub returns-clause-pushed : goal.returns-clause-pushed
returns-clause-pushed c = (closes_back _ _ _ _ _ _ _ _ _ c.self.invariant c.in_ok-index.was
    (subst (λ v. c.args.chain < length v.chains) (sym c.self.view_is) c.requires)
    c.index_mut-ends.ensures.value c.as_mut_slice-items.ensures.value c.unlink.ensures.items c.unlink.ensures.ends c.insert.ensures.items c.insert.ensures.ends).shown
    ∙ ap (pushed_back c.args.chain) c.self.view_is
