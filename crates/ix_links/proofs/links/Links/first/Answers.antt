use Rattle.std.proofs.Common.{◌<◌, length, sym, subst, ap, ◌∙◌, slice_get}
use Rattle.ix_links.{specs.Chains.chain_of, proofs.Calls.first_is}
use Rattle.ix_links.proofs.links.Links.first.Goals as goal

pub returns : goal.returns
returns c = first_is _ _ _ c.self.invariant (subst (λ v. c.args.chain < length v.chains) (sym c.self.view_is) c.requires) c.index.ensures
    ∙ ap (λ v. slice_get (chain_of c.args.chain v) 0) c.self.view_is
