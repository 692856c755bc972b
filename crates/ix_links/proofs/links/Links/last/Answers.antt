use Rattle.std.{proofs.Common.{◌<◌, length, sym, subst, ap, ◌∙◌, None}, specs.List.last_or}
use Rattle.ix_links.{specs.Chains.chain_of, proofs.Calls.last_is}
use Rattle.ix_links.proofs.links.Links.last.Goals as goal

pub returns : goal.returns
returns c = last_is _ _ _ c.self.invariant (subst (λ v. c.args.chain < length v.chains) (sym c.self.view_is) c.requires) c.index.ensures
    ∙ ap (λ v. last_or None (chain_of c.args.chain v)) c.self.view_is
