use Rattle.std.proofs.Common.{◌≡◌, ◌+◌, Some, sym, subst, ap, ◌∙◌, slice_get}
use Rattle.ix_links.{specs.Chains.chain_of, proofs.Calls.{next_in_chain, next_in_free}}
use Rattle.ix_links.proofs.links.Links.next.Goals as goal

pub returns-clause-chain : goal.returns-clause-chain
returns-clause-chain c =
    λ k n e.
    next_in_chain _ k _ n _ c.self.invariant c.index.ensures (subst (λ v. slice_get (chain_of k v) n ≡ Some c.args.index) (sym c.self.view_is) e)
    ∙ ap (λ v. slice_get (chain_of k v) (n + 1)) c.self.view_is

pub returns-clause-free : goal.returns-clause-free
returns-clause-free c =
    λ n e.
    next_in_free _ _ n _ c.self.invariant c.index.ensures (subst (λ v. slice_get v.free n ≡ Some c.args.index) (sym c.self.view_is) e)
    ∙ ap (λ v. slice_get v.free (n + 1)) c.self.view_is
