-- What the law of a pool says of the indices that stand in its chains.
use Rattle.std.proofs.Common.{◌≡◌, ℕ, ◌+◌, ◌<◌, ◌≤◌, Bool, true, false, List, [], ◌∷◌, length, set, Some, ◌++◌, drop, refl, sym, ap, ◌∙◌, arith, slice_get}
use Rattle.std.{proofs.lemmas.Option.same_Some, specs.List.Contains}
use Rattle.ix_links.specs.{Chains.{Chains, chain_of, times, pushed_back, back_moved}, Whole.IsPool}
use Rattle.ix_links.proofs.{Listing.part-le-total, Held.{contained, times_at, chain_within, held-not_free, at_most_once}, Members.{member, place_of}}

-- an index of a chain is a member of it, and there once
module _ (s : Chains) (pooled : IsPool s) where
  pub once : (c : ℕ) (i : ℕ) → member i (chain_of c s) ≡ true → times i (chain_of c s) ≤ 1
  once c i h = let p = place_of i _ h in omega (arith, at_most_once s i pooled, part-le-total (times i) s.chains c (chain_within s c p.0 i p.1))

  pub stands_within : (c i : ℕ) → member i (chain_of c s) ≡ true → c < length s.chains
  stands_within c i h = let p = place_of i _ h in chain_within s c _ i p.1

  pub stands_contained : (c i : ℕ) → member i (chain_of c s) ≡ true → Contains (chain_of c s) i
  stands_contained c i h = let p = place_of i _ h in contained _ _ i p.1

  -- a free index stands in no chain
  pub fresh : (i : ℕ) → slice_get s.free 0 ≡ Some i → (c : ℕ) → member i (chain_of c s) ≡ false
  fresh i free c = go _ refl
    where
      go : (b : Bool) → member i (chain_of c s) ≡ b → member i (chain_of c s) ≡ false
      go false h = h
      go true h =
          let p = place_of i _ h in
          absurd (omega (arith, held-not_free s c p.0 i pooled p.1, times_at s.free 0 i free))

-- the first free index goes to the end of a chain
pub record Pushed (d i : ℕ) (s : Chains) : Type 0 where
  pub chains : (pushed_back d s).chains ≡ set s.chains d (chain_of d s ++ i ∷ [])
  pub free : (pushed_back d s).free ≡ drop 1 s.free
  pub fewer : length (pushed_back d s).free + 1 ≡ length s.free

pub pushed : (d i : ℕ) (s : Chains) → slice_get s.free 0 ≡ Some i → Pushed d i s
pushed d i s first = go s.free refl first
  where
    go : (free : List ℕ) → s.free ≡ free → slice_get free 0 ≡ Some i → Pushed d i s
    go [] is h = absurd (cc h)
    go (x ∷ xs) is h =
        let moved : pushed_back d s ≡ back_moved d (x ∷ xs) s.chains = ap (λ zs. back_moved d zs s.chains) is in
        let one : x ≡ i = same_Some x i h in
        record {
          chains = ap (λ (t : Chains). t.chains) moved ∙ ap (λ j. set s.chains d (chain_of d s ++ j ∷ [])) one;
          free = ap (λ (t : Chains). t.free) moved ∙ ap (drop 1) (sym is);
          fewer = omega (arith, ap (λ (t : Chains). length t.free) moved, ap length is);
        }
