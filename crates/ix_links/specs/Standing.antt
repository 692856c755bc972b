-- How the fields hold the lists.
use Rattle.std.specs.Prelude.{◌≡◌, ℕ, zero, suc, ◌^◌, ◌<◌, List, [], ◌∷◌, length, map, Option, Some, None, if◌then◌else◌, nat_lt, slice_get}
use Rattle.std.specs.List.{last_or}
use Rattle.ix_links.specs.declared.link.Link.{Link}
use Rattle.ix_links.specs.declared.link.Ends.{Ends}
use Rattle.ix_links.specs.declared.links.Links.TheInside.{Inside}
use Rattle.ix_links.specs.Chains.{Chains, lists, total, times}
use Rattle.ix_links.specs.Linking.{link_at}

-- the items met from one on, at most so many
abbrev pub walk : List Link → ℕ → Option ℕ → List ℕ
walk items zero from = []
walk items (suc n) None = []
walk items (suc n) (Some i) = i ∷ walk items n (link_at items i).next

-- what stands first in a list, or else behind it
abbrev pub head_or : List ℕ → Option ℕ → Option ℕ
head_or [] q = q
head_or (x ∷ xs) q = Some x

-- the items of a list are linked in its order, behind p and before q
abbrev pub Runs : List Link → Option ℕ → List ℕ → Option ℕ → Type 0
Runs items p [] q = Unit {0}
Runs items p (i ∷ xs) q = (slice_get items i ≡ Some (record { previous = p; next = head_or xs q })) × Runs items (Some i) xs q

-- a list is the chain between these ends
pub record IsChain (items : List Link) (e : Ends) (xs : List ℕ) : Type 0 where
  pub runs : Runs items None xs None
  pub first : e.first ≡ head_or xs None
  pub last : e.last ≡ last_or None xs

-- each list is the chain between its ends
abbrev pub AreChains : List Link → List Ends → List (List ℕ) → Type 0
AreChains items [] [] = Unit {0}
AreChains items [] (xs ∷ xss) = ⊥
AreChains items (e ∷ es) [] = ⊥
AreChains items (e ∷ es) (xs ∷ xss) = IsChain items e xs × AreChains items es xss

-- the lists are the chains, and together they hold each index of the items once
pub record Hold (items : List Link) (es : List Ends) (xss : List (List ℕ)) : Type 0 where
  pub chains : AreChains items es xss
  pub once : (i : ℕ) → total (times i) xss ≡ (if nat_lt i (length items) then 1 else 0)
  pub all : total length xss ≡ length items

-- the lists of a pool
abbrev pub links_view : Inside → Chains
links_view s =
    let n = length s.items.items in
    record { chains = map (λ (e : Ends). walk s.items.items n e.first) s.chains.items; free = walk s.items.items n s.unused.first }

pub record IsSound (s : Inside) : Type 0 where
  pub hold : Hold s.items.items (s.unused ∷ s.chains.items) (lists (links_view s))
  pub counted : s.free ≡ length (links_view s).free
  pub few : length s.items.items < 2 ^ 32
