-- How the store's fields hold the blocks.
use Rattle.std.specs.Prelude.{◌≡◌, ℕ, ◌<◌, List, [], ◌∷◌, ◌++◌, length, map, get_or}
use Rattle.ix_links.specs.Chains.{Chains, pool}
use Rattle.ix_links.specs.Whole.{IsPool}
use Rattle.ix_blocks.specs.declared.store.Store.TheInside.{Inside}
use Rattle.ix_blocks.specs.Wholes.{Wholes}

-- the bytes of the blocks of a chain, one behind the other
abbrev pub flat : List (List ℕ) → List ℕ → List ℕ
flat blocks [] = []
flat blocks (b ∷ bs) = get_or blocks b [] ++ flat blocks bs

-- those of each chain
abbrev pub flats : List (List ℕ) → List (List ℕ) → List (List ℕ)
flats blocks cs = map (λ c. flat blocks c) cs

-- the chains keep their law, and there is a block of 512 bytes for each index of the pool
pub record AreRows (s : Chains) (blocks : List (List ℕ)) : Type 0 where
  pub law : IsPool s
  pub each : length blocks ≡ pool s
  pub sized : (b : ℕ) → b < length blocks → length (get_or blocks b []) ≡ 512

-- the bytes of the blocks in chains, and how many blocks are free
abbrev pub held_in : Chains → List (List ℕ) → Wholes
held_in s blocks = record { wholes = flats blocks s.chains; free = length s.free }

abbrev pub store_view : Inside → Wholes
store_view s = held_in s.links s.blocks.items

abbrev pub IsStore : Inside → Type 0
IsStore s = AreRows s.links s.blocks.items
