-- The law that each pool keeps.
use Rattle.std.specs.Prelude.{◌≡◌, ℕ, ◌^◌, ◌<◌, if◌then◌else◌, nat_lt}
use Rattle.ix_links.specs.Chains.{Chains, lists, total, times, pool}

-- each index of the pool stands in the lists once, and no other index stands there
pub record IsPool (s : Chains) : Type 0 where
  pub once : (i : ℕ) → total (times i) (lists s) ≡ (if nat_lt i (pool s) then 1 else 0)
  pub few : pool s < 2 ^ 32
