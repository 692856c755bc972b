-- Which rules of a policy ever decide.
use Rattle.std.specs.Prelude.{◌≡◌, ℕ, ◌<◌, ◌==◌, ◌↔◌, ◌⊎◌, true, false, ◌&&◌, List, Option, Some, None, if◌then◌else◌}
use Rattle.std.specs.Option.{option_map_or}
use Rattle.ix_model.specs.world.Privs.{is_empty}
use Rattle.ix_policy.specs.Deciding.{decide, is_grant, numbered}
use Rattle.ix_policy.specs.declared.request.Request.{Request}
use Rattle.ix_policy.specs.declared.rule.Rule.{Rule}
use Rattle.ix_policing.specs.Common.{greatest}
use Rattle.ix_policing.specs.Covering.{covers_number}
use Rattle.ix_policing.specs.Outcomes.{is_asked}
use Rattle.ix_policing.specs.Unnamed.{unnamed_user}
use Rattle.ix_policing.specs.Within.{is_within}
use Rattle.ix_policing.specs.declared.reach.Reach.{Reach}
use Rattle.ix_policing.specs.declared.reach.Reach.TheVariants as reach

-- ---- what it means
-- whatever a client asks, the rule of that number does not decide it
abbrev pub NeverDecides : List Rule → ℕ → Type 0
NeverDecides rules n = (q : Request) → is_asked q ≡ true → (decide rules q).rule ≡ n → ⊥

-- the rule i stands before the rule n, and covers it alone
pub record Shadows (rules : List Rule) (i n : ℕ) : Type 0 where
  pub there : 0 < i
  pub earlier : i < n
  pub covers : covers_number rules i n ≡ true

-- the rule of that number is on grants of no privilege
abbrev pub GrantsNothing : List Rule → ℕ → Type 0
GrantsNothing rules n = option_map_or (λ (r : Rule). is_grant r.act && is_empty r.privs) (numbered rules n) false ≡ true

-- the rule of that number is dead exactly where one earlier rule covers it alone, or it is on grants of no privilege
abbrev pub DeadExactly : List Rule → ℕ → Type 0
DeadExactly rules n = NeverDecides rules n ↔ (((i : ℕ) × Shadows rules i n) ⊎ GrantsNothing rules n)

-- a client can ask the request, the rule of that number decides it, and each request that this rule decides is within it
pub record IsGreatest (rules : List Rule) (n : ℕ) (q : Request) : Type 0 where
  pub asked : is_asked q ≡ true
  pub decides : (decide rules q).rule ≡ n
  pub greatest : (p : Request) → is_asked p ≡ true → (decide rules p).rule ≡ n → is_within (unnamed_user rules rules) p q ≡ true

-- what is said of the rule of that number is so
abbrev pub IsReach : List Rule → ℕ → Reach → Type 0
IsReach rules n (reach.Decides q) = IsGreatest rules n q
IsReach rules n (reach.Shadowed i) = Shadows rules i n
IsReach rules n reach.GrantsNothing = GrantsNothing rules n

-- ---- how it is found
-- what the rule that decides a request says of the rule of that number, where the request is the greatest that this one matches
abbrev pub reach_by : List Rule → ℕ → Option Request → Reach
reach_by rules n None = reach.GrantsNothing
reach_by rules n (Some q) = if (decide rules q).rule == n then reach.Decides q else reach.Shadowed (decide rules q).rule

-- what is said of the rule of that number, where no rule names the other user
unfoldable pub reach_at : List Rule → List ℕ → ℕ → Reach
reach_at rules other n = reach_by rules n (greatest (numbered rules n) (numbered rules n) other)
