-- To whom privileges are granted.
use Rattle.std.specs.Prelude.{◌≡◌, ℕ, ◌==◌, true, ◌&&◌, List, Option, Some, None, if◌then◌else◌}
use Rattle.ix_label.specs.Category.{Categories, leq}
use Rattle.ix_model.specs.declared.privs.PrivSet.{PrivSet}
use Rattle.ix_policy.specs.Deciding.{decide, numbered}
use Rattle.ix_policy.specs.declared.request.Request.TheVariants as request
use Rattle.ix_policy.specs.declared.rule.Rule.{Rule}
use Rattle.ix_policing.specs.Outcomes.{outcome}
use Rattle.ix_policing.specs.declared.outcome.Outcome.TheVariants as outcomes

-- a process at the label is granted these privileges
abbrev pub IsGranted : List Rule → PrivSet → Categories → Type 0
IsGranted rules want label = outcome rules (request.Grant label want) ≡ outcomes.Granted

-- the rule of that number grants a process at the label these privileges
pub record Grants (rules : List Rule) (n : ℕ) (want : PrivSet) (label : Categories) : Type 0 where
  pub decides : (decide rules (request.Grant label want)).rule ≡ n
  pub granted : IsGranted rules want label

-- it does so at this label, and at none that is not at or below it
pub record IsWidest (rules : List Rule) (n : ℕ) (want : PrivSet) (label : Categories) : Type 0 where
  pub grants : Grants rules n want label
  pub greatest : (other : Categories) → Grants rules n want other → leq other label ≡ true

-- it does so nowhere
abbrev pub GrantsNowhere : List Rule → ℕ → PrivSet → Type 0
GrantsNowhere rules n want = (label : Categories) → Grants rules n want label → ⊥

-- the label of the rule, where it allows, and decides these privileges at its label
abbrev pub widest_of : List Rule → ℕ → PrivSet → Option Rule → Option Categories
widest_of rules n want None = None
widest_of rules n want (Some r) =
    if r.allow && ((decide rules (request.Grant r.clear want)).rule == n) then Some r.clear else None

-- the greatest label at which the rule of that number grants these privileges
unfoldable pub widest_grant : List Rule → ℕ → PrivSet → Option Categories
widest_grant rules n want = widest_of rules n want (numbered rules n)

-- whoever is granted these privileges is at or below the greatest label of a rule
abbrev pub GrantsAreListed : Type 0
GrantsAreListed = (rules : List Rule) (want : PrivSet) (label : Categories) → IsGranted rules want label
    → (n : ℕ) × (widest : Categories) × (widest_grant rules n want ≡ Some widest) × (leq label widest ≡ true)
