-- What a policy decides on a request.
use Rattle.std.specs.Prelude.{ℕ, zero, suc, ◌+◌, List, [], ◌∷◌, Bool, true, false, ◌&&◌, Option, None, Some, slice_get, if◌then◌else◌}
use Rattle.ix_label.specs.Category.{leq}
use Rattle.ix_model.specs.world.Naming.{same_bytes}
use Rattle.ix_model.specs.world.Privs.{has_all}
use Rattle.ix_model.specs.declared.privs.PrivSet.{PrivSet}
use Rattle.ix_policy.specs.declared.request.Request.{Request}
use Rattle.ix_policy.specs.declared.request.Request.TheVariants as request
use Rattle.ix_policy.specs.declared.request.Verdict.{Verdict}
use Rattle.ix_policy.specs.declared.rule.Act.{Act}
use Rattle.ix_policy.specs.declared.rule.Act.TheVariants as act
use Rattle.ix_policy.specs.declared.rule.Rule.{Rule}

abbrev pub is_grant : Act → Bool
is_grant act.Grant = true
is_grant act.Session = false

abbrev pub is_session : Act → Bool
is_session act.Grant = false
is_session act.Session = true

-- whether the user is the one that a rule names, if it names one
abbrev pub covers : Option (List ℕ) → List ℕ → Bool
covers None name = true
covers (Some own) name = same_bytes own name

-- whether the rule is on grants, and what is wanted is within its privileges
abbrev pub is_on_grant : Rule → PrivSet → Bool
is_on_grant r want = is_grant r.act && has_all r.privs want

-- whether the rule is on sessions of that user
abbrev pub is_on_session : Rule → List ℕ → Bool
is_on_session r name = is_session r.act && covers r.user name

-- whether the rule matches the request: its label has to be at or below the rule's
unfoldable pub matches : Rule → Request → Bool
matches r (request.Grant label want) = is_on_grant r want && leq label r.clear
matches r (request.Session name label) = is_on_session r name && leq label r.clear

-- the number of the first of these rules that matches, where so many stand before them, and what it says; where none does,
-- rule 0 and denial
unfoldable pub decide_from : ℕ → List Rule → Request → Verdict
decide_from n [] q = record { rule = 0; allow = false }
decide_from n (r ∷ rules) q = if matches r q then record { rule = n + 1; allow = r.allow } else decide_from (n + 1) rules q

-- what the rules decide
unfoldable pub decide : List Rule → Request → Verdict
decide rules q = decide_from 0 rules q

-- the rule of a number, from 1
abbrev pub numbered : List Rule → ℕ → Option Rule
numbered rules zero = None
numbered rules (suc n) = slice_get rules n
