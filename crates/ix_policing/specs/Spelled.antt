-- Which rules and requests have a text in a form.
use Rattle.std.specs.Prelude.{◌≡◌, ℕ, true, All, List, Ok}
use Rattle.std.specs.Option.{option_map_or}
use Rattle.ix_label.specs.declared.form.Form.{Form}
use Rattle.ix_label.specs.Forms.{Fits}
use Rattle.ix_text.specs.Names.{is_script_name}
use Rattle.ix_policy.specs.Policies.{policy}
use Rattle.ix_policy.specs.declared.request.Request.{Request}
use Rattle.ix_policy.specs.declared.request.Request.TheVariants as request
use Rattle.ix_policy.specs.declared.rule.Rule.{Rule}

-- the form has a text for the rule's label, and the user that the rule names, if it names one, has a name of scripts
pub record IsRuleSpelled (form : Form) (r : Rule) : Type 0 where
  pub fits : Fits form r.clear
  pub name : option_map_or is_script_name r.user true ≡ true

abbrev pub AreSpelled : Form → List Rule → Type 0
AreSpelled form rules = All (IsRuleSpelled form) rules

-- the form has a text for the request's label, and the user of a session has a name of scripts
abbrev pub IsSpelled : Form → Request → Type 0
IsSpelled form (request.Grant label want) = Fits form label
IsSpelled form (request.Session user label) = Fits form label × (is_script_name user ≡ true)

-- the rules of a text in the form have a text in it
abbrev pub ReadIsSpelled : Type 0
ReadIsSpelled = (form : Form) (text : List ℕ) (rules : List Rule) → policy form text ≡ Ok rules → AreSpelled form rules
