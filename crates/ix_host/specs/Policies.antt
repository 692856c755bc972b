-- Rule 27, that a policy is refused. It is looked at once no line of a script breaks another rule.
use Rattle.std.specs.Prelude.{◌≡◌, ℕ, List, Option, Some, None, option_and_then, if◌then◌else◌}
use Rattle.std.specs.Result.{is_err}
use Rattle.ix_label.specs.declared.form.Form.{Form}
use Rattle.ix_policy.specs.Policies.{policy}
use Rattle.ix_script.specs.lines.Before.{form_told}
use Rattle.ix_script.specs.scripts.Scripts.{policy_of}
use Rattle.ix_script.specs.declared.line.Line.{Line}
use Rattle.ix_lanes.specs.asking.Ruled.{rules_told}
use Rattle.ix_host.specs.declared.policies.ScriptPolicy.{ScriptPolicy}
use Rattle.ix_host.specs.declared.policies.ScriptPolicy.TheVariants as policies

-- the line of a policy and rule 27, where its text has a fault in the form
abbrev pub refused_policy : Form → ℕ × List ℕ → Option (ℕ × ℕ)
refused_policy form p = if is_err (policy form p.1) then Some (p.0, 27) else None

-- the line of a script's policy and rule 27, where the policy has a fault
unfoldable pub policy_refusal : List Line → Option (ℕ × ℕ)
policy_refusal s = option_and_then (refused_policy (form_told s)) (policy_of s)

-- the policy of a script is this: these rules, or it is refused for its line
abbrev pub IsPolicy : List Line → ScriptPolicy → Type 0
IsPolicy s (policies.Rules rules) = (policy_refusal s ≡ None) × (rules ≡ rules_told s)
IsPolicy s (policies.Refused line) = (policy_refusal s ≡ Some (line, 27)) × (rules_told s ≡ None)
