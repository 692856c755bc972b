-- The policy of a script.
use Rattle.std.specs.Prelude.{List, Option, Some, None, option_and_then, Result, Ok, Err}
use Rattle.ix_policy.specs.Policies.{policy}
use Rattle.ix_policy.specs.declared.fault.PolicyFault.{PolicyFault}
use Rattle.ix_policy.specs.declared.rule.Rule.{Rule}
use Rattle.ix_script.specs.lines.Before.{form_told}
use Rattle.ix_script.specs.scripts.Scripts.{policy_of}
use Rattle.ix_script.specs.declared.line.Line.{Line}

abbrev pub unless_refused : Result (List Rule) PolicyFault → Option (List Rule)
unless_refused (Ok rules) = Some rules
unless_refused (Err fault) = None

-- the rules of a script's policy, where it has one that isn't refused
unfoldable pub rules_told : List Line → Option (List Rule)
rules_told s = option_and_then (λ p. unless_refused (policy (form_told s) p.1)) (policy_of s)
