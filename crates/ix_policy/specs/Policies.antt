-- What a text is as a policy: its rules, or its fault. A JSON text is the value that `serde_json` reads. Of a key that stands
-- twice in an object the value has the last alone, so the keys of an object are different.
use Rattle.std.specs.Prelude.{◌≡◌, All, ℕ, ◌+◌, ◌==◌, nat_le, List, [], ◌∷◌, ◌++◌, length, Option, Some, None, option_and_then, if◌then◌else◌, Result, Ok, Err, codes}
use Rattle.std.specs.Option.{option_map_or}
use Rattle.std.specs.Str.{is_utf8}
use Rattle.serde_json.specs.Data.{Data, Items, no_items, item}
use Rattle.serde_json.specs.Read.{read}
use Rattle.serde_json.specs.Find.{get, as_array}
use Rattle.serde_json.specs.Events.{items_len}
use Rattle.ix_label.specs.declared.form.Form.{Form}
use Rattle.ix_label.specs.Forms.{Fits}
use Rattle.ix_policy.specs.Fields.{act_at, user_at, clear_at, privs_at, allow_at, key_count}
use Rattle.ix_policy.specs.declared.fault.Field.{Field}
use Rattle.ix_policy.specs.declared.fault.Field.TheVariants as field
use Rattle.ix_policy.specs.declared.fault.PolicyFault.{PolicyFault}
use Rattle.ix_policy.specs.declared.fault.PolicyFault.TheVariants as fault
use Rattle.ix_policy.specs.declared.rule.Rule.{Rule}

-- ---- one rule
-- goes on with what the field is; where it is wrong, that is the fault
abbrev pub with_field : {X Y : Type 0} → Field → Option X → (X → Result Y Field) → Result Y Field
with_field f None more = Err f
with_field f (Some x) more = more x

-- the rule that a value is, or its first wrong field. Where the five are right, more than five keys are a further one
unfoldable pub rule_of : Form → Data → Result Rule Field
rule_of form d =
    with_field field.Act (act_at d) (λ a.
    with_field field.User (user_at a d) (λ u.
    with_field field.Clear (clear_at form d) (λ c.
    with_field field.Privs (privs_at d) (λ p.
    with_field field.Allow (allow_at d) (λ b.
    if key_count d == 5 then Ok (record { act = a; user = u; clear = c; privs = p; allow = b }) else Err field.Other)))))

-- ---- all rules
-- these rules and that of the element, or its number, from 1, and its first wrong field
unfoldable pub next_rules : Form → List Rule → Data → Result (List Rule) PolicyFault
next_rules form rules d = elim (rule_of form d) [
  | Ok r ↦ Ok (rules ++ r ∷ [])
  | Err f ↦ Err (fault.Rule (length rules + 1) f)
]

-- these rules and those of the elements, or the fault of the first that is wrong
unfoldable pub rules_after : Form → List Rule → Items → Result (List Rule) PolicyFault
rules_after form rules no_items = Ok rules
rules_after form rules (item d ds) = elim (next_rules form rules d) [
  | Ok more ↦ rules_after form more ds
  | Err e ↦ Err e
]

-- the rules of at most 256 elements
unfoldable pub rules_of : Form → Items → Result (List Rule) PolicyFault
rules_of form ds = if nat_le (items_len ds) 256 then rules_after form [] ds else Err fault.TooMany

-- ---- the whole text
-- the elements of the array under the one key `rules`
unfoldable pub elements : Data → Option Items
elements d = if key_count d == 1 then option_and_then as_array (get (codes "rules") d) else None

-- the rules in a value
unfoldable pub rules_in : Form → Data → Result (List Rule) PolicyFault
rules_in form d = option_map_or (rules_of form) (elements d) (Err fault.Shape)

-- the value of a text
unfoldable pub value_of : List ℕ → Option Data
value_of text = if is_utf8 text then read text else None

-- the rules of a text whose labels have the form, or its fault, which is never of memory
unfoldable pub policy : Form → List ℕ → Result (List Rule) PolicyFault
policy form text = option_map_or (rules_in form) (value_of text) (Err fault.Syntax)

-- the form has a text for the label of each rule
abbrev pub RulesFit : Form → List Rule → Type 0
RulesFit form rules = All (λ (r : Rule). Fits form r.clear) rules

-- ---- what is told
-- a fault that is told is the one that is due, unless it is of memory
abbrev pub HasCause : {X : Type 0} → PolicyFault → Result X PolicyFault → Type 0
HasCause fault.Syntax wanted = wanted ≡ Err fault.Syntax
HasCause fault.Shape wanted = wanted ≡ Err fault.Shape
HasCause fault.TooMany wanted = wanted ≡ Err fault.TooMany
HasCause (fault.Rule index f) wanted = wanted ≡ Err (fault.Rule index f)
HasCause fault.NoMemory wanted = Unit {0}
