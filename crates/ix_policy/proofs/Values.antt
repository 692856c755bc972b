-- What the value of a text says of the text.
use Rattle.std.proofs.{Common.{◌≡◌, Bool, true, false, List, ℕ, Some, None, Err, refl}, lemmas.Str.{IsUtf8-from_is_utf8, is_utf8-from_IsUtf8}}
use Rattle.std.specs.Str.{IsUtf8, is_utf8}
use Rattle.serde_json.specs.{Data.Data, Read.read}
use Rattle.ix_label.specs.declared.form.Form.{Form}
use Rattle.ix_policy.specs.Policies.{value_of, policy, rules_in}
use Rattle.ix_policy.specs.declared.fault.PolicyFault.TheVariants as fault

-- the text is UTF-8 and reads as the value
pub policy_of_value : (form : Form) (text : List ℕ) (d : Data) → IsUtf8 text → read text ≡ Some d → policy form text ≡ rules_in form d
unfolding policy value_of
policy_of_value form text d utf8 is = rw (is_utf8-from_IsUtf8 text utf8, is) refl

no_value : (form : Form) (text : List ℕ) (b : Bool) → is_utf8 text ≡ b → (IsUtf8 text → read text ≡ None) → policy form text ≡ Err fault.Syntax
unfolding policy value_of
no_value form text true is none = rw (is, none (IsUtf8-from_is_utf8 text is)) refl
no_value form text false is none = rw is refl

-- the text isn't UTF-8, or has no reading
pub policy_of_none : (form : Form) (text : List ℕ) → (IsUtf8 text → read text ≡ None) → policy form text ≡ Err fault.Syntax
policy_of_none form text none = no_value form text (is_utf8 text) refl none
