-- The walk over the elements of an array.
use Rattle.std.proofs.Common.{◌≡◌, ℕ, zero, suc, ◌+◌, ◌<◌, ◌≤◌, nat_le, List, [], ◌∷◌, length, drop, get_or, Result, Ok, Err, refl, sym, ap, ◌∙◌, add-one, true}
use Rattle.std.proofs.Common.{drop-cons, false, arith}
use Rattle.std.proofs.lemmas.Bool.Decides.{nat_tests}
use Rattle.serde_json.{specs.{Data.item, View.{view, items_view}, declared.value.Value.Value}, proofs.Views.items_len-items_view}
use Rattle.ix_label.specs.declared.form.Form.{Form}
use Rattle.ix_policy.specs.{Policies.{HasCause, next_rules, rules_after, rules_of}, declared.{fault.PolicyFault.PolicyFault, rule.Rule.Rule}}
use Rattle.ix_policy.specs.declared.fault.PolicyFault.TheVariants as fault

pub too_many : (form : Form) (vs : List Value) → 256 < length vs → rules_of form (items_view vs) ≡ Err fault.TooMany
unfolding rules_of
too_many form vs h =
    let long : nat_le (length vs) 256 ≡ false = grind (arith, nat_tests) in
    rw (items_len-items_view vs, long) refl

pub not_too_many : (form : Form) (vs : List Value) → length vs ≤ 256 → rules_of form (items_view vs) ≡ rules_after form [] (items_view vs)
unfolding rules_of
not_too_many form vs h =
    let short : nat_le (length vs) 256 ≡ true = grind (arith, nat_tests) in
    rw (items_len-items_view vs, short) refl

-- the elements from a place on begin with the one there
from_place : (vs : List Value) (i : ℕ) (v : Value) → i < length vs → v ≡ get_or vs i v → items_view (drop i vs) ≡ item (view v) (items_view (drop (i + 1) vs))
from_place vs i v within is = rw (add-one) (ap items_view (drop-cons vs i v within) ∙ ap (λ x. item (view x) (items_view (drop (suc i) vs))) (sym is))

pub one_more : (form : Form) (rules more : List Rule) (vs : List Value) (i : ℕ) (v : Value) → i < length vs → v ≡ get_or vs i v → next_rules form rules (view v) ≡ Ok more
    → rules_after form rules (items_view (drop i vs)) ≡ rules_after form more (items_view (drop (i + 1) vs))
unfolding rules_after
one_more form rules more vs i v within is next = rw (from_place vs i v within is, rules_after, next) refl

pub one_wrong : (form : Form) (rules : List Rule) (e : PolicyFault) (vs : List Value) (i : ℕ) (v : Value) → i < length vs → v ≡ get_or vs i v → next_rules form rules (view v) ≡ Err e
    → rules_after form rules (items_view (drop i vs)) ≡ Err e
unfolding rules_after
one_wrong form rules e vs i v within is next = rw (from_place vs i v within is, rules_after, next) refl

-- no elements are left past the last
pub none_left : (form : Form) (rules : List Rule) (vs : List Value) (i : ℕ) → length vs ≤ i → rules_after form rules (items_view (drop i vs)) ≡ Ok rules
unfolding rules_after
none_left form rules [] zero h = refl
none_left form rules [] (suc i) h = refl
none_left form rules (v ∷ vs) zero h = absurd (omega arith)
none_left form rules (v ∷ vs) (suc i) h = none_left form rules vs i (omega arith)

-- the fault that is due has its cause
pub cause : {X : Type 0} (e : PolicyFault) (due : Result X PolicyFault) → due ≡ Err e → HasCause e due
cause fault.Syntax due is = is
cause fault.Shape due is = is
cause fault.TooMany due is = is
cause (fault.Rule index f) due is = is
cause fault.NoMemory due is = tt

-- the cause of one fault is that of another that comes of it
pub cause_of : {X Y : Type 0} (e : PolicyFault) (a : Result X PolicyFault) (b : Result Y PolicyFault) → ((f : PolicyFault) → a ≡ Err f → b ≡ Err f) → HasCause e a → HasCause e b
cause_of fault.Syntax a b h is = h fault.Syntax is
cause_of fault.Shape a b h is = h fault.Shape is
cause_of fault.TooMany a b h is = h fault.TooMany is
cause_of (fault.Rule index f) a b h is = h (fault.Rule index f) is
cause_of fault.NoMemory a b h is = tt
