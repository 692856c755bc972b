-- The requests that are found have a text where the rules have.
use Rattle.std.proofs.Common.{◌≡◌, ℕ, zero, suc, true, List, Option, Some, None, refl, sym, ap, ◌∙◌, subst}
use Rattle.std.proofs.lemmas.Option.{get_or_from_slice_get, slice_get_within}
use Rattle.std.specs.{Option.option_map_or}
use Rattle.ix_label.specs.{Category.{Categories, all_below, meet}, Forms.{narrow, Fits}, Lattice.{leq-meet_left, leq-trans}, declared.form.Form.Form}
use Rattle.ix_label.specs.declared.form.Form.TheVariants.{One, Two}
use Rattle.ix_model.specs.world.{Naming.{same_bytes}, Privs.{is_empty}}
use Rattle.ix_text.specs.Names.{is_script_name}
use Rattle.ix_policy.specs.Deciding.{numbered}
use Rattle.ix_policy.specs.declared.{request.Request.Request, rule.{Act.Act, Rule.Rule}}
use Rattle.ix_policy.specs.declared.rule.Act.TheVariants as act
use Rattle.ix_policing.specs.{Common.{both_of, common, common_for, common_user, greatest}, Differing.{IsFirstAt}, Spelled.{AreSpelled, IsRuleSpelled, IsSpelled}, Unnamed.unnamed_user}
use Rattle.ix_policing.specs.declared.difference.{Difference.Difference, Sought.Sought}
use Rattle.ix_policing.proofs.{Commons.{grant_parts, session_parts}, Found.{has}, Spares.{unnamed_is_name}, Users.{one_user}}

fits_meet : (form : Form) (a b : Categories) → Fits form a → Fits form (meet a b)
unfolding narrow
fits_meet One a b h = leq-trans (meet a b) a (all_below 256) (leq-meet_left a b) h
fits_meet Two a b h = tt

-- a user that two rules have in common is one of theirs, or the other
named_common : (a b : Option (List ℕ)) (other user : List ℕ) → option_map_or is_script_name a true ≡ true → option_map_or is_script_name b true ≡ true
    → is_script_name other ≡ true → common_user a b other ≡ Some user → is_script_name user ≡ true
named_common None None other user h k o is = let e : other ≡ user = cc in ap is_script_name (sym e) ∙ o
named_common None (Some v) other user h k o is = let e : v ≡ user = cc in ap is_script_name (sym e) ∙ k
named_common (Some u) None other user h k o is = let e : u ≡ user = cc in ap is_script_name (sym e) ∙ h
named_common (Some u) (Some v) other user h k o is = let e : u ≡ user = (one_user (same_bytes u v) u user is).1 in ap is_script_name (sym e) ∙ h

spelled_for : (form : Form) (a b : Act) (r s : Rule) (other : List ℕ) (t : Request) → IsRuleSpelled form r → IsRuleSpelled form s → is_script_name other ≡ true
    → common_for a b r s other ≡ Some t → IsSpelled form t
spelled_for form act.Grant act.Grant r s other t h k o is =
    let p = grant_parts (is_empty (both_of r.privs s.privs)) (meet r.clear s.clear) (both_of r.privs s.privs) t is in
    subst (IsSpelled form) p.1 (fits_meet form r.clear s.clear h.fits)
spelled_for form act.Grant act.Session r s other t h k o is = cc
spelled_for form act.Session act.Grant r s other t h k o is = cc
spelled_for form act.Session act.Session r s other t h k o is =
    let p = session_parts (meet r.clear s.clear) (common_user r.user s.user other) t is in
    subst (IsSpelled form) p.2 (fits_meet form r.clear s.clear h.fits, named_common r.user s.user other p.0 h.name k.name o p.1)

spelled_common : (form : Form) (r s : Rule) (other : List ℕ) (t : Request) → IsRuleSpelled form r → IsRuleSpelled form s → is_script_name other ≡ true
    → common r s other ≡ Some t → IsSpelled form t
unfolding common
spelled_common form r s other t h k o is = spelled_for form r.act s.act r s other t h k o is

spelled_greatest : (form : Form) (x y : Option Rule) (other : List ℕ) (t : Request) → ((r : Rule) → x ≡ Some r → IsRuleSpelled form r) → ((s : Rule) → y ≡ Some s → IsRuleSpelled form s)
    → is_script_name other ≡ true → greatest x y other ≡ Some t → IsSpelled form t
unfolding greatest
spelled_greatest form None None other t h k o is = cc
spelled_greatest form (Some r) None other t h k o is = spelled_common form r r other t (h r refl) (h r refl) o is
spelled_greatest form None (Some s) other t h k o is = spelled_common form s s other t (k s refl) (k s refl) o is
spelled_greatest form (Some r) (Some s) other t h k o is = spelled_common form r s other t (h r refl) (k s refl) o is

-- a rule of a number is one of the rules
spelled_at : (form : Form) (rules : List Rule) → AreSpelled form rules → (n : ℕ) (r : Rule) → numbered rules n ≡ Some r → IsRuleSpelled form r
spelled_at form rules h zero r is = cc
spelled_at form rules h (suc j) r is =
    subst (IsRuleSpelled form) (get_or_from_slice_get rules j r r is) (h j r (slice_get_within rules j r is))

pub spelled_first : (s : Sought) (form : Form) (a b : List Rule) (d : Difference) → IsFirstAt s a b d → AreSpelled form a → AreSpelled form b → IsSpelled form d.request
spelled_first s form a b d h spelled_a spelled_b =
    let own = has s a b (unnamed_user a b) d.first.rule d.second.rule d h.found in
    spelled_greatest form (numbered a d.first.rule) (numbered b d.second.rule) (unnamed_user a b) d.request
    (spelled_at form a spelled_a d.first.rule) (spelled_at form b spelled_b d.second.rule) (unnamed_is_name a b) own.greatest
