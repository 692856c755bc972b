-- The greatest label at which a rule grants privileges.
use Rattle.std.proofs.Common.{◌≡◌, ℕ, ◌==◌, Bool, true, false, ◌&&◌, cond, List, Option, Some, None, IfSome, IfNone, refl, sym, ap, ◌∙◌, arith}
use Rattle.std.proofs.lemmas.Bool.{and_from, and_parts, eqb-true, eq-eqb}
use Rattle.std.proofs.lemmas.Option.{cond_some}
use Rattle.ix_label.specs.{Category.{Categories, leq}, Lattice.{leq-refl, leq-trans}}
use Rattle.ix_model.specs.declared.privs.PrivSet.{PrivSet}
use Rattle.ix_policy.specs.{Deciding.{decide, is_session, numbered}, declared.rule.Rule.Rule}
use Rattle.ix_policy.specs.declared.request.Request.TheVariants as request
use Rattle.ix_policing.specs.{Granting.{widest_grant, widest_of, Grants, GrantsAreListed, GrantsNowhere, IsGranted, IsWidest}, Outcomes.{allowed_by, outcome, outcome_of}}
use Rattle.ix_policing.specs.declared.outcome.Outcome.TheVariants as outcomes
use Rattle.ix_policing.proofs.{Deciders.{decided_by, decider_matches}, Outcomes.outcome_at}
use Rattle.ix_policing.proofs.Matches.{grant_is, on_grant, from_grant, OnGrant}

module _ (rules : List Rule) (n : ℕ) (want : PrivSet) (r : Rule) (there : numbered rules n ≡ Some r) where
  own : (label : Categories) → (decide rules (request.Grant label want)).rule ≡ n → OnGrant r label want
  own label is = on_grant r label want (decider_matches rules (request.Grant label want) r (ap (numbered rules) is ∙ there))

  outcome_there : (label : Categories) → (decide rules (request.Grant label want)).rule ≡ n → outcome rules (request.Grant label want) ≡ outcome_of (Some r)
  outcome_there label is = outcome_at rules (request.Grant label want) n is ∙ ap outcome_of there

  -- a rule on grants that allows what it decides grants it
  granted_there : r.allow ≡ true → (label : Categories) → (decide rules (request.Grant label want)).rule ≡ n → IsGranted rules want label
  granted_there allows label is =
      outcome_there label is ∙ ap (λ b. cond b (allowed_by r) outcomes.Denied) allows
      ∙ ap (λ a. cond (is_session a) (outcomes.Opened r.clear r.privs) outcomes.Granted) (grant_is r.act (own label is).grants)

  allows_by : (b : Bool) → r.allow ≡ b → cond b (allowed_by r) outcomes.Denied ≡ outcomes.Granted → r.allow ≡ true
  allows_by true is h = is
  allows_by false is h = cc

  allows_there : (label : Categories) → Grants rules n want label → r.allow ≡ true
  allows_there label g =
      allows_by r.allow refl (sym (outcome_there label g.decides) ∙ g.granted)

  -- a rule that decides a grant at some label does so at its own
  decides_own : (label : Categories) → (decide rules (request.Grant label want)).rule ≡ n → (decide rules (request.Grant r.clear want)).rule ≡ n
  decides_own label on =
      let o = own label on in
      let t = request.Grant r.clear want in
      let d = decided_by rules t n r there (from_grant r r.clear want (record { grants = o.grants; within = o.within; below = leq-refl r.clear })) in
      let p = on_grant d.0.rule r.clear want d.0.match_is in
      let e =
      decided_by rules (request.Grant label want) (decide rules t).rule d.0.rule d.0.there
      (from_grant d.0.rule label want (record { grants = p.grants; within = p.within; below = leq-trans label r.clear d.0.rule.clear o.below p.below })) in
      let most = d.1 in
      let least = e.1 in
      omega (arith, on)

  -- the greatest label at which it grants them is its own
  grants_own : (label : Categories) → Grants rules n want label → (widest_grant rules n want ≡ Some r.clear) × (leq label r.clear ≡ true)
  unfolding widest_grant
  grants_own label g = (
    ap (widest_of rules n want) there
        ∙ ap (λ b. cond b (Some r.clear) None)
        (and_from r.allow ((decide rules (request.Grant r.clear want)).rule == n) (allows_there label g) (eq-eqb (decide rules (request.Grant r.clear want)).rule n (decides_own label g.decides))),
    (own label g.decides).below,
  )

  widest_there : (label : Categories) → widest_of rules n want (Some r) ≡ Some label → IsWidest rules n want label
  widest_there label h =
      let p = cond_some (r.allow && ((decide rules (request.Grant r.clear want)).rule == n)) r.clear label h in
      let q = and_parts r.allow ((decide rules (request.Grant r.clear want)).rule == n) p.0 in
      let decides = eqb-true (decide rules (request.Grant r.clear want)).rule n q.1 in
      let at = p.1 in
      record {
        grants = record {
          decides = ap (λ (l : Categories). (decide rules (request.Grant l want)).rule) (sym at) ∙ decides;
          granted = ap (λ (l : Categories). outcome rules (request.Grant l want)) (sym at) ∙ granted_there q.0 r.clear decides;
        };
        greatest = λ other g. ap (leq other) (sym at) ∙ (own other g.decides).below;
      }

-- ---- of a rule, if there is one
widest_by : (rules : List Rule) (n : ℕ) (want : PrivSet) (o : Option Rule) (label : Categories) → numbered rules n ≡ o → widest_of rules n want o ≡ Some label → IsWidest rules n want label
widest_by rules n want None label there h = cc
widest_by rules n want (Some r) label there h = widest_there rules n want r there label h

pub is_widest : (rules : List Rule) (n : ℕ) (want : PrivSet) (label : Categories) → widest_grant rules n want ≡ Some label → IsWidest rules n want label
unfolding widest_grant
is_widest rules n want label h = widest_by rules n want (numbered rules n) label refl h

-- a rule that grants is there, and the label is at or below its own
listed_by : (rules : List Rule) (n : ℕ) (want : PrivSet) (o : Option Rule) (label : Categories) → numbered rules n ≡ o → Grants rules n want label
    → (widest : Categories) × (widest_grant rules n want ≡ Some widest) × (leq label widest ≡ true)
listed_by rules n want None label there g =
    let e = sym (outcome_at rules (request.Grant label want) n g.decides ∙ ap outcome_of there) ∙ g.granted in cc
listed_by rules n want (Some r) label there g =
    let p = grants_own rules n want r there label g in (r.clear, p.0, p.1)

pub is_nowhere : (rules : List Rule) (n : ℕ) (want : PrivSet) → widest_grant rules n want ≡ None → GrantsNowhere rules n want
is_nowhere rules n want h label g =
    let p = listed_by rules n want (numbered rules n) label refl g in
    let e = sym p.1 ∙ h in cc

pub listed : GrantsAreListed
listed rules want label h =
    let n = (decide rules (request.Grant label want)).rule in
    let p = listed_by rules n want (numbered rules n) label refl (record { decides = refl; granted = h }) in
    (n, p.0, p.1, p.2)

-- ---- as a clause of what is found
pub some_widest : (rules : List Rule) (n : ℕ) (want : PrivSet) (o : Option Categories) → o ≡ widest_grant rules n want → IfSome o (IsWidest rules n want)
some_widest rules n want None is = tt
some_widest rules n want (Some label) is = is_widest rules n want label (sym is)

pub none_widest : (rules : List Rule) (n : ℕ) (want : PrivSet) (o : Option Categories) → o ≡ widest_grant rules n want → IfNone o (GrantsNowhere rules n want)
none_widest rules n want None is = is_nowhere rules n want (sym is)
none_widest rules n want (Some label) is = tt
