-- What the greatest request of a rule says of the rule.
use Rattle.std.proofs.Common.{◌≡◌, ◌⊎◌, inl, inr, ℕ, ◌<◌, ◌==◌, Bool, true, false, true≢false, ◌&&◌, cond, List, Option, Some, None, refl, sym, ap, ◌∙◌, subst, arith}
use Rattle.std.proofs.lemmas.Bool.{eqb-true, eqb-false}
use Rattle.std.specs.Option.{option_map_or}
use Rattle.ix_model.specs.world.Privs.{is_empty}
use Rattle.ix_policy.specs.Deciding.{decide, is_grant, matches, numbered}
use Rattle.ix_policy.specs.declared.{request.Request.Request, rule.Rule.Rule}
use Rattle.ix_policing.specs.{Common.{common, greatest}, Covering.{covers_rule}, Reaching.{reach_at, reach_by, DeadExactly, GrantsNothing, IsReach, NeverDecides, Shadows}, Unnamed.{unnamed_user, IsUnnamed}, Within.is_within}
use Rattle.ix_policing.specs.declared.reach.Reach.{Reach}
use Rattle.ix_policing.specs.declared.reach.Reach.TheVariants as reach
use Rattle.ix_policing.proofs.{Commons.{common_asked, common_matched, common_none, common_within}, Covered.{alone, covers_matches, nothing_matches}}
use Rattle.ix_policing.proofs.Deciders.{decided_by, decider_matches, numbered_within, unnamed_at}

module _ (rules : List Rule) (n : ℕ) (r : Rule) (there : numbered rules n ≡ Some r) where
  own_match : (q : Request) → (decide rules q).rule ≡ n → matches r q ≡ true
  own_match q is = decider_matches rules q r (ap (numbered rules) is ∙ there)

  -- ---- what is said of it
  grants_nothing : (other : List ℕ) → common r r other ≡ None → GrantsNothing rules n
  grants_nothing other none = ap (λ o. option_map_or (λ (x : Rule). is_grant x.act && is_empty x.privs) o false) there ∙ common_none r other none

  shadowed : (other : List ℕ) → IsUnnamed other rules → (t : Request) → common r r other ≡ Some t → ((decide rules t).rule ≡ n → ⊥)
      → Shadows rules (decide rules t).rule n
  shadowed other unnamed t is apart =
      let d = decided_by rules t n r there (common_matched r r other t is) in
      let within = numbered_within rules (decide rules t).rule d.0.rule d.0.there in
      let most = d.1 in
      let free = unnamed_at other rules (decide rules t).rule d.0.rule unnamed d.0.there in
      record {
        there = within.0;
        earlier = omega arith;
        covers =
            ap (λ o. option_map_or (λ s. option_map_or (λ x. covers_rule s x) (numbered rules n) false) o false) d.0.there
            ∙ ap (λ o. option_map_or (λ x. covers_rule d.0.rule x) o false) there ∙ alone d.0.rule r other t is free d.0.match_is;
      }

  decided : (other : List ℕ) → other ≡ unnamed_user rules rules → IsUnnamed other rules → (t : Request) → common r r other ≡ Some t
      → (b : Bool) → ((decide rules t).rule == n) ≡ b → IsReach rules n (cond b (reach.Decides t) (reach.Shadowed (decide rules t).rule))
  decided other is_other unnamed t is true e = record {
    asked = common_asked r r other t is;
    decides = eqb-true (decide rules t).rule n e;
    greatest = λ p asked on. subst (λ (u : List ℕ). is_within u p t ≡ true) is_other (common_within r r other t p is (own_match p on) (own_match p on));
  }
  decided other is_other unnamed t is false e = shadowed other unnamed t is (eqb-false (decide rules t).rule n e)

  by_common : (other : List ℕ) → other ≡ unnamed_user rules rules → IsUnnamed other rules → (o : Option Request) → common r r other ≡ o → IsReach rules n (reach_by rules n o)
  by_common other is_other unnamed None is = grants_nothing other is
  by_common other is_other unnamed (Some t) is = decided other is_other unnamed t is ((decide rules t).rule == n) refl

  own_greatest : (other : List ℕ) → greatest (numbered rules n) (numbered rules n) other ≡ common r r other
  unfolding greatest
  own_greatest other = ap (λ o. greatest o o other) there

  pub reached : (other : List ℕ) → other ≡ unnamed_user rules rules → IsUnnamed other rules → IsReach rules n (reach_at rules other n)
  unfolding reach_at
  reached other is_other unnamed =
      subst (λ (o : Option Request). IsReach rules n (reach_by rules n o)) (sym (own_greatest other)) (by_common other is_other unnamed (common r r other) refl)

  -- ---- it is dead there
  covered_by : (i : ℕ) (o : Option Rule) → numbered rules i ≡ o → i < n
      → option_map_or (λ s. option_map_or (λ x. covers_rule s x) (numbered rules n) false) o false ≡ true → NeverDecides rules n
  covered_by i None at below h = absurd (true≢false (sym h))
  covered_by i (Some s) at below h = λ q asked is.
      let covers = sym (ap (λ o. option_map_or (λ x. covers_rule s x) o false) there) ∙ h in
      let d = decided_by rules q i s at (covers_matches s r q covers (own_match q is)) in
      let late = d.1 in omega arith

  dead : ((i : ℕ) × Shadows rules i n) ⊎ GrantsNothing rules n → NeverDecides rules n
  dead (inl s) = covered_by s.0 (numbered rules s.0) (λ _. numbered rules s.0) s.1.earlier s.1.covers
  dead (inr h) = λ q asked is.
      nothing_matches r q (sym (ap (λ o. option_map_or (λ (x : Rule). is_grant x.act && is_empty x.privs) o false) there) ∙ h) asked (own_match q is)

  -- and there alone
  pub exactly : (x : Reach) → IsReach rules n x → DeadExactly rules n
  exactly (reach.Decides q) h = (λ never. absurd (never q h.asked h.decides), dead)
  exactly (reach.Shadowed i) h = (λ never. inl (i, h), dead)
  exactly reach.GrantsNothing h = (λ never. inr h, dead)
