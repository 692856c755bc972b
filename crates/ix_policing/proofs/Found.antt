-- What the differences of pairs of rules say of the policies.
use Rattle.std.proofs.Common.{◌≡◌, inl, inr, ℕ, ◌+◌, ◌<◌, ◌==◌, Bool, true, false, true≢false, not, cond, List, length, Option, Some, None, IfSome, IfNone, refl, sym, ap, ◌∙◌, subst, arith}
use Rattle.std.proofs.lemmas.Bool.{and_from, and_parts, eqb-true, eq-eqb, not-true}
use Rattle.std.proofs.lemmas.Option.{cond_some}
use Rattle.ix_policy.specs.Deciding.{decide, numbered}
use Rattle.ix_policy.specs.declared.{request.Request.Request, rule.Rule.Rule}
use Rattle.ix_policing.specs.{Common.{greatest}, Outcomes.{is_asked, is_denied, outcome, outcome_of, ruling, same_outcome}, Unnamed.{unnamed_user, IsUnnamed}, Within.is_within}
use Rattle.ix_policing.specs.Differing.{are_deciders, differ, difference_at, difference_on, AllowsMore, AllowsNoMore, AreAlike, Differ, DifferencesAreOfRules, IsFirst, IsFirstAt, IsFirstOfRule, IsSought, RulesThatDifferHaveOne}
use Rattle.ix_policing.specs.declared.difference.{Difference.Difference, Sought.Sought}
use Rattle.ix_policing.specs.declared.difference.Sought.TheVariants as sought
use Rattle.ix_policing.specs.declared.outcome.Outcome.TheVariants as outcomes
use Rattle.ix_policing.proofs.{Commons.greatest_asked, Deciders.decided_within, Outcomes.{outcome_at, same_from, same_is, undecided_denied}, Pairs.{stands, Stands}, Spares.{first_unnamed, second_unnamed}}

-- ---- the difference of a pair of rules
-- the difference on a request that these rules decide
the_difference : List Rule → List Rule → ℕ → ℕ → Request → Difference
the_difference a b k l q = record {
  request = q;
  first = record { rule = k; outcome = outcome_of (numbered a k) };
  second = record { rule = l; outcome = outcome_of (numbered b l) };
}

-- what it says that a pair of rules has a difference
pub record HasDifference (s : Sought) (a b : List Rule) (other : List ℕ) (k l : ℕ) (d : Difference) : Type 0 where
  pub greatest : greatest (numbered a k) (numbered b l) other ≡ Some d.request
  pub is_sought : IsSought s a b d.request
  pub first : d.first ≡ ruling a d.request
  pub second : d.second ≡ ruling b d.request
  pub rule : d.first.rule ≡ k
  pub other_rule : d.second.rule ≡ l

when_some : (b : Bool) (o : Option Difference) (d : Difference) → cond b o None ≡ Some d → (b ≡ true) × (o ≡ Some d)
when_some true o d h = (refl, h)
when_some false o d h = cc

on_some : (a b : List Rule) (k l : ℕ) (o : Option Request) (d : Difference) → difference_on a b k l o ≡ Some d
    → (q : Request) × (o ≡ Some q) × (are_deciders a b k l q ≡ true) × (the_difference a b k l q ≡ d)
unfolding the_difference
on_some a b k l None d h = cc
on_some a b k l (Some q) d h =
    let p = cond_some (are_deciders a b k l q) (the_difference a b k l q) d h in (q, refl, p.0, p.1)

on_request : (s : Sought) (a b : List Rule) (other : List ℕ) (k l : ℕ) (q : Request) → differ s (outcome_of (numbered a k)) (outcome_of (numbered b l)) ≡ true
    → greatest (numbered a k) (numbered b l) other ≡ Some q → are_deciders a b k l q ≡ true → HasDifference s a b other k l (the_difference a b k l q)
unfolding the_difference
on_request s a b other k l q differs is deciders =
    let p = and_parts ((decide a q).rule == k) ((decide b q).rule == l) deciders in
    let first : (decide a q).rule ≡ k = eqb-true (decide a q).rule k p.0 in
    let second : (decide b q).rule ≡ l = eqb-true (decide b q).rule l p.1 in
    let own = outcome_at a q k first in
    let theirs = outcome_at b q l second in
    record {
      greatest = is;
      is_sought = record {
        asked = greatest_asked (numbered a k) (numbered b l) other q is;
        differ = (λ i. differ s (own i) (theirs i)) ∙ differs;
      };
      first = λ i. record { rule = sym first i; outcome = sym own i };
      second = λ i. record { rule = sym second i; outcome = sym theirs i };
      rule = refl;
      other_rule = refl;
    }

pub has : (s : Sought) (a b : List Rule) (other : List ℕ) (k l : ℕ) (d : Difference) → difference_at s a b other k l ≡ Some d → HasDifference s a b other k l d
unfolding difference_at
has s a b other k l d h =
    let p = when_some (differ s (outcome_of (numbered a k)) (outcome_of (numbered b l))) (difference_on a b k l (greatest (numbered a k) (numbered b l) other)) d h in
    let on = on_some a b k l (greatest (numbered a k) (numbered b l) other) d p.1 in
    subst (HasDifference s a b other k l) on.3 (on_request s a b other k l on.0 p.0 on.1 on.2)

-- ---- each difference is that of a pair
both_denied : (s : Sought) → differ s outcomes.Denied outcomes.Denied ≡ false
both_denied sought.Every = refl
both_denied sought.Allowed = refl

-- the rules that decide a request have a difference, and the request is within it
pub record IsMet (s : Sought) (a b : List Rule) (other : List ℕ) (q : Request) : Type 0 where
  pub difference : Difference
  pub is : difference_at s a b other (decide a q).rule (decide b q).rule ≡ Some difference
  pub within : is_within other q difference.request ≡ true

chosen : (b : Bool) (x y : Option Difference) → b ≡ true → cond b x y ≡ x
chosen true x y h = refl
chosen false x y h = absurd (true≢false (sym h))

met_by : (s : Sought) (a b : List Rule) (other : List ℕ) (q : Request) → IsSought s a b q
    → Stands a b other q (greatest (numbered a (decide a q).rule) (numbered b (decide b q).rule) other) → IsMet s a b other q
unfolding difference_at the_difference
met_by s a b other q h t =
    let k = (decide a q).rule in
    let l = (decide b q).rule in
    let own = outcome_at a q k refl in
    let theirs = outcome_at b q l refl in
    let differs : differ s (outcome_of (numbered a k)) (outcome_of (numbered b l)) ≡ true = (λ i. differ s (sym own i) (sym theirs i)) ∙ h.differ in
    let d = the_difference a b k l t.request in
    let deciders : are_deciders a b k l t.request ≡ true =
    and_from ((decide a t.request).rule == k) ((decide b t.request).rule == l) (eq-eqb (decide a t.request).rule k t.first) (eq-eqb (decide b t.request).rule l t.second) in
    record {
      difference = d;
      is =
          chosen (differ s (outcome_of (numbered a k)) (outcome_of (numbered b l))) (difference_on a b k l (greatest (numbered a k) (numbered b l) other)) None differs
          ∙ ap (difference_on a b k l) t.is ∙ chosen (are_deciders a b k l t.request) (Some d) None deciders;
      within = t.within;
    }

pub met : (s : Sought) (a b : List Rule) (other : List ℕ) → IsUnnamed other a → IsUnnamed other b → (q : Request) → IsSought s a b q → IsMet s a b other q
met s a b other free_a free_b q h = elim (stands a b other free_a free_b q h.asked) [
  | inl none ↦
      let first = undecided_denied a q none.0 in
      let second = undecided_denied b q none.1 in
      absurd (true≢false (sym h.differ ∙ (λ i. differ s (first i) (second i)) ∙ both_denied s))
  | inr t ↦ met_by s a b other q h t
]

-- ---- the first one
pub first_of_rule : (s : Sought) (a b : List Rule) (other : List ℕ) (k l : ℕ) (d : Difference) → difference_at s a b other k l ≡ Some d
    → ((j : ℕ) → j < l → difference_at s a b other k j ≡ None) → IsFirstOfRule s a b other k d
first_of_rule s a b other k l d is none =
    let h = has s a b other k l d is in
    record {
      rule = h.rule;
      found = ap (difference_at s a b other k) h.other_rule ∙ is;
      earlier = λ j below. none j (let e = h.other_rule in omega (arith, below));
    }

pub first_at : (s : Sought) (a b : List Rule) (other : List ℕ) (k : ℕ) (d : Difference) → other ≡ unnamed_user a b → IsFirstOfRule s a b other k d
    → ((j : ℕ) → j < k → (l : ℕ) → l < length b + 1 → difference_at s a b other j l ≡ None) → IsFirstAt s a b d
first_at s a b other k d is h none = record {
  found = (λ i. difference_at s a b (sym is i) (h.rule i) d.second.rule) ∙ h.found;
  earlier = λ j below l small. (λ i. difference_at s a b (sym is i) j l) ∙ none j (let e = h.rule in omega (arith, below)) l small;
  same_rule = λ l below. (λ i. difference_at s a b (sym is i) (h.rule i) l) ∙ h.earlier l below;
}

-- ---- clauses of what is found
pub some_then : (o : Option Difference) (P Q : Difference → Type 0) → IfSome o P → ((d : Difference) → P d → Q d) → IfSome o Q
some_then None P Q h more = h
some_then (Some d) P Q h more = more d h

pub none_then : (o : Option Difference) (P Q : Type 0) → IfNone o P → (P → Q) → IfNone o Q
none_then None P Q h more = more h
none_then (Some d) P Q h more = h

-- ---- what clients learn
module _ (a b : List Rule) (free_a : IsUnnamed (unnamed_user a b) a) (free_b : IsUnnamed (unnamed_user a b) b) where
  -- a pair that has no difference decides nothing that is sought
  apart : (s : Sought) (q : Request) → IsSought s a b q → (k l : ℕ) → (decide a q).rule ≡ k → (decide b q).rule ≡ l
      → difference_at s a b (unnamed_user a b) k l ≡ None → ⊥
  apart s q h k l first second none =
      let m = met s a b (unnamed_user a b) free_a free_b q h in
      let e = sym m.is ∙ (λ i. difference_at s a b (unnamed_user a b) (first i) (second i)) ∙ none in cc

  pub none_sought : (s : Sought) → ((k : ℕ) → k < length a + 1 → (l : ℕ) → l < length b + 1 → difference_at s a b (unnamed_user a b) k l ≡ None)
      → (q : Request) → IsSought s a b q → ⊥
  none_sought s none q h =
      let wa = decided_within a q in
      let wb = decided_within b q in
      apart s q h (decide a q).rule (decide b q).rule refl refl (none (decide a q).rule (omega arith) (decide b q).rule (omega arith))

  within_found : (s : Sought) (d : Difference) → IsFirstAt s a b d → (q : Request) → is_asked q ≡ true → (decide a q).rule ≡ d.first.rule → (decide b q).rule ≡ d.second.rule
      → is_within (unnamed_user a b) q d.request ≡ true
  within_found s d h q asked first second =
      let own = has s a b (unnamed_user a b) d.first.rule d.second.rule d h.found in
      let k = ap (λ r. r.rule) (sym own.first) in
      let l = ap (λ r. r.rule) (sym own.second) in
      let same_a = outcome_at a q d.first.rule first ∙ sym (outcome_at a d.request d.first.rule k) in
      let same_b = outcome_at b q d.second.rule second ∙ sym (outcome_at b d.request d.second.rule l) in
      let m = met s a b (unnamed_user a b) free_a free_b q (record { asked = asked; differ = (λ i. differ s (same_a i) (same_b i)) ∙ own.is_sought.differ }) in
      let e : Some m.difference ≡ Some d = sym m.is ∙ (λ i. difference_at s a b (unnamed_user a b) (first i) (second i)) ∙ h.found in
      let same : m.difference ≡ d = cc in
      subst (λ (x : Difference). is_within (unnamed_user a b) q x.request ≡ true) same m.within

  pub is_first : (s : Sought) (d : Difference) → IsFirstAt s a b d → IsFirst s a b d
  is_first s d h = record {
    first = λ q sought_is below.
        let wb = decided_within b q in
        apart s q sought_is (decide a q).rule (decide b q).rule refl refl (h.earlier (decide a q).rule below (decide b q).rule (omega arith));
    second = λ q sought_is same below. apart s q sought_is d.first.rule (decide b q).rule same refl (h.same_rule (decide b q).rule below);
    greatest = within_found s d h;
  }

  -- ---- of all differences
  pub differ_there : (d : Difference) → IsFirstAt sought.Every a b d → Differ a b d
  differ_there d h =
      let own = has sought.Every a b (unnamed_user a b) d.first.rule d.second.rule d h.found in
      record {
        asked = own.is_sought.asked;
        differ = λ e. true≢false (sym (same_from (outcome a d.request) (outcome b d.request) e) ∙ not-true (same_outcome (outcome a d.request) (outcome b d.request)) own.is_sought.differ);
        first = own.first;
        second = own.second;
      }

  alike_by : (q : Request) → is_asked q ≡ true → (IsSought sought.Every a b q → ⊥) → (x : Bool) → same_outcome (outcome a q) (outcome b q) ≡ x → outcome a q ≡ outcome b q
  alike_by q asked none true is = same_is (outcome a q) (outcome b q) is
  alike_by q asked none false is = absurd (none (record { asked = asked; differ = ap not is }))

  pub alike : ((k : ℕ) → k < length a + 1 → (l : ℕ) → l < length b + 1 → difference_at sought.Every a b (unnamed_user a b) k l ≡ None) → AreAlike a b
  alike none q asked = alike_by q asked (none_sought sought.Every none q) (same_outcome (outcome a q) (outcome b q)) refl

  -- ---- of those where the second allows more
  pub allows_there : (d : Difference) → IsFirstAt sought.Allowed a b d → AllowsMore a b d
  allows_there d h =
      let own = has sought.Allowed a b (unnamed_user a b) d.first.rule d.second.rule d h.found in
      let p = and_parts (is_denied (outcome a d.request)) (not (is_denied (outcome b d.request))) own.is_sought.differ in
      record { asked = own.is_sought.asked; denied = p.0; allowed = p.1; first = own.first; second = own.second }

  no_more_by : (q : Request) → is_asked q ≡ true → is_denied (outcome a q) ≡ true → (IsSought sought.Allowed a b q → ⊥) → (x : Bool) → is_denied (outcome b q) ≡ x
      → is_denied (outcome b q) ≡ true
  no_more_by q asked denied none true is = is
  no_more_by q asked denied none false is =
      absurd (none (record { asked = asked; differ = and_from (is_denied (outcome a q)) (not (is_denied (outcome b q))) denied (ap not is) }))

  pub no_more : ((k : ℕ) → k < length a + 1 → (l : ℕ) → l < length b + 1 → difference_at sought.Allowed a b (unnamed_user a b) k l ≡ None) → AllowsNoMore a b
  no_more none q asked denied = no_more_by q asked denied (none_sought sought.Allowed none q) (is_denied (outcome b q)) refl

-- ---- laws
pub of_rules : DifferencesAreOfRules
of_rules s a b other k l d is =
    let h = has s a b other k l d is in record { is_sought = h.is_sought; first = h.first; second = h.second; rule = h.rule; other_rule = h.other_rule }

pub have_one : RulesThatDifferHaveOne
have_one s a b q few_a few_b h =
    let m = met s a b (unnamed_user a b) (first_unnamed a b few_a few_b) (second_unnamed a b few_a few_b) q h in (m.difference, m.is, m.within)
