-- What comes of requests, by the rules that decide them.
use Rattle.std.proofs.Common.{◌≡◌, ℕ, ◌==◌, true, true≢false, ◌&&◌, List, refl, sym, ap, ◌∙◌}
use Rattle.std.proofs.lemmas.Bool.{and_from, and_parts, eqb-true, eq-eqb}
use Rattle.ix_label.specs.{Category.{Categories, same}, Lattice.same-decides}
use Rattle.ix_model.specs.declared.privs.PrivSet.{PrivSet}
use Rattle.ix_policy.specs.Deciding.{decide, numbered}
use Rattle.ix_policy.specs.declared.{request.Request.Request, rule.Rule.Rule}
use Rattle.ix_policing.specs.Outcomes.{outcome, outcome_of, same_outcome}
use Rattle.ix_policing.specs.declared.outcome.Outcome.{Outcome}
use Rattle.ix_policing.specs.declared.outcome.Outcome.TheVariants as outcomes
use Rattle.ix_policing.proofs.Deciders.{Undecided}

-- ---- two outcomes
same_opened : (c d : Categories) (p q : PrivSet) → ((p.0 == q.0) && same c d) ≡ true → outcomes.Opened c p ≡ outcomes.Opened d q
same_opened c d p q h =
    let parts = and_parts (p.0 == q.0) (same c d) h in
    let licences : p.0 ≡ q.0 = eqb-true p.0 q.0 parts.0 in
    let ceiling : c ≡ d = (same-decides c d).0 parts.1 in
    λ i. outcomes.Opened (ceiling i) (record { 0 = licences i })

pub same_is : (x y : Outcome) → same_outcome x y ≡ true → x ≡ y
same_is outcomes.Denied outcomes.Denied h = refl
same_is outcomes.Denied outcomes.Granted h = absurd (true≢false (sym h))
same_is outcomes.Denied (outcomes.Opened d q) h = absurd (true≢false (sym h))
same_is outcomes.Granted outcomes.Denied h = absurd (true≢false (sym h))
same_is outcomes.Granted outcomes.Granted h = refl
same_is outcomes.Granted (outcomes.Opened d q) h = absurd (true≢false (sym h))
same_is (outcomes.Opened c p) outcomes.Denied h = absurd (true≢false (sym h))
same_is (outcomes.Opened c p) outcomes.Granted h = absurd (true≢false (sym h))
same_is (outcomes.Opened c p) (outcomes.Opened d q) h = same_opened c d p q h

same_itself : (x : Outcome) → same_outcome x x ≡ true
same_itself outcomes.Denied = refl
same_itself outcomes.Granted = refl
same_itself (outcomes.Opened c p) = and_from (p.0 == p.0) (same c c) (eq-eqb p.0 p.0 refl) ((same-decides c c).1 refl)

pub same_from : (x y : Outcome) → x ≡ y → same_outcome x y ≡ true
same_from x y e = ap (same_outcome x) (sym e) ∙ same_itself x

-- ---- by rules
-- what comes of a request is what its rule says
pub outcome_at : (rules : List Rule) (q : Request) (n : ℕ) → (decide rules q).rule ≡ n → outcome rules q ≡ outcome_of (numbered rules n)
unfolding outcome
outcome_at rules q n h = ap (λ m. outcome_of (numbered rules m)) h

-- where no rule decides, that is denial
pub undecided_denied : (rules : List Rule) (q : Request) → Undecided rules q (decide rules q).rule → outcome rules q ≡ outcomes.Denied
undecided_denied rules q u = outcome_at rules q 0 u.is
