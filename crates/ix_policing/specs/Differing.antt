-- Where two policies decide differently.
use Rattle.std.specs.Prelude.{◌≡◌, ◌≢◌, ℕ, ◌+◌, ◌<◌, ◌≤◌, ◌==◌, Bool, true, not, ◌&&◌, List, length, Option, Some, None, if◌then◌else◌}
use Rattle.ix_policy.specs.Deciding.{decide, numbered}
use Rattle.ix_policy.specs.declared.request.Request.{Request}
use Rattle.ix_policy.specs.declared.rule.Rule.{Rule}
use Rattle.ix_policing.specs.Common.{greatest}
use Rattle.ix_policing.specs.Outcomes.{is_asked, is_denied, outcome, outcome_of, ruling, same_outcome}
use Rattle.ix_policing.specs.Unnamed.{unnamed_user}
use Rattle.ix_policing.specs.Within.{is_within}
use Rattle.ix_policing.specs.declared.difference.Difference.{Difference}
use Rattle.ix_policing.specs.declared.outcome.Outcome.{Outcome}
use Rattle.ix_policing.specs.declared.difference.Sought.{Sought}
use Rattle.ix_policing.specs.declared.difference.Sought.TheVariants as sought

-- ---- what it means
-- whatever a client asks, the same comes of it under both
abbrev pub AreAlike : List Rule → List Rule → Type 0
AreAlike a b = (q : Request) → is_asked q ≡ true → outcome a q ≡ outcome b q

-- whatever a client asks, the second denies what the first denies
abbrev pub AllowsNoMore : List Rule → List Rule → Type 0
AllowsNoMore a b = (q : Request) → is_asked q ≡ true → is_denied (outcome a q) ≡ true → is_denied (outcome b q) ≡ true

-- a client can ask that request, and what comes of it differs; the rulings are those of the two
pub record Differ (a b : List Rule) (d : Difference) : Type 0 where
  pub asked : is_asked d.request ≡ true
  pub differ : outcome a d.request ≢ outcome b d.request
  pub first : d.first ≡ ruling a d.request
  pub second : d.second ≡ ruling b d.request

-- a client can ask that request, which the first denies and the second allows; the rulings are those of the two
pub record AllowsMore (a b : List Rule) (d : Difference) : Type 0 where
  pub asked : is_asked d.request ≡ true
  pub denied : is_denied (outcome a d.request) ≡ true
  pub allowed : not (is_denied (outcome b d.request)) ≡ true
  pub first : d.first ≡ ruling a d.request
  pub second : d.second ≡ ruling b d.request

-- whether two outcomes differ as is sought: at all, or so that the second allows what the first denies
abbrev pub differ : Sought → Outcome → Outcome → Bool
differ sought.Every x y = not (same_outcome x y)
differ sought.Allowed x y = is_denied x && not (is_denied y)

-- a client can ask that request, and what comes of it differs as is sought
pub record IsSought (s : Sought) (a b : List Rule) (q : Request) : Type 0 where
  pub asked : is_asked q ≡ true
  pub differ : differ s (outcome a q) (outcome b q) ≡ true

-- no request that differs as is sought is decided by an earlier rule of the first policy, or by the same and an earlier one of the
-- second; and each that these two rules decide is within this one
pub record IsFirst (s : Sought) (a b : List Rule) (d : Difference) : Type 0 where
  pub first : (q : Request) → IsSought s a b q → (decide a q).rule < d.first.rule → ⊥
  pub second : (q : Request) → IsSought s a b q → (decide a q).rule ≡ d.first.rule → (decide b q).rule < d.second.rule → ⊥
  pub greatest : (q : Request) → is_asked q ≡ true → (decide a q).rule ≡ d.first.rule → (decide b q).rule ≡ d.second.rule
      → is_within (unnamed_user a b) q d.request ≡ true

-- ---- how it is found
-- whether the rules of these numbers decide the request, the first in the first policy and the second in the second
abbrev pub are_deciders : List Rule → List Rule → ℕ → ℕ → Request → Bool
are_deciders a b k l q = ((decide a q).rule == k) && ((decide b q).rule == l)

-- the difference on a request, if there is one, and these rules decide it
abbrev pub difference_on : List Rule → List Rule → ℕ → ℕ → Option Request → Option Difference
difference_on a b k l None = None
difference_on a b k l (Some q) =
    if are_deciders a b k l q then
    Some (record {
      request = q;
      first = record { rule = k; outcome = outcome_of (numbered a k) };
      second = record { rule = l; outcome = outcome_of (numbered b l) };
    })
    else None

-- the difference where rules of these numbers decide, on the greatest request that both match; no rule names the other user
unfoldable pub difference_at : Sought → List Rule → List Rule → List ℕ → ℕ → ℕ → Option Difference
difference_at s a b other k l =
    if differ s (outcome_of (numbered a k)) (outcome_of (numbered b l)) then difference_on a b k l (greatest (numbered a k) (numbered b l) other)
    else None

-- the difference is that of this rule and another, and no pair of this rule and an earlier one has any
pub record IsFirstOfRule (s : Sought) (a b : List Rule) (other : List ℕ) (k : ℕ) (d : Difference) : Type 0 where
  pub rule : d.first.rule ≡ k
  pub found : difference_at s a b other k d.second.rule ≡ Some d
  pub earlier : (l : ℕ) → l < d.second.rule → difference_at s a b other k l ≡ None

-- the difference is that of two rules, and no pair of rules before these has any
pub record IsFirstAt (s : Sought) (a b : List Rule) (d : Difference) : Type 0 where
  pub found : difference_at s a b (unnamed_user a b) d.first.rule d.second.rule ≡ Some d
  pub earlier : (k : ℕ) → k < d.first.rule → (l : ℕ) → l < length b + 1 → difference_at s a b (unnamed_user a b) k l ≡ None
  pub same_rule : (l : ℕ) → l < d.second.rule → difference_at s a b (unnamed_user a b) d.first.rule l ≡ None

-- ---- laws
-- the difference of two rules is on a request that is sought and that they decide, with the rulings of the two policies
pub record IsOfRules (s : Sought) (a b : List Rule) (k l : ℕ) (d : Difference) : Type 0 where
  pub is_sought : IsSought s a b d.request
  pub first : d.first ≡ ruling a d.request
  pub second : d.second ≡ ruling b d.request
  pub rule : d.first.rule ≡ k
  pub other_rule : d.second.rule ≡ l

abbrev pub DifferencesAreOfRules : Type 0
DifferencesAreOfRules = (s : Sought) (a b : List Rule) (other : List ℕ) (k l : ℕ) (d : Difference) → difference_at s a b other k l ≡ Some d → IsOfRules s a b k l d

-- the rules that decide a request which is sought have a difference, and the request is within it
abbrev pub RulesThatDifferHaveOne : Type 0
RulesThatDifferHaveOne = (s : Sought) (a b : List Rule) (q : Request) → length a ≤ 256 → length b ≤ 256 → IsSought s a b q
    → (d : Difference) × (difference_at s a b (unnamed_user a b) (decide a q).rule (decide b q).rule ≡ Some d) × (is_within (unnamed_user a b) q d.request ≡ true)
