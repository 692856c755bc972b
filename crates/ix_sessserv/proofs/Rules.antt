-- The rule that allows.
use Rattle.std.proofs.Common.{◌≡◌, ℕ, suc, ◌+◌, Bool, true, false, List, [], ◌∷◌, Some, refl, ap, ◌∙◌, arith, slice_get, if◌then◌else◌}
use Rattle.ix_policy.specs.{Deciding.{decide, decide_from, matches, numbered}, declared.{request.{Request.Request, Verdict.Verdict}, rule.Rule.Rule}}

-- a rule that allows, with so many rules before these
abbrev Found : ℕ → List Rule → Verdict → Type 0
Found n rules v = (k : ℕ) × (r : Rule) × (v.rule ≡ n + suc k) × (slice_get rules k ≡ Some r) × (r.allow ≡ true)

step : (n : ℕ) (r : Rule) (rules : List Rule) (later : Verdict) (v : Bool) → (if v then record { rule = n + 1; allow = r.allow } else later).allow ≡ true
    → (later.allow ≡ true → Found (n + 1) rules later) → Found n (r ∷ rules) (if v then record { rule = n + 1; allow = r.allow } else later)
step n r rules later true e more = (0, r, refl, refl, e)
step n r rules later false e more = let f = more e in (suc f.0, f.1, omega (arith, f.2), f.3, f.4)

found : (n : ℕ) (rules : List Rule) (q : Request) → (decide_from n rules q).allow ≡ true → Found n rules (decide_from n rules q)
unfolding decide_from
found n [] q e = cc
found n (r ∷ rules) q e = step n r rules (decide_from (n + 1) rules q) (matches r q) e (found (n + 1) rules q)

pub rule-there : (rules : List Rule) (q : Request) → (decide rules q).allow ≡ true → (r : Rule) × (numbered rules (decide rules q).rule ≡ Some r) × (r.allow ≡ true)
unfolding decide
rule-there rules q e =
    let f = found 0 rules q e in
    let at : (decide_from 0 rules q).rule ≡ suc f.0 = omega (arith, f.2) in
    (f.1, ap (numbered rules) at ∙ f.3, f.4)
