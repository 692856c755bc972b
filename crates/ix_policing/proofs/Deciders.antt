-- The rule that decides a request.
use Rattle.std.proofs.Common.{◌≡◌, ◌⊎◌, inl, inr, ℕ, zero, suc, ◌+◌, ◌<◌, ◌≤◌, Bool, true, false, true≢false, if◌then◌else◌, List, [], ◌∷◌, length, slice_get, Some, refl, sym, ap, ◌∙◌, arith, add-one}
use Rattle.std.proofs.lemmas.{Bool.{cases_order, or_parts}, Option.slice_get_within}
use Rattle.std.specs.List.{list_any}
use Rattle.ix_policy.specs.Deciding.{decide, decide_from, matches, numbered}
use Rattle.ix_policy.specs.declared.{request.{Request.Request, Verdict.Verdict}, rule.Rule.Rule}
use Rattle.ix_policing.specs.Unnamed.{names, IsUnnamed}

-- ---- by places
-- no rule matches, and the number is 0
record NonePlaced (rules : List Rule) (q : Request) (n : ℕ) : Type 0 where
  is : n ≡ 0
  none : (j : ℕ) (y : Rule) → slice_get rules j ≡ Some y → matches y q ≡ false

-- the first rule that matches stands at a place, where so many stand before all of them
record Placed (before : ℕ) (rules : List Rule) (q : Request) (n : ℕ) : Type 0 where
  place : ℕ
  rule : Rule
  is : n ≡ before + (place + 1)
  there : slice_get rules place ≡ Some rule
  match_is : matches rule q ≡ true
  first : (j : ℕ) (y : Rule) → j < place → slice_get rules j ≡ Some y → matches y q ≡ false

abbrev PlacedOrNot : ℕ → List Rule → Request → ℕ → Type 0
PlacedOrNot before rules q n = NonePlaced rules q n ⊎ Placed before rules q n

none_more : (r : Rule) (rules : List Rule) (q : Request) → matches r q ≡ false → ((j : ℕ) (y : Rule) → slice_get rules j ≡ Some y → matches y q ≡ false)
    → (j : ℕ) (y : Rule) → slice_get (r ∷ rules) j ≡ Some y → matches y q ≡ false
none_more r rules q fails none zero y h = let e : r ≡ y = cc in ap (λ x. matches x q) (sym e) ∙ fails
none_more r rules q fails none (suc j) y h = none j y h

first_more : (r : Rule) (rules : List Rule) (q : Request) (place : ℕ) → matches r q ≡ false
    → ((j : ℕ) (y : Rule) → j < place → slice_get rules j ≡ Some y → matches y q ≡ false)
    → (j : ℕ) (y : Rule) → j < place + 1 → slice_get (r ∷ rules) j ≡ Some y → matches y q ≡ false
first_more r rules q place fails first zero y below h = let e : r ≡ y = cc in ap (λ x. matches x q) (sym e) ∙ fails
first_more r rules q place fails first (suc j) y below h = first j y (omega arith) h

placed_more : (before : ℕ) (r : Rule) (rules : List Rule) (q : Request) (n : ℕ) → matches r q ≡ false → PlacedOrNot (before + 1) rules q n → PlacedOrNot before (r ∷ rules) q n
placed_more before r rules q n fails (inl h) = inl (record { is = h.is; none = none_more r rules q fails h.none })
placed_more before r rules q n fails (inr h) = inr (record {
  place = h.place + 1;
  rule = h.rule;
  is = let e = h.is in omega arith;
  there = rw add-one h.there;
  match_is = h.match_is;
  first = first_more r rules q h.place fails h.first;
})

placed_by : (before : ℕ) (r : Rule) (rules : List Rule) (q : Request) (b : Bool) (later : Verdict) → matches r q ≡ b → PlacedOrNot (before + 1) rules q later.rule
    → PlacedOrNot before (r ∷ rules) q (if b then record { rule = before + 1; allow = r.allow } else later).rule
placed_by before r rules q true later is h =
    inr (record { place = 0; rule = r; is = refl; there = refl; match_is = is; first = λ j y below k. absurd (omega (arith, below)) })
placed_by before r rules q false later is h = placed_more before r rules q later.rule is h

placed : (before : ℕ) (rules : List Rule) (q : Request) → PlacedOrNot before rules q (decide_from before rules q).rule
unfolding decide_from
placed before [] q = inl (record { is = refl; none = λ j y h. cc })
placed before (r ∷ rules) q =
    placed_by before r rules q (matches r q) (decide_from (before + 1) rules q) refl (placed (before + 1) rules q)

-- ---- by numbers
-- no rule matches
pub record Undecided (rules : List Rule) (q : Request) (n : ℕ) : Type 0 where
  pub is : n ≡ 0
  pub none : (m : ℕ) (y : Rule) → numbered rules m ≡ Some y → matches y q ≡ false

-- the rule of that number matches, and no rule before it does
pub record Decided (rules : List Rule) (q : Request) (n : ℕ) : Type 0 where
  pub rule : Rule
  pub there : numbered rules n ≡ Some rule
  pub match_is : matches rule q ≡ true
  pub first : (m : ℕ) (y : Rule) → m < n → numbered rules m ≡ Some y → matches y q ≡ false

none_numbered : (rules : List Rule) (q : Request) → ((j : ℕ) (y : Rule) → slice_get rules j ≡ Some y → matches y q ≡ false)
    → (m : ℕ) (y : Rule) → numbered rules m ≡ Some y → matches y q ≡ false
none_numbered rules q none zero y h = cc
none_numbered rules q none (suc j) y h = none j y h

first_numbered : (rules : List Rule) (q : Request) (place n : ℕ) → n ≡ place + 1 → ((j : ℕ) (y : Rule) → j < place → slice_get rules j ≡ Some y → matches y q ≡ false)
    → (m : ℕ) (y : Rule) → m < n → numbered rules m ≡ Some y → matches y q ≡ false
first_numbered rules q place n is first zero y below h = cc
first_numbered rules q place n is first (suc j) y below h = first j y (omega arith) h

by_number : (rules : List Rule) (q : Request) (n : ℕ) → PlacedOrNot 0 rules q n → Undecided rules q n ⊎ Decided rules q n
by_number rules q n (inl h) = inl (record { is = h.is; none = none_numbered rules q h.none })
by_number rules q n (inr h) =
    let e : n ≡ suc h.place = let i = h.is in omega arith in
    inr (record {
      rule = h.rule;
      there = ap (numbered rules) e ∙ h.there;
      match_is = h.match_is;
      first = first_numbered rules q h.place n (let i = h.is in omega arith) h.first;
    })

-- what the number of a verdict says
pub decided : (rules : List Rule) (q : Request) → Undecided rules q (decide rules q).rule ⊎ Decided rules q (decide rules q).rule
unfolding decide
decided rules q = by_number rules q (decide_from 0 rules q).rule (placed 0 rules q)

pub numbered_within : (rules : List Rule) (n : ℕ) (r : Rule) → numbered rules n ≡ Some r → (0 < n) × (n ≤ length rules)
numbered_within rules zero r h = cc
numbered_within rules (suc j) r h = let k = slice_get_within rules j r h in (omega arith, omega arith)

-- the rule that decides matches
pub decider_matches : (rules : List Rule) (q : Request) (r : Rule) → numbered rules (decide rules q).rule ≡ Some r → matches r q ≡ true
decider_matches rules q r h = elim (decided rules q) [
  | inl u ↦ let e = sym h ∙ ap (numbered rules) u.is in cc
  | inr d ↦ let e = sym d.there ∙ h in let same : d.rule ≡ r = cc in ap (λ x. matches x q) (sym same) ∙ d.match_is
]

-- a rule that matches decides, or one before it does
pub decided_by : (rules : List Rule) (q : Request) (n : ℕ) (r : Rule) → numbered rules n ≡ Some r → matches r q ≡ true → (Decided rules q (decide rules q).rule) × ((decide rules q).rule ≤ n)
decided_by rules q n r there match_is = elim (decided rules q) [
  | inl u ↦ absurd (true≢false (sym match_is ∙ u.none n r there))
  | inr d ↦ elim (cases_order (decide rules q).rule n) [
    | inl e ↦ (d, omega arith)
    | inr far ↦ elim far [
      | inl below ↦ (d, omega arith)
      | inr above ↦ absurd (true≢false (sym match_is ∙ d.first n r above there))
    ]
  ]
]

-- the number of a verdict is at most that of the last rule
pub decided_within : (rules : List Rule) (q : Request) → (decide rules q).rule ≤ length rules
decided_within rules q = elim (decided rules q) [
  | inl u ↦ let e = u.is in omega arith
  | inr d ↦ (numbered_within rules _ d.rule d.there).1
]

-- ---- from one request to another
-- each rule that matches the first request matches the second, and the rule that decides the second matches the first
pub record Follows (rules : List Rule) (t q : Request) : Type 0 where
  pub below : (n : ℕ) (y : Rule) → numbered rules n ≡ Some y → matches y t ≡ true → matches y q ≡ true
  pub decider : (x : Rule) → numbered rules (decide rules q).rule ≡ Some x → matches x t ≡ true

-- so the same rule decides both
pub same_number : (rules : List Rule) (t q : Request) → Follows rules t q → (decide rules t).rule ≡ (decide rules q).rule
same_number rules t q h = elim (decided rules q) [
  | inl u ↦ elim (decided rules t) [
    | inl v ↦ v.is ∙ sym u.is
    | inr d ↦ absurd (true≢false (sym (h.below (decide rules t).rule d.rule d.there d.match_is) ∙ u.none (decide rules t).rule d.rule d.there))
  ]
  | inr e ↦
      let there = decided_by rules t (decide rules q).rule e.rule e.there (h.decider e.rule e.there) in
      let back = decided_by rules q (decide rules t).rule there.0.rule there.0.there (h.below (decide rules t).rule there.0.rule there.0.there there.0.match_is) in
      let one = there.1 in let two = back.1 in omega arith
]

-- ---- a user that no rule names
unnamed_place : (user : List ℕ) (rules : List Rule) (j : ℕ) (y : Rule) → IsUnnamed user rules → slice_get rules j ≡ Some y → names user y ≡ false
unnamed_place user [] j y h is = cc
unnamed_place user (r ∷ rules) zero y h is =
    let e : r ≡ y = cc in ap (names user) (sym e) ∙ (or_parts (names user r) (list_any (names user) rules) h).0
unnamed_place user (r ∷ rules) (suc j) y h is = unnamed_place user rules j y (or_parts (names user r) (list_any (names user) rules) h).1 is

pub unnamed_at : (user : List ℕ) (rules : List Rule) (n : ℕ) (y : Rule) → IsUnnamed user rules → numbered rules n ≡ Some y → names user y ≡ false
unnamed_at user rules zero y h is = cc
unnamed_at user rules (suc j) y h is = unnamed_place user rules j y h is

-- ---- a rule by its number
there_at : (rules : List Rule) (j : ℕ) → j < length rules → (r : Rule) × (slice_get rules j ≡ Some r)
there_at [] j h = absurd (omega arith)
there_at (r ∷ rules) zero h = (r, refl)
there_at (r ∷ rules) (suc j) h = there_at rules j (omega arith)

-- from 1 to the number of the rules there is one
pub numbered_there : (rules : List Rule) (n : ℕ) → 0 < n → n ≤ length rules → (r : Rule) × (numbered rules n ≡ Some r)
numbered_there rules zero h k = absurd (omega arith)
numbered_there rules (suc j) h k = there_at rules j (omega arith)
