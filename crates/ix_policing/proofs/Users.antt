-- The users that rules are on.
use Rattle.std.proofs.Common.{◌≡◌, ◌⊎◌, inl, inr, ℕ, Bool, true, false, true≢false, ◌||◌, cond, List, Option, Some, None, refl, sym, ap, ◌∙◌, subst}
use Rattle.std.proofs.lemmas.Bool.{or_left, or_right}
use Rattle.std.specs.{Option.option_map_or, Cmp.Lexicographic.bytes_decides}
use Rattle.ix_model.specs.world.Naming.{same_bytes}
use Rattle.ix_policy.specs.Deciding.{covers}
use Rattle.ix_policing.specs.{Common.{common_user}, Covering.{covers_user}}

same_is : (u v : List ℕ) → same_bytes u v ≡ true → u ≡ v
same_is u v h = (bytes_decides u v).0 h

pub same_self : (u : List ℕ) → same_bytes u u ≡ true
same_self u = (bytes_decides u u).1 refl

pub one_user : (b : Bool) (u w : List ℕ) → cond b (Some u) None ≡ Some w → (b ≡ true) × (u ≡ w)
one_user true u w h = (refl, cc)
one_user false u w h = cc

-- the common user is the one that both rules are on; where neither names one, it is the other
pub settled : (a b : Option (List ℕ)) (other user name : List ℕ) → common_user a b other ≡ Some user → covers a name ≡ true → covers b name ≡ true
    → (user ≡ name) ⊎ (user ≡ other)
settled None None other user name h k l = inr cc
settled None (Some v) other user name h k l = let e : v ≡ name = same_is v name l in inl cc
settled (Some u) None other user name h k l = let e : u ≡ name = same_is u name k in inl cc
settled (Some u) (Some v) other user name h k l =
    let e : u ≡ name = same_is u name k in
    let w : u ≡ user = (one_user (same_bytes u v) u user h).1 in
    inl (sym w ∙ e)

-- who both rules are on is the common user, or that is the other
pub within_common : (a b : Option (List ℕ)) (other user name : List ℕ) → common_user a b other ≡ Some user → covers a name ≡ true → covers b name ≡ true
    → (same_bytes user name || same_bytes user other) ≡ true
within_common a b other user name h k l = elim (settled a b other user name h k l) [
  | inl e ↦ or_left (same_bytes user name) (same_bytes user other) (ap (same_bytes user) (sym e) ∙ same_self user)
  | inr e ↦ or_right (same_bytes user name) (same_bytes user other) (ap (same_bytes user) (sym e) ∙ same_self user)
]

pub common_left : (a b : Option (List ℕ)) (other user : List ℕ) → common_user a b other ≡ Some user → covers a user ≡ true
common_left None b other user h = refl
common_left (Some u) None other user h = let e : u ≡ user = cc in ap (same_bytes u) (sym e) ∙ same_self u
common_left (Some u) (Some v) other user h =
    let e : u ≡ user = (one_user (same_bytes u v) u user h).1 in ap (same_bytes u) (sym e) ∙ same_self u

pub common_right : (a b : Option (List ℕ)) (other user : List ℕ) → common_user a b other ≡ Some user → covers b user ≡ true
common_right a None other user h = refl
common_right None (Some v) other user h = let e : v ≡ user = cc in ap (same_bytes v) (sym e) ∙ same_self v
common_right (Some u) (Some v) other user h =
    let p : (same_bytes u v ≡ true) × (u ≡ user) = one_user (same_bytes u v) u user h in
    let e : u ≡ v = same_is u v p.0 in
    ap (same_bytes v) (sym p.1 ∙ e) ∙ same_self v

-- rules that are both on some user have a common one
pub common_there : (a b : Option (List ℕ)) (other name : List ℕ) → covers a name ≡ true → covers b name ≡ true → (user : List ℕ) × (common_user a b other ≡ Some user)
common_there None None other name k l = (other, refl)
common_there None (Some v) other name k l = (v, refl)
common_there (Some u) None other name k l = (u, refl)
common_there (Some u) (Some v) other name k l =
    let e : u ≡ v = same_is u name k ∙ sym (same_is v name l) in
    (u, ap (λ b. cond b (Some u) None) (ap (same_bytes u) (sym e) ∙ same_self u))

-- a rule is never without a user in common with itself
pub common_self : (a : Option (List ℕ)) (other : List ℕ) → (user : List ℕ) × (common_user a a other ≡ Some user)
common_self None other = (other, refl)
common_self (Some u) other = (u, ap (λ b. cond b (Some u) None) (same_self u))

-- a rule that is on the common user, but does not name the other, is on each user that both are on
pub covered : (x a b : Option (List ℕ)) (other user name : List ℕ) → common_user a b other ≡ Some user → covers a name ≡ true → covers b name ≡ true
    → option_map_or (λ own. same_bytes own other) x false ≡ false → covers x user ≡ true → covers x name ≡ true
covered None a b other user name h k l unnamed on = refl
covered (Some w) a b other user name h k l unnamed on = elim (settled a b other user name h k l) [
  | inl e ↦ subst (λ (n : List ℕ). same_bytes w n ≡ true) e on
  | inr e ↦ absurd (true≢false (sym (subst (λ (n : List ℕ). same_bytes w n ≡ true) e on) ∙ unnamed))
]

-- a rule that is on the common user of a rule with itself, but does not name the other, is on each user that this is on
pub covers_all : (x a : Option (List ℕ)) (other user : List ℕ) → common_user a a other ≡ Some user → option_map_or (λ own. same_bytes own other) x false ≡ false
    → covers x user ≡ true → covers_user x a ≡ true
covers_all None a other user h unnamed on = refl
covers_all (Some w) None other user h unnamed on =
    let e : other ≡ user = cc in absurd (true≢false (sym (subst (λ (n : List ℕ). same_bytes w n ≡ true) (sym e) on) ∙ unnamed))
covers_all (Some w) (Some u) other user h unnamed on =
    let e : u ≡ user = (one_user (same_bytes u u) u user h).1 in subst (λ (n : List ℕ). same_bytes w n ≡ true) (sym e) on

-- and the other way round
pub covers_each : (x a : Option (List ℕ)) (name : List ℕ) → covers_user x a ≡ true → covers a name ≡ true → covers x name ≡ true
covers_each None a name h on = refl
covers_each (Some w) None name h on = absurd (true≢false (sym h))
covers_each (Some w) (Some u) name h on = let e : u ≡ name = same_is u name on in subst (λ (n : List ℕ). same_bytes w n ≡ true) e h
