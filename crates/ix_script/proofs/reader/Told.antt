-- What a value that is there tells of the options that it was made from.
use Rattle.std.proofs.Common.{◌≡◌, Bool, true, false, cond, List, [], ◌∷◌, Option, Some, None, ◌⊎◌, inl, inr, refl, sym, ap, ◌∙◌, option_map, find}
use Rattle.std.{specs.Option.option_or, proofs.lemmas.Option.{same_Some, none-some}}
use Rattle.ix_script.specs.{texts.Payloads.◌>>=◌, lines.Said.both}

pub mapped : {A B : Type 0} (f : A → B) (o : Option A) (y : B) → option_map f o ≡ Some y → (x : A) × (o ≡ Some x) × (f x ≡ y)
mapped f None y h = absurd (none-some y h)
mapped f (Some x) y h = (x, refl, same_Some _ y h)

pub paired : {A B : Type 0} (a : Option A) (b : Option B) (p : A × B) → both a b ≡ Some p → (a ≡ Some p.0) × (b ≡ Some p.1)
paired None b p h = absurd (none-some p h)
paired (Some x) None p h = absurd (none-some p h)
paired {A} {B} (Some x) (Some y) p h =
    let e = same_Some _ p h in
    (ap (λ q. Some q.0) e, ap (λ q. Some q.1) e)

pub bound : {A B : Type 0} (o : Option A) (f : A → Option B) (y : B) → (o >>= f) ≡ Some y → (x : A) × (o ≡ Some x) × (f x ≡ Some y)
bound None f y h = absurd (none-some y h)
bound (Some x) f y h = (x, refl, h)

-- the first choice, or a later one
pub chosen : {A : Type 0} (b : Bool) (x : A) (others : Option A) (y : A) → cond b (Some x) others ≡ Some y → ((b ≡ true) × (x ≡ y)) ⊎ (others ≡ Some y)
chosen true x others y h = inl (refl, same_Some x y h)
chosen false x others y h = inr h

-- either choice
pub either : {A : Type 0} (b : Bool) (x y : Option A) (z : A) → cond b x y ≡ Some z → ((b ≡ true) × (x ≡ Some z)) ⊎ ((b ≡ false) × (y ≡ Some z))
either true x y z h = inl (refl, h)
either false x y z h = inr (refl, h)

-- one of two options
pub one_of : {A : Type 0} (a b : Option A) (y : A) → option_or a b ≡ Some y → (a ≡ Some y) ⊎ (b ≡ Some y)
one_of None b y h = inr h
one_of (Some x) b y h = inl h

-- neither of two options
pub neither : {A : Type 0} (a b : Option A) → option_or a b ≡ None → (a ≡ None) × (b ≡ None)
neither None b h = (refl, h)
neither (Some x) b h = absurd (none-some x (sym h))

pub neither_from : {A : Type 0} (a b : Option A) → a ≡ None → b ≡ None → option_or a b ≡ None
neither_from None b p q = q
neither_from (Some x) b p q = absurd (none-some x (sym p))

-- what is found passes the test
pub found : {A : Type 0} (test : A → Bool) (xs : List A) (x : A) → find test xs ≡ Some x → test x ≡ true
found test [] x h = absurd (none-some x h)
found {A} test (y ∷ xs) x h = elim (chosen _ y (find test xs) x h) [
  | inl p ↦ ap test (sym p.1) ∙ p.0
  | inr p ↦ found _ xs x p
]
