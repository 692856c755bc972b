-- Tests, joined and over lists.
use Rattle.std.{proofs.Common.{◌≡◌, ℕ, Bool, true, false, ◌&&◌, List, [], ◌∷◌, ◌⊎◌, inl, inr, refl}, specs.List.list_all}

pub bool_cases : (b : Bool) → (b ≡ true) ⊎ (b ≡ false)
bool_cases true = inl refl
bool_cases false = inr refl

pub both : (a b : Bool) → (a && b) ≡ true → (a ≡ true) × (b ≡ true)
both true b h = (refl, h)
both false b h = cc

pub join_tests : (a b : Bool) → a ≡ true → b ≡ true → (a && b) ≡ true
join_tests true b h k = k
join_tests false b h k = cc

pub list_all_weaker : (p q : ℕ → Bool) → ((b : ℕ) → p b ≡ true → q b ≡ true) → (xs : List ℕ) → list_all p xs ≡ true → list_all q xs ≡ true
list_all_weaker p q weaker [] h = refl
list_all_weaker p q weaker (x ∷ xs) h =
    let parts : (p x ≡ true) × (list_all p xs ≡ true) = both (p x) (list_all p xs) h in
    rw (weaker x parts.0) (list_all_weaker p q weaker xs parts.1)
