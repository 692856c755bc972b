-- Tests over lists, and what is there.
use Rattle.std.{proofs.Common.{◌≡◌, Bool, ◌||◌, List, [], ◌∷◌, map, Option, Some, None, IsSome, MatchOption, refl, ap}, specs.List.list_any}

pub any_map : {A B : Type 0} (test : B → Bool) (f : A → B) (xs : List A) → list_any test (map f xs) ≡ list_any (λ x. test (f x)) xs
any_map test f [] = refl
any_map test f (x ∷ xs) = ap (λ b. test (f x) || b) (any_map test f xs)

pub some_of : {X : Type 0} (P : Type 0) (Q : X → Type 0) (r : Option X) → MatchOption r P Q → (P → ⊥) → IsSome r
some_of P Q None h other = absurd (other h)
some_of P Q (Some x) h other = refl
