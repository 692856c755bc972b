-- Names that are told to be one are one.
use Rattle.std.{proofs.{Common.{◌≡◌, ℕ, true, List, [], ◌∷◌, refl, sym}, lemmas.{Bool.{and_parts, and_from}, Cmp.nat_list_eq_equiv}}, specs.Cmp.Lexicographic.same_text}
use Rattle.ix_model.specs.world.Naming.{same_bytes, same_names}

pub bytes_are : (a b : List ℕ) → same_bytes a b ≡ true → a ≡ b
bytes_are a b h = same_text a b (sym h)

pub bytes_itself : (a : List ℕ) → same_bytes a a ≡ true
bytes_itself a = nat_list_eq_equiv.refl a

pub names_are : (a b : List (List ℕ)) → same_names a b ≡ true → a ≡ b
names_are [] [] h = refl
names_are [] (y ∷ b) h = cc
names_are (x ∷ a) [] h = cc
names_are (x ∷ a) (y ∷ b) h =
    let p = and_parts _ _ h in
    λ i. bytes_are x y p.0 i ∷ names_are a b p.1 i

pub names_itself : (a : List (List ℕ)) → same_names a a ≡ true
names_itself [] = refl
names_itself (x ∷ a) = and_from _ _ (bytes_itself x) (names_itself a)
