-- Beginnings of one list, and what a filter keeps of them.
use Rattle.std.proofs.Common.{◌≡◌, ◌+◌, ◌≤◌, ◌<◌, List, [], ◌∷◌, ◌++◌, length, refl, ap, sym, ◌∙◌, subst, ⊎_elim, arith, length-append, Bool, true, false, cond}
use Rattle.std.proofs.Common.{leb}
use Rattle.std.{proofs.lemmas.{Bool.Decides.leb_tells, List.{append-nil, nil_from_length, Elements.filter-append}}, specs.List.filter}
use mathlib.Core.List.{IsPrefix}
use Rattle.ix_gate.specs.History.{longer, shorter}

module _ {A : Type 0} where
  -- of two beginnings of one list the shorter begins the longer
  pub prefix_shorter : (xs ys zs : List A) → IsPrefix xs zs → IsPrefix ys zs → length xs ≤ length ys → IsPrefix xs ys
  prefix_shorter [] ys zs p q le = (ys, refl)
  prefix_shorter (x ∷ xs) [] zs p q le = absurd (omega arith)
  prefix_shorter (x ∷ xs) (y ∷ ys) [] p q le = absurd (cc (p.1))
  prefix_shorter (x ∷ xs) (y ∷ ys) (z ∷ zs) p q le =
      let heads : x ≡ y = cc (p.1, q.1) in
      let rest = prefix_shorter xs ys zs (p.0, cc (p.1)) (q.0, cc (q.1)) (omega arith) in
      (rest.0, cc (heads, rest.1))

  pub prefix_length : (xs ys : List A) → IsPrefix xs ys → length xs ≤ length ys
  prefix_length xs ys p = omega (arith, ap length p.1, length-append xs p.0)

  -- what holds of two lists, the longer one first, holds of `longer` and `shorter`
  pub by_length : (xs ys : List A) (P : List A → List A → Type 0) → (length xs ≤ length ys → P ys xs) → (length ys ≤ length xs → P xs ys) → P (longer xs ys) (shorter xs ys)
  by_length xs ys P low high = ⊎_elim
      (λ (t : (leb (length xs) (length ys) ≡ true) × (length xs ≤ length ys)). subst (λ b. P (cond b ys xs) (cond b xs ys)) (sym t.0) (low t.1))
      (λ (t : (leb (length xs) (length ys) ≡ false) × (length ys < length xs)). subst (λ b. P (cond b ys xs) (cond b xs ys)) (sym t.0) (let l = t.1 in high (omega arith)))
      (leb_tells (length xs) (length ys))

module _ {A : Type 0} (p : A → Bool) where
  -- where a filter keeps the same of a beginning and of the whole, it keeps the same of what lies between
  pub filter-between : (xs ys zs : List A) → IsPrefix xs ys → IsPrefix ys zs → filter p xs ≡ filter p zs → filter p ys ≡ filter p zs
  filter-between xs ys zs f q same =
      let a : filter p ys ≡ filter p xs ++ filter p (f.0) = ap (filter p) (sym f.1) ∙ filter-append p xs f.0 in
      let b : filter p zs ≡ filter p ys ++ filter p (q.0) = ap (filter p) (sym q.1) ∙ filter-append p ys q.0 in
      let la : length (filter p ys) ≡ length (filter p xs) + length (filter p (f.0)) = ap length a ∙ length-append (filter p xs) (filter p (f.0)) in
      let lb : length (filter p zs) ≡ length (filter p ys) + length (filter p (q.0)) = ap length b ∙ length-append (filter p ys) (filter p (q.0)) in
      let ls : length (filter p xs) ≡ length (filter p zs) = ap length same in
      let none_left : filter p (q.0) ≡ [] = nil_from_length (filter p (q.0)) (omega arith) in
      sym (append-nil (filter p ys)) ∙ (ap (λ w. filter p ys ++ w) (sym none_left) ∙ sym b)
