-- Lists of several pieces joined end to end, and an edit of one piece.
use Rattle.std.proofs.Common.{◌≡◌, ◌<◌, ◌+◌, ◌-◌, ◌∙◌, ℕ, zero, suc, List, [], ◌∷◌, ◌++◌, length, length-append, take, drop, set, get_or, refl, sym, ap, arith, zero-add}
use Rattle.std.specs.List.{flat_map}
use Rattle.std.proofs.lemmas.List.{set-append_left, set-append_right, take_at, drop_at, drop-drop}

module _ {X A : Type 0} (f : X → List A) where
  -- an element changed in a piece is one changed in the whole
  pub flat_set : (xs : List X) (k n : ℕ) (y : X) (a : A) → k < length xs → n < length (f (get_or xs k y)) → f y ≡ set (f (get_or xs k y)) n a
      → flat_map f (set xs k y) ≡ set (flat_map f xs) (length (flat_map f (take k xs)) + n) a
  flat_set [] k n y a low lown e = absurd (omega arith)
  flat_set (x ∷ xs) zero n y a low lown e = ap (λ ys. ys ++ flat_map f xs) e ∙ sym (set-append_left (f x) (flat_map f xs) n a lown) ∙ ap (λ m. set (f x ++ flat_map f xs) m a) (sym (zero-add n))
  flat_set (x ∷ xs) (suc k) n y a low lown e =
      let rest : flat_map f (set xs k y) ≡ set (flat_map f xs) (length (flat_map f (take k xs)) + n) a = flat_set xs k n y a (omega arith) lown e in
      let long : length (f x ++ flat_map f (take k xs)) + n ≡ length (f x) + (length (flat_map f (take k xs)) + n) = omega (arith, length-append (f x) (flat_map f (take k xs))) in
      let right : set (f x ++ flat_map f xs) (length (f x) + (length (flat_map f (take k xs)) + n)) a ≡ f x
      ++ set (flat_map f xs) (length (f x) + (length (flat_map f (take k xs)) + n) - length (f x)) a =
      set-append_right (f x) (flat_map f xs) (length (f x)) _ a refl (omega arith) in
      let back : length (f x) + (length (flat_map f (take k xs)) + n) - length (f x) ≡ length (flat_map f (take k xs)) + n = omega arith in
      ap (λ ys. f x ++ ys) rest ∙ sym (ap (λ m. set (f x ++ flat_map f xs) m a) long ∙ right ∙ ap (λ m. f x ++ set (flat_map f xs) m a) back)

  -- a piece is what stands in the whole from its start on
  pub flat_window : (xs : List X) (k n : ℕ) (d : X) → k < length xs → n ≡ length (f (get_or xs k d)) → take n (drop (length (flat_map f (take k xs))) (flat_map f xs)) ≡ f (get_or xs k d)
  flat_window [] k n d low e = absurd (omega arith)
  flat_window (x ∷ xs) zero n d low e = take_at (f x) (flat_map f xs) n (sym e)
  flat_window (x ∷ xs) (suc k) n d low e =
      let rest : take n (drop (length (flat_map f (take k xs))) (flat_map f xs)) ≡ f (get_or xs k d) = flat_window xs k n d (omega arith) e in
      let long : length (f x ++ flat_map f (take k xs)) ≡ length (f x) + length (flat_map f (take k xs)) = length-append (f x) (flat_map f (take k xs)) in
      let past : drop (length (f x) + length (flat_map f (take k xs))) (f x ++ flat_map f xs) ≡ drop (length (flat_map f (take k xs))) (flat_map f xs) =
      sym (drop-drop (length (flat_map f (take k xs))) (length (f x)) (f x ++ flat_map f xs))
      ∙ ap (λ ys. drop (length (flat_map f (take k xs))) ys) (drop_at (f x) (flat_map f xs) (length (f x)) refl) in
      ap (λ m. take n (drop m (f x ++ flat_map f xs))) long ∙ ap (λ ys. take n ys) past ∙ rest
