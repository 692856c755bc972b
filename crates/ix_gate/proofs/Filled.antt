-- A list that is filled from the front.
use Rattle.std.proofs.Common.{◌≡◌, ℕ, zero, suc, ◌+◌, ◌<◌, List, [], ◌∷◌, ◌++◌, length, Some, slice_get, refl, ap, sym, ◌∙◌, arith}
use mathlib.Core.Logic.{dite}
use native.Mathlib.Decide.{ℕ_discrete}

module _ {A : Type 0} where
  slice_get-append_end : (l : List A) (x : A) → slice_get (l ++ x ∷ []) (length l) ≡ Some x
  slice_get-append_end [] x = refl
  slice_get-append_end (y ∷ l) x = slice_get-append_end l x

  slice_get-append_front : (l m : List A) (k : ℕ) → k < length l → slice_get (l ++ m) k ≡ slice_get l k
  slice_get-append_front [] m k h = absurd (omega arith)
  slice_get-append_front (y ∷ l) m zero h = refl
  slice_get-append_front (y ∷ l) m (suc k) h = slice_get-append_front l m k (omega arith)

  -- the first n items are those of f, and so is the next
  pub filled : (l m : List A) (f : ℕ → A) (n : ℕ) (x : A) → m ≡ l ++ x ∷ [] → length l ≡ n → ((k : ℕ) → k < n → slice_get l k ≡ Some (f k)) → x ≡ f n → (k : ℕ) → k < n + 1 → slice_get m k ≡ Some (f k)
  filled l m f n x is len before here k below = ap (λ (z : List A). slice_get z k) is ∙ dite (ℕ_discrete k n)
      (λ e. let at : k ≡ length l = e ∙ sym len in ap (slice_get (l ++ x ∷ [])) at ∙ (slice_get-append_end l x ∙ ap Some (here ∙ ap f (sym e))))
      (λ ne. slice_get-append_front l (x ∷ []) k (omega arith) ∙ before k (omega arith))
