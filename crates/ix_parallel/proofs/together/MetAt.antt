-- A meeting of the seats of two lanes of a list.
use Rattle.std.proofs.Common.{◌≡◌, ◌≢◌, ℕ, zero, suc, ◌-◌, ◌<◌, List, [], ◌∷◌, ◌++◌, length, get_or, set, Some, refl, sym, ap, ◌∙◌, subst, arith, slice_get}
use Rattle.std.proofs.lemmas.{List.{length-set, set-append_left, set-append_right, set-get_or}, Option.slice_get-get_or}
use Rattle.ix_parallel.specs.{Meeting.{MayMeet, Meets, SameKernel}, Seats.Seated}

-- ---- lists
pub set_here : {A : Type 0} → (xs : List A) (n : ℕ) (x y : A) → slice_get xs n ≡ Some x → slice_get (set xs n y) n ≡ Some y
set_here [] n x y h = cc
set_here (z ∷ xs) zero x y h = refl
set_here (z ∷ xs) (suc n) x y h = set_here xs n x y h

pub set_else : {A : Type 0} → (xs : List A) (n k : ℕ) (y : A) → k ≢ n → slice_get (set xs n y) k ≡ slice_get xs k
set_else [] n k y apart = refl
set_else (z ∷ xs) zero zero y apart = absurd (apart refl)
set_else (z ∷ xs) zero (suc k) y apart = refl
set_else (z ∷ xs) (suc n) zero y apart = refl
set_else (z ∷ xs) (suc n) (suc k) y apart = set_else xs n k y (λ same. apart (ap suc same))

in_front : {A : Type 0} → (xs ys : List A) (n : ℕ) → n < length xs → slice_get (xs ++ ys) n ≡ slice_get xs n
in_front [] ys n h = absurd (omega (arith, h))
in_front (x ∷ xs) ys zero h = refl
in_front (x ∷ xs) ys (suc n) h = in_front xs ys n (omega (arith, h))

first_behind : {A : Type 0} → (xs ys : List A) → slice_get (xs ++ ys) (length xs) ≡ slice_get ys 0
first_behind [] ys = refl
first_behind (x ∷ xs) ys = first_behind xs ys

front_at : {A : Type 0} → (front back : List A) (n : ℕ) (d : A) → n < length front → slice_get (front ++ back) n ≡ Some (get_or front n d)
front_at front back n d low = in_front front back n low ∙ slice_get-get_or front n d low

back_at : {A : Type 0} → (front back : List A) (e : A) → 0 < length back → slice_get (front ++ back) (length front) ≡ Some (get_or back 0 e)
back_at front back e some = first_behind front back ∙ slice_get-get_or back 0 e some

-- ---- who may meet
module _ {T : Type 0} (may : T → T → Type 0) (front back : List T) (n : ℕ) (d e : T) (low : n < length front) (some : 0 < length back) where
  pub may_behind : MayMeet may n (length front) (front ++ back) → may (get_or front n d) (get_or back 0 e)
  may_behind h = h (get_or front n d) (get_or back 0 e) (front_at front back n d low) (back_at front back e some)

  pub may_before : MayMeet may (length front) n (front ++ back) → may (get_or back 0 e) (get_or front n d)
  may_before h = h (get_or back 0 e) (get_or front n d) (back_at front back e some) (front_at front back n d low)

pub same_kernels : (lanes : List Seated) (n m : ℕ) → SameKernel lanes → MayMeet (λ (x y : Seated). x.sys.kernel ≡ y.sys.kernel) n m lanes
same_kernels lanes n m (kernel, h) = λ one other here there. h n one here ∙ sym (h m other there)

-- ---- one meeting
module _ {T : Type 0} (learns : T → T → T → Type 0) where
  meets_set : (n m : ℕ) (old new : List T) (one other after : T) → slice_get old n ≡ Some one → slice_get old m ≡ Some other → learns one other after → new ≡ set old n after → Meets learns n m old new
  meets_set n m old new one other after here there h is = record {
    count = ap length is ∙ length-set old n after;
    others = λ k apart. ap (λ l. slice_get l k) is ∙ set_else old n k after apart;
    one = λ x y a b.
        let first : one ≡ x = cc in
        let next : other ≡ y = cc in
        (after, ap (λ l. slice_get l n) is ∙ set_here old n one after here, subst (λ z. learns x z after) next (subst (λ z. learns z other after) first h));
  }

  module _ (front back : List T) (n : ℕ) (d e one other : T) (low : n < length front) (some : 0 < length back) where
    pub met_behind : learns (get_or front n d) (get_or back 0 e) one → other ≡ get_or back 0 e → Meets learns n (length front) (front ++ back) (set front n one ++ set back 0 other)
    met_behind h stays =
        let same : set back 0 other ≡ back = ap (λ x. set back 0 x) stays ∙ set-get_or back 0 e in
        meets_set n (length front) (front ++ back) (set front n one ++ set back 0 other) (get_or front n d) (get_or back 0 e) one (front_at front back n d low) (back_at front back e some) h
        (ap (λ l. set front n one ++ l) same ∙ sym (set-append_left front back n one low))

    pub met_before : learns (get_or back 0 e) (get_or front n d) other → one ≡ get_or front n d → Meets learns (length front) n (front ++ back) (set front n one ++ set back 0 other)
    met_before h stays =
        let same : set front n one ≡ front = ap (λ x. set front n x) stays ∙ set-get_or front n d in
        let none : length front - length front ≡ 0 = omega arith in
        meets_set (length front) n (front ++ back) (set front n one ++ set back 0 other) (get_or back 0 e) (get_or front n d) other (back_at front back e some) (front_at front back n d low) h
        (ap (λ l. l ++ set back 0 other) same ∙ ap (λ j. front ++ set back j other) (sym none) ∙ sym (set-append_right front back (length front) (length front) other refl (omega arith)))
