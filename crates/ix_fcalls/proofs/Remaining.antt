-- What is carried over where some of what stood is gone.
use Rattle.std.proofs.Common.{◌≡◌, ◌≢◌, ◌<◌, ◌&&◌, ℕ, zero, suc, Bool, true, false, List, [], ◌∷◌, length, Option, Some, None, is_some, refl, sym, ap, ◌∙◌, set}
use Rattle.std.proofs.{Common.{arith, get_or, length-set, if◌then◌else◌, inl, inr}, lemmas.{Bool.Decides.eqb_tells, List.{same_lists, get_or_default, get_or-set_other}}}
use Rattle.ix_model.{specs.{world.{World.{World, at, put, change}, Contents.{keep, carried}}, laws.Clean.IsClean}, proofs.words.Lasts.{Lasts, lasting_itself}}
use Rattle.ix_model.proofs.{tables.{Tables.seen_changed, Finds.{at_put, passes_some}}, clean.Carrying.{length-keep, get_or-keep, carried_same}}
use Rattle.ix_fcalls.specs.Remaining.{Remains, Leaves}

-- ---- one table
-- a table with nothing at a number, where that is so
abbrev pub taken : {A : Type 0} → Bool → ℕ → List (Option A) → List (Option A)
taken true n t = put t n None
taken false n t = t

abbrev pub cleared : {A : Type 0} → Bool → ℕ → A → List A → List A
cleared true n d xs = set xs n d
cleared false n d xs = xs

nothing_set : {A : Type 0} (d : A) (xs : List A) (n m : ℕ) → get_or xs m d ≡ d → get_or (set xs n d) m d ≡ d
nothing_set d [] n m h = h
nothing_set d (x ∷ xs) zero zero h = refl
nothing_set d (x ∷ xs) zero (suc m) h = h
nothing_set d (x ∷ xs) (suc n) zero h = h
nothing_set d (x ∷ xs) (suc n) (suc m) h = nothing_set d xs n m h

nothing_here : {A : Type 0} (d : A) (xs : List A) (n : ℕ) → get_or (set xs n d) n d ≡ d
nothing_here d [] n = refl
nothing_here d (x ∷ xs) zero = refl
nothing_here d (x ∷ xs) (suc n) = nothing_here d xs n

module _ {A B : Type 0} (d : A) where
  pub remains_itself : (t : List (Option B)) (xs : List A) → ((n : ℕ) → is_some (at t n) ≡ false → get_or xs n d ≡ d) → Remains d t t xs xs
  remains_itself t xs clean = record { count = refl; stood = λ n is. is; same = λ n is. refl; gone = clean }

  pub remains_changed : (t u : List (Option B)) (xs ys : List A) (n : ℕ) (h : B → B) → Remains d t u xs ys → Remains d t (change u n h) xs ys
  remains_changed t u xs ys n h r =
      let seen = seen_changed is_some h (λ x. refl) u n in
      record {
        count = r.count;
        stood = λ m is. r.stood m (sym (seen m) ∙ is);
        same = λ m is. r.same m (sym (seen m) ∙ is);
        gone = λ m is. r.gone m (sym (seen m) ∙ is);
      }

  stood_but : (u : List (Option B)) (n m : ℕ) → is_some (at (put u n None) m) ≡ true → (m ≢ n) × (is_some (at u m) ≡ true)
  stood_but u n m is =
      let x = passes_some is_some refl _ is in
      elim (at_put u n m _ _ x.1) [
        | inl here ↦ let h : None ≡ Some x.0 = here.1 in cc
        | inr other ↦ (other.0, ap is_some other.1)
      ]

  put_out : (t u : List (Option B)) (xs ys : List A) (n : ℕ) → Remains d t u xs ys → Remains d t (put u n None) xs (set ys n d)
  put_out t u xs ys n r = record {
    count = length-set ys n d ∙ r.count;
    stood = λ m is. r.stood m (stood_but u n m is).1;
    same = λ m is. get_or-set_other ys n m d d (stood_but u n m is).0 ∙ r.same m (stood_but u n m is).1;
    gone = λ m is. elim (eqb_tells m n) [
      | inl same ↦ ap (λ k. get_or (set ys n d) k d) same.1 ∙ nothing_here d ys n
      | inr other ↦ nothing_set d ys n m (r.gone m (sym (ap is_some (get_or-set_other u n m None None other.1)) ∙ is))
    ];
  }

  pub remains_taken : (b : Bool) (t u : List (Option B)) (xs ys : List A) (n : ℕ) → Remains d t u xs ys → Remains d t (taken b n u) xs (cleared b n d ys)
  remains_taken true t u xs ys n r = put_out t u xs ys n r
  remains_taken false t u xs ys n r = r

  pub remains_twice : (t u v : List (Option B)) (xs ys zs : List A) → Remains d t u xs ys → Remains d u v ys zs → Remains d t v xs zs
  remains_twice t u v xs ys zs r s = record {
    count = s.count ∙ r.count;
    stood = λ n is. r.stood n (s.stood n is);
    same = λ n is. s.same n is ∙ r.same n (s.stood n is);
    gone = s.gone;
  }

  kept_remains : (t u : List (Option B)) (xs ys : List A) → Remains d t u xs ys → keep d (λ n. is_some (at t n) && is_some (at u n)) 0 xs ≡ ys
  kept_remains t u xs ys r = same_lists _ _ (length-keep d _ 0 xs ∙ sym r.count) (λ k e h.
      let within : k < length ys = omega (arith, length-keep d (λ n. is_some (at t n) && is_some (at u n)) 0 xs, r.count) in
      get_or_default _ k e d h ∙ get_or-keep d _ 0 xs k ∙ ap (λ m. if is_some (at t m) && is_some (at u m) then get_or xs k d else d) (omega arith)
      ∙ go k _ refl ∙ get_or_default ys k d e within)
    where
      dropped : (b : Bool) (x : A) → (if b && false then x else d) ≡ d
      dropped true x = refl
      dropped false x = refl

      go : (k : ℕ) (b : Bool) → is_some (at u k) ≡ b → (if is_some (at t k) && is_some (at u k) then get_or xs k d else d) ≡ get_or ys k d
      go k true is = (λ i. if r.stood k is i && is i then get_or xs k d else d) ∙ sym (r.same k is)
      go k false is = ap (λ c. if is_some (at t k) && c then get_or xs k d else d) is ∙ dropped _ _ ∙ sym (r.gone k is)

-- ---- worlds
pub leaves_itself : (w : World) → IsClean w → Leaves w w
leaves_itself w clean = record {
  objects = remains_itself _ _ w.content.holdings clean.holdings;
  opens = remains_itself 0 _ w.content.offsets clean.offsets;
  ended = λ p. refl;
  processes = refl;
  statuses = refl;
}

pub leaves_twice : (u v w : World) → Leaves u v → Leaves v w → Leaves u w
leaves_twice u v w r s = record {
  objects = remains_twice _ _ _ _ _ _ _ r.objects s.objects;
  opens = remains_twice 0 _ _ _ _ _ _ r.opens s.opens;
  ended = λ p. s.ended p ∙ r.ended p;
  processes = s.processes ∙ r.processes;
  statuses = s.statuses ∙ r.statuses;
}

-- what is left is clean, and it is what is carried over
pub leaves_clean : (v w : World) → IsClean v → Leaves v w → IsClean w
leaves_clean v w clean r = record {
  holdings = r.objects.gone;
  offsets = r.opens.gone;
  statuses = λ p alive. ap (λ ss. get_or ss p 0) r.statuses ∙ clean.statuses p (sym (r.ended p) ∙ alive);
  count = ap length r.statuses ∙ clean.count ∙ sym r.processes;
}

pub left_carried : (v w : World) → IsClean v → Leaves v w → w.content ≡ carried v.frame w.frame v.content
unfolding carried
left_carried v w clean r =
    let lasts : Lasts v.frame (record v.frame { processes = w.frame.processes }) = record {
      objects = lasting_itself _;
      opens = lasting_itself _;
      processes = record { stays = λ p is. r.ended p ∙ is; count = r.processes };
    } in
    let whole = carried_same v _ lasts clean in
    let hs = kept_remains _ _ _ _ w.content.holdings r.objects in
    let ps = kept_remains 0 _ _ _ w.content.offsets r.opens in
    λ i. record { holdings = sym hs i; offsets = sym ps i; statuses = (r.statuses ∙ sym (ap (λ c. c.statuses) whole)) i }
