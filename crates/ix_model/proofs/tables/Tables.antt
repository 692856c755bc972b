-- Tables: what is at a number after a change, and tables that are one but for some parts of what stands in them.
use Rattle.std.proofs.Common.{◌≡◌, ℕ, zero, suc, Bool, true, false, List, [], ◌∷◌, map, length, Option, Some, None, is_none, option_map, refl, sym, ap, ◌∙◌, ◌||◌}
use Rattle.std.{specs.List.list_any, proofs.{Math.ListN.get_or-map, lemmas.List.length-map}}
use Rattle.ix_model.specs.world.World.{at, put, change}

-- ---- what stands
pub none_is : {A : Type 0} (o : Option A) → is_none o ≡ true → o ≡ None
none_is None h = refl
none_is (Some x) h = cc

-- ---- one change
-- what a change of what stands leaves as it was is at every number as it was
pub seen_changed : {A B : Type 0} (F : Option A → B) (h : A → A) → ((x : A) → F (Some (h x)) ≡ F (Some x)) → (t : List (Option A)) (n m : ℕ) → F (at (change t n h) m) ≡ F (at t m)
seen_changed F h same [] n m = refl
seen_changed F h same (None ∷ t) zero zero = refl
seen_changed F h same (Some y ∷ t) zero zero = same y
seen_changed F h same (x ∷ t) zero (suc m) = refl
seen_changed F h same (x ∷ t) (suc n) zero = refl
seen_changed F h same (x ∷ t) (suc n) (suc m) = seen_changed F h same t n m

-- what is seen at a number stays so, where it stays so of what is put
pub seen_put : {A : Type 0} (F : Option A → Bool) (b : Bool) (t : List (Option A)) (n : ℕ) (x : Option A) (m : ℕ) → (F (at t n) ≡ b → F x ≡ b) → F (at t m) ≡ b → F (at (put t n x) m) ≡ b
seen_put F b [] n x m h is = is
seen_put F b (y ∷ t) zero x zero h is = h is
seen_put F b (y ∷ t) zero x (suc m) h is = is
seen_put F b (y ∷ t) (suc n) x zero h is = is
seen_put F b (y ∷ t) (suc n) x (suc m) h is = seen_put F b t n x m h is

pub map_changed : {A B : Type 0} (F : Option A → B) (h : A → A) → ((x : A) → F (Some (h x)) ≡ F (Some x)) → (t : List (Option A)) (n : ℕ) → map F (change t n h) ≡ map F t
map_changed F h same [] n = refl
map_changed F h same (None ∷ t) zero = refl
map_changed F h same (Some y ∷ t) zero = ap (λ b. b ∷ map F t) (same y)
map_changed F h same (x ∷ t) (suc n) = ap (λ bs. F x ∷ bs) (map_changed F h same t n)

pub at_changed : {A : Type 0} (t : List (Option A)) (n : ℕ) (h : A → A) → at (change t n h) n ≡ option_map h (at t n)
at_changed [] n h = refl
at_changed (None ∷ t) zero h = refl
at_changed (Some x ∷ t) zero h = refl
at_changed (x ∷ t) (suc n) h = at_changed t n h

-- a change that does nothing to what stands there
pub change_same : {A : Type 0} (t : List (Option A)) (n : ℕ) (h : A → A) → ((x : A) → at t n ≡ Some x → h x ≡ x) → change t n h ≡ t
change_same [] n h same = refl
change_same (None ∷ t) zero h same = refl
change_same (Some x ∷ t) zero h same = ap (λ y. Some y ∷ t) (same x refl)
change_same (x ∷ t) (suc n) h same = ap (λ u. x ∷ u) (change_same t n h same)

-- two changes in one place
pub change_twice : {A : Type 0} (t : List (Option A)) (n : ℕ) (h k : A → A) → change (change t n h) n k ≡ change t n (λ x. k (h x))
change_twice [] n h k = refl
change_twice (None ∷ t) zero h k = refl
change_twice (Some x ∷ t) zero h k = refl
change_twice (x ∷ t) (suc n) h k = ap (λ u. x ∷ u) (change_twice t n h k)

-- ---- tests over a table
pub any_put : {A : Type 0} (p : Option A → Bool) (t : List (Option A)) (n : ℕ) (x : Option A) → (p (at t n) ≡ true → p x ≡ true) → list_any p t ≡ true → list_any p (put t n x) ≡ true
any_put p [] n x more h = h
any_put p (y ∷ t) zero x more h = go _ more h
  where
    go : (b : Bool) → (b ≡ true → p x ≡ true) → (b || list_any p t) ≡ true → (p x || list_any p t) ≡ true
    go true m h = let e = m refl in rw e refl
    go false m h = either _
      where
        either : (b : Bool) → (b || list_any p t) ≡ true
        either true = refl
        either false = h
any_put p (y ∷ t) (suc n) x more h = go _ (λ k. any_put p t n x more k) h
  where
    go : (b : Bool) → (list_any p t ≡ true → list_any p (put t n x) ≡ true) → (b || list_any p t) ≡ true → (b || list_any p (put t n x)) ≡ true
    go true next h = refl
    go false next h = next h

pub any_more : {A : Type 0} (p q : A → Bool) (xs : List A) → ((x : A) → p x ≡ true → q x ≡ true) → list_any p xs ≡ true → list_any q xs ≡ true
any_more p q [] more h = h
any_more p q (x ∷ xs) more h = go _ (more x) (any_more p q xs more) h
  where
    go : (b : Bool) → (b ≡ true → q x ≡ true) → (list_any p xs ≡ true → list_any q xs ≡ true) → (b || list_any p xs) ≡ true → (q x || list_any q xs) ≡ true
    go true m next h = let e = m refl in rw e refl
    go false m next h = either _
      where
        either : (b : Bool) → (b || list_any q xs) ≡ true
        either true = refl
        either false = next h

-- ---- tables that are one but for what b takes away
pub record SameBut {A : Type 0} (b : A → A) (t u : List (Option A)) : Type 0 where
  pub same : map (option_map b) u ≡ map (option_map b) t

pub same_itself : {A : Type 0} (b : A → A) (t : List (Option A)) → SameBut b t t
same_itself b t = search

pub same_changed : {A : Type 0} (b : A → A) (t u : List (Option A)) (n : ℕ) (h : A → A) → ((x : A) → b (h x) ≡ b x) → SameBut b t u → SameBut b t (change u n h)
same_changed b t u n h keeps r = record { same = map_changed _ h (λ x. ap Some (keeps x)) u n ∙ r.same }

pub length_same : {A : Type 0} (b : A → A) (t u : List (Option A)) → SameBut b t u → length u ≡ length t
length_same b t u r = sym (length-map u _) ∙ ap length r.same ∙ length-map t _

-- a test, or a count, that doesn't look at what b takes away
module _ {A B : Type 0} (b : A → A) (F : Option A → B) (blind : (x : A) → F (Some (b x)) ≡ F (Some x)) where
  blind_at : (x : Option A) → F (option_map b x) ≡ F x
  blind_at None = refl
  blind_at (Some x) = blind x

  blind_map : (t : List (Option A)) → map F (map (option_map b) t) ≡ map F t
  blind_map [] = refl
  blind_map (x ∷ t) = λ i. blind_at x i ∷ blind_map t i

  pub seen_same : (t u : List (Option A)) → SameBut b t u → (n : ℕ) → F (at u n) ≡ F (at t n)
  seen_same t u r n =
      sym (ap F (get_or-map (option_map b) u n None) ∙ blind_at _)
      ∙ ap (λ v. F (at v n)) r.same
      ∙ ap F (get_or-map (option_map b) t n None) ∙ blind_at _

  pub map_same : (t u : List (Option A)) → SameBut b t u → map F u ≡ map F t
  map_same t u r = sym (blind_map u) ∙ ap (map F) r.same ∙ blind_map t

-- what stands in the one stands in the other, but for what b takes away
pub record Back {A : Type 0} (b : A → A) (t : List (Option A)) (n : ℕ) (x : A) : Type 0 where
  pub was : A
  pub is_was : at t n ≡ Some was
  pub same : b x ≡ b was

back_at : {A : Type 0} (b : A → A) (t u : List (Option A)) (n : ℕ) (x : A) (o : Option A) → at t n ≡ o → option_map b (Some x) ≡ option_map b o → Back b t n x
back_at b t u n x None is e = cc
back_at b t u n x (Some y) is e = record { was = y; is_was = is; same = cc }

pub back : {A : Type 0} (b : A → A) → ((x : A) → b (b x) ≡ b x) → (t u : List (Option A)) → SameBut b t u → (n : ℕ) (x : A) → at u n ≡ Some x → Back b t n x
back b twice t u r n x is = back_at b t u n x _ refl (sym (ap (option_map b) is) ∙ seen_same b (option_map b) (λ y. ap Some (twice y)) t u r n)

any_map : {A : Type 0} (p : Option A → Bool) (t : List (Option A)) → list_any (λ b. b) (map p t) ≡ list_any p t
any_map p [] = refl
any_map p (x ∷ t) = ap (λ b. p x || b) (any_map p t)

pub any_same : {A : Type 0} (b : A → A) (p : Option A → Bool) → ((x : A) → p (Some (b x)) ≡ p (Some x)) → (t u : List (Option A)) → SameBut b t u → list_any p u ≡ list_any p t
any_same b p blind t u r = sym (any_map p u) ∙ ap (list_any (λ b. b)) (map_same b p blind t u r) ∙ any_map p t
