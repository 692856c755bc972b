-- The numbers of a file system's inodes, how many of them are taken, and the lowest that is free.
use Rattle.std.{proofs.Common.{◌≡◌, ◌≢◌, ◌<◌, ◌≤◌, ◌+◌, ℕ, zero, suc, Bool, true, false, List, [], ◌∷◌, length, map, take, drop, Option, Some, None, is_some, ap}, specs.List.position_from}
use Rattle.std.proofs.{Common.{is_none, cond, refl, ◌∙◌, subst, arith, inl, inr}, Math.Seq.drop-cons}
use Rattle.std.proofs.lemmas.{Bool.{cases_lt, cases_order, Decides.eqb_tells}, List.Sums.sum_by-cons, Iterator.Adapters.position_from-zero}
use Rattle.ix_model.specs.{world.{World.{fs_at, at, lowest_free}, Numbers.first_inode}, declared.config.FsSpec.FsSpec}

-- ---- where they lie
pub first-cons : (s : FsSpec) (fss : List FsSpec) (k : ℕ) → first_inode (s ∷ fss) (suc k) ≡ s.inodes + first_inode fss k
first-cons s fss k = sum_by-cons (λ n. n) s.inodes (map (λ t. t.inodes) (take k _))

pub first_next : (fss : List FsSpec) (k : ℕ) → first_inode fss (suc k) ≡ first_inode fss k + (fs_at fss k).inodes
first_next [] zero = refl
first_next [] (suc k) = refl
first_next (s ∷ fss) zero = omega (arith, first-cons s fss 0)
first_next (s ∷ fss) (suc k) = omega (arith, first-cons s fss (suc k), first-cons s fss k, first_next fss k)

-- a file system's numbers come before those of the ones after it
first_after : (fss : List FsSpec) (j k : ℕ) → j < k → first_inode fss j + (fs_at fss j).inodes ≤ first_inode fss k
first_after fss j zero h = absurd (omega arith)
first_after fss j (suc k) h = elim (cases_lt j k) [
  | inl low ↦ omega (arith, first_after fss j k low, first_next fss k)
  | inr high ↦
      let same : k ≡ j = omega arith in
      subst (λ i. first_inode fss i + (fs_at fss i).inodes ≤ first_inode fss (suc k)) same (omega (arith, first_next fss k))
]

-- a number is of one file system at most
pub one_fs : (fss : List FsSpec) (j k o : ℕ) → first_inode fss j ≤ o → o < first_inode fss j + (fs_at fss j).inodes → first_inode fss k ≤ o → o < first_inode fss k + (fs_at fss k).inodes → j ≡ k
one_fs fss j k o from_j to_j from_k to_k = elim (cases_order j k) [
  | inl same ↦ same
  | inr apart ↦ elim apart [
    | inl before ↦ absurd (omega (arith, first_after fss j k before))
    | inr after ↦ absurd (omega (arith, first_after fss k j after))
  ]
]

pub first_within : (fss : List FsSpec) (k : ℕ) → first_inode fss k + (fs_at fss k).inodes ≤ first_inode fss (length fss)
first_within [] zero = omega arith
first_within [] (suc k) = omega arith
first_within (s ∷ fss) zero = omega (arith, first-cons s fss (length fss))
first_within (s ∷ fss) (suc k) = omega (arith, first-cons s fss (length fss), first-cons s fss k, first_within fss k)

-- ---- how many are taken
-- how many of the n numbers from b on have something
pub filled : {A : Type 0} → List (Option A) → ℕ → ℕ → ℕ
filled t b zero = 0
filled t b (suc n) = cond (is_some (at t b)) 1 0 + filled t (suc b) n

at_most_one : (b : Bool) → cond {A = ℕ} b 1 0 ≤ 1
at_most_one true = omega arith
at_most_one false = omega arith

pub filled_same : {A : Type 0} (t u : List (Option A)) (b n : ℕ) → ((m : ℕ) → b ≤ m → m < b + n → is_some (at u m) ≡ is_some (at t m)) → filled u b n ≡ filled t b n
unfolding filled
filled_same t u b zero same = refl
filled_same t u b (suc n) same = λ i. cond (same b (omega arith) (omega arith) i) 1 0 + filled_same t u (suc b) n (λ m from to. same m (omega arith) (omega arith)) i

-- where they differ at one number
pub filled_more : {A : Type 0} (t u : List (Option A)) (o b n : ℕ) → ((m : ℕ) → m ≢ o → is_some (at u m) ≡ is_some (at t m)) → filled u b n ≤ suc (filled t b n)
unfolding filled
filled_more t u o b zero same = omega arith
filled_more t u o b (suc n) same = elim (eqb_tells b o) [
  | inl here ↦
      let rest : filled u (suc b) n ≡ filled t (suc b) n = filled_same t u (suc b) n (λ m from to. same m (λ e. absurd (omega (arith, here.1)))) in
      omega (arith, at_most_one (is_some (at u b)))
  | inr other ↦
      let first : cond {A = ℕ} (is_some (at u b)) 1 0 ≡ cond {A = ℕ} (is_some (at t b)) 1 0 = ap (λ x. cond {A = ℕ} x 1 0) (same b other.1) in
      omega (arith, filled_more t u o (suc b) n same)
]

filled_none : {A : Type 0} (t : List (Option A)) (b n : ℕ) → ((m : ℕ) → b ≤ m → m < b + n → is_some (at t m) ≡ false) → filled t b n ≡ 0
unfolding filled
filled_none t b zero none = refl
filled_none t b (suc n) none =
    let first = ap (λ x. cond {A = ℕ} x 1 0) (none b (omega arith) (omega arith)) in
    omega (arith, filled_none t (suc b) n (λ m from to. none m (omega arith) (omega arith)))

-- where only the first may be taken
pub filled_one : {A : Type 0} (t : List (Option A)) (b n : ℕ) → ((m : ℕ) → b < m → m < b + n → is_some (at t m) ≡ false) → filled t b n ≤ 1
unfolding filled
filled_one t b zero none = omega arith
filled_one t b (suc n) none = omega (arith, at_most_one (is_some (at t b)), filled_none t (suc b) n (λ m from to. none m (omega arith) (omega arith)))

-- ---- the lowest free one
pub record Free {A : Type 0} (t : List (Option A)) (b n i : ℕ) : Type 0 where
  pub step : ℕ
  pub low : step < n
  pub found : position_from is_none i (take n (drop b t)) ≡ Some (i + step)
  pub none : at t (b + step) ≡ None

free_from : {A : Type 0} (t : List (Option A)) (b n i : ℕ) → b + n ≤ length t → filled t b n < n → Free t b n i
unfolding filled
free_from {A = A} t b zero i long few = absurd (omega arith)
free_from {A = A} t b (suc n) i long few = go (at t b) refl (λ fewer. free_from t (suc b) n _ (omega arith) fewer)
  where
    cut : take (suc n) (drop b t) ≡ at t b ∷ take n (drop (suc b) t)
    cut = ap (take (suc n)) (drop-cons t b None (omega arith))

    go : (x : Option A) → at t b ≡ x → (filled t (suc b) n < n → Free t (suc b) n (i + 1)) → Free t b (suc n) i
    go None is next = record {
      step = 0;
      low = omega arith;
      found = ap (position_from is_none i) (cut ∙ ap (λ x. x ∷ take n (drop (suc b) t)) is) ∙ ap Some (omega arith);
      none = ap (at t) (omega arith) ∙ is;
    }
    go (Some x) is next =
        let one : cond {A = ℕ} (is_some (at t b)) 1 0 ≡ 1 = ap (λ y. cond {A = ℕ} (is_some y) 1 0) is in
        let r = next (omega arith) in
        record {
          step = suc r.step;
          low = omega (arith, r.low);
          found = ap (position_from is_none i) (cut ∙ ap (λ x. x ∷ take n (drop (suc b) t)) is) ∙ r.found ∙ ap Some (omega arith);
          none = ap (at t) (omega arith) ∙ r.none;
        }

-- where not all are taken, one is free
pub record LowestFree {A : Type 0} (t : List (Option A)) (b n : ℕ) : Type 0 where
  pub step : ℕ
  pub low : step < n
  pub found : lowest_free (take n (drop b t)) ≡ Some step
  pub none : at t (b + step) ≡ None

pub free_is : {A : Type 0} (t : List (Option A)) (b n : ℕ) → b + n ≤ length t → filled t b n < n → LowestFree t b n
free_is t b n long few =
    let r = free_from t b n 0 long few in
    record { step = r.step; low = r.low; found = position_from-zero is_none _ ∙ r.found ∙ ap Some (omega arith); none = r.none }
