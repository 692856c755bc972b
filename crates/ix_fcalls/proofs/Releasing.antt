-- What one descriptor fewer does to the counts of owners.
use Rattle.std.proofs.Common.{◌≡◌, ◌≢◌, ◌<◌, ◌+◌, ◌-◌, ◌==◌, ◌&&◌, ◌||◌, ℕ, suc, cond, Bool, true, false, not, List, [], ◌∷◌, map, sum, length, count_by, Some}
use Rattle.std.proofs.Common.{Option, None, option_map, refl, sym, ap, ◌∙◌, arith, get_or, set, slice_set, slice_index_or, length-set, if◌then◌else◌, inl, inr}
use Rattle.std.{specs.List.{list_any, range_with_len}, proofs.lemmas.{Bool.{eq-eqb, Decides.eqb_tells}, List.{same_lists, get_or_default, get_or-set_same, get_or-set_other}}}
use Rattle.std.proofs.lemmas.List.{FromFn.{get_or-map-range_with_len, length-map-range_with_len}, Sums.{sum-map, sum_by-cons, sum_by-set}}
use Rattle.ix_model.specs.{world.{World.{Process, at, put, change, living}, Owners.{is_at, owns, owned}}, rows.OnPaths.is_home}
use Rattle.ix_model.proofs.{tables.Finds.{in_table, sum_put}, words.Living.{is_living, not_ended}}
use Rattle.ix_tables.specs.Parts.{named_by, owners_of, homes_of}
use Rattle.ix_fcalls.proofs.Counting.{count_changed}

-- ---- a count, and whether there is one
some_is : (n : ℕ) → (n ≡ 0 → ⊥) → true ≡ not (n == 0)
some_is n some = elim (eqb_tells n 0) [
  | inl none ↦ absurd (some none.1)
  | inr other ↦ sym (ap not other.0)
]

pub any_counted : {A : Type 0} (P : A → Bool) (xs : List A) → list_any P xs ≡ not (count_by P xs == 0)
any_counted P [] = refl
any_counted P (x ∷ xs) = go (P x) refl (any_counted P xs)
  where
    go : (b : Bool) → P x ≡ b → list_any P xs ≡ not (count_by P xs == 0) → list_any P (x ∷ xs) ≡ not (count_by P (x ∷ xs) == 0)
    go true is rest =
        let first : ◌≡◌ {A = ℕ} (cond (P x) 1 0) 1 = ap (λ c. cond c 1 0) is in
        ap (λ c. c || list_any P xs) is ∙ some_is _ (λ none. omega (arith, none, first, sum_by-cons (λ y. cond (P y) 1 0) x xs))
    go false is rest =
        let first : ◌≡◌ {A = ℕ} (cond (P x) 1 0) 0 = ap (λ c. cond c 1 0) is in
        let same : count_by P (x ∷ xs) ≡ count_by P xs = omega (arith, sum_by-cons (λ y. cond (P y) 1 0) x xs, first) in
        ap (λ c. c || list_any P xs) is ∙ rest ∙ ap (λ n. not (n == 0)) (sym same)

either_some : (a b c : ℕ) → c ≡ a + b → (not (a == 0) || not (b == 0)) ≡ not (c == 0)
either_some a b c is = elim (eqb_tells a 0) [
  | inl none ↦
      let same : b ≡ c = omega (arith, is, none.1) in
      ap (λ z. not z || not (b == 0)) none.0 ∙ ap (λ n. not (n == 0)) same
  | inr other ↦ ap (λ z. not z || not (b == 0)) other.0 ∙ some_is c (λ none. other.1 (omega (arith, is, none)))
]

any_summed : {A : Type 0} (P : A → Bool) (F : A → ℕ) → ((x : A) → P x ≡ not (F x == 0)) → (xs : List A) → list_any P xs ≡ not (sum (map F xs) == 0)
any_summed P F by [] = refl
any_summed P F by (x ∷ xs) =
    let whole : sum (map F (x ∷ xs)) ≡ F x + sum (map F xs) = omega (arith, sum-map F (x ∷ xs), sum-map F xs, sum_by-cons F x xs) in
    ap (λ b. b || list_any P xs) (by x) ∙ ap (λ b. not (F x == 0) || b) (any_summed P F by xs) ∙ either_some _ _ _ whole

owns_named : (e : ℕ) (p : Option Process) → owns e p ≡ not (named_by e p == 0)
owns_named e None = refl
owns_named e (Some q) = go _
  where
    go : (b : Bool) → (not b && list_any (is_at e) q.fds) ≡ not ((if b then 0 else count_by (is_at e) q.fds) == 0)
    go true = refl
    go false = any_counted _ q.fds

pub owned_counted : (ps : List (Option Process)) (e : ℕ) → owned ps e ≡ not (sum (map (named_by e) ps) == 0)
owned_counted ps e = any_summed _ _ (owns_named e) ps

-- ---- numbers by number, one of which is one fewer
number_at : (H : ℕ → ℕ) (count n : ℕ) → n < count → slice_index_or (map H (range_with_len 0 count)) n 0 ≡ H n
number_at H count n low = get_or-map-range_with_len H 0 count n n 0 low (omega arith)

module _ (F G : ℕ → ℕ) (count e : ℕ) (stands : e < count) (here : G e + 1 ≡ F e) (elsewhere : (n : ℕ) → n ≢ e → G n ≡ F n) where
  abbrev all : (ℕ → ℕ) → List ℕ
  all H = map H (range_with_len 0 count)

  pub one_fewer : map G (range_with_len 0 count) ≡ slice_set (map F (range_with_len 0 count)) e (slice_index_or (map F (range_with_len 0 count)) e 0 - 1)
  one_fewer = same_lists _ _ (length-map-range_with_len G 0 count ∙ sym (length-set _ e _ ∙ long)) (λ k d h.
      let low : k < count = omega (arith, h, length-map-range_with_len G 0 count) in
      let inside : k < length (slice_set (all F) e (slice_index_or (all F) e 0 - 1)) = omega (arith, low, length-set (all F) e (slice_index_or (all F) e 0 - 1), long) in
      get_or_default _ k d 0 h ∙ number_at G _ k low ∙ go k low ∙ get_or_default _ k 0 d inside)
    where
      long : length (all F) ≡ count
      long = length-map-range_with_len F 0 count

      go : (k : ℕ) → k < count → G k ≡ get_or (slice_set (all F) e (slice_index_or (all F) e 0 - 1)) k 0
      go k low = elim (eqb_tells k e) [
        | inl same ↦
            let within : e < length (all F) = omega (arith, long, stands) in
            let one : slice_index_or (all F) e 0 - 1 ≡ G e = omega (arith, number_at F count e stands, here) in
            ap G same.1 ∙ sym one ∙ sym (get_or-set_same _ e _ 0 within) ∙ ap (λ n. get_or (slice_set (all F) e (slice_index_or (all F) e 0 - 1)) n 0) (sym same.1)
        | inr other ↦ elsewhere k other.1 ∙ sym (number_at F _ k low) ∙ sym (get_or-set_other _ e k _ 0 other.1)
      ]

-- ---- a descriptor of a living process goes
-- as many as there were, but for the one that goes
pub count_put : {A : Type 0} (P : A → Bool) (xs : List A) (n : ℕ) (y d : A) → n < length xs → count_by P (set xs n y) + cond (P (get_or xs n d)) 1 0 ≡ count_by P xs + cond (P y) 1 0
count_put P xs n y d low = sum_by-set (λ x. cond _ 1 0) xs n y d low

module _ (ps : List (Option Process)) (pid fd e : ℕ) (p : Process) (lives : living (at ps pid) ≡ Some p) (names : at p.fds fd ≡ Some e) where
  abbrev take : Process → Process
  take q = record q { fds = put q.fds fd None }

  abbrev after : List (Option Process)
  after = change ps pid take

  there : at ps pid ≡ Some p
  there = is_living _ p lives

  -- what a process of these descriptors has of an entry
  own : (n : ℕ) (fds : List (Option ℕ)) → named_by n (Some (record p { fds = fds })) ≡ count_by (is_at n) fds
  own n fds = ap (λ b. if b then 0 else count_by (is_at n) fds) (not_ended (at ps _) p lives)

  named_after : (n : ℕ) → sum (map (named_by n) after) + count_by (is_at n) p.fds ≡ sum (map (named_by n) ps) + count_by (is_at n) (put p.fds fd None)
  named_after n =
      let all = sum_put (named_by n) ps _ (option_map take (at ps pid)) (in_table ps _ p there) in
      let before : named_by n (at ps pid) ≡ count_by (is_at n) p.fds = ap (named_by n) there ∙ own n p.fds in
      let now : named_by n (option_map take (at ps pid)) ≡ count_by (is_at n) (put p.fds fd None) = ap (λ o. named_by n (option_map take o)) there ∙ own n (put p.fds fd None) in
      omega (arith, all, before, now)

  fewer : (n : ℕ) → sum (map (named_by n) after) + cond (e == n) 1 0 ≡ sum (map (named_by n) ps)
  fewer n =
      let one = count_put (is_at n) p.fds fd None None (in_table _ fd e names) in
      let here : ◌≡◌ {A = ℕ} (cond (is_at n (at p.fds fd)) 1 0) (cond (e == n) 1 0) = ap (λ o. cond (is_at n o) 1 0) names in
      let gone : ◌≡◌ {A = ℕ} (cond (is_at n None) 1 0) 0 = refl in
      omega (arith, named_after n, one, here, gone)

  fewer_here : sum (map (named_by e) after) + 1 ≡ sum (map (named_by e) ps)
  fewer_here = let one : ◌≡◌ {A = ℕ} (cond (e == e) 1 0) 1 = ap (λ b. cond b 1 0) (eq-eqb e e refl) in omega (arith, fewer e, one)

  fewer_else : (n : ℕ) → n ≢ e → sum (map (named_by n) after) ≡ sum (map (named_by n) ps)
  fewer_else n other =
      let none : ◌≡◌ {A = ℕ} (cond (e == n) 1 0) 0 = elim (eqb_tells e n) [
        | inl same ↦ absurd (other (sym same.1))
        | inr apart ↦ ap (λ b. cond b 1 0) apart.0
      ] in
      omega (arith, fewer n, none)

  module _ (count : ℕ) (stands : e < count) where
    -- the entry loses one owner, and all others keep theirs
    pub owners_fewer : owners_of count after ≡ slice_set (owners_of count ps) e (slice_index_or (owners_of count ps) e 0 - 1)
    owners_fewer = one_fewer (λ n. sum (map _ ps)) (λ n. sum (map _ after)) count e stands fewer_here fewer_else

    -- it was the last one exactly where nobody has the entry any more
    pub last_is : (slice_index_or (owners_of count ps) e 0 == 1) ≡ not (owned after e)
    last_is = go _ (sum (map _ after)) (omega (
      arith,
      number_at (λ n. sum (map (named_by n) ps)) count e stands,
      fewer_here,
    )) ∙ ap not (sym (owned_counted after e))
      where
        go : (a b : ℕ) → a ≡ b + 1 → (a == 1) ≡ not (not (b == 0))
        go a b is = elim (eqb_tells b 0) [
          | inl none ↦ let one : a ≡ 1 = omega (arith, is, none.1) in eq-eqb a 1 one ∙ sym (ap (λ c. not (not c)) none.0)
          | inr some ↦ elim (eqb_tells a 1) [
            | inl one ↦ let zero : b ≡ 0 = omega (arith, is, one.1) in absurd (some.1 zero)
            | inr other ↦ other.0 ∙ sym (ap (λ c. not (not c)) some.0)
          ]
        ]

-- where a process is at home doesn't lie with its descriptors
pub homes_taken : (n : ℕ) (ps : List (Option Process)) (pid fd : ℕ) → homes_of n (change ps pid (λ q. record q { fds = put q.fds fd None })) ≡ homes_of n ps
homes_taken n ps pid fd i = map (λ o. count_changed (is_home o) (λ q. record q { fds = put q.fds fd None }) (λ q. refl) ps pid i) (range_with_len 0 n)

-- ---- a process without descriptors ends
none_named : (e : ℕ) (fds : List (Option ℕ)) → ((fd : ℕ) → at fds fd ≡ None) → count_by (is_at e) fds ≡ 0
none_named e [] bare = refl
none_named e (d ∷ fds) bare =
    let first : ◌≡◌ {A = ℕ} (cond (is_at e d) 1 0) 0 = ap (λ o. cond (is_at e o) 1 0) (bare 0) in
    omega (arith, sum_by-cons (λ o. cond (is_at e o) 1 0) d fds, first, none_named e fds (λ fd. bare (suc fd)))

module _ (ps : List (Option Process)) (pid : ℕ) (p : Process) (lives : living (at ps pid) ≡ Some p) where
  abbrev end : Process → Process
  end q = record q { ended = true }

  abbrev ending : List (Option Process)
  ending = change ps pid end

  stood : at ps pid ≡ Some p
  stood = is_living _ p lives

  pub owners_ended : ((fd : ℕ) → at p.fds fd ≡ None) → (count : ℕ) → owners_of count ending ≡ owners_of count ps
  owners_ended bare count i = map (λ e. same e i) (range_with_len 0 count)
    where
      same : (e : ℕ) → sum (map (named_by e) ending) ≡ sum (map (named_by e) ps)
      same e =
          let whole = sum_put (named_by e) ps _ (option_map end (at ps pid)) (in_table ps pid p stood) in
          let before : named_by e (at ps pid) ≡ 0 = ap (named_by e) stood ∙ ap (λ b. if b then 0 else count_by (is_at e) p.fds) (not_ended (at ps pid) p lives) ∙ none_named e p.fds bare in
          let now : named_by e (option_map end (at ps pid)) ≡ 0 = ap (λ o. named_by e (option_map end o)) stood in
          omega (arith, whole, before, now)

  home_fewer : (o : ℕ) → count_by (is_home o) ending + cond (p.cwd == o) 1 0 ≡ count_by (is_home o) ps
  home_fewer o =
      let whole = count_put (is_home o) ps pid (option_map end (at ps pid)) None (in_table ps _ p stood) in
      let before : ◌≡◌ {A = ℕ} (cond (is_home o (at ps pid)) 1 0) (cond (p.cwd == o) 1 0) = ap (λ q. cond (is_home o q) 1 0) stood
      ∙ ap (λ b. cond (not b && p.cwd == o) 1 0) (not_ended (at ps pid) p lives) in
      let now : ◌≡◌ {A = ℕ} (cond (is_home o (option_map end (at ps pid))) 1 0) 0 = ap (λ q. cond (is_home o (option_map end q)) 1 0) stood in
      omega (arith, whole, before, now)

  home_here : count_by (is_home p.cwd) ending + 1 ≡ count_by (is_home p.cwd) ps
  home_here = let one : ◌≡◌ {A = ℕ} (cond (p.cwd == p.cwd) 1 0) 1 = ap (λ b. cond b 1 0) (eq-eqb p.cwd p.cwd refl) in omega (arith, home_fewer p.cwd, one)

  home_else : (o : ℕ) → o ≢ p.cwd → count_by (is_home o) ending ≡ count_by (is_home o) ps
  home_else o other =
      let none : ◌≡◌ {A = ℕ} (cond (p.cwd == o) 1 0) 0 = elim (eqb_tells p.cwd o) [
        | inl same ↦ absurd (other (sym same.1))
        | inr apart ↦ ap (λ b. cond b 1 0) apart.0
      ] in
      omega (arith, home_fewer o, none)

  module _ (count : ℕ) (low : p.cwd < count) where
    pub homes_fewer : homes_of count ending ≡ slice_set (homes_of count ps) p.cwd (slice_index_or (homes_of count ps) p.cwd 0 - 1)
    homes_fewer = one_fewer (λ o. count_by _ ps) (λ o. count_by _ ending) count p.cwd low home_here home_else

    pub at_home : 0 < slice_index_or (homes_of count ps) p.cwd 0
    at_home = omega (arith, number_at (λ o. count_by (is_home o) ps) count p.cwd low, home_here)
