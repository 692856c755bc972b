-- What one name more or fewer does to the counts of names.
use Rattle.std.proofs.Common.{◌≡◌, ◌+◌, ◌<◌, ◌==◌, Bool, true, false, cond, ℕ, suc, List, [], ◌∷◌, ◌++◌, map, sum, length, set, count_by, Some, length-append}
use Rattle.std.proofs.Common.{slice_get, refl, sym, ap, ◌∙◌, arith}
use Rattle.std.{specs.List.sum_by, proofs.lemmas.{Cmp.nat_list_eq_equiv, List.Sums.{sum-map, sum_by-cons, sum_by-append, sum_by-set}}}
use Rattle.ix_model.specs.world.Naming.{same_bytes}
use Rattle.ix_name.specs.Directories.{under, without, AreDifferent}
use Rattle.ix_tables.{specs.Joined.{names_in, names_for}, proofs.Joining.{Lists, names_at}}

abbrev pub Names : Type 0
Names = List (List ℕ × ℕ)

-- a list without a name that it hasn't
none_left : (name : List ℕ) (ns : Names) → ((i : ℕ) (e : List ℕ × ℕ) → slice_get ns i ≡ Some e → same_bytes e.0 name ≡ true → ⊥) → without name ns ≡ ns
none_left name [] none = refl
none_left name (e ∷ ns) none = go (same_bytes e.0 name) refl (none_left name ns (λ i. none (suc i)))
  where
    go : (b : Bool) → same_bytes e.0 name ≡ b → without name ns ≡ ns → without name (e ∷ ns) ≡ e ∷ ns
    go true h rest = absurd (none 0 e refl h)
    go false h rest = rw h (ap (λ (l : Names). e ∷ l) rest)

-- the name that goes is one
pub fewer : (f : List ℕ × ℕ → ℕ) (w : ℕ → ℕ) → ((e : List ℕ × ℕ) → f e ≡ w e.1) → (name : List ℕ) (ns : Names) (n : ℕ) → AreDifferent ns
    → under name ns ≡ Some n → sum_by f ns ≡ sum_by f (without name ns) + w n
fewer f w by name [] n different is = cc
fewer f w by name (e ∷ ns) n different is = go (same_bytes e.0 name) refl (fewer f w by name ns n)
  where
    tail : AreDifferent ns
    tail i j a b x y same = let k : suc i ≡ suc j = different (suc i) (suc j) a b x y same in omega (arith, k)

    go : (b : Bool) → same_bytes e.0 name ≡ b → (AreDifferent ns → under name ns ≡ Some n → sum_by f ns ≡ sum_by f (without name ns) + w n) → sum_by f (e ∷ ns) ≡ sum_by f (without name (e ∷ ns)) + w n
    go true h rest_fewer =
        let here : Some e.1 ≡ Some n = sym (rw h refl) ∙ is in
        let number : e.1 ≡ n = cc in
        let rest : without name ns ≡ ns = none_left name ns (λ i a x y. let no : suc i ≡ 0 =
        different (suc i) 0 a e x refl (nat_list_eq_equiv.congr a.0 name e.0 y ∙ nat_list_eq_equiv.symm name e.0 ∙ h) in omega (arith, no)) in
        let cut : without name (e ∷ ns) ≡ without name ns = rw h refl in
        omega (arith, sum_by-cons f e ns, by e, ap w number, ap (sum_by f) (cut ∙ rest))
    go false h rest_fewer =
        let later : under name ns ≡ Some n = sym (rw h refl) ∙ is in
        let cut : without name (e ∷ ns) ≡ e ∷ without name ns = rw h refl in
        omega (arith, sum_by-cons f e ns, rest_fewer tail later, ap (sum_by f) cut, sum_by-cons f e (without name ns))

lengths : (ns : Names) → length ns ≡ sum_by (λ e. 1) ns
lengths [] = refl
lengths (e ∷ ns) = omega (arith, lengths ns, sum_by-cons {X = List ℕ × ℕ} (λ x. 1) e ns)

-- a list of a directory in the place of another
pub total_set : (f : Names → ℕ) (ls : Lists) (d : ℕ) (new : Names) → d < length ls → sum (map f (set ls d new)) + f (names_at ls d) ≡ sum (map f ls) + f new
total_set f ls d new low = omega (arith, sum-map f (set ls d new), sum-map f ls, sum_by-set f ls d new [] low)

-- ---- one name fewer
module _ (ls : Lists) (d n : ℕ) (name : List ℕ) (low : d < length ls) (different : AreDifferent (names_at ls d)) (there : under name (names_at ls d) ≡ Some n) where
  pub names_fewer : 1 + names_in (set ls d (without name (names_at ls d))) ≡ names_in ls
  names_fewer =
      let new = without name (names_at ls d) in
      omega (arith, total_set length ls d new low, lengths (names_at ls d), lengths new, fewer (λ e. 1) (λ k. 1) (λ e. refl) name (names_at ls d) n different there)

  pub times_fewer : (o : ℕ) → names_for o ls ≡ names_for o (set ls d (without name (names_at ls d))) + cond (n == o) 1 0
  times_fewer o =
      let new = without name (names_at ls d) in
      let one = fewer (λ e. cond (e.1 == o) 1 0) (λ k. cond (k == o) 1 0) (λ e. refl) name (names_at ls d) n different there in
      omega (arith, total_set (count_by (λ e. e.1 == o)) ls d new low, one)

-- ---- one name more
module _ (ls : Lists) (d n : ℕ) (name : List ℕ) (low : d < length ls) where
  pub names_more : names_in (set ls d (names_at ls d ++ (name, n) ∷ [])) ≡ 1 + names_in ls
  names_more =
      let new = names_at ls d ++ (name, n) ∷ [] in
      omega (arith, total_set length ls d new low, length-append (names_at ls d) ((name, n) ∷ []))

  pub times_more : (o : ℕ) → names_for o (set ls d (names_at ls d ++ (name, n) ∷ [])) ≡ names_for o ls + cond (n == o) 1 0
  times_more o =
      let new = names_at ls d ++ (name, n) ∷ [] in
      let weight : List ℕ × ℕ → ℕ = λ e. cond (e.1 == o) 1 0 in
      omega (arith, total_set (count_by (λ e. e.1 == o)) ls d new low, sum_by-append weight (names_at ls d) ((name, n) ∷ []), sum_by-cons weight (name, n) [])
