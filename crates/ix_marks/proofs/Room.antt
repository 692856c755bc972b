-- A row is free for a process that has none.
use Rattle.std.proofs.Common.{◌≡◌, ◌<◌, ◌≤◌, ◌+◌, ℕ, zero, suc, Bool, true, false, List, [], ◌∷◌, length, Option, Some, None, is_some, count_by, cond, refl, ap}
use Rattle.std.proofs.Common.{sym, ◌∙◌, arith, get_or, set}
use Rattle.std.proofs.lemmas.List.{get_or-set_other, Sums.{sum_by-set, sum_by-cons}}
use Rattle.ix_marks.{specs.RowIndex.{row_of, pid_at, AreDifferent}, proofs.Rows.row_is}

later : (x : Option ℕ) (xs : List (Option ℕ)) → AreDifferent (x ∷ xs) → AreDifferent xs
later x xs different i j p h k = let same = different (suc i) (suc j) p h k in omega (arith, same)

module _ {A : Type 0} where
  abbrev stands : List (Option A) → ℕ → Bool
  stands table q = is_some (get_or table q None)

  low_of : (table : List (Option A)) (q : ℕ) → stands table q ≡ true → q < length table
  low_of [] q h = cc h
  low_of (x ∷ table) zero h = omega arith
  low_of (x ∷ table) (suc q) h = let rest = low_of table q h in omega (arith, rest)

  one_fewer : (table : List (Option A)) (q : ℕ) → stands table q ≡ true → count_by is_some (set table q None) + 1 ≡ count_by is_some table
  one_fewer table q h =
      let moved = sum_by-set (λ (z : Option A). cond {A = ℕ} (is_some z) 1 0) table q None None (low_of table q h) in
      let one : cond {A = ℕ} (is_some (get_or table q None)) 1 0 ≡ 1 = rw h refl in
      omega (arith, moved, one)

  some_there : (table : List (Option A)) (q : ℕ) → stands table q ≡ true → 0 < count_by is_some table
  some_there table q h = omega (arith, one_fewer table q h)

  -- different numbers that stand in a table, and one more that does, are no more than the table has
  fewer : (xs : List (Option ℕ)) (table : List (Option A)) (p : ℕ) → AreDifferent xs → ((i q : ℕ) → pid_at xs i ≡ Some q → stands table q ≡ true)
      → stands table p ≡ true → ((i : ℕ) → pid_at xs i ≡ Some p → ⊥) → count_by is_some xs < count_by is_some table
  fewer [] table p different all here absent = some_there table p here
  fewer (None ∷ xs) table p different all here absent = fewer xs table p (later None xs different) (λ i q h. all (suc i) q h) here (λ i h. absent (suc i) h)
  fewer (Some n ∷ xs) table p different all here absent =
      let rest = fewer xs (set table n None) p (later (Some n) xs different) kept (stays p here (λ e. absent 0 (ap (λ k. Some k) (sym e)))) (λ i h. absent (suc i) h) in
      omega (arith, rest, one_fewer table n (all 0 n refl), sum_by-cons (λ (z : Option ℕ). cond {A = ℕ} (is_some z) 1 0) (Some n) xs)
    where
      stays : (q : ℕ) → stands table q ≡ true → (q ≡ n → ⊥) → stands (set table n None) q ≡ true
      stays q there other = ap is_some (get_or-set_other table n q None None other) ∙ there

      kept : (i q : ℕ) → pid_at xs i ≡ Some q → stands (set table n None) q ≡ true
      kept i q h = stays q (all (suc i) q h) (λ e. (let twice = different 0 (suc i) n refl (h ∙ ap (λ k. Some k) e) in omega (arith, twice)))

  pub room : (xs : List (Option ℕ)) (free rows : ℕ) → AreDifferent xs → free + count_by is_some xs ≡ length xs → length xs ≡ rows
      → (table : List (Option A)) (p : ℕ) → count_by is_some table ≤ rows → ((q : ℕ) → is_some (row_of q xs) ≡ true → is_some (get_or table q None) ≡ true)
      → is_some (get_or table p None) ≡ true → is_some (row_of p xs) ≡ false → 0 < free
  room xs free rows different spare wide table p few all here none =
      omega (arith, spare, wide, few, fewer xs table p different (λ i q h. all q (ap is_some (row_is xs different q i h))) here (λ i h. cc (none, ap is_some (row_is xs different p i h))))
