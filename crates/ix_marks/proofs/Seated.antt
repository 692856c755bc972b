-- The rows stay seated in the buckets of their pids where one is taken and where one is left.
use Rattle.std.proofs.Common.{◌≡◌, ◌==◌, ◌<◌, ◌%◌, ◌⊎◌, ◌||◌, ℕ, true, false, List, [], ◌∷◌, ◌++◌, length, find, Option, Some, None, replicate, zero, suc, refl}
use Rattle.std.proofs.Common.{sym, ap, ◌∙◌, subst, arith, inl, inr, get_or, set, slice_get, if◌then◌else◌, cond, is_some, count_by, ◌+◌}
use Rattle.std.specs.{List.Contains, Option.option_map_or}
use Rattle.std.proofs.{lemmas.Bool.{eq-eqb, ne_eqb}, lemmas.Bool.Decides.eqb_tells, lemmas.List.Folds.list_any-append, lemmas.List.Sums.sum_by-set}
use Rattle.std.proofs.{lemmas.List.{get_or-set_same, get_or-set_other, length-set, length-replicate}, lemmas.List.FromFn.length-range_with_len}
use Rattle.std.proofs.{lemmas.Option.same_Some, Math.Bool.{or-true, or-false}}
use Rattle.ix_links.specs.{Chains.{Chains, chain_of, pushed_back, removed, all_free}, Whole.IsPool}
use Rattle.ix_links.proofs.{Held.{free_below, pool-pushed_back, pool-removed, pool-all_free}, Pooled.{once, stands_contained, fresh, pushed}}
use Rattle.ix_links.proofs.Members.{member, dropped, member-dropped_same, member-dropped_other, without_once, passes, none_found}
use Rattle.ix_marks.specs.RowIndex.{row_of, pid_at, is_at, stands_in, AreDifferent, IsRowIndex}
use Rattle.ix_marks.proofs.Rows.{sits_is, is_sits, within, row_at, row_is, none_is, kept_row, different_more, different_fewer}

-- ---- each row in the bucket of its pid
abbrev Filed : ℕ → List (List ℕ) → List (Option ℕ) → Type 0
Filed width chains pids = (c i : ℕ) → stands_in chains c i ≡ option_map_or (λ p. p % width == c) (pid_at pids i) false

abbrev Tells : ℕ → ℕ → Type 0
Tells a b = (((a == b) ≡ true) × (a ≡ b)) ⊎ (((a == b) ≡ false) × (a ≡ b → ⊥))

module _ (width : ℕ) (pids : List (Option ℕ)) (chains : List (List ℕ)) (p i : ℕ) where
  unfoldable home : ℕ
  home = p % width

  -- what a bucket says of an index that is taken by p, and of one that is free
  taken_says : (c : ℕ) (x : Option ℕ) → x ≡ Some p → option_map_or (λ q. q % width == c) x false ≡ (home == c)
  unfolding home
  taken_says c x is = rw is refl

  free_says : (c : ℕ) (x : Option ℕ) → x ≡ None → option_map_or (λ q. q % width == c) x false ≡ false
  free_says c x is = rw is refl

  module _ (low_i : i < length pids) (x : Option ℕ) where
    at_i : pid_at (set pids i x) i ≡ x
    at_i = get_or-set_same pids i x None low_i

    not_at_i : (j : ℕ) → (i ≡ j → ⊥) → pid_at (set pids i x) j ≡ pid_at pids j
    not_at_i j other = get_or-set_other pids i j x None (λ h. other (sym h))

  in_home : (xs : List ℕ) (j : ℕ) → home < length chains → stands_in (set chains home xs) home j ≡ member j xs
  in_home xs j low = ap (member j) (get_or-set_same chains home xs [] low)

  not_home : (xs : List ℕ) (c j : ℕ) → (c ≡ home → ⊥) → stands_in (set chains home xs) c j ≡ stands_in chains c j
  not_home xs c j other = ap (member j) (get_or-set_other chains home c xs [] other)

  pub filed_more : i < length pids → ((c : ℕ) → stands_in chains c i ≡ false) → p % width < length chains → Filed width chains pids
      → Filed width (set chains (p % width) (get_or chains (p % width) [] ++ i ∷ [])) (set pids i (Some p))
  unfolding home
  filed_more low_i unused low old c j = go (eqb_tells c home) (eqb_tells i j)
    where
      ones : List ℕ
      ones = get_or chains home [] ++ i ∷ []

      here : (k : ℕ) → stands_in (set chains home ones) home k ≡ (stands_in chains home k || ((i == k) || false))
      here k = in_home ones k low ∙ list_any-append (λ n. n == k) (get_or chains home []) (i ∷ [])

      go : Tells c home → Tells i j → stands_in (set chains home ones) c j ≡ option_map_or (λ q. q % width == c) (pid_at (set pids i (Some p)) j) false
      go (inl a) (inl b) =
          let left : stands_in (set chains home ones) c j ≡ true = ap (λ k. stands_in (set chains home ones) k j) a.1 ∙ here j ∙ rw b.0 (or-true (stands_in chains home j)) in
          let right : option_map_or (λ q. q % width == c) (pid_at (set pids i (Some p)) j) false ≡ true =
          taken_says c _ (ap (pid_at (set pids i (Some p))) (sym b.1) ∙ at_i low_i (Some p)) ∙ rw a.1 (eq-eqb home home refl) in
          left ∙ sym right
      go (inl a) (inr b) =
          let left : stands_in (set chains home ones) c j ≡ stands_in chains home j = ap (λ k. stands_in (set chains home ones) k j) a.1 ∙ here j ∙ rw b.0 (or-false (stands_in chains home j)) in
          left ∙ ap (λ k. stands_in chains k j) (sym a.1) ∙ old c j ∙ rw (not_at_i low_i (Some p) j b.1) refl
      go (inr a) (inl b) =
          let right : option_map_or (λ q. q % width == c) (pid_at (set pids i (Some p)) j) false ≡ false =
          taken_says c _ (ap (pid_at (set pids i (Some p))) (sym b.1) ∙ at_i low_i (Some p)) ∙ ne_eqb home c (λ h. a.1 (sym h)) in
          not_home ones c j a.1 ∙ ap (stands_in chains c) (sym b.1) ∙ unused c ∙ sym right
      go (inr a) (inr b) = not_home ones c j a.1 ∙ old c j ∙ rw (not_at_i low_i (Some p) j b.1) refl

  pub filed_fewer : i < length pids → pid_at pids i ≡ Some p → p % width < length chains → Filed width chains pids
      → Filed width (set chains (p % width) (dropped i (get_or chains (p % width) []))) (set pids i None)
  unfolding home
  filed_fewer low_i is low old c j = go (eqb_tells c home) (eqb_tells i j)
    where
      ones : List ℕ
      ones = dropped i (get_or chains home [])

      right : i ≡ j → option_map_or (λ q. q % width == c) (pid_at (set pids i None) j) false ≡ false
      right same = free_says c _ (ap (pid_at (set pids i None)) (sym same) ∙ at_i low_i None)

      go : Tells c home → Tells i j → stands_in (set chains home ones) c j ≡ option_map_or (λ q. q % width == c) (pid_at (set pids i None) j) false
      go (inl a) (inl b) =
          let left : stands_in (set chains home ones) c j ≡ false = ap (λ k. stands_in (set chains home ones) k j) a.1 ∙ in_home ones j low
          ∙ ap (λ k. member k ones) (sym b.1) ∙ member-dropped_same i (get_or chains home []) in
          left ∙ sym (right b.1)
      go (inl a) (inr b) =
          let left : stands_in (set chains home ones) c j ≡ stands_in chains home j = ap (λ k. stands_in (set chains home ones) k j) a.1 ∙ in_home ones j low
          ∙ member-dropped_other i j (get_or chains home []) (λ h. b.1 (sym h)) in
          left ∙ ap (λ k. stands_in chains k j) (sym a.1) ∙ old c j ∙ rw (not_at_i low_i None j b.1) refl
      go (inr a) (inl b) =
          let left : stands_in chains c j ≡ false = ap (stands_in chains c) (sym b.1) ∙ old c i ∙ taken_says c _ is ∙ ne_eqb home c (λ h. a.1 (sym h)) in
          not_home ones c j a.1 ∙ left ∙ sym (right b.1)
      go (inr a) (inr b) = not_home ones c j a.1 ∙ old c j ∙ rw (not_at_i low_i None j b.1) refl

module _ (pids : List (Option ℕ)) (buckets : Chains) (width : ℕ) (old : IsRowIndex pids buckets width) where
  stands : (i p : ℕ) → pid_at pids i ≡ Some p → stands_in buckets.chains (p % width) i ≡ true
  stands i p at = old.filed (p % width) i ∙ rw at (eq-eqb (p % width) (p % width) refl)

  -- what is found in its bucket is a pid's row
  row_found : (p : ℕ) → row_of p pids ≡ find (is_at pids p) (chain_of (p % width) buckets)
  row_found p = go (find (is_at pids p) (chain_of (p % width) buckets)) refl
    where
      go : (o : Option ℕ) → find (is_at pids p) (chain_of (p % width) buckets) ≡ o → row_of p pids ≡ o
      go (Some i) h = row_is pids old.different p i (sits_is p (pid_at pids i) (passes (is_at pids p) (chain_of (p % width) buckets) i h))
      go None h = none_is p pids (λ i at. (let miss = none_found (is_at pids p) (chain_of (p % width) buckets) i h (stands i p at) in cc (miss, is_sits p (pid_at pids i) at)))

  pub row_read : (p : ℕ) (ws : List (Option ℕ)) (o : Option ℕ) → ws ≡ pids → o ≡ find (is_at ws p) (chain_of (p % width) buckets) → row_of p pids ≡ o
  row_read p ws o read is = row_found p ∙ ap (λ us. find (is_at us p) (chain_of (p % width) buckets)) (sym read) ∙ sym is

  bucket_low : (p : ℕ) → p % width < length buckets.chains
  bucket_low p = omega (arith, old.some, old.wide)

  -- how many rows are taken once one is written
  counted : (i : ℕ) (x y : Option ℕ) → i < length pids → pid_at pids i ≡ y → count_by is_some (set pids i x) + cond {A = ℕ} (is_some y) 1 0 ≡ count_by is_some pids + cond {A = ℕ} (is_some x) 1 0
  counted i x y low is = ap (λ z. count_by is_some (set pids i x) + cond {A = ℕ} (is_some z) 1 0) (sym is) ∙ sum_by-set (λ (z : Option ℕ). cond {A = ℕ} (is_some z) 1 0) pids i x None low

  module _ (pooled : IsPool buckets) where
    -- ---- a row more, at the first free index
    module _ (p i : ℕ) (first : slice_get buckets.free 0 ≡ Some i) where
      pub index_low : i < length pids
      index_low = omega (arith, free_below buckets 0 i pooled first, old.pooled)

      free_there : pid_at pids i ≡ None
      free_there = go (pid_at pids i) refl
        where
          go : (o : Option ℕ) → pid_at pids i ≡ o → pid_at pids i ≡ None
          go None h = h
          go (Some q) h = absurd (let none = fresh buckets pooled i first (q % width) in cc (none, stands i q h))

      pub no_one's : (q : ℕ) → row_of q pids ≡ Some i → ⊥
      no_one's q h = let at = row_at q pids i h in cc (at, free_there)

      module _ (none : row_of p pids ≡ None) where
        different : AreDifferent (set pids i (Some p))
        different = different_more pids i (Some p) index_low p refl none old.different

        pub rows_more : (q : ℕ) → row_of q (set pids i (Some p)) ≡ (if q == p then Some i else row_of q pids)
        rows_more q = go (eqb_tells q p)
          where
            go : (((q == p) ≡ true) × (q ≡ p)) ⊎ (((q == p) ≡ false) × (q ≡ p → ⊥)) → row_of q (set pids i (Some p)) ≡ (if q == p then Some i else row_of q pids)
            go (inl same) = rw same.0 (row_is (set pids i (Some p)) different q i (get_or-set_same pids i (Some p) None index_low ∙ ap (λ k. Some k) (sym same.1)))
            go (inr other) = rw other.0 (kept_row pids i (Some p) index_low different q (λ h. cc (free_there, h)) (λ h. other.1 (sym (same_Some p q h))))

        chains_more : (pushed_back (p % width) buckets).chains ≡ set buckets.chains (p % width) (chain_of (p % width) buckets ++ i ∷ [])
        chains_more = (pushed (p % width) i buckets first).chains

        pub seated_more : (buckets' : Chains) → buckets' ≡ pushed_back (p % width) buckets → IsRowIndex (set pids i (Some p)) buckets' width
        seated_more buckets' is = subst (λ b. IsRowIndex (set pids i (Some p)) b width) (sym is) (record {
          filed = λ c j. ap (λ chains. stands_in chains c j) chains_more ∙ filed_more width pids buckets.chains p i index_low (fresh buckets pooled i first) (bucket_low p) old.filed c j;
          different = different;
          wide = ap length chains_more ∙ length-set buckets.chains _ _ ∙ old.wide;
          some = old.some;
          pooled = pool-pushed_back (p % width) buckets (bucket_low p) ∙ old.pooled ∙ sym (length-set pids i (Some p));
          spare = omega (arith, old.spare, (pushed (p % width) i buckets first).fewer, length-set pids i (Some p), counted i (Some p) None index_low free_there);
        })

    -- ---- a row fewer
    module _ (p i : ℕ) (is : row_of p pids ≡ Some i) where
      at : pid_at pids i ≡ Some p
      at = row_at p pids i is

      pub row_low : i < length pids
      row_low = within pids i p at

      pub row_held : Contains (chain_of (p % width) buckets) i
      row_held = stands_contained buckets pooled (p % width) i (stands i p at)

      fewer : AreDifferent (set pids i None)
      fewer = different_fewer pids i None row_low refl old.different

      pub rows_fewer : (q : ℕ) → row_of q (set pids i None) ≡ (if q == p then None else row_of q pids)
      rows_fewer q = go (eqb_tells q p)
        where
          gone : (j : ℕ) → Tells j i → pid_at (set pids i None) j ≡ Some p → ⊥
          gone j (inl same) h = cc (ap (pid_at (set pids i None)) same.1, at_i width pids buckets.chains p i row_low None, h)
          gone j (inr other) h = other.1 (old.different j i p (sym (not_at_i width pids buckets.chains p i row_low None j (λ e. other.1 (sym e))) ∙ h) at)

          go : Tells q p → row_of q (set pids i None) ≡ (if q == p then None else row_of q pids)
          go (inl same) = rw same.0 (none_is q (set pids i None) (λ j h. gone j (eqb_tells j i) (h ∙ ap (λ k. Some k) same.1)))
          go (inr other) = rw other.0 (kept_row pids i None row_low fewer q (λ h. other.1 (sym (same_Some p q (sym at ∙ h)))) (λ h. cc h))

      chains_fewer : (removed (p % width) i buckets).chains ≡ set buckets.chains (p % width) (dropped i (chain_of (p % width) buckets))
      chains_fewer = ap (set buckets.chains (p % width)) (without_once i (chain_of (p % width) buckets) (once buckets pooled (p % width) i (stands i p at)))

      pub seated_fewer : (buckets' : Chains) → buckets' ≡ removed (p % width) i buckets → IsRowIndex (set pids i None) buckets' width
      seated_fewer buckets' made = subst (λ b. IsRowIndex (set pids i None) b width) (sym made) (record {
        filed = λ c j. ap (λ chains. stands_in chains c j) chains_fewer ∙ filed_fewer width pids buckets.chains p i row_low at (bucket_low p) old.filed c j;
        different = fewer;
        wide = length-set buckets.chains _ _ ∙ old.wide;
        some = old.some;
        pooled = pool-removed (p % width) i buckets (bucket_low p) row_held ∙ old.pooled ∙ sym (length-set pids i None);
        spare = omega (arith, old.spare, length-set pids i None, counted i None (Some p) row_low at);
      })

-- ---- no row is taken yet
always : {A : Type 0} (a : A) (n i : ℕ) → get_or (replicate n a) i a ≡ a
always a zero i = refl
always a (suc n) zero = refl
always a (suc n) (suc i) = always a n i

none_counted : (n : ℕ) → count_by is_some (replicate {A = Option ℕ} n None) ≡ 0
none_counted zero = refl
none_counted (suc n) = none_counted n

pub none_seated : (rows width : ℕ) → 0 < width → IsRowIndex (replicate rows None) (all_free rows width) width
none_seated rows width some = record {
  filed = λ c i. (let chain = always {A = List ℕ} [] width c in let pid = always {A = Option ℕ} None rows i in rw (chain, pid) refl);
  different = λ i j p at _. absurd (let none = always {A = Option ℕ} None rows i in cc);
  wide = length-replicate width [];
  some = some;
  pooled = pool-all_free rows width ∙ sym (length-replicate rows None);
  spare = omega (arith, none_counted rows, length-range_with_len 0 rows, length-replicate {A = Option ℕ} rows None);
}
