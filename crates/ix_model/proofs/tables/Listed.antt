-- The names of a directory as a list: one more at the end, and one taken out.
use Rattle.std.{proofs.Common.{◌≡◌, ◌≤◌, ◌+◌, ◌==◌, ℕ, Bool, true, false, true≢false, not, ◌||◌, List, [], ◌∷◌, ◌++◌, map, filter, length, count_by, find, cond}, specs.List.list_any}
use Rattle.std.proofs.{Common.{Some, None, option_map, if◌then◌else◌, refl, sym, ap, ◌∙◌, arith}, lemmas.List.{Folds.list_any-append, Sums.{sum_by_push, length-filter, count_by-le-length}}}
use Rattle.std.proofs.lemmas.{Bool.{and_parts, and_from, or_parts, not-true, not_from_false, false_from_ne_true}, List.map-append}
use Rattle.ix_model.{specs.{world.Naming.same_bytes, opening.Valid.all_differ}, proofs.{tables.Alike.{bytes_are, bytes_itself}, words.There.counted}}

abbrev pub Names : Type 0
Names = List (List ℕ × ℕ)

-- ---- two names
other_way : (a b : List ℕ) → same_bytes a b ≡ false → same_bytes b a ≡ false
other_way a b h = false_from_ne_true _ (λ yes.
    let e = bytes_are b a yes in
    true≢false (sym (bytes_itself a) ∙ ap (same_bytes a) (sym e) ∙ h))

-- ---- one more
pub count_more : (m o : ℕ) (name : List ℕ) (es : Names) → count_by (λ n. n.1 == m) (es ++ (name, o) ∷ []) ≡ count_by (λ n. n.1 == m) es + cond {A = ℕ} (o == m) 1 0
count_more m o name es = sum_by_push (λ n. cond _ 1 0) es _

any_last : (a name : List ℕ) (o : ℕ) (es : Names) → list_any (same_bytes a) (map (λ n. n.0) (es ++ (name, o) ∷ [])) ≡ (list_any (same_bytes a) (map (λ n. n.0) es) || (same_bytes a name || false))
any_last a name o es = ap (list_any _) (map-append (λ n. n.0) es _) ∙ list_any-append _ (map (λ n. n.0) es) _

pub differ_more : (es : Names) (name : List ℕ) (o : ℕ) → all_differ (map (λ n. n.0) es) ≡ true → find (λ e. same_bytes e.0 name) es ≡ None → all_differ (map (λ n. n.0) (es ++ (name, o) ∷ [])) ≡ true
differ_more [] name o h none = refl
differ_more (e ∷ es) name o h none = go (same_bytes e.0 name) refl none (λ d k. differ_more es name o d k)
  where
    go : (b : Bool) → same_bytes e.0 name ≡ b → (if b then Some e else find (λ x. same_bytes x.0 name) es) ≡ None
        → (all_differ (map (λ n. n.0) es) ≡ true → find (λ x. same_bytes x.0 name) es ≡ None → all_differ (map (λ n. n.0) (es ++ (name, o) ∷ [])) ≡ true)
        → all_differ (map (λ n. n.0) (e ∷ es ++ (name, o) ∷ [])) ≡ true
    go true is k next = cc
    go false is k next =
        let p = and_parts (not (list_any (same_bytes e.0) (map (λ (n : List ℕ × ℕ). n.0) es))) (all_differ (map (λ (n : List ℕ × ℕ). n.0) es)) h in
        let apart : list_any (same_bytes e.0) (map (λ (n : List ℕ × ℕ). n.0) (es ++ (name, o) ∷ [])) ≡ false = any_last e.0 name o es
        ∙ ap (λ b. b || (same_bytes e.0 name || false)) (not-true _ p.0) ∙ ap (λ b. b || false) is in
        and_from _ _ (not_from_false _ apart) (next p.1 k)

-- ---- one taken out
-- the names but this one
abbrev pub others : List ℕ → Names → Names
others name es = filter (λ n. not (same_bytes n.0 name)) es

none_out : (name : List ℕ) (es : Names) → list_any (same_bytes name) (map (λ n. n.0) es) ≡ false → others name es ≡ es
none_out name [] h = refl
none_out name (e ∷ es) h =
    let p = or_parts _ (list_any _ (map (λ n. n.0) es)) h in
    ap (λ b. if not b then e ∷ others name es else others name es) (other_way name e.0 p.0) ∙ ap (λ t. e ∷ t) (none_out _ es p.1)

-- what the name leads to is counted once less, and all else as before
module _ (name : List ℕ) (o : ℕ) where
  pub count_out : (m : ℕ) (es : Names) → all_differ (map (λ n. n.0) es) ≡ true → option_map (λ e. e.1) (find (λ e. same_bytes e.0 name) es) ≡ Some o
      → count_by (λ n. n.1 == m) (others name es) + cond {A = ℕ} (o == m) 1 0 ≡ count_by (λ n. n.1 == m) es
  count_out m [] h is = cc
  count_out m (e ∷ es) h is = go _ refl is (λ d k. count_out m es d k)
    where
      go : (b : Bool) → same_bytes e.0 name ≡ b → option_map (λ x. x.1) (if b then Some e else find (λ x. same_bytes x.0 name) es) ≡ Some o
          → (all_differ (map (λ n. n.0) es) ≡ true → option_map (λ x. x.1) (find (λ x. same_bytes x.0 name) es) ≡ Some o
          → count_by (λ n. n.1 == m) (others name es) + cond {A = ℕ} (o == m) 1 0 ≡ count_by (λ n. n.1 == m) es)
          → count_by (λ n. n.1 == m) (if not b then e ∷ others name es else others name es) + cond {A = ℕ} (o == m) 1 0 ≡ count_by (λ n. n.1 == m) (e ∷ es)
      go true same k next =
          let p = and_parts (not (list_any _ (map (λ n. n.0) es))) (all_differ (map (λ n. n.0) es)) h in
          let one : e.1 ≡ o = cc in
          let here = bytes_are _ _ same in
          let rest : others name es ≡ es = none_out name es (ap (λ a. list_any (same_bytes a) (map (λ (n : List ℕ × ℕ). n.0) es)) (sym here) ∙ not-true _ p.0) in
          let left : count_by (λ n. n.1 == m) (others name es) ≡ count_by (λ n. n.1 == m) es = ap (count_by (λ n. n.1 == m)) rest in
          let head : cond {A = ℕ} (e.1 == m) 1 0 ≡ cond {A = ℕ} (o == m) 1 0 = ap (λ k. cond {A = ℕ} (k == m) 1 0) one in
          omega (arith, left, head, counted m e es)
      go false same k next =
          let p = and_parts (not (list_any (same_bytes e.0) (map (λ (n : List ℕ × ℕ). n.0) es))) (all_differ (map (λ (n : List ℕ × ℕ). n.0) es)) h in
          omega (arith, next p.1 k, counted m e (others name es), counted m e es)

any_fewer : (a name : List ℕ) (es : Names) → list_any (same_bytes a) (map (λ n. n.0) es) ≡ false → list_any (same_bytes a) (map (λ n. n.0) (others name es)) ≡ false
any_fewer a name [] h = refl
any_fewer a name (e ∷ es) h = go _ (any_fewer a _ es p.1)
  where
    p : (same_bytes a e.0 ≡ false) × (list_any (same_bytes a) (map (λ n. n.0) es) ≡ false)
    p = or_parts _ (list_any _ (map (λ n. n.0) es)) h

    go : (b : Bool) → list_any (same_bytes a) (map (λ n. n.0) (others name es)) ≡ false → list_any (same_bytes a) (map (λ n. n.0) (if b then e ∷ others name es else others name es)) ≡ false
    go true rest = ap (λ b. b || list_any (same_bytes a) (map (λ n. n.0) (others name es))) p.0 ∙ rest
    go false rest = rest

pub differ_fewer : (name : List ℕ) (es : Names) → all_differ (map (λ n. n.0) es) ≡ true → all_differ (map (λ n. n.0) (others name es)) ≡ true
differ_fewer name [] h = refl
differ_fewer name (e ∷ es) h = go _ (differ_fewer _ es p.1)
  where
    p : (not (list_any (same_bytes e.0) (map (λ n. n.0) es)) ≡ true) × (all_differ (map (λ n. n.0) es) ≡ true)
    p = and_parts (not (list_any _ (map (λ n. n.0) es))) (all_differ (map (λ n. n.0) es)) h

    go : (b : Bool) → all_differ (map (λ n. n.0) (others name es)) ≡ true → all_differ (map (λ n. n.0) (if b then e ∷ others name es else others name es)) ≡ true
    go true rest = and_from _ _ (not_from_false _ (any_fewer _ _ es (not-true _ p.0))) rest
    go false rest = rest

pub length_fewer : (name : List ℕ) (es : Names) → length (others name es) ≤ length es
length_fewer name es = omega (arith, length-filter (λ (n : List ℕ × ℕ). not (same_bytes n.0 name)) es, count_by-le-length (λ (n : List ℕ × ℕ). not (same_bytes n.0 name)) es)
