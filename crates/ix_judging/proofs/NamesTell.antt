-- The lane whose name stands in a line is found.
use Rattle.std.proofs.Common.{◌≡◌, ℕ, zero, suc, ◌+◌, ◌<◌, not, Bool, true, false, List, [], ◌∷◌, ◌++◌, length, get_or, Option, Some, refl, sym, ap, ◌∙◌}
use Rattle.std.{proofs.{Common.{subst, arith, append_assoc, if◌then◌else◌}, lemmas.{Bool.{and_parts, and_from, eq-eqb, eqb-true}, List.append_cancel_left}}, specs.List.list_all}
use Rattle.ix_judging.specs.Names.{Differ, has_no_space, starts, told_from}

-- ---- fronts
pub starts_with : (front rest : List ℕ) → starts front (front ++ rest) ≡ true
starts_with [] rest = refl
starts_with (x ∷ front) rest = and_from _ _ (eq-eqb x x refl) (starts_with front _)

pub starts_so : (front line : List ℕ) → starts front line ≡ true → (rest : List ℕ) × (line ≡ front ++ rest)
starts_so [] line is = (line, refl)
starts_so (x ∷ front) [] is = cc is
starts_so (x ∷ front) (y ∷ line) is =
    let parts = and_parts _ _ is in
    let more = starts_so front _ parts.1 in
    (more.0, ap (λ n. n ∷ line) (sym (eqb-true x y parts.0)) ∙ ap (λ ns. x ∷ ns) more.1)

-- ---- words before a space
no_space_first : (b : ℕ) (word : List ℕ) → has_no_space (b ∷ word) ≡ true → b ≡ 32 → ⊥
no_space_first b word is same =
    let parts = and_parts _ _ is in
    let space = eq-eqb b 32 same in
    let odd = ap not (sym space) ∙ parts.0 in
    cc odd

same_word : (v w x y : List ℕ) → has_no_space v ≡ true → has_no_space w ≡ true → v ++ 32 ∷ x ≡ w ++ 32 ∷ y → v ≡ w
same_word [] [] x y h k same = refl
same_word [] (b ∷ w) x y h k same = let one : b ≡ 32 = cc same in absurd (no_space_first b w k one)
same_word (a ∷ v) [] x y h k same = let one : a ≡ 32 = cc same in absurd (no_space_first a v h one)
same_word (a ∷ v) (b ∷ w) x y h k same =
    let one : a ≡ b = cc same in
    let rest : v ++ 32 ∷ x ≡ w ++ 32 ∷ y = cc in
    let mine = and_parts _ _ h in
    let other = and_parts _ _ k in
    ap (λ n. n ∷ v) one ∙ ap (λ ns. b ∷ ns) (same_word v w x y mine.1 other.1 rest)

-- ---- names
name_no_space : (names : List (List ℕ)) (k : ℕ) → list_all has_no_space names ≡ true → k < length names
    → has_no_space (get_or names k []) ≡ true
name_no_space [] k is within = absurd (omega (arith, within))
name_no_space (name ∷ names) zero is within = (and_parts _ _ is).0
name_no_space (name ∷ names) (suc k) is within = name_no_space names k (and_parts _ _ is).1 (omega (arith, within))

module _ (mark rest : List ℕ) where
  -- a line with that name
  abbrev named_line : List ℕ → List ℕ
  named_line name = mark ++ (name ++ 32 ∷ rest)

  its_name : (name : List ℕ) → starts (mark ++ (name ++ 32 ∷ [])) (named_line name) ≡ true
  its_name name =
      subst (λ line. starts (mark ++ (name ++ 32 ∷ [])) line ≡ true)
      (append_assoc mark _ rest ∙ ap (λ ns. mark ++ ns) (append_assoc name (32 ∷ []) rest))
      (starts_with (mark ++ (name ++ 32 ∷ [])) rest)

  one_name : (name other : List ℕ) → has_no_space name ≡ true → has_no_space other ≡ true
      → starts (mark ++ (name ++ 32 ∷ [])) (named_line other) ≡ true → name ≡ other
  one_name name other h k is =
      let so = starts_so _ _ is in
      let both =
      so.1 ∙ append_assoc mark _ so.0 ∙ ap (λ ns. mark ++ ns) (append_assoc name _ so.0) in
      sym (same_word _ _ _ _ k h (append_cancel_left mark _ _ both))

  found_first : (b : Bool) (n : ℕ) (later : Option ℕ) → b ≡ true → (if b then Some n else later) ≡ Some n
  found_first b n later is = ap (λ x. if x then Some n else later) is

  found_later : (b : Bool) (n : ℕ) (later found : Option ℕ) → (b ≡ true → ⊥) → later ≡ found → (if b then Some n else later) ≡ found
  found_later true n later found not_here is = absurd (not_here refl)
  found_later false n later found not_here is = is

  pub found_at : (names : List (List ℕ)) → list_all has_no_space names ≡ true → Differ names → (n k : ℕ) → k < length names
      → told_from n mark names (named_line (get_or names k [])) ≡ Some (n + k)
  found_at [] plain differ n k within = absurd (omega (arith, within))
  found_at (name ∷ names) plain differ n zero within =
      let same : n ≡ n + zero = omega arith in
      found_first (starts (mark ++ (name ++ 32 ∷ [])) (named_line name)) n (told_from (suc n) mark names (named_line name)) (its_name name) ∙ ap (λ x. Some x) same
  found_at (name ∷ names) plain differ n (suc k) within =
      let parts = and_parts (has_no_space name) (list_all has_no_space names) plain in
      let below : k < length names = omega (arith, within) in
      let same : suc n + k ≡ n + suc k = omega arith in
      let other = get_or names k [] in
      let rest_differ : Differ names = λ i j i_in j_in is. let one = differ (suc i) (suc j) (omega (arith, i_in)) (omega (arith, j_in)) is in omega (arith, one) in
      found_later (starts (mark ++ (name ++ 32 ∷ [])) (named_line other)) n (told_from (suc n) mark names (named_line other)) (Some (n + suc k))
      (λ is. let one = differ zero (suc k) (omega arith) within (one_name name other parts.0 (name_no_space names k parts.1 below) is) in absurd (omega (arith, one)))
      (found_at names parts.1 rest_differ (suc n) k below ∙ ap (λ x. Some x) same)
