-- The longest piece at the front of origins, and of what a side stands for.
use Rattle.std.proofs.Common.{◌≡◌, ◌≤◌, ◌<◌, ◌+◌, ◌-◌, ◌==◌, ◌&&◌, ℕ, zero, suc, Bool, true, false, List, [], ◌∷◌, length, take, drop, if◌then◌else◌, refl, sym, ap, ◌∙◌, arith, get_or}
use Rattle.std.proofs.{Common.{inl, inr}, Math.Bool.and-true, lemmas.{Bool.{and_parts, eq-eqb, eqb-true, ne_eqb, Decides.eqb_tells}, List.{drop-drop, drop-take, get_or-drop, get_or-take}}}
use Rattle.std.proofs.lemmas.List.{length-drop, length-take}
use Rattle.ix_flow.specs.{Lines.{Piece, follows, in_front, pieces_from}, Origins.{Origin, Gap}, Reads.between, Sides.{IsLike, origin_at, same_origin, source_in, start_of}}
use Rattle.ix_flow.specs.declared.{side.Side.Side, source.Source.Source}
use Rattle.ix_flow.specs.declared.source.Source.TheVariants as source

-- ---- lists
-- the first piece of what isn't nothing begins with its first origin
record Begins (n : ℕ) (x : Origin) (origins : List Origin) : Type 0 where
  count : ℕ
  rest : List Piece
  is : pieces_from n (x ∷ origins) ≡ record { first = n; count = count; origin = x } ∷ rest

piece_first : (n : ℕ) (x : Origin) (origins : List Origin) → Begins n x origins
unfolding pieces_from
piece_first n x origins = go _ refl
  where
    go : (pieces : List Piece) → pieces_from (suc n) origins ≡ pieces → Begins n x origins
    go [] is = record { count = 1; rest = []; is = ap (in_front n x) is }
    go (p ∷ pieces) is = ahead _ refl
      where
        ahead : (b : Bool) → follows x p.origin ≡ b → Begins n x origins
        ahead true joined = record {
          count = suc p.count;
          rest = pieces;
          is = ap (in_front n x) is
              ∙ ap (λ b. if b then record { first = n; count = suc p.count; origin = x } ∷ pieces else record { first = n; count = 1; origin = x } ∷ p ∷ pieces) joined;
        }
        ahead false apart = record {
          count = 1;
          rest = p ∷ pieces;
          is = ap (in_front n x) is
              ∙ ap (λ b. if b then record { first = n; count = suc p.count; origin = x } ∷ pieces else record { first = n; count = 1; origin = x } ∷ p ∷ pieces) apart;
        }

-- so many origins and one more that follow each other, and what is behind them doesn't: they are the first piece
pub one_piece : (c n : ℕ) (xs : List Origin) → c < length xs → ((i : ℕ) → i < c → follows (get_or xs i Gap) (get_or xs (suc i) Gap) ≡ true)
    → (suc c < length xs → follows (get_or xs c Gap) (get_or xs (suc c) Gap) ≡ false)
    → pieces_from n xs ≡ record { first = n; count = suc c; origin = get_or xs 0 Gap } ∷ pieces_from (n + suc c) (drop (suc c) xs)
unfolding pieces_from
one_piece c n [] some joined apart = absurd (omega (arith, some))
one_piece zero n (x ∷ []) some joined apart = refl
one_piece (suc c) n (x ∷ []) some joined apart = absurd (omega (arith, some))
one_piece zero n (x ∷ y ∷ xs) some joined apart =
    let first = piece_first _ y xs in
    ap (in_front n x) first.is
    ∙ ap (λ b. if b then record { first = n; count = suc first.count; origin = x } ∷ first.rest else record { first = n; count = 1; origin = x }
    ∷ record { first = suc n; count = first.count; origin = y } ∷ first.rest)
    (apart (omega arith))
    ∙ ap (λ pieces. record { first = n; count = 1; origin = x } ∷ pieces) (sym first.is ∙ ap (λ k. pieces_from k (y ∷ xs)) (omega arith))
one_piece (suc c) n (x ∷ y ∷ xs) some joined apart =
    ap (in_front n x) (one_piece c _ (y ∷ xs) (omega (arith, some)) (λ i low. joined (suc i) (omega (arith, low))) (λ more. apart (omega (arith, more))))
    ∙ ap (λ b. if b then record { first = n; count = suc (suc c); origin = x } ∷ pieces_from (suc n + suc c)
    (drop (suc c) (y ∷ xs)) else record { first = n; count = 1; origin = x } ∷ record { first = suc n; count = suc c; origin = y } ∷ pieces_from (suc n + suc c) (drop (suc c) (y ∷ xs)))
    (joined 0 (omega arith))
    ∙ ap (λ k. record { first = n; count = suc (suc c); origin = x } ∷ pieces_from k (drop (suc c) (y ∷ xs))) (omega arith)

-- ---- sources
same_number : (n start begun : ℕ) → start ≤ n → begun ≤ suc n → (suc (n - start) == (suc n - begun)) ≡ (start == begun)
same_number n start begun one other = elim (eqb_tells start begun) [
  | inl here ↦ eq-eqb _ _ (omega (arith, here.1, one)) ∙ sym here.0
  | inr apart ↦ ne_eqb _ _ (λ h. apart.1 (omega (arith, h, one, other))) ∙ sym apart.0
]

-- a byte follows the one before it where the two are of one write, of one file, or both of gaps
follows_at : (s t : Source) (n : ℕ) → start_of s ≤ n → start_of t ≤ suc n → follows (origin_at s n) (origin_at t (suc n)) ≡ same_origin s t
follows_at (source.Write place start label) (source.Write that begun under) n one other = ap (λ b. place == that && b) (same_number n _ _ one other)
follows_at (source.File object label) (source.File that under) n one other = ap (λ b. object == that && b) (eq-eqb _ _ refl) ∙ and-true _
follows_at source.Gap source.Gap n one other = refl
follows_at (source.Write place start label) (source.File that under) n one other = refl
follows_at (source.Write place start label) source.Gap n one other = refl
follows_at (source.File object label) (source.Write that begun under) n one other = refl
follows_at (source.File object label) source.Gap n one other = refl
follows_at source.Gap (source.Write that begun under) n one other = refl
follows_at source.Gap (source.File that under) n one other = refl

same_turned : (a b : ℕ) → (a == b) ≡ (b == a)
same_turned a b = elim (eqb_tells a b) [
  | inl here ↦ here.0 ∙ sym (eq-eqb b a (sym here.1))
  | inr apart ↦ apart.0 ∙ sym (ne_eqb b a (λ h. apart.1 (sym h)))
]

-- what is of one with a third is of one with another where that is
of_one : (a b s : Source) → same_origin a s ≡ true → same_origin a b ≡ same_origin b s
of_one (source.Write p i l) (source.Write q j m) (source.Write r k n) is =
    let parts = and_parts _ _ is in
    let start = eqb-true i k parts.1 in
    ap (λ x. x == q && i == j) (eqb-true p r parts.0) ∙ ap (λ x. r == q && x == j) start ∙ ap (λ x. x && k == j) (same_turned r q) ∙ ap (λ x. q == r && x) (same_turned k j)
of_one (source.File o l) (source.File q m) (source.File r n) is =
    ap (λ x. x == q) (eqb-true o r is) ∙ same_turned r q
of_one source.Gap source.Gap source.Gap is = refl
of_one (source.Write p i l) b (source.File r n) is = cc
of_one (source.Write p i l) b source.Gap is = cc
of_one (source.File o l) b (source.Write r k n) is = cc
of_one (source.File o l) b source.Gap is = cc
of_one source.Gap b (source.Write r k n) is = cc
of_one source.Gap b (source.File r n) is = cc
of_one (source.Write p i l) (source.File q m) (source.Write r k n) is = refl
of_one (source.Write p i l) source.Gap (source.Write r k n) is = refl
of_one (source.File o l) (source.Write q j m) (source.File r n) is = refl
of_one (source.File o l) source.Gap (source.File r n) is = refl
of_one source.Gap (source.Write q j m) source.Gap is = refl
of_one source.Gap (source.File q m) source.Gap is = refl

-- ---- sides
module _ (s : Side) (origins : List Origin) (like : IsLike s origins) (number to : ℕ) (front : s.front ≤ number) (end : to ≤ s.end) where
  abbrev there : ℕ → Source
  there n = source_in s.runs.entries n

  abbrev given : List Origin
  given = between s.front number to origins

  given_long : number ≤ to → length given ≡ to - number
  given_long some = let b = length-drop (number - s.front) origins in omega (arith, length-take (to - number) (drop (number - s.front) origins), b, front, end, like.long, some)

  given_at : (i : ℕ) → number + i < to → get_or given i Gap ≡ origin_at (there (number + i)) (number + i)
  given_at i low =
      get_or-take _ _ i Gap (omega (arith, low))
      ∙ get_or-drop _ origins i Gap
      ∙ ap (λ k. get_or origins k Gap) (omega (arith, front))
      ∙ like.each _ (omega (arith, front)) (omega (arith, low, end))

  given_follows : (i : ℕ) → number + suc i < to → same_origin (there (number + i)) (there number) ≡ true
      → follows (get_or given i Gap) (get_or given (suc i) Gap) ≡ same_origin (there (number + suc i)) (there number)
  given_follows i low one =
      let further : number + suc i ≡ suc (number + i) = omega arith in
      ap (λ x. follows x (get_or given (suc i) Gap)) (given_at i (omega (arith, low)))
      ∙ ap (follows (origin_at (there (number + i)) (number + i))) (given_at _ low ∙ ap (λ n. origin_at (there n) n) further)
      ∙ follows_at (there (number + i)) _ _ (like.proper _ (omega (arith, front)) (omega (arith, low, end)))
      (like.proper _ (omega (arith, front)) (omega (arith, low, end)))
      ∙ of_one (there (number + i)) (there (suc (number + i))) (there number) one
      ∙ ap (λ n. same_origin (there n) (there number)) (sym further)

  given_rest : (count : ℕ) → number + count ≤ to → drop count given ≡ between s.front (number + count) to origins
  given_rest count within =
      ap (λ n. drop count (take n (drop (number - s.front) origins))) (omega (arith, within))
      ∙ drop-take count _ _
      ∙ ap (take _) (drop-drop count _ origins ∙ ap (λ n. drop n origins)
      (omega (arith, front)))

  -- the numbers whose sources are of one with the first, up to one whose source isn't, are the first piece
  pub longest_piece : (count k : ℕ) → 0 < count → number + count ≤ to → ((n : ℕ) → number ≤ n → n < number + count → same_origin (there n) (there number) ≡ true)
      → (number + count < to → same_origin (there (number + count)) (there number) ≡ false)
      → pieces_from k given ≡ record { first = k; count = count; origin = origin_at (there number) number } ∷ pieces_from (k + count) (between s.front (number + count) to origins)
  longest_piece zero k some within one apart = absurd (omega (arith, some))
  longest_piece (suc c) k some within one apart =
      one_piece c k _ (omega (arith, given_long (omega (arith, within)), within))
      (λ i low. given_follows i (omega (arith, low, within)) (one _ (omega arith) (omega (arith, low))) ∙ one _ (omega arith) (omega (arith, low)))
      (λ more. let far : number + suc c < to = omega (arith, more, given_long (omega (arith, within))) in given_follows c far (one _ (omega arith) (omega arith))
      ∙ apart far)
      ∙ ap (λ x. record { first = k; count = suc c; origin = x } ∷ pieces_from (k + suc c) (drop (suc c) given))
      (given_at 0 (omega (arith, within)) ∙ ap (λ n. origin_at (there n) n) (omega arith))
      ∙ ap (λ xs. record { first = k; count = suc c; origin = origin_at (there number) number } ∷ pieces_from (k + suc c) xs) (given_rest _ within)
