-- The parts of an input of two scripts, as its lines are gone through.
use Rattle.std.proofs.Common.{◌≡◌, ◌≤◌, ◌+◌, ℕ, true, false, List, [], ◌∷◌, ◌++◌, length, take, drop, refl, sym, ap, ◌∙◌, append_assoc, append-nil, arith, length-append, if◌then◌else◌}
use Rattle.ix_judging.specs.Bytes.{is_line, joined, split}
use Rattle.ix_check.{specs.Parts.lines_in, proofs.InputParts.{alone, joined_lines, lines-line, lines_alone}}
use Rattle.ix_twin.specs.Parts.{before_divider, behind_line, divides, first_part, from_divider, is_divider, lines_before, second_part, some_line}

-- ---- the dividing line
pub divides-line : (l more rest : List ℕ) → is_line l ≡ true → rest ≡ l ++ more → divides (lines_in rest) ≡ is_divider l
divides-line l more rest is parts = ap (λ t. divides (lines_in t)) parts ∙ ap divides (lines-line l _ is)

pub divides-alone : (rest : List ℕ) → (split rest).lines ≡ [] → divides (lines_in rest) ≡ is_divider rest
unfolding alone
divides-alone rest none = ap divides (lines_alone rest none) ∙ go rest
  where
    go : (t : List ℕ) → divides (alone t) ≡ is_divider t
    go [] = refl
    go (b ∷ t) = refl

-- ---- as lines are gone through
-- Of an input these lines are behind, so many, and this is left.
pub record IsBehind (input rest : List ℕ) (count : ℕ) : Type 0 where
  pub fronts : List (List ℕ)
  pub parts : input ≡ joined fronts ++ rest
  pub counted : length fronts ≡ count
  pub few : count + length rest ≤ length input
  pub before : before_divider (lines_in input) ≡ fronts ++ before_divider (lines_in rest)
  pub from : from_divider (lines_in input) ≡ from_divider (lines_in rest)

-- none at first
pub behind_nothing : (input : List ℕ) → IsBehind input input 0
behind_nothing input = record { fronts = []; parts = refl; counted = refl; few = omega arith; before = refl; from = refl }

joined_more : (ls : List (List ℕ)) (l more : List ℕ) → joined (ls ++ l ∷ []) ++ more ≡ joined ls ++ (l ++ more)
joined_more [] l more = ap (λ t. t ++ more) (append-nil l)
joined_more (x ∷ ls) l more = append_assoc x _ more ∙ ap (λ t. x ++ t) (joined_more ls l _) ∙ sym (append_assoc x _ _)

-- a line more, which doesn't divide
pub line_behind : (input rest l more : List ℕ) (n : ℕ) → IsBehind input rest n → is_line l ≡ true → rest ≡ l ++ more → 1 + length more ≤ length rest → divides (lines_in rest) ≡ false
    → IsBehind input more (n + 1)
line_behind input rest l more n behind is parts less no_divider =
    let lines = ap lines_in parts ∙ lines-line l _ is in
    let plain = sym (divides-line l _ _ is parts) ∙ no_divider in
    record {
      fronts = behind.fronts ++ l ∷ [];
      parts = behind.parts ∙ ap (λ t. joined behind.fronts ++ t) parts ∙ sym (joined_more behind.fronts l more);
      counted = omega (arith, length-append behind.fronts (l ∷ []), behind.counted);
      few = omega (arith, behind.few, less);
      before = behind.before
          ∙ ap (λ ls. behind.fronts ++ before_divider ls) lines
          ∙ ap (λ b. behind.fronts ++ (if b then [] else l ∷ before_divider (lines_in more))) plain
          ∙ sym (append_assoc behind.fronts _ _);
      from = behind.from ∙ ap from_divider lines ∙ ap (λ b. if b then l ∷ lines_in more else from_divider (lines_in more)) plain;
    }

joined_two : (xs ys : List (List ℕ)) → joined (xs ++ ys) ≡ joined xs ++ joined ys
joined_two [] ys = refl
joined_two (x ∷ xs) ys = ap (λ t. x ++ t) (joined_two xs ys) ∙ sym (append_assoc x _ _)

pub no_lines : (rest : List ℕ) → length rest ≡ 0 → 0 ≡ some_line rest
no_lines [] is = refl
no_lines (b ∷ t) is = absurd (omega (arith, is))

pub one_line : (rest : List ℕ) → (length rest ≡ 0 → ⊥) → 1 ≡ some_line rest
one_line [] is = absurd (is refl)
one_line (b ∷ t) is = refl

-- what the parts are
pub record AreParts (input first second : List ℕ) (lines : ℕ) : Type 0 where
  pub first_is : first_part input ≡ first
  pub second_is : second_part input ≡ second
  pub lines_is : lines_before input ≡ lines

-- no line is left, and what is left doesn't divide
pub none_behind : (input rest : List ℕ) (n : ℕ) → IsBehind input rest n → (split rest).lines ≡ [] → divides (lines_in rest) ≡ false
    → AreParts input input [] (n + some_line rest)
unfolding alone first_part second_part lines_before
none_behind input rest n behind none no_divider =
    let parts = go rest (lines_in rest) (lines_alone rest none) no_divider in
    let from : from_divider (lines_in input) ≡ [] = behind.from ∙ parts.1 in
    let before : before_divider (lines_in input) ≡ behind.fronts ++ lines_in rest = behind.before ∙ ap (λ ls. behind.fronts ++ ls) parts.0 in
    record {
      first_is = ap joined before ∙ joined_two behind.fronts (lines_in rest) ∙ ap (λ t. joined behind.fronts ++ t) (joined_lines rest) ∙ sym behind.parts;
      second_is = ap (λ ls. joined (drop 1 ls)) from;
      lines_is = (λ i. length (before i) + length (take 1 (from i))) ∙ (let last = parts.2 in omega (arith, length-append behind.fronts (lines_in rest), behind.counted, last));
    }
  where
    one : (l : List ℕ) (ls : List (List ℕ)) → is_divider l ≡ false → ls ≡ []
        → (before_divider (l ∷ ls) ≡ l ∷ ls) × (from_divider (l ∷ ls) ≡ [])
    one l ls other none = rw (other, none) (refl, refl)

    go : (t : List ℕ) (ls : List (List ℕ)) → ls ≡ alone t → divides ls ≡ false → (before_divider ls ≡ ls) × (from_divider ls ≡ []) × (length ls ≡ some_line t)
    go [] [] is other = (refl, refl, refl)
    go (b ∷ t) [] is other = cc
    go [] (l ∷ ls) is other = let is = is in cc
    go (b ∷ t) (l ∷ ls) is other =
        let both = is in let parts = one l ls other cc in (parts.0, parts.1, ap length both)

-- what is left begins with the dividing line
pub divider_behind : (input rest : List ℕ) (n : ℕ) (behind : IsBehind input rest n) → divides (lines_in rest) ≡ true
    → AreParts input (joined behind.fronts) (behind_line rest) (n + 1)
unfolding first_part second_part lines_before
divider_behind input rest n behind divider =
    let parts = go _ divider in
    let from : from_divider (lines_in input) ≡ lines_in rest = behind.from ∙ parts.1 in
    let before : before_divider (lines_in input) ≡ behind.fronts = behind.before ∙ ap (λ ls. behind.fronts ++ ls) parts.0 ∙ append-nil behind.fronts in
    record {
      first_is = ap joined before;
      second_is = ap (λ ls. joined (drop 1 ls)) from;
      lines_is = (λ i. length (before i) + length (take 1 (from i))) ∙ (omega (arith, behind.counted, parts.2));
    }
  where
    go : (ls : List (List ℕ)) → divides ls ≡ true → (before_divider ls ≡ []) × (from_divider ls ≡ ls) × (length (take 1 ls) ≡ 1)
    go [] is = cc
    go (l ∷ ls) is = rw is (refl, refl, refl)

-- some bytes are left, where the first line divides
pub divider_there : (rest : List ℕ) → divides (lines_in rest) ≡ true → 1 ≤ length rest
divider_there [] is = cc
divider_there (b ∷ t) is = omega arith

-- ---- behind the first line
pub line_there : (rest l more : List ℕ) → is_line l ≡ true → rest ≡ l ++ more → behind_line rest ≡ more
line_there rest l more is parts =
    ap (λ ls. joined (drop 1 ls)) (ap lines_in parts ∙ lines-line l _ is) ∙ joined_lines _

pub no_line : (rest : List ℕ) → (split rest).lines ≡ [] → behind_line rest ≡ []
unfolding alone
no_line rest none = ap (λ ls. joined (drop 1 ls)) (lines_alone rest none) ∙ go rest
  where
    go : (t : List ℕ) → joined (drop 1 (alone t)) ≡ []
    go [] = refl
    go (b ∷ t) = refl

pub line_few : (rest : List ℕ) → some_line rest ≤ length rest
line_few [] = omega arith
line_few (b ∷ t) = omega arith
