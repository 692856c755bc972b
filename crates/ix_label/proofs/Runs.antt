-- The longest runs of a label that gains one run above all that it has.
use Rattle.std.proofs.Common.{◌≡◌, ℕ, zero, suc, ◌+◌, ◌<◌, ◌≤◌, nat_le, Bool, true, false, not, ◌&&◌, ◌||◌, cond, add-zero, zero-add, add-one, List, [], ◌∷◌}
use Rattle.std.{proofs.Common.{◌++◌, length, refl, ◌∙◌, ap, arith, inl, inr}, specs.List.{range_with_len, zip, filter}}
use Rattle.std.proofs.{lemmas.Bool.{cases_lt, cases_Bool, false_from_ne_true, le-leb, lt-leb}, Math.Bool.{and-false, or-false}}
use Rattle.ix_label.specs.{Category.{Categories, has, bottom}, Members.has-bottom, Spelling.{categories, has_before, begins, ends, runs}}

-- ---- lists

none_pass : (p : ℕ → Bool) (k n : ℕ) → ((q : ℕ) → k ≤ q → p q ≡ false) → filter p (range_with_len k n) ≡ []
none_pass p k zero h = refl
none_pass p k (suc n) h = rw (h k (omega arith)) (none_pass p (k + 1) n (λ q le. h q (omega arith)))

-- two tests agree below a place; there the first passes, and later none does; the second passes at none from it on
record Marks (p r : ℕ → Bool) (c : ℕ) : Type 0 where
  below : (q : ℕ) → q < c → p q ≡ r q
  here : p c ≡ true
  above : (q : ℕ) → c < q → p q ≡ false
  none : (q : ℕ) → c ≤ q → r q ≡ false

kept_or_not : (b : Bool) (k : ℕ) (xs : List ℕ) (c : ℕ) → cond b (k ∷ (xs ++ c ∷ [])) (xs ++ c ∷ []) ≡ cond b (k ∷ xs) xs ++ c ∷ []
kept_or_not true k xs c = refl
kept_or_not false k xs c = refl

filter_marks : (p r : ℕ → Bool) (c k n : ℕ) → Marks p r c → k ≤ c → c < k + n → filter p (range_with_len k n) ≡ filter r (range_with_len k n) ++ c ∷ []
filter_marks p r c k zero m low high = absurd (omega arith)
filter_marks p r c k (suc n) m low high = elim (cases_lt k c) [
  | inl before ↦
      let rest : filter p (range_with_len (k + 1) n) ≡ filter r (range_with_len (k + 1) n) ++ c ∷ [] = filter_marks p r c (k + 1) n m (omega arith) (omega arith) in
      rw (m.below k before, rest) (kept_or_not (r k) k _ c)
  | inr at ↦
      let e : k ≡ c = omega arith in
      rw (e, m.here, m.none c (omega arith), none_pass p (c + 1) n (λ q le. m.above q (omega arith)), none_pass r (c + 1) n (λ q le. m.none q (omega arith))) refl
]

zip_push : (xs ys : List ℕ) (a b : ℕ) → length xs ≡ length ys → zip (xs ++ a ∷ []) (ys ++ b ∷ []) ≡ zip xs ys ++ (a, b) ∷ []
zip_push [] [] a b h = refl
zip_push [] (y ∷ ys) a b h = absurd (omega arith)
zip_push (x ∷ xs) [] a b h = absurd (omega arith)
zip_push (x ∷ xs) (y ∷ ys) a b h = ap (λ t. (x, y) ∷ t) (zip_push xs ys a b (omega arith))

-- ---- as many runs begin as end

count : Bool → ℕ
count true = 1
count false = 0

-- whether a run goes on from the category before to this one
open_at : Categories → ℕ → Bool
open_at s q = has s q && has_before s q

begun_or_open : (here before : Bool) → count (here && not before) + count (here && before) ≡ count here
unfolding count
begun_or_open true true = refl
begun_or_open true false = refl
begun_or_open false before = refl

ended_or_open : (here after : Bool) → count (here && not after) + count (after && here) ≡ count here
unfolding count
ended_or_open true true = refl
ended_or_open true false = refl
ended_or_open false true = refl
ended_or_open false false = refl

starts : (s : Categories) (k : ℕ) → count (begins s k) + count (open_at s k) ≡ count (has s k)
unfolding begins open_at
starts s k = begun_or_open _ _

stops : (s : Categories) (k : ℕ) → count (ends s k) + count (open_at s (k + 1)) ≡ count (has s k)
unfolding ends open_at has_before
stops s k = rw add-one (ended_or_open _ _)

closed_first : (s : Categories) → count (open_at s 0) ≡ 0
unfolding count open_at has_before
closed_first s = rw and-false refl

closed_at : (s : Categories) (n : ℕ) → has s n ≡ false → count (open_at s n) ≡ 0
unfolding count open_at
closed_at s n none = rw none refl

length_kept : (b : Bool) (k : ℕ) (xs : List ℕ) → length (cond b (k ∷ xs) xs) ≡ count b + length xs
unfolding count
length_kept true k xs = omega arith
length_kept false k xs = omega arith

balanced : (s : Categories) (k n : ℕ) → length (filter (begins s) (range_with_len k n)) + count (open_at s k) ≡ length (filter (ends s) (range_with_len k n)) + count (open_at s (k + n))
balanced s k zero = rw add-zero refl
balanced s k (suc n) =
    let rest : length (filter (begins s) (range_with_len (k + 1) n)) + count (open_at s (k + 1)) ≡ length (filter (ends s) (range_with_len (k + 1) n)) + count (open_at s (k + 1 + n)) = balanced s
    (k + 1) n in
    let place : k + 1 + n ≡ k + suc n = omega arith in
    rw (length_kept (begins s k), length_kept (ends s k), ← place) (omega (arith, starts s k, stops s k, rest))

balanced_below : (s : Categories) (n : ℕ) (below : List ℕ) → below ≡ range_with_len 0 n → has s n ≡ false → length (filter (begins s) below) ≡ length (filter (ends s) below)
balanced_below s n below e none =
    let all : length (filter (begins s) (range_with_len 0 n)) + count (open_at s 0) ≡ length (filter (ends s) (range_with_len 0 n)) + count (open_at s n) = rw zero-add at (balanced s 0 n) in
    rw e (omega (arith, all, closed_first s, closed_at s n none))

pub are_below : categories ≡ range_with_len 0 512
unfolding categories
are_below = refl

pub as_many_begin_as_end : (s : Categories) → has s 512 ≡ false → length (filter (begins s) categories) ≡ length (filter (ends s) categories)
as_many_begin_as_end s none = balanced_below s _ _ are_below none

-- ---- one run more

-- t is s and the categories from a to b, which are above all of s and not next to them
pub record AddsRun (s t : Categories) (a b : ℕ) : Type 0 where
  pub order : a ≤ b
  pub small : b < 512
  pub apart : (q : ℕ) → has s q ≡ true → q + 1 < a
  pub members : (q : ℕ) → has t q ≡ (has s q || (nat_le a q && nat_le q b))

module _ {s t : Categories} {a b : ℕ} (h : AddsRun s t a b) where
  absent : (q : ℕ) → a ≤ q + 1 → has s q ≡ false
  absent q le = false_from_ne_true _ (λ one. let lt = h.apart q one in absurd (omega arith))

  as_before : (q : ℕ) → q < a → has t q ≡ has s q
  as_before q lt = rw (h.members, lt-leb) (or-false _)

  in_run : (q : ℕ) → a ≤ q → q ≤ b → has t q ≡ true
  in_run q le ge = rw (h.members, le-leb, le-leb q b ge, absent q (omega arith)) refl

  past : (q : ℕ) → b < q → has t q ≡ false
  past q lt = let le = h.order in rw (h.members q, lt-leb q b lt, absent q (omega arith), and-false (nat_le a q)) refl

  before_as : (q : ℕ) → q < a → has_before t q ≡ has_before s q
  unfolding has_before
  before_as zero lt = refl
  before_as (suc q) lt = as_before q (omega arith)

  none_before : (q : ℕ) → q ≡ a → has_before t q ≡ false
  unfolding has_before
  none_before zero e = refl
  none_before (suc q) e = as_before q (omega arith) ∙ absent q (omega arith)

  no_later_begin : (q : ℕ) → a < q → begins t q ≡ false
  unfolding begins has_before
  no_later_begin zero lt = absurd (omega arith)
  no_later_begin (suc q) lt = elim (cases_lt b (suc q)) [
    | inl beyond ↦ rw past refl
    | inr inside ↦ let before = in_run q (omega arith) (omega arith) in rw before (and-false _)
  ]

  same_end : (q : ℕ) → q < b → ends t q ≡ ends s q
  unfolding ends
  same_end q lt = elim (cases_lt q a) [
    | inl low ↦ elim (cases_Bool (has s q)) [
      | inl one ↦ let next : q + 1 < a = h.apart q one in rw (as_before q low, as_before (q + 1) next) refl
      | inr none ↦ rw (as_before q low, none) refl
    ]
    | inr inside ↦ rw (in_run (q + 1) (omega arith) (omega arith), absent q (omega arith)) (and-false (has t q))
  ]

  marks_begin : Marks (begins t) (begins s) a
  unfolding begins
  marks_begin = record {
    below = λ q lt. rw (as_before q lt, before_as q lt) refl;
    here = rw (in_run a (omega arith) h.order, none_before a refl) refl;
    above = no_later_begin;
    none = λ q le. rw (absent q (omega arith)) refl;
  }

  marks_end : Marks (ends t) (ends s) b
  unfolding ends
  marks_end = record {
    below = same_end;
    here = rw (in_run b h.order (omega arith), past (b + 1) (omega arith)) refl;
    above = λ q lt. rw (past q lt) refl;
    none = λ q le. let order : a ≤ b = h.order in rw (absent q (omega arith)) refl;
  }

filter_categories : (p r : ℕ → Bool) (c : ℕ) → Marks p r c → c < 512 → filter p categories ≡ filter r categories ++ c ∷ []
filter_categories p r c m low = go _ _ are_below low
  where
    go : (n : ℕ) (below : List ℕ) → below ≡ range_with_len 0 n → c < n → filter p below ≡ filter r below ++ c ∷ []
    go n below e low = rw e (filter_marks p r c 0 n m (omega arith) (omega arith))

-- the run is the last of the longest runs
pub runs-AddsRun : (s t : Categories) (a b : ℕ) → AddsRun s t a b → runs t ≡ runs s ++ (a, b) ∷ []
unfolding runs
runs-AddsRun s t a b h =
    let order : a ≤ b = h.order in
    let small : b < 512 = h.small in
    let none : has s 512 ≡ false = absent h 512 (omega arith) in
    rw (filter_categories _ _ a (marks_begin h) (omega arith), filter_categories _ _ b (marks_end h) small)
    (zip_push _ _ a b (as_many_begin_as_end s none))

filter_none : (p : ℕ → Bool) → ((q : ℕ) → p q ≡ false) → filter p categories ≡ []
filter_none p h = go 512 _ are_below
  where
    go : (n : ℕ) (below : List ℕ) → below ≡ range_with_len 0 n → filter p below ≡ []
    go n below e = rw e (none_pass p 0 n (λ q le. h q))

no_begin : (q : ℕ) → begins bottom q ≡ false
unfolding begins
no_begin q = rw has-bottom refl

pub runs-bottom : runs bottom ≡ []
unfolding runs
runs-bottom = rw (filter_none (begins bottom) no_begin) refl
