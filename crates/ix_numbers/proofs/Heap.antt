-- What an edit of the heap of free numbers does to the marks.
use Rattle.std.proofs.Common.{◌≡◌, ◌<◌, ◌≤◌, ◌+◌, ◌==◌, ◌^◌, ℕ, zero, suc, Bool, true, false, not, nat_lt, List, [], ◌∷◌, ◌++◌, length, cond, Some, None, refl}
use Rattle.std.proofs.Common.{sym, ap, ◌∙◌, arith, inl, inr, get_or, set}
use Rattle.std.specs.{List.{slice_get, prefix_len, Sorted.IsPermutation}, BinaryHeap.{IsHeap, IsUpperBound}, declared.cmp.Reverse.Reverse}
use Rattle.std.proofs.{lemmas.Bool.Decides.{eqb_tells, nat_tests}, lemmas.Bool.{cases_eq, lt-ltb, le-ltb}, lemmas.List.Sorted.{sum_by_popped, sum_by_pushed}}
use Rattle.std.proofs.lemmas.List.{length-set, length_push, get_or-set_same, get_or-set_other, get_or_push, get_or_append_left}
use Rattle.std.proofs.{lemmas.List.FromFn.{length-map-range_with_len, get_or-map-range_with_len, fill_by_all}, lemmas.Map.Keys.ge_from_not_lt}
use Rattle.std.proofs.lemmas.List.Sums.{sum_by-cons, sum_by_push, sum_by-set, position_or_len_is, count_by-le-length}
use Rattle.std.proofs.lemmas.Option.{slice_get_within, get_or_from_slice_get}
use Rattle.ix_numbers.specs.{Marks.{lowest, count}, Heaped.{times, is_in, marks_of, lowest_first, AreHeaped}}

abbrev pub one : Bool → ℕ
one b = cond b 1 0

-- ---- the heap
times_popped : (n : ℕ) (xs ys : List (Reverse ℕ)) (x : Reverse ℕ) → IsPermutation xs (x ∷ ys) → times n ys + one (x.0 == n) ≡ times n xs
times_popped n xs ys x moved = sum_by_popped (λ (y : Reverse ℕ). cond {A = ℕ} (y.0 == n) 1 0) x xs ys moved

times_pushed : (n : ℕ) (xs ys : List (Reverse ℕ)) (x : Reverse ℕ) → IsPermutation (x ∷ xs) ys → times n ys ≡ one (x.0 == n) + times n xs
times_pushed n xs ys x moved = sum_by_pushed (λ (y : Reverse ℕ). cond {A = ℕ} (y.0 == n) 1 0) x xs ys moved

times_below : (k : ℕ) (x : Reverse ℕ) (xs : List (Reverse ℕ)) → IsUpperBound lowest_first x xs → k < x.0 → times k xs ≡ 0
times_below k x [] least low = refl
times_below k x (y ∷ ys) least low =
    let above : x.0 ≤ y.0 = ge_from_not_lt y.0 x.0 least.0 in
    let rest : times k ys ≡ 0 = times_below k x ys least.1 low in
    sum_by-cons (λ (z : Reverse ℕ). cond {A = ℕ} (z.0 == k) 1 0) y ys ∙ elim (eqb_tells y.0 k) [
      | inl e ↦ absurd (omega (arith, e.1))
      | inr e ↦ rw (e.0, rest) refl
    ]

pub here : (n : ℕ) → one (n == n) ≡ 1
here n = elim (eqb_tells n n) [ inl e ↦ rw e.0 refl | inr e ↦ absurd (e.1 refl) ]

-- the number on top stands in the heap
times_top : (xs : List (Reverse ℕ)) (x : Reverse ℕ) → 0 < length xs → x ≡ get_or xs 0 x → 0 < times x.0 xs
times_top [] x some is = absurd (omega arith)
times_top (y ∷ ys) x some is = rw (sum_by-cons (λ (z : Reverse ℕ). cond {A = ℕ} (z.0 == x.0) 1 0) y ys) (omega (arith, here x.0, ap (λ (z : Reverse ℕ). one (z.0 == x.0)) is))

pub none_above : (n : ℕ) → (0 < n → false ≡ true) → n ≡ 0
none_above zero h = refl
none_above (suc n) h = absurd (cc (h (omega arith)))

-- ---- the marks
marks_long : (k : ℕ) (xs : List (Reverse ℕ)) → length (marks_of k xs) ≡ k
marks_long k xs = length-map-range_with_len (is_in xs) 0 k

mark_at : (k n : ℕ) (xs : List (Reverse ℕ)) → n < k → get_or (marks_of k xs) n false ≡ is_in xs n
mark_at k n xs low = get_or-map-range_with_len (is_in xs) 0 k n n false low (omega arith)

-- the marks of a heap in which one number stands otherwise
marks_set : (k n : ℕ) (xs ys : List (Reverse ℕ)) (b : Bool) → n < k → is_in ys n ≡ b → ((j : ℕ) → (j ≡ n → ⊥) → times j ys ≡ times j xs) → marks_of k ys ≡ set (marks_of k xs) n b
marks_set k n xs ys b low is same = sym (fill_by_all (is_in ys) (set (marks_of k xs) n b) k false (length-set (marks_of k xs) n b ∙ marks_long k xs) each)
  where
    each : (j : ℕ) → j < k → get_or (set (marks_of k xs) n b) j false ≡ is_in ys j
    each j below = elim (cases_eq j n) [
      | inl e ↦ ap (λ i. get_or (set (marks_of k xs) n b) i false) e ∙ get_or-set_same (marks_of k xs) n b false (omega (arith, marks_long k xs, low)) ∙ sym is ∙ ap (is_in ys) (sym e)
      | inr ne ↦ get_or-set_other (marks_of k xs) n j b false ne ∙ mark_at k j xs below ∙ ap (nat_lt 0) (sym (same j ne))
    ]

count_set : (marks : List Bool) (n : ℕ) (b : Bool) → n < length marks → count (set marks n b) + one (get_or marks n false) ≡ count marks + one b
count_set marks n b low = sum_by-set (λ (free : Bool). cond {A = ℕ} free 1 0) marks n b false low

none_marked : (marks : List Bool) → count marks ≡ 0 → prefix_len not marks ≡ length marks
none_marked [] h = refl
none_marked (true ∷ marks) h = absurd (omega (arith, sum_by-cons (λ (free : Bool). cond {A = ℕ} free 1 0) true marks))
none_marked (false ∷ marks) h = omega (arith, none_marked marks (omega (arith, sum_by-cons (λ (free : Bool). cond {A = ℕ} free 1 0) false marks)))

none_free : (marks : List Bool) → count marks ≡ 0 → lowest marks ≡ None
none_free marks h = rw (none_marked marks h, le-ltb (length marks) (length marks) (omega arith)) refl

-- ---- the heap with its marks
module _ (k : ℕ) (xs : List (Reverse ℕ)) (len c : ℕ) (h : AreHeaped k xs len c) where
  -- a number of the heap that is below no other is the lowest free one
  lowest_is : (x : Reverse ℕ) → 0 < times x.0 xs → IsUpperBound lowest_first x xs → lowest (marks_of k xs) ≡ Some x.0
  lowest_is x some least =
      let low : x.0 < k = h.low x.0 some in
      let long : length (marks_of k xs) ≡ k = marks_long k xs in
      let below : (j : ℕ) → j < x.0 → get_or (marks_of k xs) j false ≡ false = λ j under. mark_at k j xs (omega (arith, low, under)) ∙ ap (nat_lt 0) (times_below j x xs least under) in
      let found = position_or_len_is (λ (free : Bool). free) (marks_of k xs) x.0 false (omega (arith, long, low)) below (λ _. mark_at k x.0 xs low ∙ lt-ltb 0 (times x.0 xs) some) in
      rw (found, lt-ltb x.0 (length (marks_of k xs)) (omega (arith, long, low))) refl

  pub top_lowest : (x : Reverse ℕ) → 0 < length xs → x ≡ get_or xs 0 x → IsUpperBound lowest_first x xs → lowest (marks_of k xs) ≡ Some x.0
  top_lowest x some is least = lowest_is x (times_top xs x some is) least

  pub none_lowest : len ≡ 0 → lowest (marks_of k xs) ≡ None
  none_lowest empty = none_free (marks_of k xs) (sym h.counted ∙ empty)

  -- how many are free fits
  pub few : len < 2 ^ 32
  few = omega (arith, h.counted, h.small, marks_long k xs, count_by-le-length (λ (free : Bool). free) (marks_of k xs))

  -- the lowest is popped
  module _ (x : Reverse ℕ) (ys : List (Reverse ℕ)) (moved : IsPermutation xs (x ∷ ys)) where
    was : 0 < times x.0 xs
    was = omega (arith, times_popped x.0 xs ys x moved, here x.0)

    pub popped_lowest : IsUpperBound lowest_first x xs → lowest (marks_of k xs) ≡ Some x.0
    popped_lowest least = lowest_is x was least

    pub popped_marks : marks_of k ys ≡ set (marks_of k xs) x.0 false
    popped_marks = marks_set k x.0 xs ys false (h.low x.0 was) (ap (nat_lt 0) gone) (λ j ne. grind (arith, nat_tests, times_popped j xs ys x moved))
      where
        gone : times x.0 ys ≡ 0
        gone = omega (arith, times_popped x.0 xs ys x moved, here x.0, h.once x.0)

    pub popped_heaped : (m d : ℕ) → IsHeap lowest_first ys → m + 1 ≡ len → c ≤ d → AreHeaped k ys m d
    popped_heaped m d heap one_less more = record {
      once = λ n. omega (arith, times_popped n xs ys x moved, h.once n);
      low = λ n some. h.low n (omega (arith, times_popped n xs ys x moved, some));
      ordered = heap;
      counted = omega (arith, one_less, h.counted, counts);
      room = omega (arith, h.room, more);
      small = h.small;
    }
      where
        low : x.0 < k
        low = h.low x.0 was

        counts : count (marks_of k ys) + 1 ≡ count (marks_of k xs)
        counts = omega (arith, ap count popped_marks, count_set (marks_of k xs) x.0 false (omega (arith, marks_long k xs, low)), ap one (mark_at k x.0 xs low ∙ lt-ltb 0 (times x.0 xs) was))

  -- a taken number is pushed
  module _ (n : ℕ) (taken : slice_get (marks_of k xs) n ≡ Some false) where
    below : n < k
    below = omega (arith, slice_get_within (marks_of k xs) n false taken, marks_long k xs)

    mark : get_or (marks_of k xs) n false ≡ false
    mark = get_or_from_slice_get (marks_of k xs) n false false taken

    gone : times n xs ≡ 0
    gone = let e : nat_lt 0 (times n xs) ≡ false = sym (mark_at k n xs below) ∙ mark in grind (arith, nat_tests, e)

    one_more : count (set (marks_of k xs) n true) ≡ count (marks_of k xs) + 1
    one_more = omega (arith, count_set (marks_of k xs) n true (omega (arith, marks_long k xs, below)), ap one mark)

    pub taken_room : len < c
    taken_room = omega (arith, one_more, h.counted, h.room, marks_long k xs, length-set (marks_of k xs) n true, count_by-le-length (λ (free : Bool). free) (set (marks_of k xs) n true))

    module _ (ys : List (Reverse ℕ)) (moved : IsPermutation (record { 0 = n } ∷ xs) ys) where
      pub pushed_marks : marks_of k ys ≡ set (marks_of k xs) n true
      pushed_marks = marks_set k n xs ys true below (lt-ltb 0 (times n ys) (omega (arith, times_pushed n xs ys (record { 0 = n }) moved, here n)))
          (λ j ne. grind (arith, nat_tests, times_pushed j xs ys (record { 0 = n }) moved))

      pub pushed_heaped : (m d : ℕ) → IsHeap lowest_first ys → m ≡ len + 1 → c ≤ d → AreHeaped k ys m d
      pushed_heaped m d heap more room = record {
        once = λ j. grind (arith, nat_tests, times_pushed j xs ys (record { 0 = n }) moved, h.once j, gone);
        low = λ j some. elim (cases_eq j n) [
          | inl e ↦ omega (arith, e, below)
          | inr ne ↦ h.low j (grind (arith, nat_tests, times_pushed j xs ys (record { 0 = n }) moved, some, ne))
        ];
        ordered = heap;
        counted = omega (arith, more, h.counted, ap count pushed_marks, one_more);
        room = omega (arith, h.room, room);
        small = h.small;
      }

-- no number yet, and one more
pub none_heaped : (xs : List (Reverse ℕ)) (len c : ℕ) → xs ≡ [] → len ≡ 0 → IsHeap lowest_first xs → AreHeaped 0 xs len c
none_heaped xs len c no_xs no_len heap = rw (no_xs, no_len) (record {
  once = λ n. omega arith;
  low = λ n some. absurd (omega (arith, some));
  ordered =
      rw (← no_xs) heap;
  counted = refl;
  room = omega arith;
  small = omega arith;
})

module _ (k : ℕ) (xs : List (Reverse ℕ)) (len c : ℕ) (h : AreHeaped k xs len c) (ys : List (Reverse ℕ)) (moved : IsPermutation (record { 0 = k } ∷ xs) ys) where
  unused : times k xs ≡ 0
  unused = grind (arith, h.low k)

  pub more_marks : marks_of (k + 1) ys ≡ marks_of k xs ++ true ∷ []
  more_marks = sym (fill_by_all (is_in ys) (marks_of k xs ++ true ∷ []) (k + 1) false (omega (arith, length_push (marks_of k xs) true, marks_long k xs)) each)
    where
      each : (j : ℕ) → j < k + 1 → get_or (marks_of k xs ++ true ∷ []) j false ≡ is_in ys j
      each j below = elim (cases_eq j k) [
        | inl e ↦ get_or_push (marks_of k xs) true false j (omega (arith, e, marks_long k xs))
            ∙ sym (lt-ltb 0 (times j ys) (omega (arith, times_pushed j xs ys (record { 0 = k }) moved, here k, ap (λ i. one (k == i)) e)))
        | inr ne ↦ get_or_append_left (marks_of k xs) (true ∷ []) false j (omega (arith, below, ne, marks_long k xs))
            ∙ mark_at k j xs (omega (arith, below, ne)) ∙ ap (nat_lt 0) (grind (arith, nat_tests, times_pushed j xs ys (record { 0 = k }) moved))
      ]

  pub more_heaped : (m d : ℕ) → IsHeap lowest_first ys → m ≡ len + 1 → k < d → k + 1 < 2 ^ 32 → AreHeaped (k + 1) ys m d
  more_heaped m d heap more room small = record {
    once = λ j. grind (arith, nat_tests, times_pushed j xs ys (record { 0 = k }) moved, h.once j, unused);
    low = λ j some. elim (cases_eq j k) [
      | inl e ↦ omega (arith, e)
      | inr ne ↦ let old : j < k = h.low j (grind (arith, nat_tests, times_pushed j xs ys (record { 0 = k }) moved, some, ne)) in omega (arith, old)
    ];
    ordered = heap;
    counted = omega (arith, more, h.counted, ap count more_marks, sum_by_push (λ (free : Bool). cond {A = ℕ} free 1 0) (marks_of k xs) true);
    room = omega (arith, room);
    small = small;
  }
