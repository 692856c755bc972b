-- The lines of a lane between two indices, and what they ask for.
use Rattle.std.proofs.Common.{◌≡◌, ℕ, ◌+◌, ◌≤◌, List, [], ◌∷◌, ◌++◌, length, take, drop, Option, Some, refl, sym, ap, ◌∙◌, arith, fold, slice_get}
use Rattle.std.proofs.{Math.Seq.take-length, lemmas.List.{drop-append-le, length-append, length-take-le, take-append-drop, take-take, drop_all}}
use Rattle.std.proofs.{lemmas.List.Sums.fold-append, lemmas.Option.slice_get_within}
use Rattle.ix_policy.specs.declared.rule.Rule.{Rule}
use Rattle.ix_script.specs.{lines.Before.lanes_of, declared.line.Line.Line, scripts.Schedule.{Numbered, seat_after}}
use Rattle.ix_asking.specs.Asking.{Asking, Ask, followed}
use Rattle.ix_asking.specs.Asking as asking
use Rattle.ix_lanes.{specs.asking.Asked.{Names, Numbers, named}, specs.asking.LineAsks.{line_asks, lines_ask}, specs.histories.Lanes.lines_of_seat}
use Rattle.ix_lanes.{specs.running.Phases.{lane_among, lane_between, seat_at}, proofs.phased.LaneLines.{lane-append, mine, one_more, one_of}}

-- ---- what lines ask for
followed_twice : {A B C : Type 0} (p : Asking A) (f : A → Asking B) (g : B → Asking C) → followed (followed p f) g ≡ followed p (λ a. followed (f a) g)
followed_twice (asking.Done r) f g = refl
followed_twice (Ask a later) f g = λ i. Ask a (λ x. followed_twice (later x) f g i)

module _ (rules : Option (List Rule)) (header : Numbers) where
  -- those that come later follow
  pub asks_append : (xs ys : List Numbered) (names : Names) → lines_ask rules header names (xs ++ ys) ≡ followed (lines_ask rules header names xs) (λ n. lines_ask rules header n ys)
  asks_append [] ys names = refl
  asks_append (l ∷ xs) ys names =
      (λ i. followed (line_asks rules header names l.number l.said) (λ g. asks_append xs ys (named names l.said g) i))
      ∙ sym (followed_twice (line_asks rules header names l.number l.said) (λ g. lines_ask rules header (named names l.said g) xs) (λ n. lines_ask rules header n ys))

-- ---- from one index to another
take_parts : {A : Type 0} (xs : List A) (i j : ℕ) → i ≤ j → take i xs ++ drop i (take j xs) ≡ take j xs
take_parts xs i j h = ap (λ ys. ys ++ drop i (take j xs)) (sym (take-take i j xs h)) ∙ take-append-drop i (take j xs)

module _ (s : List Line) (seat : ℕ) where
  seat_between : (i j : ℕ) → i ≤ j → fold (seat_after (lanes_of s)) (seat_at s (take i s)) (drop i (take j s)) ≡ seat_at s (take j s)
  seat_between i j h = sym (fold-append (seat_after (lanes_of s)) _ (take i s) (drop i (take j s))) ∙ ap (seat_at s) (take_parts s i j h)

  -- the lines before an index, and those between
  pub between_split : (i j : ℕ) → i ≤ j → j ≤ length s → lane_among s seat (take j s) ≡ lane_among s seat (take i s) ++ lane_between s seat i j
  between_split i j h within =
      let long : length (take i s) ≡ i = length-take-le i s (omega (arith, h, within)) in
      let number : 1 + length (take i s) ≡ i + 1 = omega (arith, long) in
      ap (lane_among s seat) (sym (take_parts s i j h))
      ∙ lane-append (lanes_of s) seat 1 _ (take i s) (drop i (take j s))
      ∙ ap (λ n. lane_among s seat (take i s) ++ lines_of_seat (lanes_of s) seat n (seat_at s (take i s)) (drop i (take j s))) number

  -- all of them
  pub between_all : lane_between s seat 0 (length s) ≡ lane_among s seat s
  between_all = ap (lane_among s seat) (take-length s)

  -- none yet
  pub between_none : (i : ℕ) → i ≤ length s → lane_between s seat i i ≡ []
  between_none i h =
      let long : length (take i s) ≡ i = length-take-le i s h in
      ap (lines_of_seat (lanes_of s) seat (i + 1) (seat_at s (take i s))) (drop_all i (take i s) (omega (arith, long)))

  -- one more
  pub between_more : (i j : ℕ) (l : Line) → i ≤ j → slice_get s j ≡ Some l → lane_between s seat i (j + 1) ≡ lane_between s seat i j ++ mine seat (j + 1) (seat_at s (take j s)) l
  between_more i j l h at =
      let long : length (take j s) ≡ j = length-take-le j s (omega (arith, slice_get_within s j l at)) in
      let few : i ≤ length (take j s) = omega (arith, long, h) in
      let same : take i s ++ drop i (take j s) ≡ take j s = take_parts s i j h in
      let count : length (take i s) + length (drop i (take j s)) ≡ j = sym (length-append (take i s) (drop i (take j s))) ∙ ap length same ∙ long in
      let front : length (take i s) ≡ i = length-take-le i s (omega (arith, h, slice_get_within s j l at)) in
      let number : i + 1 + length (drop i (take j s)) ≡ j + 1 = omega (arith, count, front) in
      ap (lines_of_seat (lanes_of s) seat (i + 1) (seat_at s (take i s))) (ap (drop i) (one_more s j l at) ∙ drop-append-le i (take j s) (l ∷ []) few)
      ∙ lane-append (lanes_of s) seat (i + 1) (seat_at s (take i s)) (drop i (take j s)) (l ∷ [])
      ∙ ap (λ ls. lane_between s seat i j ++ ls) (one_of (lanes_of s) seat _ _ l
      ∙ (λ k. mine seat (number k) (seat_between i j h k) l))

  -- those to an index, and those from there on
  pub between_both : (i j k : ℕ) → i ≤ j → j ≤ k → k ≤ length s → lane_between s seat i k ≡ lane_between s seat i j ++ lane_between s seat j k
  between_both i j k h more within =
      let long : length (take j s) ≡ j = length-take-le j s (omega (arith, more, within)) in
      let few : i ≤ length (take j s) = omega (arith, long, h) in
      let same : take i s ++ drop i (take j s) ≡ take j s = take_parts s i j h in
      let count : length (take i s) + length (drop i (take j s)) ≡ j = sym (length-append (take i s) (drop i (take j s))) ∙ ap length same ∙ long in
      let front : length (take i s) ≡ i = length-take-le i s (omega (arith, h, more, within)) in
      let number : i + 1 + length (drop i (take j s)) ≡ j + 1 = omega (arith, count, front) in
      ap (lines_of_seat (lanes_of s) seat (i + 1) (seat_at s (take i s))) (ap (drop i) (sym (take_parts s j k more)) ∙ drop-append-le i (take j s) (drop j (take k s)) few)
      ∙ lane-append (lanes_of s) seat (i + 1) (seat_at s (take i s)) (drop i (take j s)) (drop j (take k s))
      ∙ (λ x. lane_between s seat i j ++ lines_of_seat (lanes_of s) seat (number x) (seat_between i j h x) (drop j (take k s)))
