-- Where a lane stands among its stretches, from one to the next.
use Rattle.std.proofs.Common.{◌≡◌, ℕ, zero, suc, ◌+◌, ◌-◌, ◌≤◌, ◌<◌, Bool, true, false, not, List, [], ◌∷◌, length, take, drop, max, count_by, Option, Some, ap}
use Rattle.std.proofs.Common.{None, refl, sym, ◌∙◌, subst, arith, slice_get, cond, inl, inr, true≢false}
use Rattle.std.proofs.lemmas.{Bool.{and_parts, cases_Bool, cases_lt}, List.length-drop, Option.{get_or_from_slice_get, slice_get_within}}
use Rattle.ix_policy.specs.declared.rule.Rule.{Rule}
use Rattle.ix_script.specs.{lines.Before.{is_phase, lanes_of}, declared.{line.Line.Line, schedule.Stretch.Stretch}}
use Rattle.ix_script.specs.scripts.Schedule.{StretchesStand, begins_part, is_seat, part_len, seat_after, seat_from, stretches_from, stretches_of}
use Rattle.ix_script.specs.declared.line.Line.TheVariants as line
use Rattle.ix_asking.specs.Asking as asking
use Rattle.ix_lanes.specs.{asking.{Asked.{Names, Numbers, asked, named}, LineAsks.{line_asks, lines_ask}}, histories.Indexed.line_in}
use Rattle.ix_lanes.specs.running.{Phases.{lane_between, seat_at}, Stretches.{AllStand, AreLeft, IsAmong, NoneStands, stands_in}}
use Rattle.ix_lanes.specs.declared.asking.handed.Handed.TheVariants as handed
use Rattle.ix_lanes.proofs.found.{Indexed.{none_left, rest_is}, Roles.{line-is, line-there}}
use Rattle.ix_lanes.proofs.phased.{LaneLines.seat_one_more, Lefts.{begun_more, between_here, between_not}, Stretching.behind_others}

-- ---- one line
-- a line that begins no part leaves the seat, and begins no phase
seat_kept : (lanes : List (List ℕ)) (at : Option ℕ) (l : Line) → begins_part l ≡ false → seat_after lanes at l ≡ at
seat_kept lanes at line.Phase is = absurd (true≢false is)
seat_kept lanes at (line.Lane name) is = absurd (true≢false is)
seat_kept lanes at _ is = refl

pub no_phase : (l : Line) → begins_part l ≡ false → is_phase l ≡ false
no_phase line.Phase is = absurd (true≢false is)
no_phase _ is = refl

-- one that begins a part asks for nothing, and gives no name
pub part_asks : (rules : Option (List Rule)) (header : Numbers) (names : Names) (n : ℕ) (l : Line) → begins_part l ≡ true → line_asks rules header names n l ≡ asking.Done handed.Nothing
unfolding line_asks asked
part_asks rules header names n line.Phase is = refl
part_asks rules header names n (line.Lane name) is = refl
part_asks rules header names n _ is = absurd (true≢false (sym is))

pub part_names : (names : Names) (l : Line) → begins_part l ≡ true → named names l handed.Nothing ≡ names
unfolding named
part_names names line.Phase is = refl
part_names names (line.Lane name) is = refl
part_names names _ is = absurd (true≢false (sym is))

-- the first of the lines from an index on
first_at : (s : List Line) (i : ℕ) (l : Line) (later : List Line) → drop i s ≡ l ∷ later → slice_get s i ≡ Some l
first_at s i l later h =
    let same : i + 0 ≡ i = omega arith in
    sym (behind_others s i 0 i same) ∙ ap (λ (ls : List Line). slice_get ls 0) h

first_in : (s : List Line) (i : ℕ) (l : Line) (later : List Line) → drop i s ≡ l ∷ later → line_in s i ≡ l
first_in s i l later h = sym (line-is s i l (first_at s i l later h))

rest_then : (s : List Line) (i : ℕ) (l : Line) (later : List Line) → drop i s ≡ l ∷ later → drop (i + 1) s ≡ later
rest_then s i l later h = let both : l ∷ drop (i + 1) s ≡ l ∷ later = sym (rest_is s i l (first_at s i l later h)) ∙ h in cc

rest_low : (s : List Line) (i : ℕ) (l : Line) (later : List Line) → drop i s ≡ l ∷ later → i + 1 + length later ≡ length s
rest_low s i l later h =
    let low = slice_get_within s i l (first_at s i l later h) in
    let left : length (l ∷ later) ≡ length s - i = ap length (sym h) ∙ length-drop i s in
    omega (arith, left, low)

part_few : (ls : List Line) → part_len ls ≤ length ls
part_few [] = omega arith
part_few (l ∷ ls) = elim (cases_Bool (begins_part l)) [
  | inl e ↦ rw e (omega arith)
  | inr e ↦ rw e (let few = part_few ls in omega (arith, few))
]

-- the phase of a stretch
pub stretch_phase : StretchesStand → (s : List Line) (seat n : ℕ) (t : Stretch) → slice_get (stretches_of s seat) n ≡ Some t → t.phase ≡ count_by is_phase (take t.first s) - 1
stretch_phase law s seat n t at =
    let found : t ≡ _ = sym (get_or_from_slice_get (stretches_of s seat) n t t at) in
    subst (λ (u : Stretch). u.phase ≡ count_by is_phase (take u.first s) - 1) (sym found) (law s seat n t (slice_get_within (stretches_of s seat) n t at))

module _ (s : List Line) (seat : ℕ) where
  -- ---- lines of the lane and others
  stands : (i : ℕ) → is_seat seat (seat_at s (take i s)) ≡ true → begins_part (line_in s i) ≡ false → stands_in s seat i ≡ true
  stands i mine other = rw (mine, other) refl

  not_mine : (i : ℕ) → is_seat seat (seat_at s (take i s)) ≡ false → stands_in s seat i ≡ false
  not_mine i not = rw not refl

  not_part : (i : ℕ) → begins_part (line_in s i) ≡ true → stands_in s seat i ≡ false
  not_part i part = elim (cases_Bool (is_seat seat (seat_at s (take i s)))) [
    | inl e ↦ rw (e, part) refl
    | inr e ↦ rw e refl
  ]

  pub stands_mine : (i : ℕ) → stands_in s seat i ≡ true → is_seat seat (seat_at s (take i s)) ≡ true
  stands_mine i h = (and_parts (is_seat seat (seat_at s (take i s))) (not (begins_part (line_in s i))) h).0

  negated : (b : Bool) → not b ≡ true → b ≡ false
  negated true h = absurd (true≢false (sym h))
  negated false h = refl

  pub stands_apart : (i : ℕ) → stands_in s seat i ≡ true → begins_part (line_in s i) ≡ false
  stands_apart i h = negated (begins_part (line_in s i)) (and_parts (is_seat seat (seat_at s (take i s))) (not (begins_part (line_in s i))) h).1

  part_there : (i : ℕ) → is_seat seat (seat_at s (take i s)) ≡ true → stands_in s seat i ≡ false → begins_part (line_in s i) ≡ true
  part_there i mine h = elim (cases_Bool (begins_part (line_in s i))) [
    | inl e ↦ e
    | inr e ↦ absurd (true≢false (sym (stands i mine e) ∙ h))
  ]

  -- ---- the lines up to the next that begins a part
  up_to_part : (i : ℕ) (rest : List Line) → drop i s ≡ rest → (k : ℕ) → i ≤ k → k < i + part_len rest
      → (seat_at s (take k s) ≡ seat_at s (take i s)) × (begins_part (line_in s k) ≡ false)
  up_to_part i [] h k from to = absurd (omega (arith, from, to))
  up_to_part i (l ∷ later) h k from to = elim (cases_Bool (begins_part l)) [
    | inl e ↦ let none : part_len (l ∷ later) ≡ 0 = rw e refl in absurd (omega (arith, from, to, none))
    | inr e ↦ elim (cases_lt i k) [
      | inl past ↦
          let some : part_len (l ∷ later) ≡ suc (part_len later) = rw e refl in
          let next = up_to_part (i + 1) later (rest_then s i l later h) k (omega (arith, past)) (omega (arith, to, some)) in
          (next.0 ∙ seat_one_more s i l (first_at s i l later h) ∙ seat_kept (lanes_of s) (seat_at s (take i s)) l e, next.1)
      | inr here ↦
          let same : k ≡ i = omega (arith, from, here) in
          (ap (λ n. seat_at s (take n s)) same, ap (λ n. begins_part (line_in s n)) same ∙ ap begins_part (first_in s i l later h) ∙ e)
    ]
  ]

  -- ---- the stretches from an index on
  -- none of the lane stands between
  pub lower : (i j : ℕ) (ts : List Stretch) → i ≤ j → NoneStands s seat i j → AreLeft s seat j ts → AreLeft s seat i ts
  lower i j [] from none left = λ k a b. elim (cases_lt k j) [
    | inl low ↦ none k a low
    | inr high ↦ left k high b
  ]
  lower i j (t ∷ ts) from none left = (
    omega (arith, from, left.0),
    λ k a b. elim (cases_lt k j) [
      | inl low ↦ none k a low
      | inr high ↦ left.1 k high b
    ],
    left.2,
    left.3,
    left.4,
    left.5,
  )

  -- the line that begins a part, and the part where it is of no lane or of another
  part_none : (i : ℕ) (l : Line) (later : List Line) → drop i s ≡ l ∷ later → begins_part l ≡ true → is_seat seat (seat_after (lanes_of s) (seat_at s (take i s)) l) ≡ false
      → NoneStands s seat i (i + 1 + part_len later)
  part_none i l later h part not k from to = elim (cases_lt i k) [
    | inl past ↦
        let then = up_to_part (i + 1) later (rest_then s i l later h) k (omega (arith, past)) to in
        not_mine k (ap (is_seat seat) (then.0 ∙ seat_one_more s i l (first_at s i l later h)) ∙ not)
    | inr here ↦
        let same : k ≡ i = omega (arith, from, here) in
        ap (stands_in s seat) same ∙ not_part i (ap begins_part (first_in s i l later h) ∙ part)
  ]

  part_all : (i : ℕ) (l : Line) (later : List Line) → drop i s ≡ l ∷ later → is_seat seat (seat_after (lanes_of s) (seat_at s (take i s)) l) ≡ true
      → AllStand s seat (i + 1) (i + 1 + part_len later)
  part_all i l later h mine k from to =
      let then = up_to_part (i + 1) later (rest_then s i l later h) k from to in
      stands k (ap (is_seat seat) (then.0 ∙ seat_one_more s i l (first_at s i l later h)) ∙ mine) then.1

  part_only : (i : ℕ) (l : Line) (later : List Line) → drop i s ≡ l ∷ later → begins_part l ≡ true → NoneStands s seat i (i + 1)
  part_only i l later h part k from to =
      let same : k ≡ i = omega (arith, from, to) in
      ap (stands_in s seat) same ∙ not_part i (ap begins_part (first_in s i l later h) ∙ part)

  left_from : (begun i : ℕ) (rest : List Line) → drop i s ≡ rest → AreLeft s seat (i + part_len rest) (stretches_from (lanes_of s) seat begun i rest)
  left_from begun i [] h = λ k from to.
      let none : 0 ≡ length s - i = ap length (sym h) ∙ length-drop i s in
      absurd (omega (arith, from, to, none))
  left_from begun i (line.Phase ∷ later) h =
      lower (i + 0) (i + 1 + part_len later) (stretches_from (lanes_of s) seat (begun + 1) (i + 1) later) (omega arith)
      (λ k from to. part_none i line.Phase later h refl refl k (omega (arith, from)) to)
      (left_from (begun + 1) (i + 1) later (rest_then s i line.Phase later h))
  left_from begun i (line.Lane name ∷ later) h =
      let next = left_from begun (i + 1) later (rest_then s i (line.Lane name) later h) in
      let low = rest_low s i (line.Lane name) later h in
      let few = part_few later in
      elim (cases_Bool (is_seat seat (seat_from 0 name (lanes_of s)))) [
        | inl e ↦ rw e (
          omega arith,
          λ k from to. part_only i (line.Lane name) later h refl k (omega (arith, from)) to,
          omega arith,
          omega (arith, low, few),
          part_all i (line.Lane name) later h e,
          next,
        )
        | inr e ↦ rw e
            (lower (i + 0) (i + 1 + part_len later) (stretches_from (lanes_of s) seat begun (i + 1) later) (omega arith)
            (λ k from to. part_none i (line.Lane name) later h refl e k (omega (arith, from)) to) next)
      ]
  left_from begun i (l ∷ later) h =
      let same : i + 1 + part_len later ≡ i + suc (part_len later) = omega arith in
      subst (λ (n : ℕ). AreLeft s seat n (stretches_from (lanes_of s) seat begun (i + 1) later)) same
      (left_from begun (i + 1) later (rest_then s i l later h))

  left_first : AreLeft s seat 0 (stretches_of s seat)
  unfolding stretches_of
  left_first = lower 0 (0 + part_len s) (stretches_of s seat) (omega arith) (λ k from to. not_mine k (ap (is_seat seat) (up_to_part 0 s refl k from to).0)) (left_from 0 0 s refl)

  -- ---- a lane among its stretches
  -- before all of them
  pub among_first : IsAmong s seat 0 (record { phase = 0; first = 0; end = 0 }) 0
  among_first = record {
    lines = λ low. absurd (omega (arith, low));
    within = λ low. absurd (omega (arith, low));
    phase = λ low. absurd (omega (arith, low));
    left = left_first;
  }

  module _ (at : ℕ) (t : Stretch) (come : ℕ) (h : IsAmong s seat at t come) where
    -- in a line of its own
    pub among_mine : at < t.end → is_seat seat (seat_at s (take at s)) ≡ true
    among_mine low = stands_mine at (h.lines low at (omega arith) low)

    pub among_apart : at < t.end → is_phase (line_in s at) ≡ false
    among_apart low = no_phase (line_in s at) (stands_apart at (h.lines low at (omega arith) low))

    -- one line more
    pub among_more : at < t.end → (next : ℕ) → next ≡ at + 1 → IsAmong s seat next t come
    among_more low next is =
        let same : max at t.end ≡ max next t.end = omega (arith, low, is) in
        record {
          lines = λ below k from to. h.lines low k (omega (arith, from, is)) to;
          within = λ below. h.within low;
          phase = λ below.
              let there = line-there s at (let within = h.within low in omega (arith, within, low)) in
              let more : count_by is_phase (take (at + 1) s) ≡ count_by is_phase (take at s) + 0 = begun_more s at (line_in s at) there
              ∙ ap (λ b. count_by is_phase (take at s) + cond b 1 0) (among_apart low) in
              let count : count_by is_phase (take next s) ≡ count_by is_phase (take (at + 1) s) = ap (λ n. count_by is_phase (take n s)) is in
              h.phase low ∙ (let e : count_by is_phase (take at s) - 1 ≡ count_by is_phase (take next s) - 1 = omega (arith, more, count) in e);
          left = subst (λ (n : ℕ). AreLeft s seat n (drop come (stretches_of s seat))) same h.left;
        }

    module _ (end : ℕ) (behind : t.end ≤ at) (low : at < end) (within : end ≤ length s) where
      here_left : AreLeft s seat at (drop come (stretches_of s seat))
      here_left = let same : max at t.end ≡ at = omega (arith, behind) in subst (λ (n : ℕ). AreLeft s seat n (drop come (stretches_of s seat))) same h.left

      -- behind the last stretch
      at_last : slice_get (stretches_of s seat) come ≡ None → AreLeft s seat at []
      at_last none = subst (AreLeft s seat at) (none_left (stretches_of s seat) come none) here_left

      pub last_idle : slice_get (stretches_of s seat) come ≡ None → NoneStands s seat at end
      last_idle none k from to = at_last none k from (omega (arith, to, within))

      pub last_among : slice_get (stretches_of s seat) come ≡ None → IsAmong s seat end t come
      last_among none = record {
        lines = λ below. absurd (omega (arith, below, behind, low));
        within = λ below. absurd (omega (arith, below, behind, low));
        phase = λ below. absurd (omega (arith, below, behind, low));
        left = subst (AreLeft s seat (max end t.end)) (sym (none_left (stretches_of s seat) come none)) (λ k from to. at_last none k (omega (arith, from, low)) to);
      }

      -- before a stretch
      module _ (u : Stretch) (next : slice_get (stretches_of s seat) come ≡ Some u) where
        at_next : AreLeft s seat at (u ∷ drop (come + 1) (stretches_of s seat))
        at_next = subst (AreLeft s seat at) (rest_is (stretches_of s seat) come u next) here_left

        -- which begins behind the end
        pub past_idle : end ≤ u.first → NoneStands s seat at end
        past_idle far k from to = at_next.1 k from (omega (arith, to, far))

        pub past_among : end ≤ u.first → IsAmong s seat end t come
        past_among far =
            let same : end ≡ max end t.end = omega (arith, behind, low) in
            record {
              lines = λ below. absurd (omega (arith, below, behind, low));
              within = λ below. absurd (omega (arith, below, behind, low));
              phase = λ below. absurd (omega (arith, below, behind, low));
              left = subst (AreLeft s seat (max end t.end)) (sym (rest_is (stretches_of s seat) come u next))
                  (subst (λ (n : ℕ). AreLeft s seat n (u ∷ drop (come + 1) (stretches_of s seat))) same
                  (far, λ k from to. at_next.1 k (omega (arith, from, low)) to, at_next.2, at_next.3, at_next.4, at_next.5));
            }

        -- at which it comes
        pub next_idle : NoneStands s seat at u.first
        next_idle = at_next.1

        pub next_later : at ≤ u.first
        next_later = at_next.0

        pub next_few : come < length (stretches_of s seat)
        next_few = slice_get_within (stretches_of s seat) come u next

        pub next_among : StretchesStand → IsAmong s seat u.first u (come + 1)
        next_among law =
            let same : u.end ≡ max u.first u.end = let rises = at_next.2 in omega (arith, rises) in
            record {
              lines = λ below. at_next.4;
              within = λ below. at_next.3;
              phase = λ below. stretch_phase law s seat come u next;
              left = subst (λ (n : ℕ). AreLeft s seat n (drop (come + 1) (stretches_of s seat))) same at_next.5;
            }

-- ---- lines that are passed over
-- what a lane asks for in lines from an index on is what it asks for in those from a later one on, where none of the lane's stands between
pub idle_passed : (s : List Line) (seat end i n : ℕ) (names : Names) (rules : Option (List Rule)) (header : Numbers) → i + n ≤ end → end ≤ length s → NoneStands s seat i (i + n)
    → lines_ask rules header names (lane_between s seat i end) ≡ lines_ask rules header names (lane_between s seat (i + n) end)
idle_passed s seat end i zero names rules header to within none = let same : i ≡ i + 0 = omega arith in ap (λ m. lines_ask rules header names (lane_between s seat m end)) same
idle_passed s seat end i (suc n) names rules header to within none =
    let there = line-there s i (omega (arith, to, within)) in
    let same : i + 1 + n ≡ i + suc n = omega arith in
    let later = idle_passed s seat end (i + 1) n names rules header (omega (arith, to)) within (λ k from below. none k (omega (arith, from)) (omega (arith, below))) in
    one ∙ later ∙ ap (λ m. lines_ask rules header names (lane_between s seat m end)) same
  where
    one : lines_ask rules header names (lane_between s seat i end) ≡ lines_ask rules header names (lane_between s seat (i + 1) end)
    one =
        let there = line-there s i (omega (arith, to, within)) in
        elim (cases_Bool (is_seat seat (seat_at s (take i s)))) [
          | inl mine ↦
              let part = part_there s seat i mine (none i (omega arith) (omega arith)) in
              ap (lines_ask rules header names) (between_here s seat i end (line_in s i) there (omega (arith, to)) within mine)
              ∙ ap (λ p. asking.followed p (λ g. lines_ask rules header (named names (line_in s i) g) (lane_between s seat (i + 1) end))) (part_asks rules header names (i + 1) (line_in s i) part)
              ∙ ap (λ m. lines_ask rules header m (lane_between s seat (i + 1) end)) (part_names names (line_in s i) part)
          | inr not ↦ ap (lines_ask rules header names) (between_not s seat i end (line_in s i) there (omega (arith, to)) within not)
        ]
