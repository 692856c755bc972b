-- Whether a lane has a line in a phase, by the stretches that are left to it.
use Rattle.std.proofs.Common.{◌≡◌, ℕ, zero, suc, append-nil, Bool, ◌+◌, ◌-◌, ◌≤◌, ◌<◌, true, false, List, [], ◌∷◌, length, take, drop, max, count_by, cond, sym}
use Rattle.std.proofs.Common.{is_some, refl, ap, ◌∙◌, subst, arith, inl, inr, true≢false}
use Rattle.std.proofs.lemmas.Bool.{cases_Bool, cases_lt}
use Rattle.ix_model.specs.history.Made.{Made}
use Rattle.ix_script.specs.{lines.Before.is_phase, scripts.Schedule.stretches_of, declared.{line.Line.Line, schedule.Stretch.Stretch}}
use Rattle.ix_asking.specs.{Asking.{Asking, Ask, Came, IsDue, first, followed}, declared.copying.Copying.Copying}
use Rattle.ix_asking.specs.Asking as asking
use Rattle.ix_lanes.specs.{asking.{Asked.Names, LineAsks.lines_ask, Ruled.rules_told}, histories.{Indexed.line_in, Serial.header_of}, running.Runs.StandsFor}
use Rattle.ix_lanes.specs.{declared.running.part.Part.Part, running.Left.{IsHere, is_done, is_over, left_from, names_done, next_phase, part_left}}
use Rattle.ix_lanes.specs.{running.Phases.{lane_between, lines_before}, running.Stretches.{AreLeft, HasNone, HasOne, IsAmong, stands_in}}
use Rattle.ix_lanes.proofs.{found.Roles.line-there, phased.Among.{idle_passed, lower, no_phase, stands_apart}, phased.Between.between_none}
use Rattle.ix_lanes.proofs.{phased.Counted.{past_many, to_few}, phased.Lefts.{begun_more, here_pending, left_in, line_left}}
use Rattle.ix_lanes.proofs.{phased.PhaseLines.{before-few, before-grows}, phased.PhaseRuns.{next_asks, stands_next}}

module _ (s : List Line) (seat : ℕ) where
  -- no phase begins with a line of the lane
  more_begun : (i : ℕ) → i < length s → stands_in s seat i ≡ true → count_by is_phase (take (i + 1) s) ≡ count_by is_phase (take i s) + 0
  more_begun i low stands =
      begun_more s i (line_in s i) (line-there s i low)
      ∙ ap (λ b. count_by is_phase (take i s) + cond b 1 0) (no_phase (line_in s i) (stands_apart s seat i stands))

  -- where a phase begins, the lane doesn't stand
  begins_apart : (k i : ℕ) → i ≡ length (lines_before k s) → i < length s → stands_in s seat i ≡ true → ⊥
  begins_apart zero i is low stands =
      let first : stands_in s seat 0 ≡ false = refl in
      true≢false (sym stands ∙ ap (stands_in s seat) is ∙ first)
  begins_apart (suc k) i is low stands =
      let few = to_few s (suc k) i (omega (arith, is)) in
      let many = past_many s (suc k) (i + 1) (omega (arith, is)) (omega (arith, low)) in
      absurd (omega (arith, few, many, more_begun i low stands))

  module _ (k : ℕ) where
    -- behind a phase only those stretches are left to which it hasn't come
    pub between_left : (at : ℕ) (t : Stretch) (come : ℕ) → IsAmong s seat at t come → at ≡ length (lines_before k s)
        → AreLeft s seat (length (lines_before k s)) (drop come (stretches_of s seat))
    between_left at t come h is =
        let behind : t.end ≤ at = elim (cases_lt at t.end) [
          | inl low ↦ absurd (begins_apart k at is (let within = h.within low in omega (arith, low, within)) (h.lines low at (omega arith) low))
          | inr high ↦ high
        ] in
        let same : max at t.end ≡ length (lines_before k s) = omega (arith, behind, is) in
        subst (λ (n : ℕ). AreLeft s seat n (drop come (stretches_of s seat))) same h.left

    -- no stretch is left
    pub none_left_there : AreLeft s seat (length (lines_before k s)) [] → HasNone s seat k
    none_left_there h i from to = h i from (omega (arith, to, before-few s (suc k)))

    module _ (t : Stretch) (ts : List Stretch) (h : AreLeft s seat (length (lines_before k s)) (t ∷ ts)) where
      -- one without a line is passed
      pub empty_passed : t.end ≤ t.first → AreLeft s seat (length (lines_before k s)) ts
      empty_passed none =
          let from = h.0 in
          let rises = h.2 in
          lower s seat (length (lines_before k s)) t.end ts (omega (arith, from, rises)) (λ j a b. h.1 j a (omega (arith, b, none))) h.5

      module _ (phase : t.phase ≡ count_by is_phase (take t.first s) - 1) where
        -- the next one is of a later phase
        pub later_there : k < t.phase → HasNone s seat k
        later_there later =
            let far : length (lines_before (suc k) s) ≤ t.first = elim (cases_lt t.first (length (lines_before (suc k) s))) [
              | inl low ↦ let few = to_few s (suc k) t.first (omega (arith, low)) in absurd (omega (arith, few, phase, later))
              | inr high ↦ high
            ] in
            λ i from to. h.1 i from (omega (arith, to, far))

        -- it is of no later one, and has a line
        pub one_there : t.phase ≤ k → t.first < t.end → HasOne s seat k
        one_there soon some =
            let stands = h.4 t.first (omega arith) some in
            let within = h.3 in
            record {
              index = t.first;
              from = h.0;
              to = elim (cases_lt t.first (length (lines_before (suc k) s))) [
                | inl low ↦ low
                | inr far ↦
                    let many = past_many s (suc k) (t.first + 1) (omega (arith, far)) (omega (arith, some, within)) in
                    absurd (omega (arith, many, more_begun t.first (omega (arith, some, within)) stands, phase, soon))
              ];
              stands = stands;
            }

    -- a lane without a line in a phase asks for nothing there
    idle_asks : (names : Names) → HasNone s seat k → next_asks s seat k names ≡ asking.Done names
    idle_asks names none =
        let i : ℕ = length (lines_before k s) in
        let j : ℕ = length (lines_before (suc k) s) in
        let n : ℕ = j - i in
        let whole : i + n ≡ j = omega (arith, before-grows s k) in
        idle_passed s seat j i n names (rules_told s) (header_of s) (omega (arith, whole)) (before-few s (suc k)) (λ m from to. none m from (omega (arith, to, whole)))
        ∙ ap (λ m. lines_ask (rules_told s) (header_of s) names (lane_between s seat m j)) whole
        ∙ ap (lines_ask (rules_told s) (header_of s) names) (between_none s seat j (before-few s (suc k)))

-- ---- what comes next
-- no phase comes next exactly where nothing is asked for
pub none_next : (s : List Line) (p : Asking Names) → is_some (next_phase s (first p)) ≡ false → is_done p ≡ true
none_next s (asking.Done names) h = refl
none_next s (Ask a later) h = cc

next_none : (s : List Line) (p : Asking Names) → is_done p ≡ true → is_some (next_phase s (first p)) ≡ false
next_none s (asking.Done names) h = refl
next_none s (Ask a later) h = cc

pub none_idle : (s t : List Line) (seat k : ℕ) (names : Names) (p : Asking Names) → p ≡ next_asks s seat k names → HasNone s seat k → is_some (next_phase t (first p)) ≡ true → ⊥
none_idle s t seat k names p asks none some = true≢false (sym some ∙ next_none t p (ap is_done (asks ∙ idle_asks s seat k names none)))

done_came : (p : Asking Names) → is_done p ≡ true → first p ≡ Came (names_done p)
done_came (asking.Done names) h = refl
done_came (Ask a later) h = cc

followed_asks : {A : Type 0} (p : Asking A) (more : A → Asking Names) → IsDue (first p) → is_done (followed p more) ≡ false
followed_asks (asking.Done r) more due = absurd due
followed_asks (Ask a later) more due = refl

-- a lane that asks for nothing more stands between two phases
module _ (s : List Line) (seat end at : ℕ) (t : Stretch) (come : ℕ) (names : Names) (l : Line) (buf : List ℕ) (c : Copying) (p : Part) (h : IsHere s seat end at t come names l buf c p) where
  done_over : is_done (left_from s seat end at names (line_in s at) c p) ≡ true → is_over p ≡ true
  done_over done = elim (cases_Bool (is_over p)) [
    | inl e ↦ e
    | inr e ↦ absurd (true≢false (sym done
        ∙ ap is_done (line_left s seat end at t come names l buf c p h ∙ left_in s seat end at t come names l buf c p h e)
        ∙ followed_asks (part_left (header_of s) names (at + 1) l c p) _ (here_pending s seat end at t come names l buf c p h e)))
  ]

  pub left_between : (k : ℕ) → is_done (left_from s seat end at names (line_in s at) c p) ≡ true → end ≡ length (lines_before k s)
      → AreLeft s seat (length (lines_before k s)) (drop come (stretches_of s seat))
  left_between k done is = between_left s seat k at t come h.among (h.over (done_over done) ∙ is)

-- a run that asks for nothing in its next phase has done that, too
pub stands_over : (s : List Line) (lane k : ℕ) (names : Names) (made : List Made) (left : Asking Names)
    → StandsFor (record { script = s; lane = lane; done = k; between = true; names = names }) made → left ≡ next_asks s lane k names → is_done left ≡ true
    → StandsFor (record { script = s; lane = lane; done = suc k; between = is_done left; names = names_done left }) made
stands_over s lane k names made left h asks done =
    subst (λ (b : Bool). StandsFor (record { script = s; lane = lane; done = suc k; between = b; names = names_done left }) made) (sym done)
    (subst (StandsFor (record { script = s; lane = lane; done = suc k; between = true; names = names_done left })) (append-nil made)
    (stands_next s lane k names made [] h tt (names_done left) (ap first (sym asks) ∙ done_came left done)))
