-- The phase of a line, by where it stands.
use Rattle.std.proofs.Common.{◌≡◌, ℕ, zero, suc, ◌+◌, ◌≤◌, ◌<◌, nat_le, Bool, true, false, cond, List, [], ◌∷◌, length, take, count_by, refl, ap, arith}
use Rattle.std.proofs.lemmas.{List.length-take, Bool.{and_parts, and_from, le-leb, leb-true}}
use Rattle.ix_model.specs.history.Events.{Event}
use Rattle.ix_script.specs.{declared.line.Line.Line, lines.Before.is_phase}
use Rattle.ix_lanes.specs.{histories.{Lanes.never_falls, History.{phase_of, phases_never_fall}}, running.Phases.{lines_before, lines_to}}
use Rattle.ix_lanes.proofs.phased.{Counted.{past_many, to_few}, PhaseLines.{before-taken, count-cons, to-none, to-other, to-phase, to-stop}}

-- ---- from one phase to the next
to_further : (s : List Line) (k : ℕ) → length (lines_to k s) ≤ length (lines_to (suc k) s)
to_further [] k = omega (arith, ap length (to-none k), ap length (to-none (suc k)))
to_further (l ∷ lines) k = go (is_phase l) refl (to_further lines) k
  where
    go : (b : Bool) → is_phase l ≡ b → ((m : ℕ) → length (lines_to m lines) ≤ length (lines_to (suc m) lines)) → (k : ℕ) → length (lines_to k (l ∷ lines)) ≤ length (lines_to (suc k) (l ∷ lines))
    go true is more zero = omega (arith, ap length (to-stop l lines is))
    go true is more (suc k) = omega (arith, ap length (to-phase k l lines is), ap length (to-phase (suc k) l lines is), more k)
    go false is more k = omega (arith, ap length (to-other k l lines is), ap length (to-other (suc k) l lines is), more k)

pub before_further : (s : List Line) (k : ℕ) → length (lines_before k s) ≤ length (lines_before (suc k) s)
before_further s zero = omega arith
before_further s (suc k) = to_further s (suc k)

pub before_within : (s : List Line) (k : ℕ) → length (lines_before k s) ≤ length s
before_within s k = omega (arith, ap length (before-taken s k), length-take (length (lines_before k s)) s)

-- ---- the phase of a line
pub phase_at : (s : List Line) (k n : ℕ) → length (lines_before k s) < n → n ≤ length (lines_before (suc k) s) → phase_of s n ≡ k
unfolding phase_of
phase_at s zero n low high = let few = to_few s 1 n high in omega (arith, few)
phase_at s (suc k) n low high =
    let few = to_few s (suc (suc k)) n high in
    let many = past_many s (suc k) n low (omega (arith, high, before_within s (suc (suc k)))) in
    omega (arith, few, many)

-- ---- where numbers of lines never fall, phases don't
count_further : (s : List Line) (m n : ℕ) → m ≤ n → count_by is_phase (take m s) ≤ count_by is_phase (take n s)
count_further s zero n h = omega arith
count_further s (suc m) zero h = absurd (omega (arith, h))
count_further [] (suc m) (suc n) h = omega arith
count_further (l ∷ lines) (suc m) (suc n) h =
    let a : count_by is_phase (l ∷ take m lines) ≡ cond (is_phase l) 1 0 + count_by is_phase (take m lines) = count-cons l (take m lines) in
    let b : count_by is_phase (l ∷ take n lines) ≡ cond (is_phase l) 1 0 + count_by is_phase (take n lines) = count-cons l (take n lines) in
    omega (arith, a, b, count_further lines m n (omega (arith, h)))

phase_further : (s : List Line) (m n : ℕ) → m ≤ n → phase_of s m ≤ phase_of s n
unfolding phase_of
phase_further s m n h = omega (arith, count_further s m n h)

pub by_lines : (s : List Line) (events : List Event) → never_falls events ≡ true → phases_never_fall s events ≡ true
by_lines s [] h = refl
by_lines s (e ∷ []) h = refl
by_lines s (e ∷ f ∷ events) h =
    let parts = and_parts (nat_le e.line f.line) (never_falls (f ∷ events)) h in
    and_from (nat_le (phase_of s e.line) (phase_of s f.line)) (phases_never_fall s (f ∷ events))
    (le-leb _ _ (phase_further s e.line f.line (leb-true e.line f.line parts.0))) (by_lines s (f ∷ events) parts.1)
