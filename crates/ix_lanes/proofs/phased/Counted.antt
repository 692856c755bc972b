-- How many `phase` lines there are among the first lines of a script.
use Rattle.std.proofs.Common.{◌≡◌, ℕ, zero, suc, ◌+◌, ◌≤◌, ◌<◌, Bool, true, false, cond, List, [], ◌∷◌, length, take, count_by, refl, ap, ◌∙◌, arith}
use Rattle.ix_script.specs.{declared.line.Line.Line, lines.Before.is_phase}
use Rattle.ix_lanes.{specs.running.Phases.lines_to, proofs.phased.PhaseLines.{count-cons, to-none, to-other, to-phase, to-stop}}

-- a line counts where it begins a phase
count-phase : (l : Line) (lines : List Line) → is_phase l ≡ true → count_by is_phase (l ∷ lines) ≡ 1 + count_by is_phase lines
count-phase l lines is = count-cons l lines ∙ ap (λ c. cond c 1 0 + count_by is_phase lines) is

count-other : (l : Line) (lines : List Line) → is_phase l ≡ false → count_by is_phase (l ∷ lines) ≡ 0 + count_by is_phase lines
count-other l lines is = count-cons l lines ∙ ap (λ c. cond c 1 0 + count_by is_phase lines) is

-- among the lines up to a phase there are no more than its number
pub to_few : (s : List Line) (k n : ℕ) → n ≤ length (lines_to k s) → count_by is_phase (take n s) ≤ k
to_few s k zero h = omega arith
to_few [] k (suc n) h = absurd (omega (arith, ap length (to-none k), h))
to_few (l ∷ lines) k (suc n) h = go (is_phase l) refl (λ m low. to_few lines m n low) k h
  where
    go : (b : Bool) → is_phase l ≡ b → ((m : ℕ) → n ≤ length (lines_to m lines) → count_by is_phase (take n lines) ≤ m)
        → (k : ℕ) → suc n ≤ length (lines_to k (l ∷ lines)) → count_by is_phase (l ∷ take n lines) ≤ k
    go true is few zero h = absurd (omega (arith, ap length (to-stop l lines is), h))
    go true is few (suc k) h = omega (arith, count-phase l (take n lines) is, few k (omega (arith, ap length (to-phase k l lines is), h)))
    go false is few k h = omega (arith, count-other l (take n lines) is, few k (omega (arith, ap length (to-other k l lines is), h)))

-- and past them there are more
pub past_many : (s : List Line) (k n : ℕ) → length (lines_to k s) < n → n ≤ length s → k < count_by is_phase (take n s)
past_many s k zero low high = absurd (omega (arith, low))
past_many [] k (suc n) low high = absurd (omega (arith, high))
past_many (l ∷ lines) k (suc n) low high = go (is_phase l) refl (λ m past. past_many lines m n past (omega (arith, high))) k low
  where
    go : (b : Bool) → is_phase l ≡ b → ((m : ℕ) → length (lines_to m lines) < n → m < count_by is_phase (take n lines))
        → (k : ℕ) → length (lines_to k (l ∷ lines)) < suc n → k < count_by is_phase (l ∷ take n lines)
    go true is many zero low = omega (arith, count-phase l (take n lines) is)
    go true is many (suc k) low = omega (arith, count-phase l (take n lines) is, many k (omega (arith, ap length (to-phase k l lines is), low)))
    go false is many k low = omega (arith, count-other l (take n lines) is, many k (omega (arith, ap length (to-other k l lines is), low)))
