-- Lanes that are told by their lines, each of which asks for a few entries, one after the other, as the lines of scripts do.
use Rattle.std.specs.Prelude.{◌≡◌, ℕ, zero, suc, ◌≤◌, List, [], ◌∷◌, Some}
use Rattle.ix_judging.specs.Lanes.{Calls, no_calls, with_entry_first}

-- What asks for entries: nothing more is asked for, and this came of it; or this entry is, and each answer to it says what asks from then on.
pub data Asking (E A R : Type 0) : Type 0 where
  Done : R → Asking E A R
  Ask : E → (A → Asking E A R) → Asking E A R

-- an entry that is asked for, and where there is an answer to it what comes after that
abbrev pub asks_for : {E A : Type 0} → E → (A → List A → Calls E) → List A → Calls E
asks_for e more [] = record { entries = []; next = Some e }
asks_for e more (a ∷ answers) = with_entry_first e (more a answers)

-- what is asked for when it is answered so, in order, and what comes after it with the answers that are left
abbrev pub calls_then : {E A R : Type 0} → Asking E A R → List A → (R → List A → Calls E) → Calls E
calls_then (Done r) answers after = after r answers
calls_then (Ask e more) answers after = asks_for e (λ a rest. calls_then (more a) rest after) answers

-- what lines ask for when they are answered so, in order; each line goes by what came of those before it
abbrev pub lines_from : {E A N S : Type 0} → (N → S → Asking E A N) → N → List S → List A → Calls E
lines_from line_asks names [] answers = no_calls
lines_from line_asks names (l ∷ lines) answers = calls_then (line_asks names l) answers (λ after rest. lines_from line_asks after lines rest)

-- ---- what is said of lines
-- at most so many entries are asked for, each of this seat and this phase
abbrev pub AsksFew : {E A R : Type 0} → (E → ℕ) → (E → ℕ) → ℕ → ℕ → ℕ → Asking E A R → Type 0
AsksFew seat phase k n most (Done r) = Unit {0}
AsksFew seat phase k n zero (Ask e more) = ⊥
AsksFew {A = A} seat phase k n (suc most) (Ask e more) = (seat e ≡ k) × (phase e ≡ n) × ((a : A) → AsksFew seat phase k n most (more a))

-- the phases of lines never fall, from a first one on
abbrev pub LinesRise : {S : Type 0} → (S → ℕ) → ℕ → List S → Type 0
LinesRise within low [] = Unit {0}
LinesRise within low (l ∷ lines) = (low ≤ within l) × LinesRise within (within l) lines
