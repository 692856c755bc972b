-- The lines of a script, by its phases.
use Rattle.std.proofs.Common.{◌≡◌, ℕ, zero, suc, ◌+◌, ◌≤◌, ◌<◌, max, Bool, true, false, cond, List, [], ◌∷◌, ◌++◌, length, take, drop, Some, refl, sym, ap, ◌∙◌}
use Rattle.std.proofs.Common.{arith, slice_get, append_assoc, append-nil, length-append, count_by, if◌then◌else◌}
use Rattle.std.proofs.lemmas.{List.{Sums.{count_by-le-length, sum_by-cons}, length-take, length-take-le, drop_all}, Option.slice_get_within}
use Rattle.ix_script.specs.{declared.line.Line.Line, scripts.Schedule.phases, lines.Before.is_phase}
use Rattle.ix_lanes.{specs.running.Phases.{lines_to, lines_before}, proofs.{found.Indexed.rest_is, phased.LaneLines.one_more}}

-- ---- one line
pub to-none : (k : ℕ) → lines_to k [] ≡ []
unfolding lines_to
to-none k = refl

pub to-stop : (l : Line) (lines : List Line) → is_phase l ≡ true → lines_to 0 (l ∷ lines) ≡ []
unfolding lines_to
to-stop l lines is = rw is refl

pub to-suc : (k : ℕ) (l : Line) (lines : List Line) → lines_to (suc k) (l ∷ lines) ≡ l ∷ lines_to (if is_phase l then k else suc k) lines
unfolding lines_to
to-suc k l lines = refl

pub to-phase : (k : ℕ) (l : Line) (lines : List Line) → is_phase l ≡ true → lines_to (suc k) (l ∷ lines) ≡ l ∷ lines_to k lines
to-phase k l lines is = to-suc k l lines ∙ ap (λ b. l ∷ lines_to (if b then k else suc k) lines) is

pub to-other : (k : ℕ) (l : Line) (lines : List Line) → is_phase l ≡ false → lines_to k (l ∷ lines) ≡ l ∷ lines_to k lines
unfolding lines_to
to-other zero l lines is = rw is refl
to-other (suc k) l lines is = to-suc k l lines ∙ ap (λ b. l ∷ lines_to (if b then k else suc k) lines) is

-- ---- all lines
pub count-cons : (l : Line) (lines : List Line) → count_by is_phase (l ∷ lines) ≡ cond (is_phase l) 1 0 + count_by is_phase lines
count-cons l lines = sum_by-cons (λ x. cond (is_phase x) 1 0) l lines

-- past the last phase there are no lines
to-all : (s : List Line) (k : ℕ) → count_by is_phase s ≤ k → lines_to k s ≡ s
to-all [] k few = to-none k
to-all (l ∷ lines) k few = go (is_phase l) refl (to-all lines) k few
  where
    go : (b : Bool) → is_phase l ≡ b → ((k : ℕ) → count_by is_phase lines ≤ k → lines_to k lines ≡ lines) → (k : ℕ) → count_by is_phase (l ∷ lines) ≤ k → lines_to k (l ∷ lines) ≡ l ∷ lines
    go true is more zero few =
        let some : count_by is_phase (l ∷ lines) ≡ 1 + count_by is_phase lines = count-cons l lines ∙ ap (λ b. cond b 1 0 + count_by is_phase lines) is in
        absurd (omega (arith, some, few))
    go true is more (suc k) few =
        let some : count_by is_phase (l ∷ lines) ≡ 1 + count_by is_phase lines = count-cons l lines ∙ ap (λ b. cond b 1 0 + count_by is_phase lines) is in
        to-phase k l lines is ∙ ap (λ ls. l ∷ ls) (more k (omega (arith, some, few)))
    go false is more k few =
        let none : count_by is_phase (l ∷ lines) ≡ 0 + count_by is_phase lines = count-cons l lines ∙ ap (λ b. cond b 1 0 + count_by is_phase lines) is in
        to-other k l lines is ∙ ap (λ ls. l ∷ ls) (more k (omega (arith, none, few)))

before-some : (n : ℕ) (s : List Line) → 0 < n → lines_before n s ≡ lines_to n s
before-some zero s some = absurd (omega (arith, some))
before-some (suc n) s some = refl

pub before-all : (s : List Line) → lines_before (phases s) s ≡ s
unfolding phases
before-all s = before-some (max 1 (count_by is_phase s)) s (omega arith) ∙ to-all s (max 1 (count_by is_phase s)) (omega arith)

-- ---- from one phase to the next
-- the lines to a later phase are those to this one, and those from there on
to-add : (s : List Line) (k j : ℕ) → lines_to (k + j) s ≡ lines_to k s ++ lines_to j (drop (length (lines_to k s)) s)
to-add [] k j = rw (to-none (k + j), to-none k, to-none j) refl
to-add (l ∷ lines) k j = go (is_phase l) refl (λ m. to-add lines m j) k
  where
    go : (b : Bool) → is_phase l ≡ b → ((m : ℕ) → lines_to (m + j) lines ≡ lines_to m lines ++ lines_to j (drop (length (lines_to m lines)) lines))
        → (k : ℕ) → lines_to (k + j) (l ∷ lines) ≡ lines_to k (l ∷ lines) ++ lines_to j (drop (length (lines_to k (l ∷ lines))) (l ∷ lines))
    go true is more zero = let same : 0 + j ≡ j = omega arith in rw (same, to-stop l lines is) refl
    go true is more (suc k) = let next : suc k + j ≡ suc (k + j) = omega arith in rw (next, to-phase k l lines is) (to-phase (k + j) l lines is ∙ ap (λ ls. l ∷ ls) (more k))
    go false is more k = rw (to-other k l lines is) (to-other (k + j) l lines is ∙ ap (λ ls. l ∷ ls) (more k))

-- the lines to a phase are the first ones
to-taken : (s : List Line) (k : ℕ) → lines_to k s ≡ take (length (lines_to k s)) s
to-taken [] k = rw (to-none k) refl
to-taken (l ∷ lines) k = go (is_phase l) refl (to-taken lines) k
  where
    go : (b : Bool) → is_phase l ≡ b → ((m : ℕ) → lines_to m lines ≡ take (length (lines_to m lines)) lines) → (k : ℕ) → lines_to k (l ∷ lines) ≡ take (length (lines_to k (l ∷ lines))) (l ∷ lines)
    go true is more zero = rw (to-stop l lines is) refl
    go true is more (suc k) = rw (to-phase k l lines is) (ap (λ ls. l ∷ ls) (more k))
    go false is more k = rw (to-other k l lines is) (ap (λ ls. l ∷ ls) (more k))

pub before-taken : (s : List Line) (k : ℕ) → lines_before k s ≡ take (length (lines_before k s)) s
before-taken s zero = refl
before-taken s (suc k) = to-taken s (suc k)

pub before-few : (s : List Line) (k : ℕ) → length (lines_before k s) ≤ length s
before-few s k =
    let some : length (lines_before k s) ≡ length (take (length (lines_before k s)) s) = ap length (before-taken s k) in
    omega (arith, some, length-take (length (lines_before k s)) s)

pub before-grows : (s : List Line) (k : ℕ) → length (lines_before k s) ≤ length (lines_before (suc k) s)
before-grows s zero = omega arith
before-grows s (suc k) =
    let same : suc k + 1 ≡ suc (suc k) = omega arith in
    let parts : lines_to (suc (suc k)) s ≡ lines_to (suc k) s ++ lines_to 1 (drop (length (lines_to (suc k) s)) s) = ap (λ n. lines_to n s) (sym same) ∙ to-add s (suc k) 1 in
    let long : length (lines_to (suc (suc k)) s) ≡ length (lines_to (suc k) s ++ lines_to 1 (drop (length (lines_to (suc k) s)) s)) = ap length parts in
    omega (arith, long, length-append (lines_to (suc k) s) (lines_to 1 (drop (length (lines_to (suc k) s)) s)))

-- as many first lines as there are before a phase
pub first-lines : (s : List Line) (k n : ℕ) → n ≡ length (lines_before k s) → lines_before k s ≡ take n s
first-lines s k n is = before-taken s k ∙ ap (λ m. take m s) (sym is)

pub phases-few : (s : List Line) → phases s ≤ max 1 (length s)
unfolding phases
phases-few s = omega (arith, count_by-le-length is_phase s)

-- What is left of the phase's lines, where these many first ones were gone through: its `phase` line is still to come, or was passed.
abbrev pub Left : List Line → ℕ → ℕ → Bool → Type 0
Left s k i passed = lines_to (suc k) s ≡ take i s ++ lines_to (if passed then 0 else 1) (drop i s)

pub left-first : (s : List Line) (k i : ℕ) → i ≡ length (lines_before k s) → Left s k i false
left-first s zero i is = rw is refl
left-first s (suc k) i is =
    let same : suc k + 1 ≡ suc (suc k) = omega arith in
    rw is (ap (λ n. lines_to n s) (sym same) ∙ to-add s (suc k) 1 ∙ ap (λ ls. ls ++ lines_to 1 (drop (length (lines_to (suc k) s)) s)) (to-taken s (suc k)))

line_left : (s : List Line) (i n m : ℕ) (l : Line) → slice_get s i ≡ Some l → lines_to n (l ∷ drop (i + 1) s) ≡ l ∷ lines_to m (drop (i + 1) s)
    → take i s ++ lines_to n (drop i s) ≡ take (i + 1) s ++ lines_to m (drop (i + 1) s)
line_left s i n m l at step =
    ap (λ ls. take i s ++ lines_to n ls) (rest_is s i l at) ∙ ap (λ ls. take i s ++ ls) step
    ∙ sym (append_assoc (take i s) (l ∷ []) (lines_to m (drop (i + 1) s)))
    ∙ ap (λ ls. ls ++ lines_to m (drop (i + 1) s)) (sym (one_more s i l at))

-- a line that is no `phase` line
pub left-other : (s : List Line) (k i : ℕ) (passed : Bool) (l : Line) → slice_get s i ≡ Some l → is_phase l ≡ false → Left s k i passed → Left s k (i + 1) passed
left-other s k i passed l at is h =
    h ∙ line_left s i (if passed then 0 else 1) (if passed then 0 else 1) l at (to-other (if passed then 0 else 1) l (drop (i + 1) s) is)

-- the `phase` line
pub left-phase : (s : List Line) (k i : ℕ) (l : Line) → slice_get s i ≡ Some l → is_phase l ≡ true → Left s k i false → Left s k (i + 1) true
left-phase s k i l at is h = h ∙ line_left s i 1 0 l at (to-phase 0 l (drop (i + 1) s) is)

-- the next one
pub left-end : (s : List Line) (k i : ℕ) (l : Line) → slice_get s i ≡ Some l → is_phase l ≡ true → Left s k i true → i ≡ length (lines_before (suc k) s)
left-end s k i l at is h =
    let whole : lines_to (suc k) s ≡ take i s =
    h ∙ ap (λ ls. take i s ++ lines_to 0 ls) (rest_is s i l at) ∙ ap (λ ls. take i s ++ ls) (to-stop l (drop (i + 1) s) is) ∙ append-nil (take i s) in
    let long : length (take i s) ≡ i = length-take-le i s (omega (arith, slice_get_within s i l at)) in
    sym long ∙ ap length (sym whole)

-- the end of all lines
pub left-past : (s : List Line) (k i : ℕ) (passed : Bool) → i ≡ length s → Left s k i passed → i ≡ length (lines_before (suc k) s)
left-past s k i passed all h =
    let none : drop i s ≡ [] = drop_all i s (omega (arith, all)) in
    let whole : lines_to (suc k) s ≡ take i s =
    h ∙ ap (λ ls. take i s ++ lines_to (if passed then 0 else 1) ls) none ∙ ap (λ ls. take i s ++ ls) (to-none (if passed then 0 else 1)) ∙ append-nil (take i s) in
    let long : length (take i s) ≡ i = length-take-le i s (omega (arith, all)) in
    sym long ∙ ap length (sym whole)
