-- Lanes that are told by their lines are lanes.
use Rattle.std.proofs.{Common.{◌≡◌, ℕ, zero, suc, ◌+◌, ◌*◌, ◌≤◌, ◌<◌, List, [], ◌∷◌, ◌++◌, length, Some, None, refl, ap, ◌∙◌, subst, arith}, Math.Nat.suc-mul}
use Rattle.ix_judging.specs.{Lanes.{Calls, no_calls, with_entry_first}, Asking.IsLane, Lines.{Ask, Asking, AsksFew, Done, LinesRise, asks_for, calls_then, lines_from}}

module _ {E A : Type 0} (seat phase : E → ℕ) where
  -- ---- nothing, and one call more in front
  nothing : (k low most : ℕ) → IsLane {E = E} {A = A} seat phase k low most (λ answers. no_calls)
  nothing k low most = record {
    starts = refl;
    makes = λ answers a e is. cc is;
    stays = λ answers a is. refl;
    seats = λ answers e is. cc is;
    from = λ answers e is. cc is;
    rises = λ answers a e f is next. cc is;
    few = λ answers e is. cc is;
  }

  pub more_room : (k low low' most most' : ℕ) (asked : List A → Calls E) → low' ≤ low → most ≤ most'
      → IsLane seat phase k low most asked → IsLane seat phase k low' most' asked
  more_room k low low' most most' asked lower higher is = record {
    starts = is.starts;
    makes = is.makes;
    stays = is.stays;
    seats = is.seats;
    from = λ answers e next. let above = is.from answers e next in omega (arith, above, lower);
    rises = is.rises;
    few = λ answers e next. let below = is.few answers e next in omega (arith, below, higher);
  }

  module _ (k low most : ℕ) (e : E) (more : A → List A → Calls E) (mine : seat e ≡ k) (above : low ≤ phase e)
      (rest : (a : A) → IsLane seat phase k (phase e) most (more a)) where
    first_makes : (answers : List A) (a : A) (f : E) → (asks_for e more answers).next ≡ Some f
        → (asks_for e more (answers ++ a ∷ [])).entries ≡ (asks_for e more answers).entries ++ f ∷ []
    first_makes [] a f is = let same : e ≡ f = cc in ap (λ es. e ∷ es) (rest a).starts ∙ ap (λ x. x ∷ []) same
    first_makes (r ∷ answers) a f is = ap (λ es. e ∷ es) ((rest r).makes answers a f is)

    first_stays : (answers : List A) (a : A) → (asks_for e more answers).next ≡ None
        → asks_for e more (answers ++ a ∷ []) ≡ asks_for e more answers
    first_stays [] a is = cc is
    first_stays (r ∷ answers) a is = ap (with_entry_first e) ((rest r).stays answers a is)

    first_seats : (answers : List A) (f : E) → (asks_for e more answers).next ≡ Some f → seat f ≡ k
    first_seats [] f is = let same : e ≡ f = cc in subst (λ x. seat x ≡ k) same mine
    first_seats (r ∷ answers) f is = (rest r).seats answers f is

    first_from : (answers : List A) (f : E) → (asks_for e more answers).next ≡ Some f → low ≤ phase f
    first_from [] f is = let same : e ≡ f = cc in subst (λ x. low ≤ phase x) same above
    first_from (r ∷ answers) f is = let later = (rest r).from answers f is in omega (arith, later, above)

    first_rises : (answers : List A) (a : A) (f g : E) → (asks_for e more answers).next ≡ Some f
        → (asks_for e more (answers ++ a ∷ [])).next ≡ Some g → phase f ≤ phase g
    first_rises [] a f g is next = let same : e ≡ f = cc in subst (λ x. phase x ≤ phase g) same ((rest a).from [] g next)
    first_rises (r ∷ answers) a f g is next = (rest r).rises answers a f g is next

    first_few : (answers : List A) (f : E) → (asks_for e more answers).next ≡ Some f → length answers < suc most
    first_few [] f is = omega arith
    first_few (r ∷ answers) f is = let below = (rest r).few answers f is in omega (arith, below)

    one_first : IsLane seat phase k low (suc most) (asks_for e more)
    one_first = record {
      starts = refl;
      makes = first_makes;
      stays = first_stays;
      seats = first_seats;
      from = first_from;
      rises = first_rises;
      few = first_few;
    }

  -- ---- what asks, and then a lane
  asking_then : {R : Type 0} (k low n here most : ℕ) (p : Asking E A R) (after : R → List A → Calls E) → low ≤ n
      → AsksFew seat phase k n here p
      → ((r : R) → IsLane seat phase k n most (after r)) → IsLane seat phase k low (here + most) (λ answers. calls_then p answers after)
  asking_then k low n here most (Done r) after lower few rest = more_room k n _ _ _ _ lower (omega arith) (rest r)
  asking_then k low n zero most (Ask e more) after lower few rest = absurd few
  asking_then k low n (suc here) most (Ask e more) after lower few rest =
      let one : suc (here + most) ≡ suc here + most = omega arith in
      subst (λ m. IsLane seat phase k low m (asks_for e (λ a later. calls_then (more a) later after))) one
      (one_first k low (here + most) e (λ a later. calls_then (more a) later after) few.0 (omega (arith, few.1, lower))
      (λ a. asking_then k (phase e) n _ _ (more a) _ (omega (arith, few.1)) (few.2 a) rest))

  -- ---- lines
  pub lines_are : {N S : Type 0} (line_asks : N → S → Asking E A N) (within : S → ℕ) (k most : ℕ)
      → ((names : N) (l : S) → AsksFew seat phase k (within l) most (line_asks names l))
      → (low : ℕ) (lines : List S) (names : N) → LinesRise within low lines
      → IsLane seat phase k low (length lines * most) (lines_from line_asks names lines)
  lines_are line_asks within k most few low [] names rise = nothing k low _
  lines_are line_asks within k most few low (l ∷ lines) names rise =
      let all : most + length lines * most ≡ length (l ∷ lines) * most = let product = suc-mul (length lines) most in omega (arith, product) in
      subst (λ (m : ℕ). IsLane seat phase k low m (lines_from line_asks names (l ∷ lines))) all
      (asking_then k low (within l) most (length lines * most) (line_asks names l) (λ after rest. lines_from line_asks after lines rest) rise.0 (few names l)
      (λ after. lines_are line_asks within k most few (within l) lines after rise.1))
