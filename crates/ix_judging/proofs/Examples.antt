-- The example is a script.
use Rattle.std.proofs.Common.{◌≡◌, ℕ, zero, suc, ◌+◌, ◌*◌, ◌≤◌, ◌<◌, ◌==◌, Bool, true, false, List, [], ◌∷◌, length, Some, None, refl, ap, ◌∙◌, arith, if◌then◌else◌}
use Rattle.std.proofs.lemmas.Bool.{and_parts, and_from, eqb-true, eq-eqb, ne_eqb}
use Rattle.ix_judging.specs.{Lines.{Ask, AsksFew, Done, LinesRise, lines_from}, Asking.{IsLane, IsScript, plan_of}, Bytes.{PrintsLines, is_empty, is_line}}
use Rattle.ix_judging.{specs.Example.{Entry, Line, lines_of, same_line, line_asks, script, shown, told_in}, proofs.LaneLines.{lines_are, more_room}}

second_few : (b : Bool) (k n : ℕ) (a : ℕ) → AsksFew {E = Entry} {A = ℕ} {R = ℕ} (λ e. e.seat) (λ e. e.phase) k n 1
    (if b then Ask (record { seat = k; phase = n; said = a }) (λ c. Done a) else Done a)
second_few true k n a = (refl, refl, λ c. tt)
second_few false k n a = tt

asks_few : (k last : ℕ) (l : Line) → AsksFew (λ (e : Entry). e.seat) (λ (e : Entry). e.phase) k l.phase 2 (line_asks k last l)
asks_few k last l = (refl, refl, λ a. second_few _ k _ a)

rise : (k : ℕ) → LinesRise (λ (l : Line). l.phase) 0 (lines_of k)
rise zero = (omega arith, (omega arith, tt))
rise (suc zero) = (omega arith, tt)
rise (suc (suc k)) = tt

few : (k : ℕ) → length (lines_of k) * 2 ≤ 4
few zero = omega arith
few (suc zero) = omega arith
few (suc (suc k)) = omega arith

lane_is : (k : ℕ) → IsLane (λ (e : Entry). e.seat) (λ (e : Entry). e.phase) k 0 4 (lines_from (line_asks k) 0 (lines_of k))
lane_is k =
    more_room _ _ k 0 0 _ 4 _ (omega arith) (few k)
    (lines_are _ _ (line_asks k) _ k 2 (asks_few k) 0 _ 0 (rise k))

same_equal : (x y : List ℕ) → same_line x y ≡ true → x ≡ y
same_equal [] [] is = refl
same_equal [] (y ∷ ys) is = cc is
same_equal (x ∷ xs) [] is = cc is
same_equal (x ∷ xs) (y ∷ ys) is =
    let parts = and_parts _ _ is in
    ap (λ n. n ∷ xs) (eqb-true x y parts.0) ∙ ap (λ ns. y ∷ ns) (same_equal xs ys parts.1)

same_alike : (x : List ℕ) → same_line x x ≡ true
same_alike [] = refl
same_alike (x ∷ xs) = and_from _ _ (eq-eqb x x refl) (same_alike xs)

shown_other : (n m : ℕ) → (n ≡ m → ⊥) → (shown n == shown m) ≡ false
shown_other n m apart = ne_eqb _ _ (λ is. apart (omega (arith, is)))

named_is : (k : ℕ) → k < 2 → (if shown k == shown 0 then Some 0 else if shown k == shown 1 then Some 1 else None) ≡ Some k
named_is zero below = refl
named_is (suc zero) below = refl
named_is (suc (suc k)) below = absurd (omega (arith, below))

names : (w place : ℕ) (e : Entry) → e.seat < 2 → told_in place (script.line w place e) ≡ Some e.seat
names w place e below =
    ap (λ b. if b then (if shown e.seat == shown 0 then Some 0 else if shown e.seat == shown 1 then Some 1 else None) else None)
    (eq-eqb _ _ refl) ∙ named_is _ below

pub example_is : IsScript script 2
example_is = record { lanes = lane_is; names = names; equal = same_equal; alike = same_alike }

-- a printed number more
shown_line : (n : ℕ) (l : List ℕ) → is_line l ≡ true → is_line (shown n ∷ l) ≡ true
shown_line n l is = ap (λ b. if b then is_empty l else is_line l) (ne_eqb _ 10 (λ same. omega (arith, same))) ∙ is

pub example_prints : PrintsLines (plan_of script)
example_prints = record {
  head = refl;
  line = λ w place e.
      shown_line place (shown e.seat ∷ shown e.said ∷ shown (w + e.said) ∷ 10 ∷ [])
      (shown_line e.seat (shown e.said ∷ shown (w + e.said) ∷ 10 ∷ []) (shown_line e.said (shown (w + e.said) ∷ 10 ∷ []) (shown_line (w + e.said) (10 ∷ []) refl)));
  closing = λ w place. and_from _ true (shown_line w (10 ∷ []) refl) refl;
}
