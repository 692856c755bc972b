-- An example: two lanes, of which one makes a call in each of two phases, and the other two calls in the first. The second of these says what the
-- first was answered.
use Rattle.std.specs.Prelude.{◌≡◌, ℕ, zero, suc, ◌+◌, ◌==◌, Bool, true, false, ◌&&◌, List, [], ◌∷◌, Option, Some, None, if◌then◌else◌}
use Rattle.ix_judging.specs.Lines.{Ask, Asking, Done, lines_from}
use Rattle.ix_judging.specs.Asking.{IsScript, Script, opened, plan_of}
use Rattle.ix_judging.specs.Judge.{No, Verdict, Yes}
use Rattle.ix_judging.specs.Bytes.{PrintsLines, judge_bytes}

-- an entry; what is said is a number, and the machine answers with the sum of all that was said
pub record Entry : Type 0 where
  pub seat : ℕ
  pub phase : ℕ
  pub said : ℕ

-- a line of a lane
pub record Line : Type 0 where
  pub phase : ℕ
  pub says : ℕ

-- A line says its number and the last answer. One that says seven says the answer to that, too.
abbrev pub line_asks : ℕ → ℕ → Line → Asking Entry ℕ ℕ
line_asks k last l =
    Ask (record { seat = k; phase = l.phase; said = last + l.says })
    (λ a. if l.says == 7 then Ask (record { seat = k; phase = l.phase; said = a }) (λ b. Done a) else Done a)

-- the lines of the two lanes
abbrev pub lines_of : ℕ → List Line
lines_of zero = (record { phase = 0; says = 1 }) ∷ (record { phase = 1; says = 2 }) ∷ []
lines_of (suc zero) = (record { phase = 0; says = 7 }) ∷ []
lines_of (suc (suc k)) = []

-- lines are the same
abbrev pub same_line : List ℕ → List ℕ → Bool
same_line [] [] = true
same_line [] (y ∷ ys) = false
same_line (x ∷ xs) [] = false
same_line (x ∷ xs) (y ∷ ys) = (x == y) && same_line xs ys

-- a printed number, which is no line feed
abbrev pub shown : ℕ → ℕ
shown n = 11 + n

-- the seat that stands behind the place
abbrev pub told_in : ℕ → List ℕ → Option ℕ
told_in place [] = None
told_in place (x ∷ []) = None
told_in place (x ∷ y ∷ rest) = if x == shown place then (if y == shown 0 then Some 0 else if y == shown 1 then Some 1 else None) else None

-- a line has the place, the seat, what was said, the answer and a line feed
abbrev pub script : Script ℕ Entry ℕ (List ℕ)
script = record {
  answer = λ w place e. w + e.said;
  after = λ w place e. w + e.said;
  seat = λ e. e.seat;
  phase = λ e. e.phase;
  asked = λ k answers. lines_from (line_asks k) 0 (lines_of k) answers;
  most = 4;
  head = shown 0 ∷ 10 ∷ [];
  line = λ w place e. shown place ∷ shown e.seat ∷ shown e.said ∷ shown (w + e.said) ∷ 10 ∷ [];
  closing = λ w place. (shown w ∷ 10 ∷ []) ∷ [];
  told = told_in;
  same = same_line;
}

-- what is found of a text
abbrev pub judges : List ℕ → Verdict
judges bytes = judge_bytes (plan_of script) (opened script 2 0) bytes

-- a line of four numbers, with its line feed, in front of others
abbrev pub four : ℕ → ℕ → ℕ → ℕ → List ℕ → List ℕ
four place seat said answer bytes = shown place ∷ shown seat ∷ shown said ∷ shown answer ∷ 10 ∷ bytes

-- a line of one number
abbrev pub one : ℕ → List ℕ → List ℕ
one n bytes = shown n ∷ 10 ∷ bytes

-- two good reports: the first lane first
abbrev pub text_a : List ℕ
text_a = one 0 (four 1 0 1 1 (four 2 1 7 8 (four 3 1 8 16 (four 4 0 3 19 (one 19 [])))))

-- the second lane first
abbrev pub text_b : List ℕ
text_b = one 0 (four 1 1 7 7 (four 2 0 1 8 (four 3 1 7 15 (four 4 0 10 25 (one 25 [])))))

-- how texts are judged
pub record Judgements : Type 0 where
  pub good_a : judges text_a ≡ Yes 4
  pub good_b : judges text_b ≡ Yes 4
  -- the second phase begins before the first has ended
  pub early : judges (one 0 (four 1 0 1 1 (four 2 0 3 4 []))) ≡ No 3
  -- a wrong answer, and a call that its lane doesn't make
  pub answer : judges (one 0 (four 1 0 1 1 (four 2 1 7 9 []))) ≡ No 3
  pub call : judges (one 0 (four 1 0 1 1 (four 2 1 7 8 (four 3 1 7 15 [])))) ≡ No 4
  -- a lane that isn't there, a wrong place, and a wrong head
  pub lane : judges (one 0 (four 1 2 1 1 [])) ≡ No 2
  pub place : judges (one 0 (four 2 0 1 1 [])) ≡ No 2
  pub head : judges (one 1 (four 1 0 1 1 [])) ≡ No 1
  pub nothing : judges [] ≡ No 1
  -- the front of a good report, with the last line feed and without it
  pub front : judges (one 0 (four 1 0 1 1 [])) ≡ No 3
  pub unended : judges (one 0 (shown 1 ∷ shown 0 ∷ shown 1 ∷ shown 1 ∷ [])) ≡ No 2
  -- more behind a good report, with a line feed and without
  pub more : judges (one 0 (four 1 0 1 1 (four 2 1 7 8 (four 3 1 8 16 (four 4 0 3 19 (one 19 (one 0 []))))))) ≡ No 7
  pub further : judges (one 0 (four 1 0 1 1 (four 2 1 7 8 (four 3 1 8 16 (four 4 0 3 19 (one 19 (7 ∷ []))))))) ≡ No 7
  -- the wrong last line
  pub last : judges (one 0 (four 1 0 1 1 (four 2 1 7 8 (four 3 1 8 16 (four 4 0 3 19 (one 20 [])))))) ≡ No 6

-- the example is a script, it prints lines, and these texts are judged so
pub record IsExample : Type 0 where
  pub is : IsScript script 2
  pub prints : PrintsLines (plan_of script)
  pub judged : Judgements
