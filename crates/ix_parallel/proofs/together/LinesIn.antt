-- The lines from which entries come.
use Rattle.std.proofs.Common.{ℕ, suc, ◌+◌, ◌≤◌, ◌<◌, true, false, List, [], ◌∷◌, ◌++◌, length, Option, refl, sym, subst, arith, inl, inr, if◌then◌else◌}
use Rattle.std.proofs.lemmas.Bool.{cases_eq}
use Rattle.ix_model.specs.history.Events.{Event}
use Rattle.ix_policy.specs.declared.rule.Rule.{Rule}
use Rattle.ix_script.specs.{declared.line.Line.Line, scripts.Schedule.{Numbered, seat_after, is_seat}}
use Rattle.ix_asking.{specs.{Asking.{Answered, Asking, Done, Ask}, Lines.{calls_then, no_calls}}, proofs.Every.{AllOf, all-followed, all-weaker}}
use Rattle.ix_lanes.specs.{declared.asking.handed.Handed.Handed, asking.{Asked.{Names, Numbers, named}, LineAsks.{OfLine, line_asks, lines_ask}}}
use Rattle.ix_lanes.specs.histories.Lanes.{entries_of, lines_of_seat}
use Rattle.ix_lanes.proofs.serially.{LaneSteps.{calls_from, entries-mine, entries-other}, LineCalls.all-numbered}

-- what holds of the number of each line
abbrev pub EachNumber : (ℕ → Type 0) → List Numbered → Type 0
EachNumber P [] = Unit {0}
EachNumber P (l ∷ lines) = P l.number × EachNumber P lines

-- what holds of the line of each entry
abbrev pub EachLine : (ℕ → Type 0) → List Event → Type 0
EachLine P [] = Unit {0}
EachLine P (e ∷ events) = P e.line × EachLine P events

-- each entry is of one of so many seats
abbrev pub Within : ℕ → List Event → Type 0
Within count [] = Unit {0}
Within count (e ∷ events) = (e.seat < count) × Within count events

module _ (P : ℕ → Type 0) where
  pub each_in_lane : (lanes : List (List ℕ)) (seat n : ℕ) (at : Option ℕ) (lines : List Line) → ((m : ℕ) → n ≤ m → m < n + length lines → P m) → EachNumber P (lines_of_seat lanes seat n at lines)
  each_in_lane lanes seat n at [] h = tt
  each_in_lane lanes seat n at (l ∷ lines) h =
      let rest : List Numbered = lines_of_seat lanes seat (suc n) (seat_after lanes at l) lines in
      let later : EachNumber P rest = each_in_lane lanes seat (suc n) (seat_after lanes at l) lines (λ m low high. h m (omega (arith, low)) (omega (arith, high))) in
      elim (is_seat seat at) as (λ b. EachNumber P (if b then (record { number = n; said = l }) ∷ rest else rest)) [
        | true ↦ (h n (omega arith) (omega arith), later)
        | false ↦ later
      ]

  -- ---- what lines ask for
  -- each call that they ask for comes from one of them
  lines_asked : (rules : Option (List Rule)) (header : Numbers) (lines : List Numbered) → EachNumber P lines → (names : Names) → AllOf (λ a. P a.line) (lines_ask rules header names lines)
  lines_asked rules header [] h names = tt
  lines_asked rules header (l ∷ lines) h names =
      all-followed Handed Names (λ a. P a.line) (line_asks rules header names l.number l.said) (λ g. lines_ask rules header (named names l.said g) lines)
      (all-weaker Handed (OfLine l.number) (λ a. P a.line) (line_asks rules header names l.number l.said) (λ a is. subst P (sym is) h.0) (all-numbered rules header names l.number l.said))
      (λ g. lines_asked rules header lines h.1 (named names l.said g))

  each_asked : {R : Type 0} (k : ℕ) (p : Asking R) (answers : List Answered) → AllOf (λ a. P a.line) p → EachLine P (calls_then k p answers no_calls).entries
  each_asked k (Done r) answers h = tt
  each_asked k (Ask a later) [] h = tt
  each_asked k (Ask a later) (x ∷ answers) h = (h.0, each_asked k (later x) answers (h.1 x))

  -- the entries that lines ask for come from these lines
  pub each_of_lines : (lines : List Numbered) → EachNumber P lines → (rules : Option (List Rule)) (header : Numbers) (k : ℕ) (names : Names) (answers : List Answered)
      → EachLine P (calls_from rules header k names lines answers).entries
  each_of_lines lines h rules header k names answers = each_asked k (lines_ask rules header names lines) answers (lines_asked rules header lines h names)

  -- ---- lists of entries
  pub each_append : (xs ys : List Event) → EachLine P xs → EachLine P ys → EachLine P (xs ++ ys)
  each_append [] ys a b = b
  each_append (x ∷ xs) ys a b = (a.0, each_append xs ys a.1 b)

  -- what holds of each lane's entries holds of all
  pub each_of_seats : (count : ℕ) (events : List Event) → ((seat : ℕ) → seat < count → EachLine P (entries_of seat events)) → Within count events → EachLine P events
  each_of_seats count [] each h = tt
  each_of_seats count (e ∷ events) each h = (
    (subst (EachLine P) (entries-mine e.seat e events refl) (each e.seat h.0)).0,
    each_of_seats count events (λ seat low. elim (cases_eq e.seat seat) [
      | inl mine ↦ (subst (EachLine P) (entries-mine seat e events mine) (each seat low)).1
      | inr apart ↦ subst (EachLine P) (entries-other seat e events apart) (each seat low)
    ]) h.1,
  )

pub each_weaker : (P Q : ℕ → Type 0) → ((n : ℕ) → P n → Q n) → (events : List Event) → EachLine P events → EachLine Q events
each_weaker P Q f [] h = tt
each_weaker P Q f (e ∷ events) h = (f e.line h.0, each_weaker P Q f events h.1)
