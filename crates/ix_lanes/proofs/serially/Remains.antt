-- What the lanes of a script ask for from a line on, and within one line.
use Rattle.std.proofs.Common.{◌≡◌, ℕ, suc, ◌+◌, ◌<◌, ◌==◌, List, [], ◌∷◌, length, Option, Some, None, refl, sym, ap, ◌∙◌, subst, arith, inl, inr, if◌then◌else◌}
use Rattle.std.proofs.lemmas.Bool.{cases_eq, eq-eqb, ne_eqb}
use Rattle.ix_model.specs.{world.World.World, history.{Step.step_of, Events.Event}}
use Rattle.ix_policy.specs.declared.rule.Rule.{Rule}
use Rattle.ix_script.specs.{lines.Before.lanes_of, declared.line.Line.Line, scripts.Schedule.{Numbered, seat_after}}
use Rattle.ix_asking.{specs.{Asking.{Asked, Answered, Asking, Done, Ask}, Lines.{Calls, calls_then}, Runs.entry_of}, proofs.Every.AllOf}
use Rattle.ix_lanes.specs.{declared.asking.handed.Handed.Handed, asking.{Asked.{Names, Numbers, named}, LineAsks.{OfLine, line_asks}, Ruled.rules_told}}
use Rattle.ix_lanes.specs.histories.{Serial.{answered, header_of, names_of, renamed}, Lanes.lines_of_seat}
use Rattle.ix_lanes.proofs.{serially.LaneSteps.{calls_from, calls-line, lines-mine, lines-other, names-mine, names-other}, serially.LineCalls.all-numbered}
use Rattle.ix_lanes.proofs.serially.OneEntry.{Answers, LanesAsk, StartsAt, ask-for}

-- what a seat's lane asks for from a line on, where that line has the number n and stands in the lane of the seat `at`
abbrev pub lane_calls : List Line → List Names → Option ℕ → ℕ → List Line → LanesAsk
lane_calls s names at n lines k answers =
    calls_from (rules_told s) (header_of s) k (names_of names k) (lines_of_seat (lanes_of s) k n at lines) answers

-- ---- numbers of the lines that ask
pub starts-then : (R : Type 0) (n k : ℕ) (p : Asking R) (after : R → List Answered → Calls) → AllOf (OfLine n) p
    → ((r : R) → StartsAt n (after r))
    → StartsAt n (λ answers. calls_then k p answers after)
starts-then R n k (Done r) after numbered later = later r
starts-then R n k (Ask a more) after numbered later = go
  where
    go : StartsAt n (λ answers. calls_then k (Ask a more) answers after)
    go [] e events h = cc
    go (x ∷ answers) e events h =
        let same : entry_of k a ≡ e = cc in
        let number : a.line ≡ e.line = ap (λ (y : Event). y.line) same in
        omega (arith, number, numbered.0)

-- what lines ask for is numbered from the first of them on
pub asks_later : (rules : Option (List Rule)) (header : Numbers) (lanes : List (List ℕ)) (k n : ℕ) (names : Names) (at : Option ℕ) (lines : List Line)
    → StartsAt n (calls_from rules header k names (lines_of_seat lanes k n at lines))
asks_later rules header lanes k n names at [] answers e events h = cc
asks_later rules header lanes k n names None (l ∷ lines) answers e events h =
    let more = asks_later rules header lanes k (suc n) names (seat_after lanes None l) lines answers e events h in omega (arith, more)
asks_later rules header lanes k n names (Some j) (l ∷ lines) answers e events h = elim (cases_eq j k) [
  | inl mine ↦
      let rest : List Numbered = lines_of_seat lanes k (suc n) (seat_after lanes (Some j) l) lines in
      starts-then Handed n k (line_asks rules header names n l) (λ g later. calls_from rules header k (named names l g) rest later)
      (all-numbered rules header names n l)
      (λ g later f others is. let more =
      asks_later rules header lanes k (suc n) (named names l g) (seat_after lanes (Some j) l) lines later f others is in omega
      (arith, more))
      answers e events
      (ap (λ (c : Calls). c.entries) (sym (ap (λ ls. calls_from rules header k names ls answers) (lines-mine lanes k j n l lines mine)
      ∙ calls-line rules header k names (record { number = n; said = l }) rest answers)) ∙ h)
  | inr apart ↦
      let more = asks_later rules header lanes k (suc n) names (seat_after lanes (Some j) l) lines answers e events
      (ap (λ ls. (calls_from rules header k names ls answers).entries) (sym (lines-other lanes k j n l lines apart)) ∙ h) in omega
      (arith, more)
]

-- ---- within one line
module _ (s : List Line) (names : List Names) (j n : ℕ) (l : Line) (lines : List Line) where
  abbrev pub next_seat : Option ℕ
  next_seat = seat_after (lanes_of s) (Some j) l

  -- what the line's lane asks for after the line, by what came of it
  abbrev pub after_line : Handed → List Answered → Calls
  after_line g rest = lane_calls s (renamed names j l g) next_seat (suc n) lines j rest

  -- what lanes ask for where this is left of what the line asks for
  abbrev pub pending : Asking Handed → LanesAsk
  pending p k answers = if j == k then calls_then j p answers after_line else lane_calls s names next_seat (suc n) lines k answers

  pending-mine : (p : Asking Handed) (answers : List Answered) → pending p j answers ≡ calls_then j p answers after_line
  pending-mine p answers = rw (eq-eqb j j refl) refl

  pending-other : (p : Asking Handed) (k : ℕ) (answers : List Answered) → (j ≡ k → ⊥)
      → pending p k answers ≡ lane_calls s names next_seat (suc n) lines k answers
  pending-other p k answers apart = rw (ne_eqb j k apart) refl

  -- at the line, all is left of it
  pub at_line : j < length names → (k : ℕ) (answers : List Answered)
      → lane_calls s names (Some j) n (l ∷ lines) k answers ≡ pending (line_asks (rules_told s) (header_of s) (names_of names j) n l) k answers
  at_line within k answers = elim (cases_eq j k) [
    | inl mine ↦ subst (λ (m : ℕ). lane_calls s names (Some j) n (l ∷ lines) m answers ≡ pending (line_asks (rules_told s) (header_of s) (names_of names j) n l) m answers) mine
        (ap (λ ls. calls_from (rules_told s) (header_of s) j (names_of names j) ls answers) (lines-mine (lanes_of s) j j n l lines refl)
        ∙ calls-line (rules_told s) (header_of s) j (names_of names j) (record { number = n; said = l })
        (lines_of_seat (lanes_of s) j (suc n) next_seat lines) answers
        ∙ (λ i. calls_then j (line_asks (rules_told s) (header_of s) (names_of names j) n l) answers
        (λ g rest. calls_from (rules_told s) (header_of s) j (sym (names-mine names j l g within) i) (lines_of_seat (lanes_of s) j (suc n) next_seat lines) rest))
        ∙ sym (pending-mine (line_asks (rules_told s) (header_of s) (names_of names j) n l) answers))
    | inr apart ↦
        ap (λ ls. calls_from (rules_told s) (header_of s) k (names_of names k) ls answers) (lines-other (lanes_of s) k j n l lines apart)
        ∙ sym (pending-other (line_asks (rules_told s) (header_of s) (names_of names j) n l) k answers apart)
  ]

  -- where nothing is left of it, lanes ask for what later lines say
  pub past_line : (g : Handed) (k : ℕ) (answers : List Answered)
      → pending (Done g) k answers ≡ lane_calls s (renamed names j l g) next_seat (suc n) lines k answers
  past_line g k answers = elim (cases_eq j k) [
    | inl mine ↦ subst (λ (m : ℕ). pending (Done g) m answers ≡ lane_calls s (renamed names j l g) next_seat (suc n) lines m answers) mine (pending-mine (Done g) answers)
    | inr apart ↦
        pending-other (Done g) k answers apart
        ∙ ap (λ ns. calls_from (rules_told s) (header_of s) k ns (lines_of_seat (lanes_of s) k (suc n) next_seat lines) answers)
        (sym (names-other names j k l g apart))
  ]

  -- the next call of the line
  pub call_answers : (count : ℕ) (a : Asked) (later : Answered → Asking Handed) (w : World) (place : ℕ) → j < count
      → Answers count (pending (Ask a later)) (pending (later (answered (step_of w place (entry_of j a))))) w place (entry_of j a)
      (λ r rest. calls_then j (later r) rest after_line)
  call_answers count a later w place within = record {
    first = λ answers. pending-mine (Ask a later) answers ∙ ask-for j a later answers after_line;
    mine = λ answers. pending-mine (later (answered (step_of w place (entry_of j a)))) answers;
    others =
        λ k apart answers. pending-other (later (answered (step_of w place (entry_of j a)))) k answers apart ∙ sym (pending-other (Ask a later) k answers apart);
    within = within;
  }

  -- other lanes ask for what later lines say
  pub others_later : (p : Asking Handed) (k : ℕ) → (j ≡ k → ⊥) → StartsAt (n + 1) (pending p k)
  others_later p k apart answers e events h =
      let more = asks_later (rules_told s) (header_of s) (lanes_of s) k (suc n) (names_of names k) next_seat lines answers e events
      (ap (λ (c : Calls). c.entries) (sym (pending-other p k answers apart)) ∙ h) in omega (arith, more)

  -- nothing that is asked for comes from an earlier line
  pub rest_starts : (p : Asking Handed) → AllOf (OfLine n) p → (k : ℕ) → StartsAt n (pending p k)
  rest_starts p numbered k answers e events h = elim (cases_eq j k) [
    | inl mine ↦
        starts-then Handed n j p after_line numbered
        (λ g rest f others is. let more =
        asks_later (rules_told s) (header_of s) (lanes_of s) j (suc n) (names_of (renamed names j l g) j) next_seat lines rest f others
        is in omega (arith, more))
        answers e events
        (ap (λ (c : Calls). c.entries) (sym (pending-mine p answers)) ∙ ap (λ m. (pending p m answers).entries) mine ∙ h)
    | inr apart ↦ let more = others_later p k apart answers e events h in omega (arith, more)
  ]
