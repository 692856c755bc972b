-- The calls of a script's histories fit the form of labels that it tells, where its lines do.
use Rattle.std.proofs.Common.{◌≡◌, ℕ, suc, ◌<◌, nat_lt, Bool, true, false, List, [], ◌∷◌, length, Option, Some, None, refl, sym, ap, subst, arith, inl, inr}
use Rattle.std.proofs.Common.{if◌then◌else◌}
use Rattle.std.{specs.{Prelude.{All, IfSome}, List.list_all}, proofs.lemmas.{Bool.{cases_eq, and_parts, ltb-true}, List.Elements.{All-nil, All-cons, All-tail}}}
use Rattle.ix_label.specs.{declared.form.Form.Form, Forms.Fits}
use Rattle.ix_model.specs.history.{Events.{Event, Op}, Spelled.{CallFits, EventsFit}}
use Rattle.ix_model.specs.history.Events as op
use Rattle.ix_policy.specs.declared.rule.Rule.{Rule}
use Rattle.ix_script.specs.{lines.{Before.{form_told, lanes_of}, Fits.LineFits}, declared.line.Line.Line, scripts.Schedule.{Numbered, seat_after, is_seat}}
use Rattle.ix_script.specs.declared.line.Line.TheVariants as line
use Rattle.ix_asking.{specs.{Asking.{Asked, Answered, Asking, Done, Ask}, Lines.{Calls, calls_then}, Runs.entry_of}, proofs.{Every.AllOf, Serves.GivesNoLabel}}
use Rattle.ix_sessserv.specs.Serving.{clear_of}
use Rattle.ix_lanes.specs.{declared.asking.handed.Handed.Handed, asking.{Asked.{Names, Numbers, asked, named, no_names}, LineAsks.line_asks, Ruled.rules_told}}
use Rattle.ix_lanes.specs.histories.{Serial.header_of, Lanes.{Lanes, calls_of, entries_of, lane_asks, lines_of_seat, replies_of}}
use Rattle.ix_lanes.proofs.serially.{LaneSteps.{calls_from, calls-line, entries-mine, entries-other}, LineCalls.all-of-line, Told.told-clear}

module _ (form : Form) where
  abbrev Fit : Event → Type 0
  Fit e = CallFits form e.op

  abbrev AskedFits : Asked → Type 0
  AskedFits a = CallFits form a.op

  -- ---- a line
  asked_fits : (header : Numbers) (names : Names) (n : ℕ) (l : Line) → LineFits form l → IfSome (asked header names n l) AskedFits
  unfolding asked
  asked_fits header names n (line.Setlabel proc path label) h = h
  asked_fits header names n (line.Setself proc label) h = h
  asked_fits header names n (line.Ceiling proc of_proc label) h = h
  asked_fits header names n _ h = tt

  plain_fits : (o : Op) → GivesNoLabel o → CallFits form o
  plain_fits (op.SetLabel path label) h = absurd h
  plain_fits (op.SetSelf label) h = absurd h
  plain_fits (op.SetCeiling target label) h = absurd h
  plain_fits _ h = tt

  -- ---- the lines of a lane
  abbrev AllIn : List Numbered → Type 0
  AllIn [] = Unit {0}
  AllIn (l ∷ lines) = LineFits form l.said × AllIn lines

  fits_then : (R : Type 0) (k : ℕ) (p : Asking R) (after : R → List Answered → Calls) → AllOf AskedFits p
      → ((r : R) (rest : List Answered) → All Fit (after r rest).entries)
      → (answers : List Answered) → All Fit (calls_then k p answers after).entries
  fits_then R k (Done r) after fits later answers = later r answers
  fits_then R k (Ask a more) after fits later [] = All-nil Fit
  fits_then R k (Ask a more) after fits later (x ∷ answers) =
      All-cons Fit (entry_of k a) _ fits.0 (fits_then R k (more x) after (fits.1 x) later answers)

  module _ (rules : Option (List Rule)) (clear : (r : List Rule) → rules ≡ Some r → (rule : ℕ) → Fits form (clear_of r rule)) (header : Numbers) where
    line_fits : (names : Names) (n : ℕ) (l : Line) → LineFits form l → AllOf AskedFits (line_asks rules header names n l)
    line_fits names n l h =
        all-of-line AskedFits rules header names n l (asked_fits header names n l h) (λ pid o plain. plain_fits o plain)
        (λ r is pid target rule. clear r is rule)

    calls_fit : (k : ℕ) (lines : List Numbered) → AllIn lines → (names : Names) (answers : List Answered)
        → All Fit (calls_from rules header k names lines answers).entries
    calls_fit k [] h names answers = All-nil Fit
    calls_fit k (l ∷ lines) h names answers =
        subst (λ (c : Calls). All Fit c.entries) (sym (calls-line rules header k names l lines answers))
        (fits_then Handed k (line_asks rules header names l.number l.said) (λ g rest. calls_from rules header k (named names l.said g) lines rest)
        (line_fits names l.number l.said h.0) (λ g rest. calls_fit k lines h.1 (named names l.said g) rest) answers)

  lines_in : (lanes : List (List ℕ)) (seat n : ℕ) (at : Option ℕ) (lines : List Line) → All (λ (l : Line). LineFits form l) lines
      → AllIn (lines_of_seat lanes seat n at lines)
  lines_in lanes seat n at [] h = tt
  lines_in lanes seat n at (l ∷ lines) h =
      go (lines_in lanes seat (suc n) (seat_after lanes at l) lines (All-tail (λ (l : Line). LineFits form l) l lines h)) (is_seat seat at)
    where
      go : AllIn (lines_of_seat lanes seat (suc n) (seat_after lanes at l) lines) → (b : Bool)
          → AllIn (if b then (record { number = n; said = l }) ∷ lines_of_seat lanes seat (suc n) (seat_after lanes at l) lines
          else lines_of_seat lanes seat (suc n) (seat_after lanes at l) lines)
      go more true = (h 0 l (omega arith), more)
      go more false = more

  -- ---- all lanes
  by_seats : (n : ℕ) (events : List Event) → list_all (λ (e : Event). nat_lt e.seat n) events ≡ true
      → ((seat : ℕ) → seat < n → All Fit (entries_of seat events)) → All Fit events
  by_seats n [] low each = All-nil Fit
  by_seats n (e ∷ events) low each =
      let parts = and_parts (nat_lt e.seat n) (list_all (λ (e : Event). nat_lt e.seat n) events) low in
      let mine : All Fit (e ∷ entries_of e.seat events) = subst (All Fit) (entries-mine e.seat e events refl) (each e.seat (ltb-true e.seat n parts.0)) in
      All-cons Fit e events (mine 0 e (omega arith)) (by_seats n events parts.1 (λ seat below. elim (cases_eq e.seat seat) [
        | inl same ↦ All-tail Fit e (entries_of seat events) (subst (All Fit) (entries-mine seat e events same) (each seat below))
        | inr other ↦ subst (All Fit) (entries-other seat e events other) (each seat below)
      ]))

-- ---- a script
seat_fits : (s : List Line) → All (λ (l : Line). LineFits (form_told s) l) s → (seat : ℕ) (answers : List Answered)
    → All (Fit (form_told s)) (calls_of s seat answers).entries
unfolding lane_asks
seat_fits s h seat answers =
    calls_fit (form_told s) (rules_told s) (told-clear s) (header_of s) seat (lines_of_seat (lanes_of s) seat 1 None s)
    (lines_in (form_told s) (lanes_of s) seat 1 None s h) no_names answers

pub history_fits : (s : List Line) (events : List Event) → All (λ (l : Line). LineFits (form_told s) l) s → Lanes s events
    → EventsFit (form_told s) events
history_fits s events h lanes =
    by_seats (form_told s) (length (lanes_of s)) events lanes.seats
    (λ seat below. subst (All (Fit (form_told s))) (ap (λ (c : Calls). c.entries) (lanes.calls seat below)) (seat_fits s h seat (replies_of s seat events)))
