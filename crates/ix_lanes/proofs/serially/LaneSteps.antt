-- What lanes ask for, what they are answered, and their names, a line or an entry at a time.
use Rattle.std.proofs.Common.{◌≡◌, ℕ, suc, ◌+◌, ◌<◌, true, false, List, [], ◌∷◌, length, Option, Some, refl, sym, arith, if◌then◌else◌}
use Rattle.std.{specs.Prelude.IfSome, proofs.lemmas.{Bool.{eq-eqb, ne_eqb}, List.{get_or-set_same, get_or-set_other, length-set}}}
use Rattle.ix_model.specs.{world.{Naming.same_bytes, World.World}, history.{Step.step_of, Events.Event}}
use Rattle.ix_policy.specs.declared.rule.Rule.{Rule}
use Rattle.ix_script.specs.{declared.line.Line.Line, scripts.Schedule.{Numbered, seat_after, seat_from}}
use Rattle.ix_script.specs.declared.line.Line.TheVariants as line
use Rattle.ix_asking.{specs.{Asking.Answered, Lines.{Calls, calls_then, no_calls}}, proofs.Lines.calls-followed}
use Rattle.ix_lanes.specs.{declared.asking.handed.Handed.Handed, asking.{Asked.{Names, Numbers, named, no_names}, LineAsks.{line_asks, lines_ask}}}
use Rattle.ix_lanes.specs.histories.{Serial.{answered, names_of, renamed}, Lanes.{entries_of, lines_of_seat, replies_from}}
use Rattle.ix_lanes.proofs.found.Indexed.{if_some_below}

-- ---- the lines of a seat's lane
pub lines-mine : (lanes : List (List ℕ)) (k j n : ℕ) (l : Line) (lines : List Line) → j ≡ k
    → lines_of_seat lanes k n (Some j) (l ∷ lines) ≡ (record { number = n; said = l }) ∷ lines_of_seat lanes k (suc n) (seat_after lanes (Some j) l) lines
lines-mine lanes k j n l lines mine = rw (eq-eqb j k mine) refl

pub lines-other : (lanes : List (List ℕ)) (k j n : ℕ) (l : Line) (lines : List Line) → (j ≡ k → ⊥)
    → lines_of_seat lanes k n (Some j) (l ∷ lines) ≡ lines_of_seat lanes k (suc n) (seat_after lanes (Some j) l) lines
lines-other lanes k j n l lines apart = rw (ne_eqb j k apart) refl

-- ---- what lines ask for
-- the calls of lines, from the first of them on
abbrev pub calls_from : Option (List Rule) → Numbers → ℕ → Names → List Numbered → List Answered → Calls
calls_from rules header k names lines answers = calls_then k (lines_ask rules header names lines) answers no_calls

-- those of the first line, and then those of the others
pub calls-line : (rules : Option (List Rule)) (header : Numbers) (k : ℕ) (names : Names) (l : Numbered) (lines : List Numbered) (answers : List Answered)
    → calls_from rules header k names (l ∷ lines) answers
    ≡ calls_then k (line_asks rules header names l.number l.said) answers (λ g rest. calls_from rules header k (named names l.said g) lines rest)
calls-line rules header k names l lines answers =
    calls-followed Handed Names k (line_asks rules header names l.number l.said) (λ g. lines_ask rules header (named names l.said g) lines)
    answers no_calls

-- ---- the entries of a seat, and the replies to them
pub entries-mine : (k : ℕ) (e : Event) (events : List Event) → e.seat ≡ k → entries_of k (e ∷ events) ≡ e ∷ entries_of k events
entries-mine k e events mine = rw (eq-eqb e.seat k mine) refl

pub entries-other : (k : ℕ) (e : Event) (events : List Event) → (e.seat ≡ k → ⊥) → entries_of k (e ∷ events) ≡ entries_of k events
entries-other k e events apart = rw (ne_eqb e.seat k apart) refl

pub replies-mine : (w : World) (place k : ℕ) (e : Event) (events : List Event) → e.seat ≡ k
    → replies_from w place k (e ∷ events) ≡ answered (step_of w place e) ∷ replies_from (step_of w place e).world (place + 1) k events
replies-mine w place k e events mine = rw (eq-eqb e.seat k mine) refl

pub replies-other : (w : World) (place k : ℕ) (e : Event) (events : List Event) → (e.seat ≡ k → ⊥)
    → replies_from w place k (e ∷ events) ≡ replies_from (step_of w place e).world (place + 1) k events
replies-other w place k e events apart = rw (ne_eqb e.seat k apart) refl

-- ---- names
pub names-mine : (names : List Names) (k : ℕ) (l : Line) (g : Handed) → k < length names
    → names_of (renamed names k l g) k ≡ named (names_of names k) l g
names-mine names k l g within = get_or-set_same names k (named (names_of names k) l g) no_names within

pub names-other : (names : List Names) (j k : ℕ) (l : Line) (g : Handed) → (j ≡ k → ⊥) → names_of (renamed names j l g) k ≡ names_of names k
names-other names j k l g apart = get_or-set_other names j k (named (names_of names j) l g) no_names (λ e. apart (sym e))

pub length-renamed : (names : List Names) (k : ℕ) (l : Line) (g : Handed) → length (renamed names k l g) ≡ length names
length-renamed names k l g = length-set names k (named (names_of names k) l g)

-- ---- seats
seat_found : (n : ℕ) (name : List ℕ) (lanes : List (List ℕ)) → IfSome (seat_from n name lanes) (λ s. s < n + length lanes)
seat_found n name [] = tt
seat_found n name (lane ∷ lanes) =
    elim (same_bytes name lane) as (λ b. IfSome (if b then Some n else seat_from (suc n) name lanes) (λ s. s < n + suc (length lanes))) [
      | true ↦ omega arith
      | false ↦ if_some_below (seat_from (suc n) name lanes) (suc n + length lanes) (n + suc (length lanes)) (omega arith) (seat_found (suc n) name lanes)
    ]

-- the lane in which the next line stands is one of the script
pub seat_within : (lanes : List (List ℕ)) (seat : Option ℕ) (l : Line) (n : ℕ) → n ≡ length lanes → IfSome seat (λ s. s < n)
    → IfSome (seat_after lanes seat l) (λ s. s < n)
seat_within lanes seat line.Phase n is h = tt
seat_within lanes seat (line.Lane name) n is h =
    if_some_below (seat_from 0 name lanes) (0 + length lanes) n (omega (arith, is)) (seat_found 0 name lanes)
seat_within lanes seat _ n is h = h
