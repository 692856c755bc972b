-- Serial histories of a script: there is one, and it is the serial history.
use Rattle.std.proofs.Common.{◌≡◌, ℕ, suc, ◌+◌, ◌<◌, List, [], ◌∷◌, length, Option, Some, None, refl, sym, ap, ◌∙◌, subst, arith}
use Rattle.std.{specs.Prelude.IfSome, proofs.lemmas.List.{get_or-replicate, length-replicate}}
use Rattle.ix_model.specs.{world.World.World, opening.Opening.opening_world, history.{Step.step_of, Events.Event}}
use Rattle.ix_script.specs.{lines.Before.lanes_of, scripts.{Scripts.config_of, Schedule.seat_after}, declared.line.Line.Line}
use Rattle.ix_asking.{specs.{Asking.{Answered, Asking, Done, Ask}, Lines.Calls, Runs.entry_of}, proofs.Every.AllOf}
use Rattle.ix_lanes.specs.{declared.asking.handed.Handed.Handed, asking.{Asked.{Names, no_names}, LineAsks.{OfLine, line_asks}, Ruled.rules_told}}
use Rattle.ix_lanes.specs.histories.Serial.{answered, first_names, header_of, made_then, names_of, renamed, serial, serial_from}
use Rattle.ix_lanes.specs.histories.Lanes.{IsSerial, entries_of, lane_asks, lines_of_seat, replies_from, replies_of}
use Rattle.ix_lanes.proofs.{serially.LaneSteps.{calls_from, entries-mine, length-renamed, seat_within}, serially.LineCalls.all-numbered}
use Rattle.ix_lanes.proofs.serially.OneEntry.{Going, StartsAt, first_seat, one_after, one_before}
use Rattle.ix_lanes.proofs.serially.Remains.{at_line, call_answers, lane_calls, next_seat, others_later, past_line, pending, rest_starts}

-- ---- all lines
-- the entries are what remains of a serial history from a line on, where the machine has come to a world and a place
abbrev pub Remains : List Line → World → ℕ → List Names → Option ℕ → ℕ → List Line → List Event → Type 0
Remains s w place names at n lines events = Going (length (lanes_of s)) (lane_calls s names at n lines) w place events

-- from a line on, there is no serial history but that one
abbrev IsOne : List Line → ℕ → List Line → Type 0
IsOne s n lines =
    (w : World) (place : ℕ) (names : List Names) (at : Option ℕ) (h : List Event) → length names ≡ length (lanes_of s) → IfSome at
    (λ k. k < length (lanes_of s))
    → Remains s w place names at n lines h → h ≡ serial_from s w place names at n lines

-- and that one is a serial history
abbrev IsThere : List Line → ℕ → List Line → Type 0
IsThere s n lines =
    (w : World) (place : ℕ) (names : List Names) (at : Option ℕ) → length names ≡ length (lanes_of s) → IfSome at
    (λ k. k < length (lanes_of s))
    → Remains s w place names at n lines (serial_from s w place names at n lines)

-- ---- within one line
module _ (s : List Line) (n j : ℕ) (l : Line) (lines : List Line) (names : List Names)
    (long : length names ≡ length (lanes_of s)) (within : j < length (lanes_of s)) where
  abbrev after : World → ℕ → Handed → List Event
  after v place g = serial_from s v place (renamed names j l g) (next_seat s names j n l lines) (suc n) lines

  -- the entries are what remains where this is left of what the line asks for
  abbrev RemainsOf : Asking Handed → World → ℕ → List Event → Type 0
  RemainsOf p w place events = Going (length (lanes_of s)) (pending s names j n l lines p) w place events

  same_length : (g : Handed) → length (renamed names j l g) ≡ length (lanes_of s)
  same_length g = length-renamed names j l g ∙ long

  still_within : IfSome (next_seat s names j n l lines) (λ k. k < length (lanes_of s))
  still_within = seat_within (lanes_of s) (Some j) l _ refl within

  rest_one : IsOne s (suc n) lines → (p : Asking Handed) → AllOf (OfLine n) p → (w : World) (place : ℕ) (h : List Event)
      → RemainsOf p w place h → h ≡ made_then j w place p after
  rest_one later (Done g) numbered w place h r =
      later w place (renamed names j l g) (next_seat s names j n l lines) h (same_length g) still_within
      (record { seats = r.seats; calls = λ k k_within. sym (past_line s names j n l lines g k (replies_from w place k h)) ∙ r.calls k k_within; order = r.order })
  rest_one later (Ask a more) numbered w place h r =
      let e : Event = entry_of j a in
      let x : Answered = answered (step_of w place e) in
      let starts : (k : ℕ) → (j ≡ k → ⊥) → StartsAt (a.line + 1) (pending s names j n l lines (Ask a more) k) =
      λ k apart. subst (λ (m : ℕ). StartsAt (m + 1) (pending s names j n l lines (Ask a more) k)) (sym numbered.0)
      (others_later s names j n l lines (Ask a more) k apart) in
      let first = one_after (length (lanes_of s)) _ _ w place e _ (call_answers s names j n l lines (length (lanes_of s)) a more w place within) starts h r in
      first.1 ∙ ap (λ es. e ∷ es) (rest_one later (more x) (numbered.1 x) (step_of w place e).world (place + 1) first.0 first.2)

  rest_there : IsThere s (suc n) lines → (p : Asking Handed) → AllOf (OfLine n) p → (w : World) (place : ℕ)
      → RemainsOf p w place (made_then j w place p after)
  rest_there later (Done g) numbered w place =
      let r = later w place (renamed names j l g) (next_seat s names j n l lines) (same_length g) still_within in
      record {
        seats = r.seats;
        calls = λ k k_within. past_line s names j n l lines g k (replies_from w place k (after w place g)) ∙ r.calls k k_within;
        order = r.order;
      }
  rest_there later (Ask a more) numbered w place =
      let e : Event = entry_of j a in
      let x : Answered = answered (step_of w place e) in
      let starts : (k : ℕ) → StartsAt a.line (pending s names j n l lines (more x) k) =
      λ k. subst (λ (m : ℕ). StartsAt m (pending s names j n l lines (more x) k)) (sym numbered.0) (rest_starts s names j n l lines (more x) (numbered.1 x) k) in
      one_before (length (lanes_of s)) _ _ w place e _ (call_answers s names j n l lines (length (lanes_of s)) a more w place within) starts
      _
      (rest_there later (more x) (numbered.1 x) (step_of w place e).world (place + 1))

  abbrev whole : Asking Handed
  whole = line_asks (rules_told s) (header_of s) (names_of names j) n l

  numbered_whole : AllOf (OfLine n) whole
  numbered_whole = all-numbered (rules_told s) (header_of s) (names_of names j) n l

  enough : j < length names
  enough = omega (arith, long, within)

  mine_one : IsOne s (suc n) lines → (w : World) (place : ℕ) (h : List Event) → Remains s w place names (Some j) n (l ∷ lines) h
      → h ≡ serial_from s w place names (Some j) n (l ∷ lines)
  mine_one later w place h r = rest_one later whole numbered_whole w place h
      (record { seats = r.seats; calls = λ k k_within. sym (at_line s names j n l lines enough k (replies_from w place k h)) ∙ r.calls k k_within; order = r.order })

  mine_there : IsThere s (suc n) lines → (w : World) (place : ℕ)
      → Remains s w place names (Some j) n (l ∷ lines) (serial_from s w place names (Some j) n (l ∷ lines))
  mine_there later w place =
      let r = rest_there later whole numbered_whole w place in
      record {
        seats = r.seats;
        calls = λ k k_within. at_line s names j n l lines enough k (replies_from w place k (made_then j w place whole after)) ∙ r.calls k k_within;
        order = r.order;
      }

-- ---- line by line
none_remain : (s : List Line) (n : ℕ) → IsOne s n []
none_remain s n w place names at [] long within r = refl
none_remain s n w place names at (e ∷ events) long within r =
    let within_seat = (first_seat (length (lanes_of s)) e events r.seats).0 in
    let none : [] ≡ e ∷ entries_of e.seat events = ap (λ (x : Calls). x.entries) (r.calls e.seat within_seat) ∙ entries-mine e.seat e events refl in cc

line_one : (s : List Line) (n : ℕ) (l : Line) (lines : List Line) → IsOne s (suc n) lines → IsOne s n (l ∷ lines)
line_one s n l lines later w place names None h long within r =
    later w place names (seat_after (lanes_of s) None l) h long (seat_within (lanes_of s) None l _ refl tt)
    (record { seats = r.seats; calls = r.calls; order = r.order })
line_one s n l lines later w place names (Some j) h long within r = mine_one s n j l lines names long within later w place h r

one_remains : (s : List Line) (n : ℕ) (lines : List Line) → IsOne s n lines
one_remains s n [] = none_remain s n
one_remains s n (l ∷ lines) = line_one s n l lines (one_remains s (suc n) lines)

none_there : (s : List Line) (n : ℕ) → IsThere s n []
none_there s n w place names at long within = record { seats = refl; calls = λ k k_within. refl; order = refl }

line_there : (s : List Line) (n : ℕ) (l : Line) (lines : List Line) → IsThere s (suc n) lines → IsThere s n (l ∷ lines)
line_there s n l lines later w place names None long within =
    let r = later w place names (seat_after (lanes_of s) None l) long (seat_within (lanes_of s) None l _ refl tt) in
    record { seats = r.seats; calls = r.calls; order = r.order }
line_there s n l lines later w place names (Some j) long within = mine_there s n j l lines names long within later w place

it_remains : (s : List Line) (n : ℕ) (lines : List Line) → IsThere s n lines
it_remains s n [] = none_there s n
it_remains s n (l ∷ lines) = line_there s n l lines (it_remains s (suc n) lines)

-- ---- scripts
no_names_at_first : (s : List Line) (k : ℕ) → k < length (lanes_of s) → names_of (first_names s) k ≡ no_names
no_names_at_first s k within = get_or-replicate (length (lanes_of s)) k no_names no_names within

-- every serial history of a script is the one that is defined
pub serial_is : (s : List Line) (h : List Event) → IsSerial s h → h ≡ serial s
unfolding serial lane_asks replies_of
serial_is s h is =
    one_remains s 1 s (opening_world (config_of s)) 1 (first_names s) None h (length-replicate (length (lanes_of s)) no_names) tt (record {
      seats = is.lanes.seats;
      calls =
          λ k within. ap (λ ns. calls_from (rules_told s) (header_of s) k ns (lines_of_seat (lanes_of s) k 1 None s)
          (replies_from (opening_world (config_of s)) 1 k h)) (no_names_at_first s k within) ∙ is.lanes.calls k within;
      order = is.order;
    })

-- a script has no two serial histories
pub one_serial : (s : List Line) (g h : List Event) → IsSerial s g → IsSerial s h → g ≡ h
one_serial s g h this that = serial_is s g this ∙ sym (serial_is s h that)

-- the serial history of a script is a serial history of it
pub serial_serial : (s : List Line) → IsSerial s (serial s)
unfolding serial lane_asks replies_of
serial_serial s =
    let r = it_remains s 1 s (opening_world (config_of s)) 1 (first_names s) None (length-replicate (length (lanes_of s)) no_names) tt in
    record {
      lanes = record {
        seats = r.seats;
        calls =
            λ k within. ap (λ ns. calls_from (rules_told s) (header_of s) k ns (lines_of_seat (lanes_of s) k 1 None s) (replies_of s k (serial s)))
            (sym (no_names_at_first s k within)) ∙ r.calls k within;
      };
      order = r.order;
    }
