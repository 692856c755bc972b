-- Lanes that get their seats.
use Rattle.std.proofs.Common.{◌≡◌, ℕ, zero, suc, ◌+◌, ◌≤◌, ◌<◌, ⊎_elim, true, List, [], ◌∷◌, ◌++◌, length, drop, Some, refl, sym, ap, ◌∙◌, subst, arith}
use Rattle.std.proofs.Common.{slice_get, length-append, length-drop}
use Rattle.std.proofs.lemmas.Option.{slice_get_within}
use Rattle.ix_gate.specs.{Gate.GateState, Seat.new_seat}
use Rattle.ix_kernel.specs.{Seen.KSeatState, Systems.made_at}
use Rattle.ix_model.specs.{history.Seats.made_by, declared.config.Config.Config}
use Rattle.ix_script.specs.{lines.Before.lanes_of, scripts.Scripts.config_of, declared.line.Line.Line}
use Rattle.ix_lanes.specs.{asking.Asked.no_names, running.Runs.Ran}
use Rattle.ix_lanes.specs.running.Runs as runs
use Rattle.ix_parallel.{specs.Seats.{AreNew, AtPhase, Seated, SeatedSoFar, Stands}, proofs.together.Joining.in_push_at}

-- what is left begins with the seat of the number
pub left_begins : {A : Type 0} → (xs : List A) (n : ℕ) (y : A) (ys : List A) → drop n xs ≡ y ∷ ys → (slice_get xs n ≡ Some y) × (drop (suc n) xs ≡ ys)
left_begins [] zero y ys h = cc
left_begins [] (suc n) y ys h = cc
left_begins (x ∷ xs) zero y ys h = (let is : x ≡ y = cc in ap Some is, cc)
left_begins (x ∷ xs) (suc n) y ys h = left_begins xs n y ys h

none_made : (n : ℕ) (c : Config) → made_by n (record { config = c; events = [] }) ≡ []
unfolding made_by
none_made n c = refl

-- at first
pub none_seated : (s : List Line) (kernel : GateState) (seats left : List KSeatState) (lanes : List Seated) → left ≡ seats → lanes ≡ [] → SeatedSoFar s kernel seats left 0 lanes
none_seated s kernel seats left lanes is none = record {
  rest = is;
  within = omega arith;
  count = ap length none;
  each = λ n lane here. let h : slice_get {X = Seated} [] n ≡ Some lane = subst (λ l. slice_get l n ≡ Some lane) none here in cc;
}

-- the next seat
pub next_is_new : (s : List Line) (kernel : GateState) (seats left : List KSeatState) (number : ℕ) (lanes : List Seated) (seat : KSeatState)
    (rest : List KSeatState) → AreNew kernel (config_of s) (length (lanes_of s)) seats
    → SeatedSoFar s kernel seats left number lanes → left ≡ seat ∷ rest → (number < length (lanes_of s)) × (seat ≡ new_seat kernel.id (length (lanes_of s)) (Some (config_of s)) number)
next_is_new s kernel seats left number lanes seat rest new h is =
    let front = left_begins seats number seat rest (sym h.rest ∙ is) in
    let even = new.count in
    let low : number < length (lanes_of s) = let within = slice_get_within seats number seat front.0 in omega (arith, within, even) in
    let a = new.each number low in
    let b = front.0 in
    (low, cc)

-- a lane more
pub seated_next : (s : List Line) (kernel : GateState) (seats left : List KSeatState) (number : ℕ) (lanes after : List Seated) (seat : KSeatState)
    (rest : List KSeatState) (run : Ran) → AreNew kernel (config_of s) (length (lanes_of s)) seats
    → SeatedSoFar s kernel seats left number lanes → left ≡ seat ∷ rest → run ≡ record { script = s; lane = number; done = 0; between = true; names = no_names } → runs.StandsFor run []
    → after ≡ lanes ++ (record { run = run; sys = record { kernel = kernel; seat = seat; stops = 0; used = 0; need = 0; cap = 0 } }) ∷ [] → SeatedSoFar s kernel seats rest (number + 1) after
seated_next s kernel seats left number lanes after seat rest run new h is ran stands more =
    let next = next_is_new s kernel seats left number lanes seat rest new h is in
    let fresh = next.1 in
    let added : Seated = record { run = run; sys = record { kernel = kernel; seat = seat; stops = 0; used = 0; need = 0; cap = 0 } } in
    let made : made_at seat ≡ [] = ap made_at fresh ∙ none_made number (config_of s) in
    let even = new.count in
    let low = next.0 in
    let count = h.count in
    record {
      rest = (let next : suc number ≡ number + 1 = omega arith in sym (left_begins seats number seat rest (sym h.rest ∙ is)).1 ∙ ap (λ n. drop n seats) next);
      within = omega (arith, low, even);
      count = ap length more ∙ omega (arith, length-append lanes (added ∷ []), count);
      each = λ n lane here. ⊎_elim (λ (old : slice_get lanes n ≡ Some lane). h.each n lane old)
          (λ (one : (n ≡ length lanes) × (added ≡ lane)).
          let place : n ≡ number = one.0 ∙ count in
          subst (λ (x : Seated). Stands s kernel 0 [] n x) one.1 (record {
            script = ap (λ (x : Ran). x.script) ran;
            lane = ap (λ (x : Ran). x.lane) ran ∙ sym place;
            done = ap (λ (x : Ran). x.done) ran;
            stands = subst (runs.StandsFor run) (sym made) stands;
            kernel = refl;
            sees = record {
              gate = ap (λ (x : KSeatState). x.gate) fresh;
              base = ap (λ (x : KSeatState). x.base) fresh;
              number = ap (λ (x : KSeatState). x.number) fresh ∙ sym place;
              ended = ap (λ (x : KSeatState). x.ended) fresh;
              seen = ap (λ (x : KSeatState). x.seen) fresh;
            };
          }))
          (in_push_at lanes added n lane (subst (λ l. slice_get l n ≡ Some lane) more here));
    }

-- all lanes have their seats
pub all_seated : (s : List Line) (kernel : GateState) (seats : List KSeatState) (number : ℕ) (lanes : List Seated) → 0 < length (lanes_of s) → AreNew kernel (config_of s) (length (lanes_of s)) seats
    → SeatedSoFar s kernel seats [] number lanes → AtPhase s kernel 0 lanes
all_seated s kernel seats number lanes some new h =
    let even = new.count in
    let count = h.count in
    let within = h.within in
    let all : length seats ≤ number = omega (arith, ap length h.rest, length-drop number seats) in
    record { history = []; stages = refl; some = some; count = omega (arith, even, count, within, all); each = h.each }
