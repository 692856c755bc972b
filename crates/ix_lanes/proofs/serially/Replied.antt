-- What seats have made of a history, and of one that goes on by one seat alone.
use Rattle.std.proofs.Common.{◌≡◌, ℕ, suc, ◌+◌, ◌==◌, Bool, true, false, List, [], ◌∷◌, ◌++◌, length, refl, sym, ap, ◌∙◌, arith, add-one, append-nil}
use Rattle.std.proofs.Common.{if◌then◌else◌}
use Rattle.std.{specs.List.{filter, list_all}, proofs.lemmas.{Bool.{and_parts, eqb-true, eq-eqb, ne_eqb}, List.Elements.filter-append}}
use Rattle.ix_model.specs.{world.World.World, opening.Opening.opening_world}
use Rattle.ix_model.specs.history.{Step.{step_of, run}, Events.Event, History.{History, world_of}, Made.Made, Seats.{made_of, replied, made_by, GoesOn}}
use Rattle.ix_script.specs.{declared.line.Line.Line, scripts.Scripts.config_of}
use Rattle.ix_asking.specs.{Asking.Answered, Runs.answers_of, Lines.events_of}
use Rattle.ix_lanes.specs.histories.{Serial.answered, Lanes.{entries_of, replies_from, replies_of}}

abbrev by : ℕ → Made → Bool
by seat m = m.event.seat == seat

replied-append : (w : World) (place : ℕ) (xs ys : List Event) → replied w place (xs ++ ys) ≡ replied w place xs ++ replied (run w place xs) (length xs + place) ys
replied-append w place [] ys = let z : place ≡ 0 + place = omega arith in ap (λ n. replied w n ys) z
replied-append w place (x ∷ xs) ys =
    let z : length xs + suc place ≡ suc (length xs) + place = omega arith in
    let first : Made = made_of x (step_of w place x) in
    let rest : List Made = replied (step_of w place x).world (suc place) xs in
    ap (λ l. first ∷ l) (replied-append (step_of w place x).world (suc place) xs ys ∙ ap (λ n. rest ++ replied (run (step_of w place x).world (suc place) xs) n ys) z)

pub events_replied : (w : World) (place : ℕ) (es : List Event) → events_of (replied w place es) ≡ es
events_replied w place [] = refl
events_replied w place (e ∷ es) = ap (λ xs. e ∷ xs) (events_replied (step_of w place e).world (suc place) es)

-- ---- one seat's entries
module _ (seat : ℕ) where
  pub own_parts : (e : Event) (es : List Event) → list_all (λ (x : Event). x.seat == seat) (e ∷ es) ≡ true → (e.seat ≡ seat) × (list_all (λ (x : Event). x.seat == seat) es ≡ true)
  own_parts e es h =
      let parts = and_parts (e.seat == seat) (list_all (λ (x : Event). x.seat == seat) es) h in
      (eqb-true e.seat seat parts.0, parts.1)

  made_own : (w : World) (place : ℕ) (es : List Event) → list_all (λ (x : Event). x.seat == seat) es ≡ true → filter (by seat) (replied w place es) ≡ replied w place es
  made_own w place [] h = refl
  made_own w place (e ∷ es) h =
      let parts = own_parts e es h in
      let first : Made = made_of e (step_of w place e) in
      let rest : List Made = filter (by seat) (replied (step_of w place e).world (suc place) es) in
      ap (λ b. if b then first ∷ rest else rest) (eq-eqb e.seat seat parts.0) ∙ ap (λ ms. first ∷ ms) (made_own (step_of w place e).world (suc place) es parts.1)

  made_not : (k : ℕ) → (seat ≡ k → ⊥) → (w : World) (place : ℕ) (es : List Event) → list_all (λ (x : Event). x.seat == seat) es ≡ true → filter (by k) (replied w place es) ≡ []
  made_not k apart w place [] h = refl
  made_not k apart w place (e ∷ es) h =
      let parts = own_parts e es h in
      let first : Made = made_of e (step_of w place e) in
      let rest : List Made = filter (by k) (replied (step_of w place e).world (suc place) es) in
      ap (λ b. if b then first ∷ rest else rest) (ne_eqb e.seat k (λ same. apart (sym parts.0 ∙ same))) ∙ made_not k apart (step_of w place e).world (suc place) es parts.1

  module _ (old new : History) (on : GoesOn seat old new) where
    by_parts : (k : ℕ) → made_by k new ≡ made_by k old ++ filter (by k) (replied (world_of old) (length old.events + 1) on.more)
    unfolding made_by world_of
    by_parts k =
        (λ i. filter (by k) (replied (opening_world (on.config i)) 1 (on.events i)))
        ∙ ap (filter (by k)) (replied-append (opening_world old.config) 1 old.events on.more)
        ∙ filter-append (by k) (replied (opening_world old.config) 1 old.events) _

    -- the seat made what was added
    pub made_by-on : made_by seat new ≡ made_by seat old ++ replied (world_of old) (length old.events + 1) on.more
    made_by-on = by_parts seat ∙ ap (λ ms. made_by seat old ++ ms) (made_own (world_of old) (length old.events + 1) on.more on.own)

    -- other seats made nothing more
    pub made_by-others : (k : ℕ) → (seat ≡ k → ⊥) → made_by k new ≡ made_by k old
    made_by-others k apart =
        by_parts k ∙ ap (λ ms. made_by k old ++ ms) (made_not k apart (world_of old) (length old.events + 1) on.more on.own) ∙ append-nil (made_by k old)

-- ---- as lanes see it
answers_replied : (w : World) (place k : ℕ) (es : List Event) → answers_of (filter (by k) (replied w place es)) ≡ replies_from w place k es
answers_replied w place k [] = refl
answers_replied w place k (e ∷ es) =
    let first : Made = made_of e (step_of w place e) in
    let rest : List Made = filter (by k) (replied (step_of w place e).world (suc place) es) in
    let later : List Answered = replies_from (step_of w place e).world (place + 1) k es in
    let same : answers_of rest ≡ later = answers_replied (step_of w place e).world (suc place) k es ∙ ap (λ n. replies_from (step_of w place e).world n k es) (sym (add-one place)) in
    elim (e.seat == k) as (λ b. answers_of (if b then first ∷ rest else rest) ≡ (if b then answered (step_of w place e) ∷ later else later)) [
      | true ↦ ap (λ rs. answered (step_of w place e) ∷ rs) same
      | false ↦ same
    ]

entries_replied : (w : World) (place k : ℕ) (es : List Event) → events_of (filter (by k) (replied w place es)) ≡ entries_of k es
entries_replied w place k [] = refl
entries_replied w place k (e ∷ es) =
    let first : Made = made_of e (step_of w place e) in
    let rest : List Made = filter (by k) (replied (step_of w place e).world (suc place) es) in
    let same : events_of rest ≡ entries_of k es = entries_replied (step_of w place e).world (suc place) k es in
    elim (e.seat == k) as (λ b. events_of (if b then first ∷ rest else rest) ≡ (if b then e ∷ entries_of k es else entries_of k es)) [
      | true ↦ ap (λ xs. e ∷ xs) same
      | false ↦ same
    ]

pub made_answers : (s : List Line) (k : ℕ) (h : History) → h.config ≡ config_of s → answers_of (made_by k h) ≡ replies_of s k h.events
unfolding made_by replies_of
made_answers s k h is = answers_replied (opening_world h.config) 1 k h.events ∙ ap (λ c. replies_from (opening_world c) 1 k h.events) is

pub made_entries : (k : ℕ) (h : History) → events_of (made_by k h) ≡ entries_of k h.events
unfolding made_by
made_entries k h = entries_replied (opening_world h.config) 1 k h.events
