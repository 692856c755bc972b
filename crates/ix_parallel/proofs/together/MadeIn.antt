-- What a seat made of a history: its entries, and the replies to them.
use Rattle.std.proofs.Common.{◌≡◌, ℕ, suc, ◌+◌, ◌==◌, true, false, List, [], ◌∷◌, ◌++◌, length, refl, sym, ap, ◌∙◌, subst, arith, if◌then◌else◌}
use Rattle.std.specs.List.{filter}
use mathlib.Core.List.{IsPrefix}
use Rattle.ix_model.specs.{world.World.World, opening.Opening.opening_world, history.{Step.step_of, Events.Event, Made.Made, Seats.{made_by, made_of, replied}}}
use Rattle.ix_script.specs.{scripts.Scripts.config_of, declared.line.Line.Line}
use Rattle.ix_asking.specs.{Asking.Answered, Runs.answers_of, Lines.events_of}
use Rattle.ix_lanes.specs.histories.{Serial.answered, Lanes.{entries_of, replies_from, replies_of}}
use Rattle.ix_parallel.proofs.together.Seen.{begin_each_other}

module _ (k : ℕ) where
  abbrev its : List Made → List Made
  its made = filter (λ m. m.event.seat == k) made

  events_replied : (w : World) (place : ℕ) (events : List Event) → events_of (its (replied w place events)) ≡ entries_of k events
  events_replied w place [] = refl
  events_replied w place (e ∷ events) =
      let rest : List Made = its (replied (step_of w place e).world (suc place) events) in
      let first : Made = made_of e (step_of w place e) in
      let later = events_replied (step_of w place e).world (suc place) events in
      elim (e.seat == k) as (λ b. events_of (if b then first ∷ rest else rest) ≡ (if b then e ∷ entries_of k events else entries_of k events)) [
        | true ↦ ap (λ es. e ∷ es) later
        | false ↦ later
      ]

  answers_replied : (w : World) (place : ℕ) (events : List Event) → answers_of (its (replied w place events)) ≡ replies_from w place k events
  answers_replied w place [] = refl
  answers_replied w place (e ∷ events) =
      let rest : List Made = its (replied (step_of w place e).world (suc place) events) in
      let first : Made = made_of e (step_of w place e) in
      let next : suc place ≡ place + 1 = omega arith in
      let replies : List Answered = replies_from (step_of w place e).world (place + 1) k events in
      let later : answers_of rest ≡ replies = answers_replied (step_of w place e).world (suc place) events ∙ ap (λ n. replies_from (step_of w place e).world n k events) next in
      elim (e.seat == k) as (λ b. answers_of (if b then first ∷ rest else rest) ≡ (if b then answered (step_of w place e) ∷ replies else replies)) [
        | true ↦ ap (λ rs. answered (step_of w place e) ∷ rs) later
        | false ↦ later
      ]

  -- the replies to the first entries stay where more entries are made
  replies_further : (w : World) (place : ℕ) (xs ys : List Event) → (more : List Answered) × (replies_from w place k (xs ++ ys) ≡ replies_from w place k xs ++ more)
  replies_further w place [] ys = (replies_from w place k ys, refl)
  replies_further w place (x ∷ xs) ys =
      let later = replies_further (step_of w place x).world (place + 1) xs ys in
      let first : Answered = answered (step_of w place x) in
      let whole : List Answered = replies_from (step_of w place x).world (place + 1) k (xs ++ ys) in
      let front : List Answered = replies_from (step_of w place x).world (place + 1) k xs in (
        later.0,
        elim (x.seat == k) as (λ b. (if b then first ∷ whole else whole) ≡ (if b then first ∷ front else front) ++ later.0) [
          | true ↦ ap (λ rs. first ∷ rs) later.1
          | false ↦ later.1
        ],
      )

  -- what was made of the first entries stays where more entries are made
  made_further : (w : World) (place : ℕ) (xs ys : List Event) → (more : List Made) × (its (replied w place (xs ++ ys)) ≡ its (replied w place xs) ++ more)
  made_further w place [] ys = (its (replied w place ys), refl)
  made_further w place (x ∷ xs) ys =
      let later = made_further (step_of w place x).world (suc place) xs ys in
      let first : Made = made_of x (step_of w place x) in
      let whole : List Made = its (replied (step_of w place x).world (suc place) (xs ++ ys)) in
      let front : List Made = its (replied (step_of w place x).world (suc place) xs) in (
        later.0,
        elim (x.seat == k) as (λ b. (if b then first ∷ whole else whole) ≡ (if b then first ∷ front else front) ++ later.0) [
          | true ↦ ap (λ ms. first ∷ ms) later.1
          | false ↦ later.1
        ],
      )

  -- each entry has one reply
  reply_each : (w : World) (place : ℕ) (events : List Event) → length (entries_of k events) ≡ length (replies_from w place k events)
  reply_each w place [] = refl
  reply_each w place (e ∷ events) =
      let later = reply_each (step_of w place e).world (place + 1) events in
      let replies : List Answered = replies_from (step_of w place e).world (place + 1) k events in
      elim (e.seat == k) as (λ b. length (if b then e ∷ entries_of k events else entries_of k events) ≡ length (if b then answered (step_of w place e) ∷ replies else replies)) [
        | true ↦ ap suc later
        | false ↦ later
      ]

module _ (s : List Line) (k : ℕ) (events : List Event) where
  pub made_entries : events_of (made_by k (record { config = config_of s; events = events })) ≡ entries_of k events
  unfolding made_by
  made_entries = events_replied k (opening_world (config_of s)) 1 events

  pub made_replies : answers_of (made_by k (record { config = config_of s; events = events })) ≡ replies_of s k events
  unfolding made_by replies_of
  made_replies = answers_replied k (opening_world (config_of s)) 1 events

  pub one_reply_each : length (entries_of k events) ≡ length (replies_of s k events)
  unfolding replies_of
  one_reply_each = reply_each k (opening_world (config_of s)) 1 events

  pub more_replies : (later : List Event) → (more : List Answered) × (replies_of s k (events ++ later) ≡ replies_of s k events ++ more)
  unfolding replies_of
  more_replies later = replies_further k (opening_world (config_of s)) 1 events later

-- what a seat made of a beginning of a history begins what it made of the whole
made_begins : (s : List Line) (k : ℕ) (xs ys : List Event) → IsPrefix xs ys
    → IsPrefix (made_by k (record { config = config_of s; events = xs })) (made_by k (record { config = config_of s; events = ys }))
unfolding made_by
made_begins s k xs ys p =
    let more = made_further k (opening_world (config_of s)) 1 xs p.0 in
    (more.0, sym more.1 ∙ ap (λ es. its k (replied (opening_world (config_of s)) 1 es)) p.1)

-- where it made no more of the whole, it made no more of what lies between
pub made_between : (s : List Line) (k : ℕ) (xs ys zs : List Event) → IsPrefix xs ys → IsPrefix ys zs
    → made_by k (record { config = config_of s; events = zs }) ≡ made_by k (record { config = config_of s; events = xs })
    → made_by k (record { config = config_of s; events = ys }) ≡ made_by k (record { config = config_of s; events = xs })
made_between s k xs ys zs p q same =
    begin_each_other _ _
    (subst (IsPrefix (made_by k (record { config = config_of s; events = ys }))) same (made_begins s k ys zs q))
    (made_begins s k xs ys p)
