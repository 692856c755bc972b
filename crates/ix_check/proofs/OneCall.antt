-- One call of a lane on a core.
use Rattle.std.{proofs.Common.{◌≡◌, ℕ, suc, ◌+◌, ◌≤◌, List, [], ◌∷◌, ◌++◌, length, Option, Some, None, true, is_some, refl, sym, ap, ◌∙◌, arith, append-nil}, specs.Prelude.IfSome}
use Rattle.std.proofs.lemmas.List.{append_cancel_left}
use Rattle.ix_model.specs.history.{Cost.{cost_of, cost_of_history}, Events.Event, History.{History, next, with_entry, world_of}, Made.Made, Seats.{GoesOn, made_by, made_of, replied}}
use Rattle.ix_model.specs.{history.{Step.step_of, Systems.FullFor}, world.World.World}
use Rattle.ix_asking.specs.Runs.{answer_of}
use Rattle.ix_lanes.{specs.histories.Serial.answered, proofs.serially.Replied.made_by-on}
use Rattle.ix_core.specs.Stops.{FilledUp}
use Rattle.ix_check.specs.Stepping.{HasRoom, LaneAt, MakesCall, StopsCall, answered_so, next_call}
use Rattle.ix_model.specs.declared.reply.Answer.TheVariants as answer

-- what is behind a list that is the same
nothing_behind : {X : Type 0} (xs ys : List X) → xs ++ ys ≡ xs → ys ≡ []
nothing_behind xs ys same = append_cancel_left xs ys [] (same ∙ sym (append-nil xs))

none_replied : (w : World) (place : ℕ) (events : List Event) → replied w place events ≡ [] → events ≡ []
none_replied w place [] is = refl
none_replied w place (e ∷ events) is = cc

-- one entry that was replied to
one_replied : (w : World) (place : ℕ) (events : List Event) (m : Made) → replied w place events ≡ m ∷ []
    → (events ≡ m.event ∷ []) × (made_of m.event (step_of w place m.event) ≡ m)
one_replied w place [] m is = cc
one_replied w place (e ∷ events) m is =
    let first : made_of e (step_of w place e) ≡ m = cc in
    let rest : replied (step_of w place e).world (suc place) events ≡ [] = cc in
    let none = none_replied _ _ _ rest in
    let same = ap (λ x. x.event) first in
    ((λ i. same i ∷ none i), (λ i. made_of (sym same i) (step_of w place (sym same i))) ∙ first)

module _ (seat : ℕ) (old new : History) (on : GoesOn seat old new) where
  abbrev more_made : List Made
  more_made = replied (world_of old) (length old.events + 1) on.more

  abbrev with_events : List Event → History
  with_events events = record old { events = events }

  is_with : new ≡ with_events (old.events ++ on.more)
  is_with = λ i. record { config = on.config i; events = on.events i }

  -- the seat made nothing
  pub nothing_made : made_by seat new ≡ made_by seat old → new ≡ old
  nothing_made same =
      let more = none_replied _ _ _ (nothing_behind _ _ (sym (made_by-on _ _ _ on) ∙ same)) in
      is_with ∙ ap (λ es. with_events (old.events ++ es)) more ∙ ap with_events (append-nil old.events)

  -- the seat made one entry
  pub one_made : (m : Made) → made_by seat new ≡ made_by seat old ++ m ∷ []
      → (new ≡ with_entry old m.event) × (answer_of m ≡ answered (next old m.event))
  one_made m same =
      let is = one_replied _ _ _ m (append_cancel_left _ more_made _ (sym (made_by-on _ _ _ on) ∙ same)) in
      (is_with ∙ ap (λ es. with_events (old.events ++ es)) is.0, ap answer_of (sym is.1))

-- what was made is the call that the lane asks for
pub call_made : (seat : ℕ) (old new : History) (on : GoesOn seat old new) (lane after : LaneAt) (e : Event)
    → MakesCall lane after (made_by seat old) (made_by seat new) → next_call lane ≡ Some e
    → (new ≡ with_entry old e) × (after ≡ answered_so lane (answered (next old e)))
call_made seat old new on lane after e m call =
    let is = one_made _ old new on m.entry m.made in
    let same : m.entry.event ≡ e = cc in (
      is.0 ∙ ap (with_entry old) same,
      m.heard ∙ ap (answered_so lane) is.1 ∙ ap (λ x. answered_so lane (answered (next _ x))) same,
    )

-- no call is stopped where the journal has room for it
pub not_full : (seat : ℕ) (old new : History) (on : GoesOn seat old new) (lane after : LaneAt) (used need most : ℕ)
    → StopsCall lane after (made_by seat old) (made_by seat new) (answer.JournalFull used need most)
    → is_some (next_call lane) ≡ true → HasRoom lane old → FilledUp used most new → ⊥
not_full seat old new on lane after used need most stop call room filled = go _ call room stop.full
  where
    go : (o : Option Event) → is_some o ≡ true → IfSome o (λ e. cost_of_history old.events + cost_of e.op ≤ old.config.journal)
        → IfSome o (λ e. FullFor e.op (answer.JournalFull used need most)) → ⊥
    go None call room full = cc
    go (Some e) call room full =
        let same = nothing_made seat old new on stop.made in
        let journal = ap (λ h. h.config.journal) same in
        omega (arith, room, full.0, full.1, filled.0, filled.1, ap (λ h. cost_of_history h.events) same, journal)
