-- All items of a list pass a test, as they are gone through.
use Rattle.std.proofs.Common.{◌≡◌, ℕ, ◌+◌, ◌≤◌, ◌<◌, Bool, true, false, List, length, drop, Some, sym, ap, ◌∙◌, slice_get, slice_index_or, suc, [], ◌∷◌, Option, refl, subst, arith}
use Rattle.std.proofs.{Common.{length-append, slice_set, if◌then◌else◌}, lemmas.{List.{drop_all, length-replicate}, Option.{slice_get-get_or, slice_get_within}}}
use Rattle.std.specs.{List.list_all, Prelude.IfSome}
use Rattle.ix_lanes.{proofs.found.Indexed.rest_is, specs.histories.Serial.answered}
use Rattle.ix_model.specs.{history.{Cost.{cost_of, cost_of_history}, Events.Event, History.{History, next, with_entry, world_of}}, world.{Naming.same_bytes, World.World}}
use Rattle.ix_script.specs.{declared.line.Line.Line, lines.Before.{form_told, lanes_of}}
use Rattle.ix_asking.specs.Asking.{Answered}
use Rattle.ix_replay.specs.report.Report.{entry_text}
use Rattle.ix_judging.{specs.{Lanes.State, Plan.Plan, Runs.{asks, entered, reached}, Walk.{Entries, Fails, line_after, makes, told_call}}, proofs.Stores.{asks_within, length-entered}}
use Rattle.ix_check.specs.{Judging.{IsAmong, IsCalled, Stands}, Plans.{begun, judged_plan}, Stepping.{HasRoom, LaneAt, PrintsCall, answered_so, next_call}}
use Rattle.ix_check.proofs.{Ends.{among_after, line_is}, Judged.room, LaneTurns.lane_asks}
use Rattle.ix_check.specs.declared.stage.Stage.TheVariants as stage

-- the item that an index gives
pub item_at : {X : Type 0} (items : List X) (i : ℕ) (x : X) → i < length items → x ≡ slice_index_or items i x → slice_get items i ≡ Some x
item_at items i x within is = slice_get-get_or items i x within ∙ ap (λ y. Some y) (sym is)

module _ {X : Type 0} (p : X → Bool) (items : List X) where
  -- from an index on
  abbrev pub IsLeft : ℕ → Type 0
  IsLeft i = list_all p (drop i items) ≡ list_all p items

  pub passes : (i : ℕ) (x : X) → i < length items → x ≡ slice_index_or items i x → p x ≡ true → IsLeft i → IsLeft (i + 1)
  passes i x within is good left = rw (rest_is items i x (item_at _ i x within is), good) at left

  pub fails : (i : ℕ) (x : X) → i < length items → x ≡ slice_index_or items i x → p x ≡ false → IsLeft i → false ≡ list_all p items
  fails i x within is bad left = rw (rest_is items i x (item_at _ i x within is), bad) at left

  pub none_left : (i : ℕ) → length items ≤ i → IsLeft i → true ≡ list_all p items
  none_left i past left = rw (drop_all) at left

-- A line behind the head or an entry, looked at.
length_reached : {W E A L T : Type 0} (p : Plan W E A L T) (at : State W L) (events : List E)
    → length (reached p at events).lanes ≡ length at.lanes
length_reached p at [] = refl
length_reached p at (e ∷ events) = length_reached p (entered p at e) events ∙ length-entered p at e

-- what is said of a slice is said of its list
pub called_in : {L : Type 0} (at_of : L → LaneAt) (s : List Line) (h : History) (lanes slice : List L) (call : Option Event) (k : ℕ)
    (state : State World (List Answered)) → slice ≡ lanes → (IsAmong at_of s h slice state → IsCalled at_of slice call (Some k)) → IsAmong at_of s h lanes state
    → IsCalled at_of lanes call (Some k)
called_in at_of s h lanes slice call k state same called among =
    subst (λ ls. IsCalled at_of ls call (Some k)) same (called (subst (λ ls. IsAmong at_of s h ls state) (sym same) among))

-- the lane that its seat gives
pub lane_at : {L : Type 0} (at_of : L → LaneAt) (lanes : List L) (call : Option Event) (k : ℕ) (lane : L)
    → IsCalled at_of lanes call (Some k)
    → lane ≡ slice_index_or lanes k lane → slice_get lanes k ≡ Some lane
lane_at at_of lanes call k lane is at = item_at _ k _ (slice_get_within lanes k is.1 is.4) at

module _ {L : Type 0} (at_of : L → LaneAt) (s : List Line) (h : History) (lanes : List L) (state : State World (List Answered)) (among : IsAmong at_of s h lanes state)
    (line : List ℕ) (k : ℕ) (is : IsCalled at_of lanes (told_call (judged_plan s) state line) (Some k)) (lane : L) (there : slice_get lanes k ≡ Some lane) where
  abbrev none : List Answered
  none = []

  abbrev e : Event
  e = is.0

  its_call : next_call (at_of lane) ≡ Some e
  its_call =
      ap (λ l. next_call (at_of l)) (sym cc) ∙ is.5

  pub its_seat : k ≡ (at_of lane).seat
  its_seat = sym (among.stand.each k lane there).seat

  pub its_room : HasRoom (at_of lane) h
  its_room =
      let here =
      subst (λ x. asks (judged_plan s) x.lanes k ≡ Some e) among.comes (sym (lane_asks _ s _ _ among.stand k _ there) ∙ its_call) in
      let count = length_reached (judged_plan s) (begun s) h.events in
      let all = length-replicate (length (lanes_of s)) none in
      let fits = room s among.named h.events among.run k e (omega (arith, asks_within (judged_plan s) _ k e here, count, all)) here in
      subst (λ (o : Option Event). IfSome o (λ x. cost_of_history h.events + cost_of x.op ≤ h.config.journal)) (sym its_call) (omega (arith, fits, ap (λ c. c.journal) among.config))

  -- ---- once the call was made and printed
  module _ (after : L) (now : History) (printed : List ℕ) (prints : PrintsCall s (at_of lane) (at_of after) h now printed) where
    abbrev made : (now ≡ with_entry h e) × (at_of after ≡ answered_so (at_of lane) (answered (next h e)))
        × (printed ≡ entry_text (form_told s) (lanes_of s) (length h.events + 1) (world_of h) e)
    made = prints e its_call

    its_line : printed ≡ entry_text (form_told s) (lanes_of s) state.place state.world e
    its_line = made.2 ∙ line_is _ s h _ state among e

    next_walk : (b : Bool) → same_bytes printed line ≡ b
        → makes (judged_plan s) (length h.events) state line (told_call (judged_plan s) state line)
        ≡ (if b then Entries (suc (length h.events)) (entered (judged_plan s) state e) else Fails (line_after (length h.events)))
    next_walk b same =
        ap (makes (judged_plan s) _ state line) is.2
        ∙ ap (λ t. if t then Entries (suc (length h.events)) (entered (judged_plan s) state e) else Fails (line_after (length h.events)))
        (ap (λ t. same_bytes t line) (sym its_line) ∙ same)

    pub wrong_line : same_bytes printed line ≡ false
        → makes (judged_plan s) (length h.events) state line (told_call (judged_plan s) state line) ≡ Fails (line_after (length h.events))
    wrong_line other = next_walk _ other

    pub right_line : same_bytes printed line ≡ true
        → Stands at_of s now (slice_set lanes k after) stage.Entries (makes (judged_plan s) (length h.events) state line (told_call (judged_plan s) state line))
    right_line same =
        let count : suc (length h.events) ≡ length now.events =
        let one = length-append h.events (e ∷ []) in omega (arith, ap (λ x. length x.events) made.0, one) in (
          entered (judged_plan s) state e,
          next_walk _ same ∙ ap (λ n. Entries n (entered (judged_plan s) state e)) count,
          among_after _ s h _ state among _ e is.2 k _ _ is.3 there made.1 _ made.0,
        )
