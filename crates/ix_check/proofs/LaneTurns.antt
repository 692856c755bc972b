-- Whose turn it is, by the lanes that make one call at a time.
use Rattle.std.proofs.Common.{◌≡◌, ℕ, zero, suc, ◌≤◌, ◌<◌, Bool, true, false, is_none, List, [], ◌∷◌, length, option_map, Option, Some, None, refl, sym, ap, ◌∙◌, subst, arith, inl, inr}
use Rattle.std.{proofs.{Common.{slice_get, ◌+◌, if◌then◌else◌}, lemmas.{Bool.{and_parts, and_from, le-leb, leb-true}, Option.{slice_get_within, slice_get_cases}}}, specs.List.list_all}
use Rattle.ix_model.specs.{history.{Events.Event, History.History}, world.World.World}
use Rattle.ix_script.specs.{declared.line.Line.Line, lines.Before.lanes_of}
use Rattle.ix_asking.specs.Asking.{Answered, first}
use Rattle.ix_lanes.specs.histories.History.{phase_of}
use Rattle.ix_judging.specs.{Lanes.State, Names.told_from, Plan.Plan, Runs.{IsOver, asks, asks_in, entered, reached}, Walk.{is_over, least_to, called_by, on_turn, told_call}}
use Rattle.ix_judging.proofs.{Stores.asking_lane, Turns.{is_over_from, least_below, least_from, over_is}}
use Rattle.ix_check.specs.{Judging.{LanesStand, IsAmong, IsCalled}, Plans.{judged_plan, begun, mark}, Stepping.{LaneAt, entry_due, is_from, next_call, next_phase}}
use Rattle.ix_check.proofs.LaneCalls.{next_left, script_lane}
use Rattle.ix_lanes.specs.histories.Lanes as histories

-- ---- all items
all_each : {X : Type 0} (p : X → Bool) (xs : List X) → list_all p xs ≡ true → (k : ℕ) (x : X) → slice_get xs k ≡ Some x → p x ≡ true
all_each p [] all k x at = cc
all_each p (y ∷ xs) all zero x at =
    ap p (sym cc) ∙ (and_parts _ _ all).0
all_each p (y ∷ xs) all (suc k) x at = all_each p xs (and_parts _ _ all).1 k x at

each_all : {X : Type 0} (p : X → Bool) (xs : List X) → ((k : ℕ) (x : X) → slice_get xs k ≡ Some x → p x ≡ true) → list_all p xs ≡ true
each_all p [] each = refl
each_all p (x ∷ xs) each = and_from _ _ (each 0 x refl) (each_all p xs (λ k y at. each (suc k) y at))

-- tests that say the same
same_test : (a b : Bool) → (a ≡ true → b ≡ true) → (b ≡ true → a ≡ true) → a ≡ b
same_test true true to back = refl
same_test true false to back = sym (to refl)
same_test false true to back = back refl
same_test false false to back = refl

module _ {L : Type 0} (at_of : L → LaneAt) (s : List Line) (lanes : List L) (answers : List (List Answered)) (stand : LanesStand at_of s lanes answers) where
  -- ---- what a lane asks for
  abbrev asked : ℕ → Option Event
  asked k = asks (judged_plan s) answers k

  pub lane_asks : (k : ℕ) (l : L) → slice_get lanes k ≡ Some l → next_call (at_of l) ≡ asked k
  lane_asks k l at =
      let is = stand.each k l at in
      (λ i. entry_due (is.seat i) (first (is.left i))) ∙ sym (next_left k (histories.lane_asks s k) _) ∙ ap (asks_in (judged_plan s) k) (sym is.had)

  -- a seat that asks for a call has its lane
  pub lane_there : (k : ℕ) (e : Event) → asked k ≡ Some e → (l : L) × (slice_get lanes k ≡ Some l) × (next_call (at_of l) ≡ Some e)
  lane_there k e is =
      let found = asking_lane (judged_plan s) _ k e is in
      elim (slice_get_cases lanes k).1 [
        | inl there ↦ (there.0, there.2, lane_asks k _ there.2 ∙ is)
        | inr past ↦ absurd (omega (arith, past.0, subst (λ n. k < n) (sym stand.count) (slice_get_within answers k found.0 found.1)))
      ]

  -- no lane past the last
  pub none_there : (k : ℕ) → slice_get lanes k ≡ None → asked k ≡ None
  none_there k none = go _ refl
    where
      go : (o : Option Event) → asked k ≡ o → o ≡ None
      go None is = refl
      go (Some e) is = let no = sym none ∙ (lane_there k e is).1 in cc

  -- ---- all are over
  over_none : (l : L) → is_none (next_call (at_of l)) ≡ true → next_call (at_of l) ≡ None
  over_none l = go _
    where
      go : (o : Option Event) → is_none o ≡ true → o ≡ None
      go None is = refl
      go (Some e) is = cc

  to_over : list_all (λ l. is_none (next_call (at_of l))) lanes ≡ true → IsOver (judged_plan s) answers
  to_over all k = go _ refl
    where
      go : (o : Option Event) → asked k ≡ o → o ≡ None
      go None is = refl
      go (Some e) is =
          let there = lane_there k e is in
          let no = sym (over_none _ (all_each _ _ all k _ there.1)) ∙ there.2 in cc

  from_over : IsOver (judged_plan s) answers → list_all (λ l. is_none (next_call (at_of l))) lanes ≡ true
  from_over over = each_all _ _ (λ k l at. ap is_none (lane_asks k l at ∙ over k))

  pub all_over_is : list_all (λ l. is_none (next_call (at_of l))) lanes ≡ is_over (judged_plan s) answers
  all_over_is =
      same_test _ _
      (λ all. is_over_from (judged_plan s) _ (to_over all)) (λ over. from_over (over_is (judged_plan s) _ over))

  -- ---- none is earlier
  phase_is : (k : ℕ) (l : L) → slice_get lanes k ≡ Some l → next_phase (at_of l) ≡ option_map (λ (f : Event). phase_of s f.line) (asked k)
  phase_is k l at =
      (λ i. option_map (λ f. phase_of ((stand.each k l at).script i) f.line) (next_call (at_of l)))
      ∙ ap (option_map (λ f. phase_of s f.line)) (lane_asks k l at)

  module _ (e : Event) where
    abbrev from_it : L → Bool
    from_it l = is_from (phase_of s e.line) (next_phase (at_of l))

    to_least : list_all from_it lanes ≡ true → (k : ℕ) (f : Event) → asked k ≡ Some f → phase_of s e.line ≤ phase_of s f.line
    to_least all k f is =
        let there = lane_there k f is in
        let test = all_each _ _ all k _ there.1 in
        leb-true _ _ (sym (ap (is_from (phase_of s e.line)) (phase_is k _ there.1 ∙ ap (option_map (λ x. phase_of s x.line)) is)) ∙ test)

    from_least : ((k : ℕ) (f : Event) → asked k ≡ Some f → phase_of s e.line ≤ phase_of s f.line) → list_all from_it lanes ≡ true
    from_least least = each_all _ _ (λ k l at. ap (is_from (phase_of s e.line)) (phase_is k l at) ∙ go k _ refl)
      where
        go : (k : ℕ) (o : Option Event) → asked k ≡ o → is_from (phase_of s e.line) (option_map (λ (f : Event). phase_of s f.line) o) ≡ true
        go k None is = refl
        go k (Some f) is = le-leb _ _ (least k f is)

    pub all_from_is : list_all from_it lanes ≡ least_to (judged_plan s) (length answers) answers e
    all_from_is =
        same_test _ _
        (λ all. least_from (judged_plan s) (length answers) answers e (to_least all))
        (λ least. from_least (λ k f is. least_below (judged_plan s) _ _ e least k f (within k f is) is))
      where
        within : (k : ℕ) (f : Event) → asked k ≡ Some f → k < length answers
        within k f is = let found = asking_lane (judged_plan s) _ k f is in slice_get_within answers k found.0 found.1

-- The lane that a line names, and whether it has the turn.

-- the place after entries
pub place_reached : {W E A L T : Type 0} (p : Plan W E A L T) (at : State W L) (events : List E)
    → (reached p at events).place ≡ at.place + length events
place_reached p at [] = omega arith
place_reached p at (e ∷ events) = omega (arith, place_reached p (entered p at e) events)

-- a call whose phase is told
phase_told : (s : List Line) (o : Option Event) (n : ℕ) → option_map (λ (e : Event). phase_of s e.line) o ≡ Some n
    → (e : Event) × (o ≡ Some e) × (n ≡ phase_of s e.line)
phase_told s None n is = cc
phase_told s (Some e) n is = (e, refl, sym cc)

no_phase : (s : List Line) (o : Option Event) → option_map (λ (e : Event). phase_of s e.line) o ≡ None → o ≡ None
no_phase s None is = refl
no_phase s (Some e) is = cc

module _ {L : Type 0} (at_of : L → LaneAt) (s : List Line) (h : History) (lanes : List L) (state : State World (List Answered)) (among : IsAmong at_of s h lanes state) where
  pub place_is : state.place ≡ length h.events + 1
  place_is =
      let more = place_reached (judged_plan s) (begun s) h.events in omega (arith, ap (λ x. x.place) among.comes, more)

  -- by the seat that the line tells
  call-told : (line : List ℕ) (o : Option ℕ) (place : ℕ) → place ≡ length h.events + 1 → o ≡ told_from 0 (mark place) (lanes_of s) line
      → told_call (judged_plan s) state line ≡ called_by (judged_plan s) state.lanes o
  call-told line o place here is =
      ap (λ n. called_by (judged_plan s) state.lanes (told_from 0 (mark n) (lanes_of s) line)) (place_is ∙ sym here)
      ∙ ap (called_by (judged_plan s) _) (sym is)

  module _ (line : List ℕ) (place : ℕ) (here : place ≡ length h.events + 1) where
    abbrev Told : Option ℕ → Type 0
    Told o = o ≡ told_from 0 (mark place) (lanes_of s) line

    -- the line names no lane
    pub names_none : Told None → IsCalled at_of lanes (told_call (judged_plan s) state line) None
    names_none is = call-told _ _ _ here is

    -- the lane has no call
    pub no_call : (k : ℕ) → Told (Some k) → asks (judged_plan s) state.lanes k ≡ None
        → IsCalled at_of lanes (told_call (judged_plan s) state line) None
    no_call k is none = call-told _ _ _ here is ∙ ap (on_turn (judged_plan s) state.lanes) none

    pub no_lane : (k : ℕ) → Told (Some k) → slice_get lanes k ≡ None → IsCalled at_of lanes (told_call (judged_plan s) state line) None
    no_lane k is none = no_call k is (none_there _ s _ _ among.stand k none)

    pub lane_over : (k : ℕ) (l : L) → Told (Some k) → slice_get lanes k ≡ Some l → next_phase (at_of l) ≡ None
        → IsCalled at_of lanes (told_call (judged_plan s) state line) None
    lane_over k l is there none =
        no_call k is (sym (lane_asks _ s _ _ among.stand k l there) ∙ no_phase _ _ none)

    module _ (k : ℕ) (l : L) (n : ℕ) (is : Told (Some k)) (there : slice_get lanes k ≡ Some l) (phase : next_phase (at_of l) ≡ Some n) where
      abbrev its : (e : Event) × (next_call (at_of l) ≡ Some e) × (n ≡ phase_of (at_of l).script e.line)
      its = phase_told _ _ n phase

      in_script : n ≡ phase_of s its.0.line
      in_script = its.2 ∙ ap (λ t. phase_of t its.0.line) (among.stand.each k l there).script

      call : asks (judged_plan s) state.lanes k ≡ Some its.0
      call = sym (lane_asks _ s _ _ among.stand k l there) ∙ its.1

      tested : (b : Bool) → b ≡ list_all (λ x. is_from n (next_phase (at_of x))) lanes
          → b ≡ least_to (judged_plan s) (length state.lanes) state.lanes its.0
      tested b test =
          test ∙ (λ i. list_all (λ x. is_from (in_script i) (next_phase (at_of x))) lanes)
          ∙ all_from_is _ s _ _ among.stand _

      turn : (b : Bool) → b ≡ list_all (λ x. is_from n (next_phase (at_of x))) lanes
          → told_call (judged_plan s) state line ≡ (if b then Some its.0 else None)
      turn b test =
          call-told _ _ _ here is ∙ ap (on_turn (judged_plan s) state.lanes) call ∙ ap (λ t. if t then Some its.0 else None) (sym (tested b test))

      seat_is : its.0.seat ≡ k
      seat_is = let found = asking_lane (judged_plan s) _ k _ call in (script_lane s k).seats found.0 its.0 found.2

      -- it has the turn
      pub has_turn : true ≡ list_all (λ x. is_from n (next_phase (at_of x))) lanes
          → IsCalled at_of lanes (told_call (judged_plan s) state line) (Some k)
      has_turn test = (its.0, l, turn _ test, seat_is, there, its.1)

      -- another has a call left in an earlier phase
      pub no_turn : false ≡ list_all (λ x. is_from n (next_phase (at_of x))) lanes
          → IsCalled at_of lanes (told_call (judged_plan s) state line) None
      no_turn test = turn _ test
