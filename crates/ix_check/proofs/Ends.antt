-- A state of the lanes and the machine, once the call that has the turn was made.
use Rattle.std.proofs.Common.{◌≡◌, ℕ, ◌+◌, List, [], ◌∷◌, ◌++◌, length, Some, refl, sym, ap, ◌∙◌, subst, inl, inr, add-one, slice_get, slice_set, ◌-◌, ◌≤◌, ◌<◌, ◌^◌, Bool, true, false}
use Rattle.std.{proofs.{Common.{arith, if◌then◌else◌}, lemmas.{Bool.cases_eq, List.length-set, Option.slice_get_within}}, specs.List.list_all}
use Rattle.ix_model.specs.{history.{Events.Event, History.{History, next, with_entry, world_of}, Step.{run, step_of}}, opening.Opening.opening_world, world.{Naming.same_bytes, World.World}}
use Rattle.ix_script.specs.{declared.line.Line.Line, lines.Before.{form_told, lanes_of}}
use Rattle.ix_asking.specs.Asking.{Answered}
use Rattle.ix_lanes.specs.histories.{Lanes.lane_asks, Serial.answered}
use Rattle.ix_replay.{specs.{declared.reporting.closing.Next.Next, report.{Report.{entry_text, closing_text}, Telling.{left_of, pieces_of, text_left}}}, proofs.piecewise.Pieces.closing_is}
use Rattle.ix_judging.specs.{Bytes.{is_line, joined, split}, Lanes.State, Plan.Plan, Runs.{IsRun, IsTurn, entered, reached}, Walk.{told_call, Begins, Entries, Fails, closed}}
use Rattle.ix_judging.specs.Walk.{closes, ended, is_over, line_after, makes, walked}
use Rattle.ix_judging.proofs.{Scripts.lawful, Split.split_lines, Stores.{after_other, after_same, get-set_other, get-set_same, length-after}, Turns.told_turn}
use Rattle.ix_check.specs.{Judging.{IsAmong, IsLaneAt, LanesStand, AreLeft, IsClosing, Stands}, Plans.{begun, judged_plan, judged_script}, Stepping.{LaneAt, answered_so}}
use Rattle.ix_check.proofs.{ClosingLine.{count_is, none_joined, pieces_at}, Judged.is_script, LaneCalls.heard_on, LaneTurns.place_is, Printed.{closing_ends, closing_joined, whole_after}}
use Rattle.ix_report.specs.LineText.{head_line}
use Rattle.ix_asking.specs.Asking as asking
use Rattle.ix_replay.specs.declared.reporting.closing.Closing as telling
use Rattle.ix_replay.specs.declared.reporting.closing.Next.TheVariants as next
use Rattle.ix_judging.specs.Judge as theory
use Rattle.ix_check.specs.declared.stage.Stage.TheVariants as stage

-- ---- one entry more at the end
module _ {W E A L T : Type 0} (p : Plan W E A L T) where
  run_on : (at : State W L) (events : List E) (e : E) → IsRun p at events → IsTurn p (reached p at events).lanes e
      → IsRun p at (events ++ e ∷ [])
  run_on at [] e runs turn = (turn, tt)
  run_on at (f ∷ events) e runs turn = (runs.0, run_on (entered p at f) events e runs.1 turn)

  reached_on : (at : State W L) (events : List E) (e : E) → reached p at (events ++ e ∷ []) ≡ entered p (reached p at events) e
  reached_on at [] e = refl
  reached_on at (f ∷ events) e = reached_on (entered p at f) events e

-- the world after entries
world_reached : (s : List Line) (at : State World (List Answered)) (events : List Event)
    → (reached (judged_plan s) at events).world ≡ run at.world at.place events
world_reached s at [] = refl
world_reached s at (e ∷ events) =
    world_reached s (entered (judged_plan s) at e) events ∙ ap (λ n. run (step_of at.world at.place e).world n events) (add-one at.place)

module _ {L : Type 0} (at_of : L → LaneAt) (s : List Line) (h : History) (lanes : List L) (state : State World (List Answered)) (among : IsAmong at_of s h lanes state) where
  pub world_is : state.world ≡ world_of h
  unfolding world_of
  world_is =
      ap (λ x. x.world) among.comes ∙ world_reached s (begun s) h.events
      ∙ ap (λ c. run (opening_world c) 1 h.events) (sym among.config)

  -- its line
  pub line_is : (e : Event)
      → entry_text (form_told s) (lanes_of s) (length h.events + 1) (world_of h) e
      ≡ entry_text (form_told s) (lanes_of s) state.place state.world e
  line_is e = λ i. entry_text (form_told s) (lanes_of s) (sym (place_is _ s h _ state among) i) (sym world_is i) e

  answer_is : (e : Event) → answered (next h e) ≡ answered (step_of state.world state.place e)
  answer_is e = λ i. answered (step_of (sym world_is i) (sym (place_is _ s h _ state among) i) e)

  module _ (line : List ℕ) (e : Event) (told : told_call (judged_plan s) state line ≡ Some e) where
    turn : IsTurn (judged_plan s) state.lanes e
    turn = told_turn (judged_plan s) _ (lawful (judged_script s) _ (is_script s among.named)) state _ e told

    module _ (k : ℕ) (lane after : L) (seat : e.seat ≡ k) (there : slice_get lanes k ≡ Some lane) (heard : at_of after ≡ answered_so (at_of lane) (answered (next h e))) where
      abbrev a : Answered
      a = answered (step_of state.world state.place e)

      abbrev lanes' : List (List Answered)
      lanes' = (entered (judged_plan s) state e).lanes

      stands_here : IsLaneAt s k lanes' (at_of after)
      stands_here =
          let is = among.stand.each k lane there in
          record {
            script = ap (λ l. l.script) heard ∙ is.script;
            seat = ap (λ l. l.seat) heard ∙ is.seat;
            given = is.given ++ a ∷ [];
            had = ap (slice_get lanes') (sym seat) ∙ after_same (judged_plan s) state.lanes e.seat a _ (ap (slice_get state.lanes) seat ∙ is.had);
            left = ap (λ l. l.asking) heard ∙ (λ i. asking.heard (is.left i) (answer_is e i)) ∙ sym (heard_on (lane_asks s k) is.given a);
          }

      stands_there : (j : ℕ) (l : L) → (j ≡ k → ⊥) → slice_get lanes j ≡ Some l → IsLaneAt s j lanes' (at_of l)
      stands_there j l apart at =
          let is = among.stand.each j l at in
          record {
            script = is.script;
            seat = is.seat;
            given = is.given;
            had = after_other (judged_plan s) _ _ j a (λ same. apart (same ∙ seat)) ∙ is.had;
            left = is.left;
          }

      stand_after : LanesStand at_of s (slice_set lanes k after) lanes'
      stand_after = record {
        count = length-set lanes k after ∙ among.stand.count ∙ sym (length-after (judged_plan s) _ _ a);
        each = λ j l at. elim (cases_eq j k) [
          | inl same ↦
              let here =
              sym (get-set_same _ k _ (slice_get_within lanes k lane there)) ∙ ap (slice_get _) (sym same) ∙ at in
              let one : after ≡ l = cc in
              subst (λ x. IsLaneAt s j lanes' (at_of x)) one (subst (λ n. IsLaneAt s n lanes' (at_of after)) (sym same) stands_here)
          | inr apart ↦ stands_there j l apart (sym (get-set_other _ k j _ apart) ∙ at)
        ];
      }

      pub among_after : (now : History) → now ≡ with_entry h e
          → IsAmong at_of s now (slice_set lanes k after) (entered (judged_plan s) state e)
      among_after now is =
          let events = ap (λ x. x.events) is in
          record {
            named = among.named;
            config = ap (λ x. x.config) is ∙ among.config;
            run = subst (IsRun (judged_plan s) (begun s)) (sym events) (run_on (judged_plan s) _ _ e among.run (subst (λ x. IsTurn (judged_plan s) x.lanes e) among.comes turn));
            comes = ap (λ x. entered (judged_plan s) x e) among.comes
                ∙ sym (reached_on (judged_plan s) (begun s) h.events e) ∙ ap (reached (judged_plan s) (begun s)) (sym events);
            stand = stand_after;
          }

-- A text's first line, the passage to the closing lines, and its end.
module _ {L : Type 0} (at_of : L → LaneAt) (s : List Line) (h : History) (lanes : List L) where
  -- ---- the first line
  module _ (line : List ℕ) where
    first_walk : (b : Bool) → same_bytes (head_line (form_told s)) line ≡ b
        → walked (judged_plan s) (begun s) Begins line ≡ (if b then Entries 0 (begun s) else Fails 1)
    first_walk b same = ap (λ t. if t then Entries 0 (begun s) else Fails 1) same

    pub wrong_head : same_bytes (head_line (form_told s)) line ≡ false → walked (judged_plan s) (begun s) Begins line ≡ Fails 1
    wrong_head other = first_walk _ other

    pub right_head : same_bytes (head_line (form_told s)) line ≡ true → Stands at_of s h lanes stage.Begins Begins
        → Stands at_of s h lanes stage.Entries (walked (judged_plan s) (begun s) Begins line)
    right_head same stands =
        (begun s, first_walk _ same ∙ ap (λ n. Entries n (begun s)) (ap length (sym stands.1)), stands.2)

  -- ---- behind all entries
  module _ (state : State World (List Answered)) (among : IsAmong at_of s h lanes state) where
    -- what closes the report
    abbrev pub closing : List (List ℕ)
    closing = (judged_plan s).closing state.world state.place

    text : List ℕ
    text = closing_text (form_told s) (world_of h) (length h.events)

    closing_same : closing ≡ (split text).lines
    unfolding text
    closing_same =
        let count : state.place - 1 ≡ length h.events = omega (arith, place_is _ s h _ state among) in
        λ i. (split (closing_text (form_told s) (world_is _ s h _ state among i) (count i))).lines

    text_there : (c : telling.Closing) → IsClosing s h next.Head c → left_of c ≡ text
    unfolding left_of text
    text_there c is = ap (λ n. text_left n c) is.stage ∙ (closing_is c ∙ (λ i. closing_text (is.form i) (world_of (is.history i)) (length (is.history i).events)))

    pub closing_left : length h.events ≤ 6800000 → length (world_of h).frame.objects < 2 ^ 32 → length (world_of h).frame.processes < 2 ^ 32
        → length (world_of h).frame.log < 2 ^ 32 → AreLeft s h next.Head (line_after (length h.events)) closing
    unfolding text pieces_at
    closing_left entries objects processes log = record {
      lines = ap (list_all is_line) closing_same ∙ split_lines text;
      text = λ c is. text_there c is ∙ sym (closing_joined _ _ _) ∙ ap joined (sym closing_same);
      few = λ c is.
          omega (arith, pieces_head s h c is, entries, objects, processes, log);
    }
      where
        pieces_head : (s : List Line) (h : History) (c : telling.Closing) → IsClosing s h next.Head c
            → pieces_of c ≡ 4 + length (world_of h).frame.objects + length (world_of h).frame.processes + length (world_of h).frame.log
        pieces_head s h c is = count_is s h _ c is

    -- some line closes it
    pub closing_some : (c : List ℕ) × (ls : List (List ℕ)) × (closing ≡ c ∷ ls)
    unfolding text
    closing_some =
        let ends = closing_ends _ _ _ in
        let whole = whole_after ends.0 in
        (whole.0, whole.1, closing_same ∙ ap (λ t. (split t).lines) ends.1 ∙ ap (λ t. t.lines) whole.2)

    -- a text that ends among the entries
    pub no_end : (whole : Bool) → ended (judged_plan s) (Entries (length h.events) state) whole ≡ theory.No (line_after (length h.events))
    no_end whole = go _
      where
        go : (b : Bool)
            → (if b then closed (line_after (length h.events)) (length h.events) closing whole else theory.No (line_after (length h.events)))
            ≡ theory.No (line_after (length h.events))
        go true = ap (λ ls. closed (line_after (length h.events)) (length h.events) ls whole) closing_some.2
        go false = refl

    -- whether all are over decides how the walk goes on
    pub walk_on : (line : List ℕ) (b : Bool) → is_over (judged_plan s) state.lanes ≡ b
        → walked (judged_plan s) (begun s) (Entries (length h.events) state) line
        ≡ (if b then closes (judged_plan s) (line_after (length h.events)) (length h.events) closing line
        else makes (judged_plan s) (length h.events) state line (told_call (judged_plan s) state line))
    walk_on line b is =
        ap (λ t. if t then closes (judged_plan s) (line_after (length h.events)) (length h.events) closing line
        else makes (judged_plan s) (length h.events) state line (told_call (judged_plan s) state line)) is

  -- ---- the end of a text, behind all entries
  module _ (after : Next) (n : ℕ) (left : List (List ℕ)) (are : AreLeft s h after n left) (c : telling.Closing) (is : IsClosing s h after c) where
    pub all_closed : (count : ℕ) → left_of c ≡ [] → closed n count left true ≡ theory.Yes count
    all_closed count none =
        ap (λ ls. closed n count ls true) (none_joined _ are.lines (sym (are.text c is) ∙ none))

    pub not_whole : (count : ℕ) → closed n count left false ≡ theory.No n
    not_whole count = go _
      where
        go : (ls : List (List ℕ)) → closed n count ls false ≡ theory.No n
        go [] = refl
        go (l ∷ ls) = refl

    pub not_closed : (count : ℕ) (whole : Bool) → (left_of c ≡ [] → ⊥) → closed n count left whole ≡ theory.No n
    not_closed count whole some = go _ refl
      where
        go : (ls : List (List ℕ)) → left ≡ ls → closed n count ls whole ≡ theory.No n
        go [] none = absurd (some (are.text c is ∙ ap joined none))
        go (l ∷ ls) those = refl
