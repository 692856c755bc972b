-- What a report prints: an entry's line tells of its lane, each line has one line feed, at its end, and the lines are the report's text.
use Rattle.std.proofs.Common.{◌≡◌, ℕ, zero, suc, ◌+◌, ◌-◌, ◌<◌, ◌==◌, not, Bool, true, false, List, [], ◌∷◌, ◌++◌, length, Some, refl, sym, ap, ◌∙◌, arith, add-one, append_assoc}
use Rattle.std.{proofs.{Common.{append-nil, if◌then◌else◌}, lemmas.Bool.{and_parts, Decides.nat_tests}}, specs.{Fmt.decimal, List.{flat_map, list_all}, Prelude.codes}}
use Rattle.ix_label.specs.declared.form.Form.{Form}
use Rattle.ix_model.specs.{history.{Events.Event, Step.{run, step_of}}, opening.Opening.opening_world, world.World.World}
use Rattle.ix_text.{specs.Names.{is_script_name, may_stand_in_script_name}, proofs.Tests.{both, list_all_weaker}}
use Rattle.ix_script.specs.{declared.line.Line.Line, lines.Before.{form_told, lanes_of}, scripts.Scripts.config_of}
use Rattle.ix_asking.specs.Asking.{Answered}
use Rattle.ix_report.{specs.{Feeds.{EndsOnce, has_no_feed}, LineText.{audit_line, head_line}}, proofs.feeds.Lines.lines_end}
use Rattle.ix_replay.specs.report.{Fixed.LanesNamed, Report.{closing_text, entries_text, entry_text, lane_name, objects_text, processes_text, report_of}}
use Rattle.ix_replay.proofs.report.{Fixed.begins, LaneNames.{lane_no_space, lanes_differ}}
use Rattle.ix_judging.specs.{Bytes.{PrintsLines, is_empty, is_line, joined, split, with_byte, with_feed}, Judge.Text, Lanes.State, Names.{has_no_space, told_from}, Runs.entered}
use Rattle.ix_judging.proofs.{NamesTell.found_at, Split.{joined-split, split_lines}}
use Rattle.ix_check.specs.Plans.{begun, judged_plan, mark}
use Rattle.ix_judging.specs.Judge as judge

-- ---- an entry's line tells of its lane
names_plain : (names : List (List ℕ)) → list_all is_script_name names ≡ true → list_all has_no_space names ≡ true
names_plain [] named = refl
names_plain (name ∷ names) named =
    let rest = names_plain names (and_parts _ _ named).1 in
    rw (lane_no_space (name ∷ names) 0 named (omega arith), rest) refl

pub names_tell : (s : List Line) → LanesNamed s → (w : World) (place : ℕ) (e : Event) → e.seat < length (lanes_of s)
    → told_from 0 (mark place) (lanes_of s) (entry_text (form_told s) (lanes_of s) place w e) ≡ Some e.seat
names_tell s named w place e within =
    let b = begins _ _ _ w e [] in
    let same : 0 + e.seat ≡ e.seat = omega arith in
    ap (told_from 0 (mark place) (lanes_of s)) (sym (append-nil _)
    ∙ b.1 ∙ sym (append_assoc (decimal place) (32 ∷ []) (lane_name (lanes_of s) e.seat ++ 32 ∷ b.0)))
    ∙ found_at _ b.0 _ (names_plain _ named) (lanes_differ s) 0 _ within
    ∙ ap (λ n. Some n) same

-- ---- each line has one line feed, at its end
no_feed_byte : (b : ℕ) → may_stand_in_script_name b ≡ true → not (b == 10) ≡ true
no_feed_byte b h = grind (arith, nat_tests)

name_no_feed : (name : List ℕ) → is_script_name name ≡ true → has_no_feed name ≡ true
unfolding is_script_name
name_no_feed name h =
    let two = both _ _ (both _ (not _) h).0 in
    list_all_weaker _ _ no_feed_byte name two.1

lane_no_feed : (names : List (List ℕ)) (k : ℕ) → list_all is_script_name names ≡ true → has_no_feed (lane_name names k) ≡ true
lane_no_feed [] k named = refl
lane_no_feed (name ∷ names) zero named = name_no_feed _ (and_parts _ _ named).0
lane_no_feed (name ∷ names) (suc k) named = lane_no_feed names k (and_parts _ _ named).1

front_line : (front : List ℕ) → has_no_feed front ≡ true → is_line (front ++ 10 ∷ []) ≡ true
front_line [] h = refl
front_line (b ∷ front) h =
    let parts = and_parts _ _ h in
    here _ parts.0 (front_line front parts.1)
  where
    here : (x : Bool) → not x ≡ true → is_line (front ++ 10 ∷ []) ≡ true
        → (if x then is_empty (front ++ 10 ∷ []) else is_line (front ++ 10 ∷ [])) ≡ true
    here true h rest = cc
    here false h rest = rest

pub once_line : (text : List ℕ) → EndsOnce text → is_line text ≡ true
once_line text once = ap is_line once.2 ∙ front_line once.0 once.1

pub prints_lines : (s : List Line) → LanesNamed s → PrintsLines (judged_plan s)
prints_lines s named = record {
  head = once_line _ (lines_end.head _);
  line = λ w place e.
      once_line _ (lines_end.entry _ place _ e _ _ _ (lane_no_feed _ _ named));
  closing = λ w place. split_lines (closing_text (form_told s) w (place - 1));
}

-- ---- the lines are the text
-- a text whose last byte is a line feed has nothing behind its last line
abbrev pub IsWhole : Text (List ℕ) → Type 0
IsWhole t = (l : List ℕ) × (lines : List _) × (t ≡ record { lines = l ∷ lines; whole = true })

one_byte : (b : ℕ) (t : Text (List ℕ)) → IsWhole t → (x : Bool)
    → IsWhole (if x then with_feed t.lines t.whole else with_byte b t.lines t.whole)
one_byte b t is true = (10 ∷ [], is.0 ∷ is.1, rw is.2 refl)
one_byte b t is false = (b ∷ is.0, is.1, rw is.2 refl)

pub whole_after : (front : List ℕ) → IsWhole (split (front ++ 10 ∷ []))
whole_after [] = (10 ∷ [], [], refl)
whole_after (b ∷ front) = one_byte b (split (front ++ 10 ∷ [])) (whole_after front) (b == 10)

before_tail : Form → World → List ℕ
before_tail form w =
    codes "objects\n" ++ objects_text form w ++ codes "processes\n" ++ processes_text form w ++ codes "log\n" ++ flat_map (audit_line form) w.frame.log

pub closing_ends : (form : Form) (w : World) (n : ℕ) → (front : List ℕ) × (closing_text form w n ≡ front ++ 10 ∷ [])
unfolding closing_text before_tail
closing_ends form w n =
    let once = lines_end.tail n _ in
    (before_tail form w ++ once.0, ap (λ t. before_tail form w ++ t) once.2 ∙ sym (append_assoc (before_tail form w) once.0 (10 ∷ [])))

pub closing_joined : (form : Form) (w : World) (n : ℕ) → joined (split (closing_text form w n)).lines ≡ closing_text form w n
closing_joined form w n =
    let ends = closing_ends _ w n in
    joined-split _
    (ap (λ t. (split t).whole) ends.1 ∙ ap (λ t. t.whole) (whole_after ends.0).2)

module _ (s : List Line) where
  -- the lines from an entry on, before whose place so many entries were made
  rest_joined : (at : State World (List Answered)) (n : ℕ) (events : List Event) → at.place ≡ suc n
      → joined (judge.report_from (judged_plan s) at events)
      ≡ entries_text (form_told s) (lanes_of s) at.place at.world events ++ closing_text (form_told s) (run at.world at.place events) (n + length events)
  rest_joined at n [] is =
      let count : at.place - 1 ≡ n + 0 = omega (arith, is) in
      closing_joined _ _ _ ∙ ap (closing_text (form_told s) at.world) count
  rest_joined at n (e ∷ events) is =
      let form = form_told s in
      let line = entry_text form (lanes_of s) at.place at.world e in
      let after = (step_of at.world at.place e).world in
      let later = entries_text form (lanes_of s) (at.place + 1) after events in
      let count : suc n + length events ≡ n + length (e ∷ events) = omega arith in
      ap (λ t. line ++ t) (rest_joined (entered (judged_plan s) at e) _ events (omega (arith, is)))
      ∙ sym (append_assoc line later _)
      ∙ (λ i. (line ++ later) ++ closing_text form (run after (add-one at.place i) events) (count i))

  pub report_joined : (events : List Event) → report_of s events ≡ joined (judge.report_of (judged_plan s) (begun s) events)
  unfolding report_of
  report_joined events =
      let form = form_told s in
      let w = opening_world (config_of s) in
      let entries = entries_text form (lanes_of s) 1 w events in
      append_assoc _ entries _
      ∙ ap (λ t. head_line form ++ t)
      (sym (rest_joined (begun s) 0 _ refl ∙ ap (λ n. entries ++ closing_text form (run w 1 events) n) (omega arith)))
