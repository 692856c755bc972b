-- Two runs on their way, side by side: what is left of each, and what is left to be found and to be shown of both.
use Rattle.std.specs.Prelude.{◌≡◌, ℕ, suc, ◌+◌, ◌<◌, ◌≤◌, Bool, true, not, ◌&&◌, List, [], ◌∷◌, ◌++◌, length, Option, Some, None, if◌then◌else◌}
use Rattle.ix_label.specs.Category.{Categories}
use Rattle.ix_model.specs.world.World.{World}
use Rattle.ix_model.specs.opening.Opening.{opening_world}
use Rattle.ix_model.specs.history.Events.{Event}
use Rattle.ix_model.specs.history.History.{next, world_of}
use Rattle.ix_model.specs.history.Step.{step_of}
use Rattle.ix_script.specs.lines.Before.{form_told, lanes_of}
use Rattle.ix_script.specs.declared.line.Line.{Line}
use Rattle.ix_asking.specs.Asking.{Answered}
use Rattle.ix_model.specs.history.Systems.{bytes_in}
use Rattle.ix_serial.specs.Running.{Stands}
use Rattle.ix_judging.specs.Bytes.{joined}
use Rattle.ix_model.specs.declared.reply.Reply.{Reply}
use Rattle.ix_lanes.specs.histories.Serial.{answered, serial}
use Rattle.ix_lanes.specs.running.Serially.{SerialLeft, entries_left, most_entries, next_entry}
use Rattle.ix_replay.specs.report.Report.{entry_text}
use Rattle.ix_twin.specs.Lines.{pair_of, parting_of, world_opened}
use Rattle.ix_twin.specs.Parting.{parting}
use Rattle.ix_twin.specs.Tests.{both_agree, crosses, is_low, none_crosses}
use Rattle.ix_twin.specs.Twins.{HaveAgreed, Twins, with_entries}
use Rattle.ix_twin.specs.declared.turn.Turn.{Turn}
use Rattle.ix_twin.specs.declared.turn.Turn.TheVariants as turn

-- ---- what is left
-- the two lines of each place that is shown, where two runs go on with these entries from a place on; whether no entry crossed the label before
unfoldable pub pairs_from : Categories → List Line → List Line → Bool → World → World → ℕ → List Event → List Event → List (List ℕ)
pairs_from l s t clear v w place [] others = []
pairs_from l s t clear v w place (e ∷ events) [] = []
pairs_from l s t clear v w place (e ∷ events) (d ∷ others) =
    let x = (step_of v place e).world in
    let y = (step_of w place d).world in
    let later = pairs_from l s t (clear && not (crosses l v.frame x.frame)) x y (suc place) events others in
    let pair = pair_of (entry_text (form_told s) (lanes_of s) place v e) (entry_text (form_told t) (lanes_of t) place w d) in
    if both_agree l v w place e d then (if clear && is_low l x.frame e.pid then pair ∷ later else later) else []

-- two runs, and what is left of each of their scripts
pub record Aside : Type 0 where
  pub twins : Twins
  pub first : SerialLeft
  pub second : SerialLeft

-- the place of the next entries
abbrev pub next_place : Aside → ℕ
next_place a = length a.twins.first.events + 1

abbrev pub first_left : Aside → List Event
first_left a = entries_left a.first (world_of a.twins.first) (next_place a)

abbrev pub second_left : Aside → List Event
second_left a = entries_left a.second (world_of a.twins.second) (length a.twins.second.events + 1)

-- where they part
abbrev pub parting_left : Aside → Option ℕ
parting_left a = parting a.twins.at (world_of a.twins.first) (world_of a.twins.second) (next_place a) (first_left a) (second_left a)

-- what is left to be shown
abbrev pub pairs_left : Aside → List (List ℕ)
pairs_left a =
    pairs_from a.twins.at a.first.script a.second.script (none_crosses a.twins.at (opening_world a.twins.first.config) 1 a.twins.first.events)
    (world_of a.twins.first) (world_of a.twins.second) (next_place a) (first_left a) (second_left a)

-- how many turns are left at most
abbrev pub turns_left : Aside → ℕ
turns_left a = most_entries a.first

-- Two runs stand at one place of the serial histories of two scripts, which agree at a label so far.
pub record AreAside (l : Categories) (s t : List Line) (a : Aside) : Type 0 where
  pub at : a.twins.at ≡ l
  pub first_script : a.first.script ≡ s
  pub second_script : a.second.script ≡ t
  pub first_stands : Stands a.twins.first a.first
  pub second_stands : Stands a.twins.second a.second
  pub agreed : HaveAgreed a.twins
  pub place : length a.twins.second.events ≡ length a.twins.first.events

-- those of two scripts that begin alike
abbrev pub all_pairs : Categories → List Line → List Line → List (List ℕ)
all_pairs l s t = pairs_from l s t true (world_opened s) (world_opened t) 1 (serial s) (serial t)

-- Between two turns of a comparison: where the two part and what is shown is what was found so far, and what is left.
pub record Compares (l : Categories) (s t : List Line) (a : Aside) (lines : List ℕ) (agreed places : ℕ) : Type 0 where
  pub aside : AreAside l s t a
  pub parting : parting_of l s t ≡ parting_left a
  pub told : lines ++ joined (pairs_left a) ≡ joined (all_pairs l s t)
  pub count : places + length (pairs_left a) ≡ length (all_pairs l s t)
  pub place : agreed + 1 ≡ next_place a
  pub fewer : places ≤ agreed
  pub few : agreed ≤ 6800000

-- ---- a turn
-- whether the lines of two entries are shown: the first's caller is low after it, and nothing crossed before
abbrev pub is_shown : Twins → Event → Bool
is_shown t e = none_crosses t.at (opening_world t.first.config) 1 t.first.events && is_low t.at (next t.first e).world.frame e.pid

-- the lines of two entries that come next in two runs
abbrev pub pair_next : Aside → Event → Event → List ℕ
pair_next a e d =
    pair_of (entry_text (form_told a.first.script) (lanes_of a.first.script) (length a.twins.first.events + 1) (world_of a.twins.first) e)
    (entry_text (form_told a.second.script) (lanes_of a.second.script) (length a.twins.second.events + 1) (world_of a.twins.second) d)

-- what a reply says with the bytes at the front of a buffer
abbrev pub heard_as : Reply → List ℕ → Answered
heard_as r buf = record { reply = r; bytes = bytes_in r buf }

-- Two entries were made, which got these replies, with the bytes of each at the front of its buffer.
pub record WereMade (before after : Twins) (e d : Event) (r q : Reply) (first second : List ℕ) : Type 0 where
  pub made : after ≡ with_entries before e d
  pub first_answer : answered (next before.first e) ≡ heard_as r first
  pub second_answer : answered (next before.second d) ≡ heard_as q second

-- Both runs made their next entries, which agree as all before do, and were answered so; their lines were added where they are shown.
pub record MadeBoth (a : Aside) (new : Twins) (r q : Reply) (shown : Bool) (first second before after : List ℕ) : Type 0 where
  pub one : Event
  pub two : Event
  pub first_next : next_entry a.first ≡ Some one
  pub second_next : next_entry a.second ≡ Some two
  pub were : WereMade a.twins new one two r q first second
  pub agree : HaveAgreed new
  pub shown_is : shown ≡ is_shown a.twins one
  pub lines : after ≡ before ++ (if shown then pair_next a one two else [])

-- The two part at the next place, or neither has one: nothing is left to be shown.
abbrev pub Ends : Aside → Option ℕ → Type 0
Ends a part = (parting_left a ≡ part) × (pairs_left a ≡ [])

-- What comes of the next entries of two runs, and what the buffers hold then.
abbrev pub Makes : Turn → Aside → Twins → List ℕ → List ℕ → List ℕ → List ℕ → Type 0
Makes (turn.Agree r q shown) a new first second before after = MadeBoth a new r q shown first second before after
Makes turn.Apart a new first second before after = Ends a (Some (next_place a)) × (after ≡ before)
Makes turn.Over a new first second before after = Ends a None × (first_left a ≡ []) × (after ≡ before)

-- Both made an entry, which agree. What was found and shown before and what is left then is what was left.
pub record TurnsOn (l : Categories) (s t : List Line) (old new : Aside) (shown : Bool) (before after : List ℕ) : Type 0 where
  pub aside : AreAside l s t new
  pub place : next_place new ≡ next_place old + 1
  pub parting : parting_left old ≡ parting_left new
  pub lines : after ++ joined (pairs_left new) ≡ before ++ joined (pairs_left old)
  pub count : length (pairs_left old) ≡ (if shown then 1 else 0) + length (pairs_left new)
  pub fewer : turns_left new < turns_left old

-- How a turn went.
abbrev pub Turns : Categories → List Line → List Line → Turn → Aside → Aside → List ℕ → List ℕ → Type 0
Turns l s t (turn.Agree r q shown) old new before after = TurnsOn l s t old new shown before after
Turns l s t turn.Apart old new before after = Ends old (Some (next_place old)) × (after ≡ before)
Turns l s t turn.Over old new before after = Ends old None × (first_left old ≡ []) × (after ≡ before)
