-- How a report stands that is on its way out: at first, as it grows, and as what waits is written.
use Rattle.std.proofs.Common.{◌≡◌, ℕ, Bool, true, false, is_some, ◌+◌, List, [], ◌++◌, length, Option, Some, None, Result, Ok, Err, refl, sym, ap, ◌∙◌, subst}
use Rattle.std.proofs.Common.{append_assoc}
use Rattle.std.{specs.Prelude.{IfSome, OnOk}, proofs.lemmas.List.append-nil}
use Rattle.ix_io.specs.Streams.{HasCause, Rose}
use Rattle.ix_model.specs.{history.{Events.Event, History.{History, world_of, with_entry}}, opening.Opening.opening_world}
use Rattle.ix_script.specs.{lines.Before.{form_told, lanes_of}, scripts.Scripts.config_of, declared.line.Line.Line}
use Rattle.ix_report.specs.LineText.{head_line}
use Rattle.ix_replay.{specs.report.Report.{closing_text, entries_text, entry_text, report_of}, proofs.piecewise.Shown.history_entries}
use Rattle.ix_host.specs.declared.status.Status.{Status}
use Rattle.ix_host.specs.declared.status.Status.TheVariants as status
use Rattle.ix_host.specs.declared.streams.outlet.Failure.{Failure}
use Rattle.ix_host.specs.run.{Run.Ends, Outlet.{FrontIsOut, StandsAt, failed_as}, Teller.told_of, Whole.{Sent, Writes}}
use Rattle.ix_host.specs.declared.streams.outlet.Failure.TheVariants as failure
use Rattle.ix_host.specs.run.Outcome as outcome
use Rattle.ix_host.proofs.piecewise.Outlets.{sent_all, sent_front, sent_less, sent_more, sent_none}

-- ---- fronts
-- a front of a text is one of a longer text
front_longer : (o after : Option (List ℕ)) (text more : List ℕ) → FrontIsOut o after text → FrontIsOut o after (text ++ more)
front_longer None after text more f = tt
front_longer (Some t) after text more f = record { gone = f.gone; left = f.left ++ more; whole = sym (append_assoc f.gone f.left more) ∙ ap (λ x. x ++ more) f.whole; front = f.front }

-- of each text nothing is a front
pub front_none : (o : Option (List ℕ)) (text : List ℕ) → FrontIsOut o o text
front_none None text = tt
front_none (Some t) text = record { gone = []; left = text; whole = refl; front = ap Some (sym (append-nil t)) }

-- what is left of a text and more is left of the text with more
sent_longer : (o after : Option (List ℕ)) (left text more : List ℕ) → IfSome o (λ t. Sent t after left text) → IfSome o (λ t. Sent t after (left ++ more) (text ++ more))
sent_longer None after left text more s = tt
sent_longer (Some t) after left text more s = record { gone = s.gone; whole = sym (append_assoc s.gone left more) ∙ ap (λ x. x ++ more) s.whole; front = s.front }

-- ---- as it stands
-- at first all of it waits
pub stands_first : (o : Option (List ℕ)) (text : List ℕ) (n : ℕ) → StandsAt None o o text (text ++ []) n n
stands_first o text n = subst (λ (t : List ℕ). StandsAt None o o text t n n) (sym (append-nil text)) (sent_none o text, refl)

module _ (o after : Option (List ℕ)) (before now : ℕ) where
  -- with more to come
  pub stands_more : (why : Option Failure) (waiting text more : List ℕ) → StandsAt why o after waiting text before now → StandsAt why o after (waiting ++ more) (text ++ more) before now
  stands_more None waiting text more s = (sent_longer o after waiting text more s.0, s.1)
  stands_more (Some failure.Write) waiting text more s = (front_longer o after text more s.0, s.1)
  stands_more (Some failure.Memory) waiting text more s = front_longer o after text more s

  -- after a failure it doesn't matter what waits
  pub stands_silent : (why : Option Failure) (waiting other text : List ℕ) → is_some why ≡ true → StandsAt why o after waiting text before now → StandsAt why o after other text before now
  stands_silent None waiting other text is s = cc
  stands_silent (Some failure.Write) waiting other text is s = s
  stands_silent (Some failure.Memory) waiting other text is s = s

  -- where nothing more comes
  pub stands_end : (why : Option Failure) (waiting none text : List ℕ) → none ≡ [] → StandsAt why o after (waiting ++ none) text before now → StandsAt why o after waiting text before now
  stands_end why waiting none text is s = subst (λ (w : List ℕ). StandsAt why o after w text before now) (ap (λ l. waiting ++ l) is ∙ append-nil waiting) s

  pub stands_whole : (why : Option Failure) (waiting text : List ℕ) → StandsAt why o after waiting text before now → StandsAt why o after (waiting ++ []) text before now
  stands_whole why waiting text s = subst (λ (w : List ℕ). StandsAt why o after w text before now) (sym (append-nil waiting)) s

  -- whatever waits, some front is out
  pub stands_front : (waiting text : List ℕ) → StandsAt None o after waiting text before now → FrontIsOut o after text
  stands_front waiting text s = sent_front o after waiting text s.0

  -- what is written of it, with a rest that doesn't wait yet
  module _ {E : Type 0} (later : Option (List ℕ)) (then : ℕ) (piece rest text : List ℕ) (s : StandsAt None o after (piece ++ rest) text before now) where
    pub stands_written : (done : Unit {0}) → IfSome after (λ t. Writes {E = E} t later piece (Ok done)) → HasCause {E = E} now then (Ok done) → StandsAt None o later rest text before then
    stands_written done w h = (sent_more E o after later piece (piece ++ rest) rest text (Ok done) done refl refl s.0 w, h.kept ∙ s.1)

    pub stands_failed : (e : E) (waiting : List ℕ) → IfSome after (λ t. Writes {E = E} t later piece (Err e)) → HasCause {T = Unit {0}} {E = E} now then (Err e)
        → StandsAt (Some failure.Write) o later waiting text before then
    stands_failed e waiting w h = (sent_less E o after later piece (piece ++ rest) rest text (Err e) e refl refl s.0 w, subst (λ (k : ℕ). Rose k then) s.1 h.failed)

-- ---- as it ends
module _ (o after : Option (List ℕ)) (text : List ℕ) (done : Bool) (before now : ℕ) where
  pub ends_done : StandsAt None o after [] text before now → done ≡ true → Ends (outcome.Whole text) status.Done o after done before now
  ends_done s finished = record {
    fits = refl;
    text = sent_all o after [] text refl s.0;
    finished = λ _. finished;
    kept = λ _. s.1;
    fault = λ is. cc;
  }

  pub ends_failed : (waiting : List ℕ) → StandsAt (Some failure.Write) o after waiting text before now → Ends (outcome.Whole text) status.WriteFault o after done before now
  ends_failed waiting s = record { fits = tt; text = s.0; finished = λ a. absurd a; kept = λ a. absurd a; fault = λ _. s.1 }

  pub ends_out : FrontIsOut o after text → Ends (outcome.Whole text) status.NoMemory o after done before now
  ends_out s = record { fits = tt; text = s; finished = λ a. absurd a; kept = λ a. absurd a; fault = λ is. cc }

  pub ends_stopped : (why : Failure) (waiting : List ℕ) → StandsAt (Some why) o after waiting text before now → Ends (outcome.Whole text) (failed_as why) o after done before now
  ends_stopped failure.Write waiting s = ends_failed waiting s
  ends_stopped failure.Memory waiting s = ends_out s

-- ---- the lines of a history
-- what was told of a history, with the line of one entry more
pub told_next : (s : List Line) (begun : List ℕ) (h k : History) (e : Event) → k ≡ with_entry h e
    → told_of s begun h ++ entry_text (form_told s) (lanes_of s) (length h.events + 1) (world_of h) e ≡ told_of s begun k
told_next s begun h k e is =
    append_assoc begun (entries_text (form_told s) (lanes_of s) 1 (opening_world h.config) h.events) _
    ∙ ap (λ t. begun ++ t) (sym (history_entries (form_told s) (lanes_of s) h e)) ∙ ap (told_of s begun) (sym is)

-- all of a report
report_told : (s : List Line) (begun : List ℕ) (h : History) → h.config ≡ config_of s → begun ≡ head_line (form_told s)
    → told_of s begun h ++ closing_text (form_told s) (world_of h) (length h.events) ≡ report_of s h.events
unfolding report_of world_of
report_told s begun h config at = rw (at, config) refl

-- a report is told that was begun
pub stands_begun : (why : Option Failure) (o : Option (List ℕ)) (s : List Line) (begun : List ℕ) (n : ℕ)
    → why ≡ None → StandsAt why o o begun (told_of s begun (record { config = config_of s; events = [] })) n n
stands_begun why o s begun n none = subst (λ (w : Option Failure). StandsAt w o o begun (told_of s begun (record { config = config_of s; events = [] })) n n) (sym none) (stands_first o begun n)

pub ends_report : (s ls : List Line) (begun : List ℕ) (h : History) (events : List Event) {end : Status} {o after : Option (List ℕ)} {done : Bool} {before now : ℕ}
    → ls ≡ s → h.config ≡ config_of s → begun ≡ head_line (form_told s) → h.events ≡ events
    → Ends (outcome.Whole (told_of s begun h ++ closing_text (form_told ls) (world_of h) (length h.events))) end o after done before now
    → Ends (outcome.Whole (report_of s events)) end o after done before now
ends_report s ls begun h events {end = end} {o = o} {after = after} {done = done} {before = before} {now = now} same config at is =
    subst (λ (t : List ℕ). Ends (outcome.Whole t) end o after done before now)
    (ap (λ x. told_of s begun h ++ closing_text (form_told x) (world_of h) (length h.events)) same ∙ report_told s begun h config at ∙ ap (report_of s) is)

-- ---- a line more
module _ (o after : Option (List ℕ)) (before now : ℕ) (text line then : List ℕ) (is : text ++ line ≡ then) where
  longer : (why : Option Failure) (waiting : List ℕ) → StandsAt why o after waiting text before now → StandsAt why o after (waiting ++ line) then before now
  longer why waiting stands = subst (λ (t : List ℕ). StandsAt why o after (waiting ++ line) t before now) is (stands_more o after before now why waiting text line stands)

  -- it is to come behind what waits
  pub line_comes : (waiting : List ℕ) → StandsAt None o after waiting text before now → StandsAt None o after (waiting ++ line) then before now
  line_comes waiting stands = longer None waiting stands

  -- nothing is said of it after a failure
  pub line_missed : (why : Option Failure) (waiting : List ℕ) → is_some why ≡ true → StandsAt why o after waiting text before now → StandsAt why o after waiting then before now
  line_missed why waiting failed stands = stands_silent o after before now why (waiting ++ line) waiting then failed (longer why waiting stands)

-- what follows where it went well
pub on_ok : {T E P Q : Type 0} (r : Result T E) → (P → Q) → OnOk r P → OnOk r Q
on_ok (Ok x) f p = f p
on_ok (Err e) f p = tt

-- there is none where there is one
pub no_failure : {A : Type 0} (o : Option A) → is_some o ≡ true → o ≡ None → ⊥
no_failure None is none = cc
no_failure (Some x) is none = cc

-- none where there is none
pub none_is : {A : Type 0} (o : Option A) → is_some o ≡ false → o ≡ None
none_is None is = refl
none_is (Some x) is = cc
