-- What the core shows of an entry that it made.
use Rattle.std.proofs.Common.{◌≡◌, ℕ, ◌+◌, ◌++◌, ◌∷◌, List, [], length, Option, Some, None, take, refl, sym, ap, ◌∙◌, arith, add-one, append_assoc, append-nil}
use Rattle.std.proofs.Common.{length-append}
use Rattle.std.specs.Option.{option_map}
use Rattle.ix_label.specs.{declared.form.Form.Form, Category.Categories}
use Rattle.ix_model.specs.{world.World.{World, Process, at}, opening.Opening.opening_world, declared.{reply.Reply.Reply, views.ProcView.ProcView}}
use Rattle.ix_model.specs.history.{Events.Event, History.{History, world_of, next}, Shown.AreShown, Step.{run, step_of}, Views.shown_of}
use Rattle.ix_model.proofs.words.Runs.{world_of-push}
use Rattle.ix_report.specs.{LineText.entry_line, ReplyText.AreBytesOf}
use Rattle.ix_core.specs.Stepping.{IsNext, Shows}
use Rattle.ix_replay.specs.report.Report.{entries_text, entry_text, lane_name}
use Rattle.ix_model.specs.declared.reply.Reply.TheVariants as reply
use Rattle.ix_model.specs.declared.reply.Answer.TheVariants as answer
use Rattle.ix_asking.specs.Runs.{count_in}

-- the bytes at the front of the buffer are those that the call gives
pub shown_is : (r : Reply) (after bytes : List ℕ) → Shows (answer.Given r) after bytes → AreShown r bytes → take (count_in r) after ≡ bytes
shown_is (reply.Bytes k) after bytes s a = s.2
shown_is reply.Done after bytes s a = sym a
shown_is (reply.Number n) after bytes s a = sym a
shown_is (reply.Two f g) after bytes s a = sym a
shown_is (reply.Stat obj kind size links frozen cap lic) after bytes s a = sym a
shown_is (reply.Lab label) after bytes s a = sym a
shown_is (reply.Named name obj) after bytes s a = sym a
shown_is reply.Half after bytes s a = sym a
shown_is (reply.Whole pid label lic) after bytes s a = sym a
shown_is (reply.LogLine line) after bytes s a = sym a
shown_is (reply.Child pid status) after bytes s a = sym a
shown_is (reply.No why) after bytes s a = sym a

-- the label that is shown of a process is the label of its record
pub label_shown : (p : Option Process) → option_map (λ (v : ProcView). v.label) (option_map shown_of p) ≡ option_map (λ (q : Process). q.label) p
label_shown None = refl
label_shown (Some p) = refl

-- bytes that are shown with a reply are as many as it says
pub bytes_of_shown : (r : Reply) (bytes : List ℕ) → AreShown r bytes → AreBytesOf r bytes
bytes_of_shown (reply.Bytes k) bytes a = a.0
bytes_of_shown _ bytes a = tt

-- the line of the entry that was just made
pub line_of_next : (form : Form) (lanes : List (List ℕ)) (old new : History) (e : Event) (r : Reply) (bytes lane : List ℕ) (place : ℕ) (label : Option Categories) → IsNext old new e r bytes
    → place ≡ length new.events → lane ≡ lane_name lanes e.seat → label ≡ option_map (λ (p : Process). p.label) (at (world_of new).frame.processes e.pid)
    → entry_line form place lane e r bytes label ≡ entry_text form lanes (length old.events + 1) (world_of old) e
line_of_next form lanes old new e r bytes lane place label is at_place in_lane labelled =
    let here : place ≡ length old.events + 1 = at_place ∙ ap (λ (h : History). length h.events) is.history ∙ length-append old.events (e ∷ []) in
    let world : world_of new ≡ (next old e).world = ap world_of is.history ∙ world_of-push old e in
    let seen = labelled ∙ ap (λ (w : World). option_map (λ (p : Process). p.label) (at w.frame.processes e.pid)) world in
    λ i. entry_line form (here i) (in_lane i) e (is.reply i) (is.bytes i) (seen i)

-- ---- the lines of entries
-- one entry more
entries_push : (form : Form) (lanes : List (List ℕ)) (place : ℕ) (w : World) (events : List Event) (e : Event)
    → entries_text form lanes place w (events ++ e ∷ []) ≡ entries_text form lanes place w events ++ entry_text form lanes (length events + place) (run w place events) e
entries_push form lanes place w [] e = let here : place ≡ 0 + place = omega arith in append-nil (entry_text form lanes place w e) ∙ ap (λ n. entry_text form lanes n w e) here
entries_push form lanes place w (x ∷ events) e =
    let there : World = (step_of w place x).world in
    let first : List ℕ = entry_text form lanes place w x in
    let rest : List ℕ = entries_text form lanes (place + 1) there events in
    let at : length events + (place + 1) ≡ length (x ∷ events) + place = omega arith in
    ap (λ t. first ++ t) (entries_push form lanes (place + 1) there events e)
    ∙ sym (append_assoc first rest (entry_text form lanes (length events + (place + 1)) (run there (place + 1) events) e))
    ∙ (λ i. (first ++ rest) ++ entry_text form lanes (at i) (run there (add-one place i) events) e)

-- the lines of a history with one entry more
pub history_entries : (form : Form) (lanes : List (List ℕ)) (h : History) (e : Event)
    → entries_text form lanes 1 (opening_world h.config) (h.events ++ e ∷ []) ≡ entries_text form lanes 1 (opening_world h.config) h.events
    ++ entry_text form lanes (length h.events + 1) (world_of h) e
unfolding world_of
history_entries form lanes h e = entries_push form lanes 1 (opening_world h.config) h.events e
