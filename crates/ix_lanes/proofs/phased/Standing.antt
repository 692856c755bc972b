-- What a run that stands for entries has asked for, as calls.
use Rattle.std.proofs.Common.{◌≡◌, ℕ, suc, List, [], ◌∷◌, ◌++◌, Some, None, refl, sym, ap, ◌∙◌, append-nil}
use Rattle.ix_model.specs.{history.{Events.Event, Made.Made, Systems.FullFor}, declared.reply.Answer.Answer}
use Rattle.ix_asking.{specs.Asking.{Asking, Ask, Asked, Next, Came, Due, all_heard, next}, specs.Lines.{calls_then, events_of, no_calls}}
use Rattle.ix_asking.{specs.Runs.{answer_of, answers_of, AsAsked, entry_of}, proofs.Lines.{calls-cut, calls-done}}
use Rattle.ix_asking.specs.Asking as asking
use Rattle.ix_lanes.specs.running.{Phases.{asks_before, calls_before}, Runs.{CutOff, IsStoppedBy, Ran, StandsFor}}

-- ---- all that is asked for is made
pub calls_all : {R : Type 0} (seat : ℕ) (p : Asking R) (made : List Made) (r : R) → AsAsked seat p made → next p (answers_of made) ≡ Came r
    → calls_then seat p (answers_of made) no_calls ≡ record { entries = events_of made; next = None }
calls_all {R} seat p made r asked came =
    ap (λ answers. calls_then seat p answers no_calls) (sym (append-nil (answers_of made)))
    ∙ calls-done R seat p made r [] no_calls asked came
    ∙ ap (λ es. record { entries = es; next = None }) (append-nil (events_of made))

pub stands_calls : (run : Ran) (made : List Made) → StandsFor run made → calls_before run.script run.lane run.done (answers_of made) ≡ record { entries = events_of made; next = None }
stands_calls run made h = calls_all run.lane (asks_before run.script run.lane run.done) made run.names h.asked h.came

-- ---- a further call is asked for
due_of : {R : Type 0} (n : Next R) (stop : Answer) → IsStoppedBy n stop → (a : Asked) × (n ≡ Due a) × FullFor a.op stop
due_of (Came r) stop h = absurd h
due_of (Due a) stop h = (a, refl, h)

pub cut_calls : (run : Ran) (made : List Made) (stop : Answer) → CutOff run made stop
    → (e : Event) × (calls_before run.script run.lane (suc run.done) (answers_of made) ≡ record { entries = events_of made; next = Some e }) × FullFor e.op stop
cut_calls run made stop h =
    let due = due_of (next (asks_before run.script run.lane (suc run.done)) (answers_of made)) stop h.stopped in
    (entry_of run.lane due.0, calls-cut _ run.lane (asks_before run.script run.lane (suc run.done)) made due.0 no_calls h.asked due.1, due.2)

-- ---- a part of what is asked for
-- the entries that were made are those that are asked for so far
pub asked_entries : {R : Type 0} (seat : ℕ) (p : Asking R) (made : List Made) → AsAsked seat p made → (calls_then seat p (answers_of made) no_calls).entries ≡ events_of made
asked_entries seat (asking.Done r) [] h = refl
asked_entries seat (asking.Done r) (m ∷ made) h = absurd h
asked_entries seat (Ask a later) [] h = refl
asked_entries seat (Ask a later) (m ∷ made) h =
    (λ i. sym h.0 i ∷ asked_entries seat (later (answer_of m)) made h.1 i)

-- what was made after other entries is what is asked for after them
pub asked_rest : {R : Type 0} (seat : ℕ) (p : Asking R) (made more : List Made) → AsAsked seat p (made ++ more) → AsAsked seat (all_heard p (answers_of made)) more
asked_rest seat p [] more h = h
asked_rest seat (asking.Done r) (m ∷ made) more h = absurd h
asked_rest seat (Ask a later) (m ∷ made) more h = asked_rest seat (later (answer_of m)) made more h.1
