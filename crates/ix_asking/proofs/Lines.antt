-- The entries that were made are those that a lane's definition says.
use Rattle.std.proofs.Common.{◌≡◌, ℕ, List, [], ◌∷◌, ◌++◌, Some, refl, ap, sym, ◌∙◌}
use Rattle.ix_model.specs.history.Made.{Made}
use Rattle.ix_asking.specs.{Asking.{Asked, Asking, Done, Ask, Answered, Came, Due, followed, next}, Runs.{entry_of, answer_of, answers_of, AsAsked}}
use Rattle.ix_asking.specs.Lines.{Calls, calls_then, events_of, with_entry_first, with_entries_first}

-- a line that is done: its entries, and then what comes after it
pub calls-done : (R : Type 0) (seat : ℕ) (p : Asking R) (made : List Made) (r : R) (later : List Answered) (after : R → List Answered → Calls)
    → AsAsked seat p made → next p (answers_of made) ≡ Came r
    → calls_then seat p (answers_of made ++ later) after ≡ with_entries_first (events_of made) (after r later)
calls-done R seat (Done s) [] r later after h e = let same : s ≡ r = cc in ap (λ t. after t later) same
calls-done R seat (Done s) (m ∷ made) r later after h e = absurd h
calls-done R seat (Ask a more) [] r later after h e = cc
calls-done R seat (Ask a more) (m ∷ made) r later after h e =
    ap (λ f. with_entry_first f (calls_then seat (more (answer_of m)) (answers_of made ++ later) after)) (sym h.0)
    ∙ ap (with_entry_first m.event) (calls-done R seat (more (answer_of m)) made r later after h.1 e)

-- a line that is cut off: its entries, and the one that comes next
pub calls-cut : (R : Type 0) (seat : ℕ) (p : Asking R) (made : List Made) (a : Asked) (after : R → List Answered → Calls)
    → AsAsked seat p made → next p (answers_of made) ≡ Due a
    → calls_then seat p (answers_of made) after ≡ record { entries = events_of made; next = Some (entry_of seat a) }
calls-cut R seat (Done s) [] a after h e = cc
calls-cut R seat (Done s) (m ∷ made) a after h e = absurd h
calls-cut R seat (Ask b more) [] a after h e =
    let same : b ≡ a = cc in ap (λ c. record { entries = []; next = Some (entry_of seat c) }) same
calls-cut R seat (Ask b more) (m ∷ made) a after h e =
    ap (λ f. with_entry_first f (calls_then seat (more (answer_of m)) (answers_of made) after)) (sym h.0)
    ∙ ap (with_entry_first m.event) (calls-cut R seat (more (answer_of m)) made a after h.1 e)

-- one line and what follows it, as one
pub calls-followed : (A B : Type 0) (seat : ℕ) (p : Asking A) (more : A → Asking B) (answers : List Answered) (after : B → List Answered → Calls)
    → calls_then seat (followed p more) answers after ≡ calls_then seat p answers (λ r rest. calls_then seat (more r) rest after)
calls-followed A B seat (Done r) more answers after = refl
calls-followed A B seat (Ask a later) more [] after = refl
calls-followed A B seat (Ask a later) more (x ∷ answers) after =
    ap (with_entry_first (entry_of seat a)) (calls-followed A B seat (later x) more answers after)
