-- What is made of what is asked for first, where something follows.
use Rattle.std.proofs.Common.{◌≡◌, ℕ, List, [], ◌∷◌, ap}
use Rattle.ix_model.specs.history.Made.{Made}
use Rattle.ix_asking.specs.Asking.{Asked, Asking, Ask, Answered, Next, Came, Due, all_heard, first, followed, heard, mapped, next}
use Rattle.ix_asking.specs.Asking as asking
use Rattle.ix_asking.specs.Runs.{answer_of, answers_of, AsAsked}

-- ---- where something follows
pub asked_followed : {A B : Type 0} (more : A → Asking B) (seat : ℕ) (p : Asking A) (made : List Made) → AsAsked seat p made → AsAsked seat (followed p more) made
asked_followed more seat p [] h = tt
asked_followed more seat (asking.Done r) (m ∷ made) h = absurd h
asked_followed more seat (Ask a later) (m ∷ made) h = (h.0, asked_followed more seat (later (answer_of m)) made h.1)

-- once it has come to its end, what follows is left
pub heard_followed : {A B : Type 0} (more : A → Asking B) (seat : ℕ) (p : Asking A) (made : List Made) (r : A) → AsAsked seat p made → next p (answers_of made) ≡ Came r
    → all_heard (followed p more) (answers_of made) ≡ more r
heard_followed more seat (asking.Done s) [] r h e = let same : s ≡ r = cc in ap more same
heard_followed more seat (asking.Done s) (m ∷ made) r h e = absurd h
heard_followed more seat (Ask a later) [] r h e = cc
heard_followed more seat (Ask a later) (m ∷ made) r h e = heard_followed more seat (later (answer_of m)) made r h.1 e
