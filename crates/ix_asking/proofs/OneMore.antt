-- One call, and calls after others.
use Rattle.std.proofs.Common.{◌≡◌, ℕ, List, [], ◌∷◌, ◌++◌, refl, ap, sym, ◌∙◌, append_assoc, subst}
use Rattle.ix_model.specs.history.Made.{Made}
use Rattle.ix_asking.specs.Asking.{Asked, Asking, Done, Ask, Next, Came, Due, came_as, first, heard, all_heard}
use Rattle.ix_asking.specs.Runs.{entry_of, answer_of, answers_of, AsAsked, Makes}

pub heard_after : {R : Type 0} (p : Asking R) (made more : List Made) → all_heard p (answers_of (made ++ more)) ≡ all_heard (all_heard p (answers_of made)) (answers_of more)
heard_after p [] more = refl
heard_after p (m ∷ made) more = heard_after (heard p (answer_of m)) made more

pub asked_after : {R : Type 0} (seat : ℕ) (p : Asking R) (made more : List Made)
    → AsAsked seat p made → AsAsked seat (all_heard p (answers_of made)) more → AsAsked seat p (made ++ more)
asked_after seat p [] more h k = k
asked_after seat (Done r) (m ∷ made) more h k = absurd h
asked_after seat (Ask a later) (m ∷ made) more h k = (h.0, asked_after seat (later (answer_of m)) made more h.1 k)

asked_one : {R : Type 0} (seat : ℕ) (p : Asking R) (m : Made) (a : Asked) → first p ≡ Due a → m.event ≡ entry_of seat a → AsAsked seat p (m ∷ [])
asked_one seat (Done r) m a e at = cc
asked_one seat (Ask b later) m a e at = let same : b ≡ a = cc in (at ∙ ap (entry_of seat) (sym same), tt)

module _ {S : Type 0} (seat_of : S → ℕ) (made_of : S → List Made) (follows_of : S → S → Type 0) where
  -- A system made the call that stands next.
  pub makes-one : {R : Type 0} (p : Asking R) (old new : S) (m : Made) (a : Asked)
      → first p ≡ Due a → m.event ≡ entry_of (seat_of old) a
      → seat_of new ≡ seat_of old → made_of new ≡ made_of old ++ m ∷ [] → follows_of old new
      → Makes seat_of made_of follows_of p old new (m ∷ [])
  makes-one p old new m a e at seat made follows = record { seat = seat; made = made; asked = asked_one (seat_of old) p m a e at; follows = follows }

module _ {S : Type 0} (seat_of : S → ℕ) (made_of : S → List Made) (follows_of : S → S → Type 0)
    (transitive : (s t u : S) → follows_of s t → follows_of t u → follows_of s u) where
  -- A system that made the calls so far made more of them.
  pub makes-after : (R : Type 0) (p q : Asking R) (old mid new : S) (made more : List Made)
      → Makes seat_of made_of follows_of p old mid made → q ≡ all_heard p (answers_of made) → Makes seat_of made_of follows_of q mid new more
      → Makes seat_of made_of follows_of p old new (made ++ more)
  makes-after R p q old mid new made more h e k = record {
    seat = k.seat ∙ h.seat;
    made = k.made ∙ ap (λ xs. xs ++ more) h.made ∙ append_assoc (made_of old) made more;
    asked = asked_after (seat_of old) p made more h.asked
        (let Q : Asking R → Type 0 = λ r. AsAsked (seat_of old) r more in subst Q e
        (let T : ℕ → Type 0 = λ s. AsAsked s q more in subst T h.seat k.asked));
    follows = transitive old mid new h.follows k.follows;
  }

-- ---- what came of all
-- where it is told as it is, nothing changes
pub came_same : {R : Type 0} (n : Next R) → came_as (λ r. r) n ≡ n
came_same (Came r) = refl
came_same (Due a) = refl
