-- Calls that are asked for one at a time, each by the answers to those before it.
use Rattle.std.specs.Prelude.{ℕ, List, [], ◌∷◌}
use Rattle.ix_model.specs.history.Events.{Op}
use Rattle.ix_model.specs.declared.reply.Reply.{Reply}

-- the line that a call comes from, who calls, and the call
pub record Asked : Type 0 where
  pub line : ℕ
  pub pid : ℕ
  pub op : Op

-- what a call was answered, with the bytes that it gave
pub record Answered : Type 0 where
  pub reply : Reply
  pub bytes : List ℕ

-- What asks for calls: nothing more is asked for, and this came of it; or this call is asked for, and each answer to it says what
-- asks from then on.
pub data Asking (R : Type 0) : Type 0 where
  Done : R → Asking R
  Ask : Asked → (Answered → Asking R) → Asking R

-- what stands next: what came of all, or the next call
pub data Next (R : Type 0) : Type 0 where
  Came : R → Next R
  Due : Asked → Next R

abbrev pub first : {R : Type 0} → Asking R → Next R
first (Done r) = Came r
first (Ask a more) = Due a

-- what asks once the first call is answered; where none is asked for, an answer changes nothing
abbrev pub heard : {R : Type 0} → Asking R → Answered → Asking R
heard (Done r) answer = Done r
heard (Ask a more) answer = more answer

abbrev pub all_heard : {R : Type 0} → Asking R → List Answered → Asking R
all_heard p [] = p
all_heard p (answer ∷ answers) = all_heard (heard p answer) answers

-- what stands next once the calls so far are answered so, in order
abbrev pub next : {R : Type 0} → Asking R → List Answered → Next R
next p answers = first (all_heard p answers)

-- the same, where what came of all is told otherwise
abbrev pub came_as : {A B : Type 0} → (A → B) → Next A → Next B
came_as f (Came r) = Came (f r)
came_as f (Due a) = Due a

-- a call stands next
abbrev pub IsDue : {R : Type 0} → Next R → Type 0
IsDue (Came r) = ⊥
IsDue (Due a) = Unit {0}

-- ---- one after the other
-- what asks, and after it what is asked for by what came of it
abbrev pub followed : {A B : Type 0} → Asking A → (A → Asking B) → Asking B
followed (Done r) more = more r
followed (Ask a later) more = Ask a (λ answer. followed (later answer) more)

-- the same calls, and something else that comes of them
abbrev pub mapped : {A B : Type 0} → (A → B) → Asking A → Asking B
mapped f (Done r) = Done (f r)
mapped f (Ask a later) = Ask a (λ answer. mapped f (later answer))
