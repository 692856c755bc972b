-- What holds of every call that is asked for, whatever the answers are.
use Rattle.std.proofs.Common.{Bool, true, false, if◌then◌else◌}
use Rattle.ix_model.specs.declared.{refusal.Refusal.Refusal, reply.Reply.Reply}
use Rattle.ix_model.specs.declared.reply.Reply.TheVariants as reply
use Rattle.ix_asking.specs.{Asking.{Asked, Answered, Asking, Done, Ask, followed, mapped}, serving.Serving.if_refused}

-- each call that is asked for is such a call
abbrev pub AllOf : {R : Type 0} → (Asked → Type 0) → Asking R → Type 0
AllOf P (Done r) = Unit {0}
AllOf P (Ask a later) = P a × ((x : Answered) → AllOf P (later x))

pub all-mapped : (A B : Type 0) (P : Asked → Type 0) (f : A → B) (p : Asking A) → AllOf P p → AllOf P (mapped f p)
all-mapped A B P f (Done r) h = tt
all-mapped A B P f (Ask a later) h = (h.0, λ x. all-mapped A B P f (later x) (h.1 x))

pub all-followed : (A B : Type 0) (P : Asked → Type 0) (p : Asking A) (more : A → Asking B) → AllOf P p → ((r : A) → AllOf P (more r)) → AllOf P (followed p more)
all-followed A B P (Done r) more h k = k r
all-followed A B P (Ask a later) more h k = (h.0, λ x. all-followed A B P (later x) more (h.1 x) k)

pub all-weaker : (A : Type 0) (P Q : Asked → Type 0) (p : Asking A) → ((a : Asked) → P a → Q a) → AllOf P p → AllOf Q p
all-weaker A P Q (Done r) w h = tt
all-weaker A P Q (Ask a later) w h = (w a h.0, λ x. all-weaker A P Q (later x) w (h.1 x))

-- of what comes whether a call is refused or not
pub all-refused : (A : Type 0) (P : Asked → Type 0) (r : Reply) (refused : Refusal → Asking A) (passed : Asking A)
    → ((why : Refusal) → AllOf P (refused why)) → AllOf P passed → AllOf P (if_refused r refused passed)
all-refused A P (reply.No why) refused passed h k = h why
all-refused A P _ refused passed h k = k

pub all-either : (A : Type 0) (P : Asked → Type 0) (b : Bool) (p q : Asking A) → AllOf P p → AllOf P q → AllOf P (if b then p else q)
all-either A P true p q h k = h
all-either A P false p q h k = k
