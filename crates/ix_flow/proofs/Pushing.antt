-- One entry more: what it makes of the marks, of labels and of lowerings.
use Rattle.std.proofs.Common.{◌≡◌, ◌≤◌, ◌<◌, ◌+◌, ◌==◌, ◌&&◌, ℕ, zero, suc, Bool, true, false, List, [], ◌∷◌, ◌++◌, length, Option, Some, None, refl, if◌then◌else◌, sym, ap, ◌∙◌, arith}
use Rattle.std.{proofs.{Common.{subst, append-nil}, lemmas.{Bool.{eq-eqb, eqb-true, le-ltb, lt-ltb}, List.append_assoc}}, specs.Prelude.slice_get}
use Rattle.ix_label.specs.Category.{bottom}
use Rattle.ix_model.specs.{history.{AuditLog.of_process, Events.Event, Step.{step_of, run}}, world.World.{World, HoldingOf}}
use Rattle.ix_flow.specs.{Lowerings.{falls, first_fall, caller_label}, Marks.{marks_after, marks_from}, Origins.Marked}

-- ---- what holds of no entries, and of one more wherever it holds, holds of all
pub by_pushes : (P : List Event → Type 0) → P [] → ((events : List Event) (e : Event) → P events → P (events ++ e ∷ [])) → (events : List Event) → P events
by_pushes P none more events = go [] _ none
  where
    go : (done rest : List Event) → P done → P (done ++ rest)
    go done [] p = subst P (sym (append-nil done)) p
    go done (e ∷ rest) p = subst P (append_assoc done _ rest) (go _ _ (more _ e p))

-- what stands in a list stands there in what goes on from it
pub stays_there : {A : Type 0} (xs ys : List A) (n : ℕ) (x : A) → slice_get xs n ≡ Some x → slice_get (xs ++ ys) n ≡ Some x
stays_there [] ys n x is = cc
stays_there (y ∷ xs) ys zero x is = is
stays_there (y ∷ xs) ys (suc n) x is = stays_there xs ys n x is

-- what is added stands at the length of the list
pub stands_last : {A : Type 0} (xs : List A) (y : A) → slice_get (xs ++ y ∷ []) (length xs) ≡ Some y
stands_last [] y = refl
stands_last (x ∷ xs) y = stands_last xs y

-- ---- marks
pub marks_push : (w : World) (place : ℕ) (events : List Event) (e : Event) (ms : List (HoldingOf Marked))
    → marks_from w place (events ++ e ∷ []) ms ≡ marks_after (run w place events) (length events + place) e (marks_from w place events ms)
unfolding marks_from
marks_push w place [] e ms = ap (λ n. marks_after w n e ms) (omega arith)
marks_push w place (x ∷ events) e ms =
    marks_push (step_of w place x).world _ events e _
    ∙ ap (λ n. marks_after (run (step_of w place x).world (suc place) events) n e (marks_from (step_of w place x).world (suc place) events (marks_after w place x ms)))
    (omega arith)

-- ---- labels of callers
equal_not : (m n : ℕ) → (m ≡ n → ⊥) → (m == n) ≡ false
equal_not m n apart = go _ refl
  where
    go : (b : Bool) → (m == n) ≡ b → b ≡ false
    go false is = refl
    go true is = absurd (apart (eqb-true m n is))

-- an entry more changes none that stood
pub caller_before : (w : World) (place : ℕ) (events : List Event) (e : Event) (that : ℕ) → that < length events + place
    → caller_label w place (events ++ e ∷ []) that ≡ caller_label w place events that
unfolding caller_label
caller_before w place [] e that low = ap (λ b. if b then of_process (λ p. p.label) bottom (step_of w place e).world.frame e.pid else bottom) (equal_not _ _ (λ same. omega (arith, low, same)))
caller_before w place (x ∷ events) e that low = ap (λ l. if that == place then of_process (λ p. p.label) bottom (step_of w place x).world.frame x.pid else l)
    (caller_before (step_of w place x).world _ events e _ (omega (arith, low)))

-- and has its caller's
pub caller_at : (w : World) (place : ℕ) (events : List Event) (e : Event) (that : ℕ) → that ≡ length events + place
    → caller_label w place (events ++ e ∷ []) that ≡ of_process (λ p. p.label) bottom (step_of (run w place events) that e).world.frame e.pid
unfolding caller_label
caller_at w place [] e that is =
    let same : that ≡ place = omega (arith, is) in
    ap (λ b. if b then of_process (λ p. p.label) bottom (step_of w place e).world.frame e.pid else bottom) (eq-eqb that place same)
    ∙ ap (λ n. of_process (λ p. p.label) bottom (step_of w n e).world.frame e.pid) (sym same)
caller_at w place (x ∷ events) e that is =
    ap (λ b. if b then of_process (λ p. p.label) bottom (step_of w place x).world.frame x.pid else caller_label (step_of w place x).world (suc place) (events ++ e ∷ []) that)
    (equal_not that _ (λ same. omega (arith, is, same)))
    ∙ caller_at (step_of w place x).world (suc place) events e _ (omega (arith, is))

-- ---- lowerings
first_stays : (b : Bool) (place : ℕ) (x y : Option ℕ) (p : ℕ) → (if b then Some place else x) ≡ Some p → (x ≡ Some p → y ≡ Some p) → (if b then Some place else y) ≡ Some p
first_stays true place x y p is later = is
first_stays false place x y p is later = later is

first_isnt : (b : Bool) (place : ℕ) (x y z : Option ℕ) → (if b then Some place else x) ≡ None → (x ≡ None → y ≡ z) → (if b then Some place else y) ≡ z
first_isnt true place x y z none later = cc
first_isnt false place x y z none later = later none

-- where there was one, that stays the first
pub fall_before : (w : World) (place : ℕ) (events : List Event) (e : Event) (o after p : ℕ) → first_fall w place events o after ≡ Some p → first_fall w place (events ++ e ∷ []) o after ≡ Some p
unfolding first_fall
fall_before w place [] e o after p is = cc
fall_before w place (x ∷ events) e o after p is = first_stays _ _ _ _ p is
    (fall_before (step_of w place x).world _ events e o _ p)

-- where there was none, it is for the entry more to be the first
pub fall_at : (w : World) (place : ℕ) (events : List Event) (e : Event) (o after last : ℕ) → last ≡ length events + place → after < last → first_fall w place events o after ≡ None
    → first_fall w place (events ++ e ∷ []) o after ≡ (if falls (run w place events).frame (step_of (run w place events) last e).world.frame o then Some last else None)
unfolding first_fall
fall_at w place [] e o after last is later none =
    let same : place ≡ last = omega (arith, is) in
    ap (λ b. if b && falls w.frame (step_of w place e).world.frame o then Some place else None) (lt-ltb after place (omega (arith, is, later)))
    ∙ ap (λ n. if falls w.frame (step_of w n e).world.frame o then Some n else None) same
fall_at w place (x ∷ events) e o after last is later none = first_isnt _ _ _ _ _ none
    (fall_at (step_of w place x).world _ events e o _ _ (omega (arith, is)) later)

-- no entry is later than the last
pub none_later : (w : World) (place : ℕ) (events : List Event) (o after : ℕ) → length events + place ≤ suc after → first_fall w place events o after ≡ None
unfolding first_fall
none_later w place [] o after late = refl
none_later w place (x ∷ events) o after late =
    ap (λ b. if b && falls w.frame (step_of w place x).world.frame o then Some place else first_fall (step_of w place x).world (suc place) events o after) (le-ltb after place (omega (arith, late)))
    ∙ none_later (step_of w place x).world _ events o _ (omega (arith, late))
