-- What a seat has made of a history, one entry later; and how a seat goes on.
use Rattle.std.proofs.Common.{◌≡◌, ℕ, suc, ◌+◌, ◌==◌, ◌&&◌, Bool, true, List, [], ◌∷◌, ◌++◌, length, refl, sym, ap, ◌∙◌, arith, append-nil, append_assoc, if◌then◌else◌}
use Rattle.std.{specs.List.filter, proofs.lemmas.{Bool.{and_from, eq-eqb}, List.{Elements.filter-append, Folds.list_all-append}}}
use Rattle.ix_model.specs.{world.World.World, opening.Opening.opening_world, history.{Step.{step_of, run}, Events.Event, Made.Made}}
use Rattle.ix_model.specs.history.{History.{History, world_of, next, with_entry}, Seats.{made_of, replied, made_by, GoesOn}}

-- ---- what was made
-- the entry that comes last is answered by the world to which the others lead
pub replied-push : (w : World) (place : ℕ) (events : List Event) (e : Event) → replied w place (events ++ e ∷ []) ≡ replied w place events
    ++ made_of e (step_of (run w place events) (length events + place) e) ∷ []
replied-push w place [] e = let z : place ≡ 0 + place = omega arith in ap (λ n. made_of e (step_of w n e) ∷ []) z
replied-push w place (x ∷ events) e =
    let z : length events + suc place ≡ suc (length events) + place = omega arith in
    let rest : List Made = replied (step_of w place x).world (suc place) events in
    ap (λ l. made_of x (step_of w place x) ∷ l) (replied-push (step_of w place x).world (suc place) events e
    ∙ ap (λ n. rest ++ made_of e (step_of (run (step_of w place x).world (suc place) events) n e) ∷ []) z)

pub made_by-push : (seat : ℕ) (h : History) (e : Event) → e.seat ≡ seat → made_by seat (with_entry h e) ≡ made_by seat h ++ made_of e (next h e) ∷ []
unfolding made_by world_of
made_by-push seat h e own =
    let by : Made → Bool = λ m. m.event.seat == seat in
    let last = made_of e (next h e) in
    let here = eq-eqb e.seat seat own in
    ap (filter by) (replied-push _ 1 _ e)
    ∙ filter-append by (replied (opening_world h.config) 1 h.events) (last ∷ [])
    ∙ ap (λ b. filter by (replied (opening_world h.config) 1 h.events) ++ (if b then last ∷ [] else [])) here

-- ---- going on
pub goes_on_not : (seat : ℕ) (h : History) → GoesOn seat h h
goes_on_not seat h = record { config = refl; more = []; events = sym (append-nil h.events); own = refl }

pub goes_on_once : (seat : ℕ) (h : History) (e : Event) → e.seat ≡ seat → GoesOn seat h (with_entry h e)
goes_on_once seat h e own = record { config = refl; more = e ∷ []; events = refl; own = ap (λ b. b && true) (eq-eqb e.seat seat own) }

pub goes_on_further : (seat : ℕ) (h k l : History) → GoesOn seat h k → GoesOn seat k l → GoesOn seat h l
goes_on_further seat h k l p q =
    let by : Event → Bool = λ e. e.seat == seat in
    record {
      config = q.config ∙ p.config;
      more = p.more ++ q.more;
      events = q.events ∙ ap (λ es. es ++ q.more) p.events ∙ append_assoc h.events p.more q.more;
      own = list_all-append by p.more q.more ∙ and_from _ _ p.own q.own;
    }
