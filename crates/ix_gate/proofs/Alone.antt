-- At a gate of one seat no turn is under way but its own.
use Rattle.std.proofs.Common.{◌≡◌, ℕ, ◌<◌, List, Option, refl, ap, sym, ◌∙◌, subst, arith, le_refl}
use mathlib.Core.Logic.{dite}
use mathlib.Core.Option.{Option as Home, some}
use native.Mathlib.Decide.{ℕ_discrete}
use lib.ListN.{get_elem?}
use Rattle.atomic_table.specs.Table.{State}
use Rattle.ix_gate.specs.{declared.view.{View.View, Role.{Role, TheVariants.Numbered}, Stage.{Stage, TheVariants.{Idle, Waits, Holds}}}, View.HasNumber}
use Rattle.ix_gate.specs.Rule.{total_turns, IsNumbered, Book, HasTicket, Stands}
use Rattle.ix_gate.proofs.Views.{same_at, Rule}

module _ {M B E : Type 0} (base_of : M → B) (history_of : M → List E) (seat : E → ℕ) (base : B) (seats : ℕ) where
  -- a seat with a ticket has a number
  ticket_number : (queue : ℕ → ℕ) (served next : ℕ) (published : List E) (homes : List (Home (Option M))) (i : ℕ) (r : Role) (st : Stage E)
      → HasTicket served served st → Stands queue served next published homes i r st → IsNumbered r
  ticket_number queue served next published homes i r Idle o k = absurd o
  ticket_number queue served next published homes i r (Waits t) o k = k.3
  ticket_number queue served next published homes i r (Holds h) o k = k.2

  -- at a gate of one seat, where it has no ticket, all of its turns were served
  pub alone_served : (s : State (Option M) (View B E)) (r : Rule base_of history_of seat base seats s) (id n : ℕ) (v : View B E) → get_elem? s.views id ≡ some v
      → v.stage ≡ Idle → v.role ≡ Numbered n → seats ≡ 1
      → (r.book.served ≡ r.book.next) × (r.book.next ≡ v.turns)
  alone_served s r id n v at idle is one =
      let g : Book E = r.book in
      let few = r.few_seats in
      let ordered = r.ordered in
      let f = r.each id v at in
      let mine = f.number n (subst (λ (x : Role). HasNumber x n) (sym is) refl) in
      let lt : n < g.made = mine.1 in
      let first : n ≡ 0 = omega arith in
      let made : g.made ≡ 1 = omega arith in
      let turns : total_turns g.turns 1 ≡ v.turns = let a : g.turns 0 ≡ v.turns = subst (λ (z : ℕ). g.turns z ≡ v.turns) first mine.2 in omega arith in (
        dite (ℕ_discrete g.served g.next) (λ e. e) (λ ne.
            let q = r.queued g.served (le_refl g.served) (omega arith) in
            let h = r.each (g.queue g.served) q.0 q.1 in
            let k = ticket_number g.queue g.served g.next g.published s.homes (g.queue g.served) q.0.role q.0.stage q.2 h.stands in
            let its = h.number k.0 (subst (λ (x : Role). HasNumber x k.0) (sym k.1) refl) in
            let its_lt : k.0 < g.made = its.1 in
            let same : g.queue g.served ≡ id = sym its.0 ∙ (ap g.owner (let z : k.0 ≡ n = omega arith in z) ∙ mine.0) in
            absurd (subst (λ (z : Stage E). HasTicket g.served g.served z) (ap (λ (z : View B E). z.stage) (same_at s.views (g.queue g.served) id q.0 v q.1 at same) ∙ idle) q.2)),
        r.counted ∙ (ap (total_turns g.turns) made ∙ turns),
      )
