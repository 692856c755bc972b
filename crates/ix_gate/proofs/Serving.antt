-- What a number that is served, or comes next, tells a seat without a ticket.
use Rattle.std.proofs.Common.{◌≡◌, ℕ, ◌≤◌, List, length, Option, ◌∙◌, subst, arith}
use mathlib.Core.Option.{some}
use lib.ListN.{get_elem?}
use Rattle.atomic_table.specs.Table.{State}
use Rattle.ix_gate.specs.{declared.view.{View.View, Stage.TheVariants.Idle}, View.IsServed, Rule.DrewLast}
use Rattle.ix_gate.proofs.{Prefixes.prefix_length, Alone.alone_served, Views.{seats_known, Rule}}

module _ {M B E : Type 0} (base_of : M → B) (history_of : M → List E) (seat : E → ℕ) (base : B) (seats : ℕ) where
  pub is_served : (s : State (Option M) (View B E)) (r : Rule base_of history_of seat base seats s) (id : ℕ) (v : View B E) (found : ℕ)
      → get_elem? s.views id ≡ some v → v.stage ≡ Idle → r.book.served ≤ found → found ≤ r.book.next → IsServed v found
  is_served s r id v found at idle low high =
      let f = r.each id v at in
      let looked = f.look_found in record {
        least = omega arith;
        passed = λ some_turn. let before = subst (DrewLast r.book.served v.turns v.ticket) idle f.drew some_turn in omega arith;
        alone = λ one k b is based. let a = alone_served base_of history_of seat base seats s r id k v at idle is (seats_known v.base v.seats seats b f.sized based ∙ one) in
            let all = a.0 in let turns = a.1 in omega arith;
      }

  pub seen_served : (s : State (Option M) (View B E)) (r : Rule base_of history_of seat base seats s) (id : ℕ) (v : View B E) → get_elem? s.views id ≡ some v → length v.seen ≤ r.book.served
  seen_served s r id v at = omega (arith, prefix_length v.seen r.book.published (r.each id v at).seen, r.short)
