-- What is left of a table where one seat has ended all others.
use Rattle.std.proofs.Common.{◌≡◌, ℕ, ◌<◌, List, [], ◌++◌, get_or, Option, None, Some, refl, ap, sym, ◌∙◌, subst, ⊎_elim, inl, inr, arith}
use Rattle.std.{specs.Prelude.{All, Contains}, proofs.lemmas.List.{append-nil, Elements.Contains-get_or}}
use mathlib.Core.Logic.{dite}
use mathlib.Core.Option.{Option as Home, some, some-injective}
use native.Mathlib.Decide.{dec_lt}
use lib.ListN.{get_elem?}
use Rattle.atomic_table.specs.{Table.{State, Me, Final, Seen}, Seated.TableId}
use Rattle.ix_gate.specs.{declared.view.{View.View, Role.Role, Stage.TheVariants.Idle}, History.entries_of, View.HasNumber, Rule.{Book, Stands, IsKept}}
use Rattle.ix_gate.specs.{Seat.{SeatState, StandsFor}, AtRest.{IsAtRest, state_of}}
use Rattle.ix_gate.proofs.{Entries.{entries_of-rest, entries_of-front, nil_from_entries, entries_of-has}, Views.{same_at, Rule}, Resting.idle_of}

module _ {M B E : Type 0} (base_of : M → B) (history_of : M → List E) (seat : E → ℕ) (base : B) (seats : ℕ) where
  -- the slot has a machine, with the base and the history that the seat knows, and all of that history is by numbers that the seat stands for
  abbrev pub Leaves : SeatState B E → Option M → Type 0
  Leaves k x = (m : M) × (x ≡ Some m) × (k.base ≡ Some (base_of m)) × (history_of m ≡ k.seen) × All (λ e. StandsFor k (seat e)) (history_of m)

  -- who has the number of a seat that stands for it is that seat
  its_owner : (g : Book E) (s : State (Option M) (View B E)) (r : Rule base_of history_of seat base seats s) (id : ℕ) (m : Me (Option M) (View B E))
      (gate : TableId) (number turns n : ℕ) → get_elem? s.views id ≡ some m.0 → IsAtRest seat number turns m
      → StandsFor (state_of gate number turns m.0) n → (r.book.owner n ≡ id) × (entries_of seat n m.0.seen ≡ entries_of seat n r.book.published)
  its_owner g s r id m gate number turns n at s' (inl is) = let f = r.each id m.0 at in let o : HasNumber m.0.role n = subst (λ (z : Role). HasNumber z n) (sym s'.numbered) (sym is) in
      ((f.number n o).0, f.agrees.0 n o ∙ sym (f.number n o).3)
  its_owner g s r id m gate number turns n at s' (inr (es, has)) = let f = r.each id m.0 at in ((f.ended n es has).0, f.agrees.1 n es has ∙ sym (f.ended n es has).2)

  left_kept : (s : State (Option M) (View B E)) (r : Rule base_of history_of seat base seats s) (id : ℕ) (m : Me (Option M) (View B E)) (gate : TableId)
      (number turns : ℕ) (xs : List (Option M)) (x : Option M) → get_elem? s.views id ≡ some m.0
      → ((k : ℕ) (y : Option M) → get_elem? s.homes k ≡ some (some y) → get_elem? xs k ≡ some y) → IsAtRest seat number turns m → m.0.stage ≡ Idle
      → ((n : ℕ) → n < seats → StandsFor (state_of gate number turns m.0) n) → get_elem? xs 0 ≡ some x
      → IsKept base_of history_of base r.book.published s.homes s.views → Leaves (state_of gate number turns m.0) x
  left_kept s r id m gate number turns xs x at home known idle all there (inl (y, is, has, based)) =
      let g : Book E = r.book in
      let f = r.each id m.0 at in
      let few = r.few_seats in
      let seen = f.seen in
      let nothing : (n : ℕ) → entries_of seat n (seen.0) ≡ [] = λ n. entries_of-rest seat n m.0.seen g.published seen (dite (dec_lt n g.made)
      (λ l. (its_owner g s r id m gate number turns n at known (all n (omega arith))).1)
      (λ l. let none_there = r.unmade n (omega arith) in entries_of-front seat n m.0.seen g.published seen none_there ∙ sym none_there)) in
      let whole : g.published ≡ m.0.seen = sym seen.1 ∙ (ap (λ z. m.0.seen ++ z) (nil_from_entries seat (seen.0) nothing) ∙ append-nil m.0.seen) in
      let stands : (e : E) → Contains (history_of y) e → StandsFor (state_of gate number turns m.0) (seat e) = λ e h. dite (dec_lt (seat e) g.made)
      (λ l. all (seat e) (omega arith))
      (λ l. absurd (entries_of-has seat e (history_of y) h (ap (entries_of seat (seat e)) has ∙ r.unmade (seat e) (omega arith)))) in (
        y,
        some-injective x (Some y) (sym there ∙ home 0 (Some y) (ap (λ (hs : List (Home (Option M))). get_elem? hs 0) is)),
        ⊎_elim (λ (e : m.0.base ≡ None). absurd (cc (sym e ∙ known.based.1))) (λ (e : m.0.base ≡ Some base). e ∙ ap Some (sym based)) f.based,
        has ∙ whole,
        λ k d lt. stands (get_or (history_of y) k d) (Contains-get_or (history_of y) k d lt),
      )
  left_kept s r id m gate number turns xs x at home known idle all there (inr (i, u, h, away, other, holds)) =
      let g : Book E = r.book in
      let few = r.few_seats in
      let q = r.each i u other in
      let k = subst (Stands g.queue g.served g.next g.published s.homes i u.role) holds q.stands in
      let n : ℕ = k.2.0 in
      let its = q.number n (subst (λ (z : Role). HasNumber z n) (sym k.2.1) refl) in
      let made : n < g.made = its.1 in
      let same : i ≡ id = sym its.0 ∙ (its_owner g s r id m gate number turns n at known (all n (omega arith))).0 in
      absurd (cc (sym holds ∙ (ap (λ (v : View B E). v.stage) (same_at s.views i id u m.0 other at same) ∙ idle)))

  pub closes : (id : ℕ) (m : Me (Option M) (View B E)) (gate : TableId) (number turns : ℕ) (k : SeatState B E) (ws : List ℕ) (xs : List (Option M))
      (x : Option M) → Final (Seen (Rule base_of history_of seat base seats) id m.0) ws xs
      → IsAtRest seat number turns m → state_of gate number turns m.0 ≡ k → k.taken ≡ None → ((n : ℕ) → n < seats → StandsFor k n) → get_elem? xs 0 ≡ some x → Leaves k x
  closes id m gate number turns k ws xs x final known is free all there =
      subst (λ (z : SeatState B E). Leaves z x) is (left_kept final.0 final.1.0 id m gate number turns xs x final.1.1 final.4 known
      (idle_of m.0.stage m.1 (ap (λ z. z.taken) is ∙ free) known.carries).0
      (λ n l. subst (λ (z : SeatState B E). StandsFor z n) (sym is) (all n l)) there final.1.0.kept)
