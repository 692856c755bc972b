-- A seat between its calls: what it carries, and that each call leaves it at rest.
use Rattle.std.proofs.Common.{◌≡◌, ℕ, ◌+◌, ◌<◌, ◌≤◌, ◌⊎◌, List, [], ◌∷◌, length, Option, None, Some, refl, ap, sym, ◌∙◌, subst, arith, le_refl}
use mathlib.Core.List.{IsPrefix}
use Rattle.atomic_table.specs.{Table.{Me, Step, rest}, Seated.TableId}
use Rattle.ix_gate.specs.{declared.view.{View.View, Role.Role, Stage.{Stage, TheVariants.{Idle, Waits, Holds}}}, History.{entries_of, KeepsEnded}}
use Rattle.ix_gate.specs.{View.{HasNumber, number_of, with_ticket, with_look, with_free_look, with_miss, with_turn, Agrees, IsServed}, Rule.most_turns}
use Rattle.ix_gate.specs.{Steps.{Takes, FreeLooks}, Seat.{SeatState, LearnsServed}, AtRest.{taken_at, state_of, Carries, IsAtRest, HasLooked, TakesMachine}}
use Rattle.ix_gate.proofs.Passing.{carried}

module _ {M E : Type 0} where
  -- a seat that holds no turn is idle, and carries no slot
  pub idle_of : (st : Stage E) (slots : List (ℕ × Option M)) → taken_at st ≡ None → Carries st slots → (st ≡ Idle) × (slots ≡ [])
  idle_of Idle slots t r = (refl, r)
  idle_of (Waits k) slots t r = absurd r
  idle_of (Holds h) slots t r = absurd (cc t)

  -- a seat that holds the turn took that history, and its slot is empty
  pub holds_of : (st : Stage E) (slots : List (ℕ × Option M)) (h : List E) → taken_at st ≡ Some h → Carries st slots → (st ≡ Holds h) × (slots ≡ (0, None) ∷ [])
  holds_of Idle slots h t r = absurd (cc t)
  holds_of (Waits k) slots h t r = absurd r
  holds_of (Holds p) slots h t r = (ap Holds (cc t), r)

-- a seat at rest is so with other turns, where it has its base and its number
still_at_rest : {M B E : Type 0} (seat : E → ℕ) (number turns more : ℕ) (m n : Me (Option M) (View B E)) → IsAtRest seat number turns m → n.0.base ≡ m.0.base → n.0.role ≡ m.0.role
    → n.0.turns ≡ more → more ≤ most_turns → Carries n.0.stage n.1 → Agrees seat n.0 n.0.seen → IsAtRest seat number more n
still_at_rest seat number turns more m n s base role counted few carries agrees =
    record { based = (s.based.0, base ∙ s.based.1); numbered = role ∙ s.numbered; counted = counted; few = few; carries = carries; agrees = agrees }

module _ {M B E : Type 0} (base : M → B) (history : M → List E) (seat : E → ℕ) where
  -- a look that took the machine, and an exchange that took it out of the slot
  pub taking : (d w n p : Me (Option M) (View B E)) (found : ℕ) (r : Option M) (x : M) → HasLooked d.0 w.0 → w.1 ≡ [] → found ≡ d.0.ticket
      → Takes base history seat w n found (with_look w.0 found) → n.1 ≡ (0, r) ∷ rest n.1 → r ≡ Some x → p ≡ (n.0, (0, None) ∷ rest n.1)
      → TakesMachine base history seat d p x
  taking d w n p found r x looked free served t read is wrote =
      let here : Some t.machine ≡ r = ap (λ (q : List (ℕ × Option M)). carried q r) (sym (ap (λ (q : Me (Option M) (View B E)). q.1) t.now) ∙ read) in
      let same : t.machine ≡ x = cc (here, is) in
      let view : w.0 ≡ record (d.0) { looks = looked.0; look_found = looked.1 } = looked.3 in
      let low = looked.2 in
      let told : ((d.0.base ≡ None) ⊎ (d.0.base ≡ Some (base x))) × IsPrefix d.0.seen (history x) × Agrees seat d.0 (history x) =
      subst (λ (z : View B E × M). ((z.0.base ≡ None) ⊎ (z.0.base ≡ Some (base z.1))) × IsPrefix z.0.seen (history z.1) × Agrees seat z.0 (history z.1))
      (λ i. (view i, same i)) (t.based, t.begins, t.agrees) in record {
        looks = looked.0 + 1;
        now = wrote ∙ ((λ i. ((t.now i).0, (0, None) ∷ rest ((t.now i).1))) ∙ (λ i. (with_look (view i) (served i) (Holds (history (same i))), (0, None) ∷ free i)));
        more = omega arith;
        based = told.0;
        begins = told.1;
        agrees = told.2;
        entries = omega (arith, t.entries, ap (λ (y : M). length (history y)) same, served);
      }

  -- the same of a draw that found the number that is served
  pub taking_at_once : (m n p : Me (Option M) (View B E)) (found : ℕ) (r : Option M) (x : M) → m.1 ≡ []
      → Takes base history seat m n found (with_look (with_ticket m.0 found) found) → n.1 ≡ (0, r) ∷ rest n.1 → r ≡ Some x → p ≡ (n.0, (0, None) ∷ rest n.1)
      → TakesMachine base history seat (with_ticket m.0 found, m.1) p x
  taking_at_once m n p found r x free t read is wrote =
      taking (with_ticket m.0 found, m.1) (with_ticket m.0 found, m.1) n p found r x (m.0.looks, m.0.look_found, le_refl m.0.looks, refl) free refl
      record { machine = t.machine; now = t.now; based = t.based; begins = t.begins; agrees = t.agrees; entries = t.entries } read is wrote

  pub at_rest_after_take : (number turns t : ℕ) (m d n : Me (Option M) (View B E)) (x : M) → IsAtRest seat number turns m → turns < most_turns
      → d ≡ (with_ticket m.0 t, m.1) → TakesMachine base history seat d n x → IsAtRest seat number (turns + 1) n
  at_rest_after_take number turns t m d n x s room drew took =
      let now = took.now ∙ (λ i. (record ((drew i).0) { stage = Holds (history x); looks = took.looks; look_found = ((drew i).0).ticket }, (0, None) ∷ [])) in
      subst (IsAtRest seat number (turns + 1)) (sym now) (still_at_rest seat number turns _ m _ s refl refl (ap (λ (k : ℕ). k + 1) s.counted) (omega arith) refl s.agrees)

  pub at_rest_after_give : (number turns : ℕ) (m d n : Me (Option M) (View B E)) (x : M) → IsAtRest seat number turns m → d.0 ≡ m.0
      → n ≡ (with_turn seat d.0 (history x), []) → KeepsEnded seat d.0.ended (history x) → IsAtRest seat number turns n
  at_rest_after_give number turns m d n x s same gave ended =
      let now = gave ∙ (λ i. (with_turn seat (same i) (history x), [])) in
      subst (IsAtRest seat number turns) (sym now) (still_at_rest seat number turns _ m _ s refl refl s.counted s.few refl (
        λ k o. let is : number ≡ k = subst (λ (r : Role). HasNumber r k) s.numbered o in ap (λ (z : ℕ). entries_of seat z (history x)) (sym is ∙ sym (ap number_of s.numbered)),
        subst (λ (v : View B E). KeepsEnded seat v.ended (history x)) same ended,
      ))

module _ {M B E : Type 0} (seat : E → ℕ) where
  -- what a number that is served tells a seat between its calls
  pub learns : (gate : TableId) (number turns found : ℕ) (m : Me (Option M) (View B E)) (k : SeatState B E) (h : List E) → IsAtRest seat number turns m
      → state_of gate number turns m.0 ≡ k → IsServed m.0 found → length h ≤ found → LearnsServed k h found
  learns gate number turns found m k h s is t short = subst (λ (z : SeatState B E). LearnsServed z h found) is record {
    least = t.least;
    passed = λ some_turn. t.passed (let same = s.counted in omega arith);
    entries = short;
    alone = λ one. t.alone one number s.based.0 s.numbered s.based.1 ∙ s.counted;
  }

  -- the same of a look, where what it tells the seat that has learnt more holds of what that was before
  pub learns_by_look : (gate : TableId) (number turns found : ℕ) (st : Step (Option M)) (m l n : Me (Option M) (View B E)) (v : View B E) (k : SeatState B E) → IsAtRest seat number turns m
      → state_of gate number turns m.0 ≡ k → l ≡ (v, m.1) → FreeLooks seat st l found n → (IsServed v found → IsServed m.0 found) → LearnsServed k n.0.seen n.0.look_found
  learns_by_look gate number turns found st m l n v k s is learnt look known =
      subst (λ (q : Me (Option M) (View B E)). LearnsServed k q.0.seen q.0.look_found) (sym look.now)
      (learns gate number turns found m k _ s is (known (subst (λ (q : Me (Option M) (View B E)). IsServed q.0 found) learnt look.served)) look.entries)

  -- a look of a seat that has learnt more
  pub at_rest_after_look : (number turns found : ℕ) (st : Step (Option M)) (m l n : Me (Option M) (View B E)) (v : View B E) → IsAtRest seat number turns m
      → v.base ≡ m.0.base → v.role ≡ m.0.role → v.turns ≡ m.0.turns → v.stage ≡ m.0.stage
      → l ≡ (v, m.1) → FreeLooks seat st l found n → IsAtRest seat number turns n
  at_rest_after_look number turns found st m l n v s base_is role_is turns_is stage_is learnt look =
      let now = look.now ∙ (λ i. (with_free_look ((learnt i).0) found, (learnt i).1)) in
      subst (IsAtRest seat number turns) (sym now) (still_at_rest seat number turns _ m _ s base_is role_is (turns_is ∙ s.counted) s.few
      (subst (λ (z : Stage E). Carries z m.1) (sym stage_is) s.carries) (subst (λ (q : Me (Option M) (View B E)). Agrees seat q.0 q.0.seen) learnt look.agrees))

  pub at_rest_after_miss : (number turns ticket : ℕ) (m n : Me (Option M) (View B E)) → IsAtRest seat number turns m → n ≡ (with_miss m.0 ticket, m.1) → IsAtRest seat number turns n
  at_rest_after_miss number turns ticket m n s missed =
      subst (IsAtRest seat number turns) (sym missed) (still_at_rest seat number turns _ m _ s refl refl s.counted s.few s.carries s.agrees)
