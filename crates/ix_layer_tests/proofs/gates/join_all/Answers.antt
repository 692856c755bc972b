use Rattle.std.proofs.Common.{◌≡◌, ℕ, List, [], ◌∷◌, ◌++◌, None, refl, ap, sym, ◌∙◌, subst, inl, arith, append-nil, append_assoc}
use Rattle.std.{specs.Prelude.All, proofs.lemmas.List.{nil_from_length, Elements.{All-push, All-weaker, All-cons, All-nil, All-tail, All-same}}}
use Rattle.ix_gate.{specs.Seat.{SeatState, StandsFor, own_entries}, proofs.Joining.{still_stands, stands_too}}
use Rattle.ix_layer_tests.specs.declared.gates.Turn.{Turn}
use Rattle.ix_layer_tests.proofs.gates.join_all.Goals as goal

abbrev S : Type 0
S = SeatState (Unit {0}) Turn

pub loop-other-init : goal.loop-other-init
loop-other-init c =
    let all : c.args.seats.items ≡ c.in_ok-first.first ∷ c.next.new.self.rest.items = sym c.into_iter-rest.ensures.rest ∙ c.in_ok-first.ensures.items in
    let rest : c.next.new.self.rest.items ≡ c.into_iter-other-iterator.result.rest.items = ap (λ i. i.rest.items) (sym c.into_iter-other-iterator.ensures.into_iter_gives) in
    let Here : S → Type 0 = λ s. (s.gate ≡ c.args.gate.now.id) × (s.taken ≡ None) in
    let here : All Here (c.in_ok-first.first ∷ c.next.new.self.rest.items) = subst (All Here) all c.requires.ready in
    let first : Here c.in_ok-first.first = here 0 c.in_ok-first.first (omega arith) in (
      tt,
      tt,
      first.0,
      first.1,
      subst (All Here) rest (All-tail Here _ _ here),
      (
        c.in_ok-first.first ∷ [],
        all ∙ ap (λ l. c.in_ok-first.first ∷ l) rest,
        All-cons (λ s. StandsFor c.in_ok-first.first s.number) _ [] (inl refl) (All-nil (λ s. StandsFor c.in_ok-first.first s.number)),
      ),
    )

pub join-requires-clause-gate : goal.join-requires-clause-gate
join-requires-clause-gate c κs =
    let inv = c.loop-other.invariant in
    let here : (c.in-Some.other.gate ≡ c.args.gate.now.id) × (c.in-Some.other.taken ≡ None) =
    subst (All (λ (s : S). (s.gate ≡ c.args.gate.now.id) × (s.taken ≡ None))) c.in-Some.ensures.steps.0 inv.4 0 c.in-Some.other (omega arith) in
    (inv.2, here.0)

pub join-requires-clause-free : goal.join-requires-clause-free
join-requires-clause-free c κs =
    let inv = c.loop-other.invariant in
    let here : (c.in-Some.other.gate ≡ c.args.gate.now.id) × (c.in-Some.other.taken ≡ None) =
    subst (All (λ (s : S). (s.gate ≡ c.args.gate.now.id) × (s.taken ≡ None))) c.in-Some.ensures.steps.0 inv.4 0 c.in-Some.other (omega arith) in
    (inv.3, here.1)

pub loop-other-preserved : goal.loop-other-preserved
loop-other-preserved c =
    let inv = c.loop-other.invariant in
    let step = c.in-Some.ensures.steps.0 in
    let Here : S → Type 0 = λ s. (s.gate ≡ c.args.gate.now.id) × (s.taken ≡ None) in
    let here : All Here (c.in-Some.other ∷ c.next-in-loop-other.new.self.rest.items) = subst (All Here) step inv.4 in
    let made : List Turn = own_entries (λ (e : Turn). e.seat) c.in-Some.other in
    let ended : List (ℕ × List Turn) = (c.in-Some.other.number, made) ∷ c.in-Some.other.ended in
    let number : c.join.new.self.number ≡ c.loop-other.first.number = ap (λ (k : S). k.number) c.join.ensures.seat in
    let more : c.join.new.self.ended ≡ c.loop-other.first.ended ++ ended = ap (λ (k : S). k.ended) c.join.ensures.seat in
    let too : StandsFor c.join.new.self c.in-Some.other.number = stands_too c.loop-other.first c.join.new.self ended number more c.in-Some.other.number made (0, omega arith, refl) in (
      tt,
      tt,
      ap (λ (k : S). k.gate) c.join.ensures.seat ∙ inv.2,
      ap (λ (k : S). k.taken) c.join.ensures.seat ∙ inv.3,
      All-tail Here _ _ here,
      (
        inv.5.0 ++ c.in-Some.other ∷ [],
        inv.5.1 ∙ ap (λ l. inv.5.0 ++ l) step ∙ sym (append_assoc inv.5.0 (c.in-Some.other ∷ []) c.next-in-loop-other.new.self.rest.items),
        All-push (λ s. StandsFor c.join.new.self s.number) inv.5.0 c.in-Some.other
            (All-weaker (λ s. StandsFor c.loop-other.first s.number) (λ s. StandsFor c.join.new.self s.number)
            (λ s. still_stands c.loop-other.first c.join.new.self ended number more s.number) inv.5.0 inv.5.2)
            too,
      ),
    )

pub returns-clause-all : goal.returns-clause-all
returns-clause-all c =
    let inv = c.loop-other.invariant in
    let none : c.loop-other.other-iterator.rest.items ≡ [] = nil_from_length c.loop-other.other-iterator.rest.items (omega (arith, c.in-None.ensures.steps.0)) in
    All-same (λ (s : S). StandsFor c.loop-other.first s.number) _ _ (inv.5.1 ∙ ap (λ l. inv.5.0 ++ l) none ∙ append-nil inv.5.0) inv.5.2
