use Rattle.std.proofs.Common.{◌≡◌, ℕ, List, [], ◌∷◌, ◌++◌, refl, ap, sym, ◌∙◌, subst, inl, arith, append-nil, append_assoc}
use Rattle.std.{specs.Prelude.All, proofs.lemmas.List.{nil_from_length, Elements.{All-push, All-weaker, All-cons, All-nil, All-tail, All-same}}}
use Rattle.ix_model.specs.history.Events.{Event}
use Rattle.ix_gate.{specs.Seat.StandsFor, proofs.Joining.{still_stands, stands_too}}
use Rattle.ix_kernel.specs.Seen.{KSeatState, own}
use Rattle.ix_layer_tests.proofs.kernels.join_all.Goals as goal

pub loop-other-init : goal.loop-other-init
loop-other-init c =
    let all : c.args.seats.items ≡ c.in_ok-first.first ∷ c.next.new.self.rest.items = sym c.into_iter-rest.ensures.rest ∙ c.in_ok-first.ensures.items in
    let rest : c.next.new.self.rest.items ≡ c.into_iter-other-iterator.result.rest.items = ap (λ i. i.rest.items) (sym c.into_iter-other-iterator.ensures.into_iter_gives) in
    let Here : KSeatState → Type 0 = λ s. s.gate ≡ c.args.kernel.now.id in
    let here : All Here (c.in_ok-first.first ∷ c.next.new.self.rest.items) = subst (All Here) all c.requires.ready in (
      tt,
      tt,
      here 0 c.in_ok-first.first (omega arith),
      subst (All Here) rest (All-tail Here _ _ here),
      (
        c.in_ok-first.first ∷ [],
        all ∙ ap (λ l. c.in_ok-first.first ∷ l) rest,
        All-cons (λ s. StandsFor c.in_ok-first.first s.number) _ [] (inl refl) (All-nil (λ s. StandsFor c.in_ok-first.first s.number)),
      ),
    )

pub loop-other-preserved : goal.loop-other-preserved
loop-other-preserved c =
    let inv = c.loop-other.invariant in
    let step = c.in-Some.ensures.steps.0 in
    let Here : KSeatState → Type 0 = λ s. s.gate ≡ c.args.kernel.now.id in
    let here : All Here (c.in-Some.other ∷ c.next-in-loop-other.new.self.rest.items) = subst (All Here) step inv.3 in
    let ended : List (ℕ × List Event) = (c.meet.new.other.number, own c.meet.new.other) ∷ c.meet.new.other.ended in
    let number : c.join.new.self.number ≡ c.loop-other.first.number = ap (λ (k : KSeatState). k.number) c.join.ensures.seat ∙ ap (λ (k : KSeatState). k.number) c.meet.ensures.seat in
    let more : c.join.new.self.ended ≡ c.loop-other.first.ended ++ ended = ap (λ (k : KSeatState). k.ended) c.join.ensures.seat ∙ ap (λ (k : KSeatState). k.ended ++ ended) c.meet.ensures.seat in
    let other : c.meet.new.other.number ≡ c.in-Some.other.number = ap (λ (k : KSeatState). k.number) c.meet.ensures.other in
    let too : StandsFor c.join.new.self c.meet.new.other.number =
    stands_too c.loop-other.first c.join.new.self ended number more c.meet.new.other.number (own c.meet.new.other) (0, omega arith, refl) in (
      tt,
      tt,
      ap (λ (k : KSeatState). k.gate) c.join.ensures.seat ∙ ap (λ (k : KSeatState). k.gate) c.meet.ensures.seat ∙ inv.2,
      All-tail Here _ _ here,
      (
        inv.4.0 ++ c.in-Some.other ∷ [],
        inv.4.1 ∙ ap (λ l. inv.4.0 ++ l) step ∙ sym (append_assoc inv.4.0 (c.in-Some.other ∷ []) c.next-in-loop-other.new.self.rest.items),
        All-push (λ s. StandsFor c.join.new.self s.number) inv.4.0 c.in-Some.other
            (All-weaker (λ s. StandsFor c.loop-other.first s.number) (λ s. StandsFor c.join.new.self s.number)
            (λ s. still_stands c.loop-other.first c.join.new.self ended number more s.number) inv.4.0 inv.4.2)
            (subst (StandsFor c.join.new.self) other too),
      ),
    )

pub returns-clause-all : goal.returns-clause-all
returns-clause-all c =
    let inv = c.loop-other.invariant in
    let none : c.loop-other.other-iterator.rest.items ≡ [] = nil_from_length c.loop-other.other-iterator.rest.items (omega (arith, c.in-None.ensures.steps.0)) in
    All-same (λ (s : KSeatState). StandsFor c.loop-other.first s.number) _ _ (inv.4.1 ∙ ap (λ l. inv.4.0 ++ l) none ∙ append-nil inv.4.0) inv.4.2
