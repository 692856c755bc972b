use Rattle.std.proofs.Common.{rules, refl, ap, ◌∙◌}
use Rattle.ix_gate.proofs.{Looking.free_look_allowed, Meeting.end_allowed, Resting.{idle_of, at_rest_after_look, learns_by_look}}
use Rattle.ix_gate.proofs.seat.Seat.join.Goals as goal

pub join_seat-requires : goal.join_seat-requires
join_seat-requires g c =
    let free = idle_of _ _ (ap (λ k. k.taken) c.self.view_is ∙ c.requires.free.0) c.self.invariant.carries in
    let done = idle_of _ _ (ap (λ k. k.taken) c.other.view_is ∙ c.requires.free.1) c.other.invariant.carries in
    (search rules, search rules, done.1, search rules, end_allowed _ _ _ _ _ _ _ _ _ _ free.0 done.0 c.other.invariant.numbered)

pub load-requires : goal.load-requires
load-requires g c =
    let free = (idle_of _ _ (ap (λ k. k.taken) c.self.view_is ∙ c.requires.free.0) c.self.invariant.carries).0 in
    (search rules, search rules, free_look_allowed _ _ _ _ _ _ _ _ (ap (λ m. m.0.stage) c.join_seat.ensures.2 ∙ free))

pub invariant_of-self : goal.invariant_of-self
invariant_of-self g c = at_rest_after_look _ _ _ _ _ _ _ _ _ c.self.invariant refl refl refl refl c.join_seat.ensures.2 c.load.ensures.2

pub returns-clause-served : goal.returns-clause-served
returns-clause-served g c =
    learns_by_look _ _ _ _ _ _ _ _ _ _ _ c.self.invariant c.self.view_is c.join_seat.ensures.2 c.load.ensures.2 (λ t. record { least = t.least; passed = t.passed; alone = t.alone })
