use Rattle.std.proofs.Common.{rules, refl, ap, sym, ◌∙◌, subst}
use Rattle.ix_gate.specs.AtRest.{IsAtRest}
use Rattle.ix_gate.proofs.{Looking.free_look_allowed, Meeting.{note_allowed, take_note_allowed}, Resting.{idle_of, at_rest_after_look, learns_by_look}}
use Rattle.ix_gate.proofs.seat.Seat.meet.Goals as goal

pub split_seat-note-requires : goal.split_seat-note-requires
split_seat-note-requires g c =
    let free = idle_of _ _ (ap (λ k. k.taken) c.other.view_is ∙ c.requires.free.1) c.other.invariant.carries in
    (search rules, search rules, note_allowed _ _ _ _ _ _ _ free.0)

pub join_seat-requires : goal.join_seat-requires
join_seat-requires g c =
    let free = idle_of _ _ (ap (λ k. k.taken) c.self.view_is ∙ c.requires.free.0) c.self.invariant.carries in
    (search rules, search rules, search rules, search rules, take_note_allowed _ _ _ _ _ _ _ _ _ free.0 (ap (λ m. m.0.stage) c.split_seat-note.ensures.4))

pub load-requires : goal.load-requires
load-requires g c =
    let free = (idle_of _ _ (ap (λ k. k.taken) c.self.view_is ∙ c.requires.free.0) c.self.invariant.carries).0 in
    (search rules, search rules, free_look_allowed _ _ _ _ _ _ _ _ (ap (λ m. m.0.stage) c.join_seat.ensures.2 ∙ free))

pub invariant_of-self : goal.invariant_of-self
invariant_of-self g c = at_rest_after_look _ _ _ _ _ _ _ _ _ c.self.invariant refl refl refl refl c.join_seat.ensures.2 c.load.ensures.2

pub invariant_of-other : goal.invariant_of-other
invariant_of-other g c = subst (IsAtRest g.M.Machine.seat c.other.inside.number c.other.inside.turns) (sym c.split_seat-note.ensures.2) c.other.invariant

pub returns-clause-served : goal.returns-clause-served
returns-clause-served g c =
    learns_by_look _ _ _ _ _ _ _ _ _ _ _ c.self.invariant c.self.view_is c.join_seat.ensures.2 c.load.ensures.2 (λ t. record { least = t.least; passed = t.passed; alone = t.alone })
