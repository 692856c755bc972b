use Rattle.std.proofs.Common.{ap, ◌∙◌}
use Rattle.ix_kernel.{specs.Systems.{SystemState, made_at, SeatGoesOn}, proofs.Seated.{meet_goes, made_same, still_fits}}
use Rattle.ix_kernel.proofs.system.SeatSys.meet.Goals as goal

pub invariant_of-self : goal.invariant_of-self
invariant_of-self g c = still_fits _ _ (meet_goes _ _ _ _ c.meet.ensures.seen.0 c.meet.ensures.seat) c.self.invariant

pub returns-clause-made : goal.returns-clause-made
returns-clause-made g c =
    let goes : SeatGoesOn c.self.inside.seat c.meet.new.self = meet_goes _ _ _ _ c.meet.ensures.seen.0 c.meet.ensures.seat in
    made_same _ _ goes c.meet.ensures.own ∙ ap (λ (s : SystemState). made_at s.seat) c.self.view_is
