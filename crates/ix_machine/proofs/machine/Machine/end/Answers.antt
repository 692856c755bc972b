use Rattle.std.proofs.Common.{◌≡◌, sym, ap, subst, ◌∙◌}
use Rattle.ix_model.specs.world.World.{World, lives}
use Rattle.ix_fcalls.specs.Around.{with_who}
use Rattle.ix_machine.proofs.{Ends.{put_lives, end_asks, ends_there, leaves_there, joined_so}, Moved.parts_joined}
use Rattle.ix_machine.proofs.machine.Machine.end.Goals as goal

pub let_go-requires : goal.let_go-requires
let_go-requires g c = (
  c.requires.1.0,
  (
    parts_joined _ _ _ _ c.self.invariant (c.self.view_is ∙ c.requires.0),
    (
      subst (λ (w : World). with_who w.frame.processes c.who.result.now ≡ w.frame.processes) c.requires.0 c.who.ensures.shown,
      ap (lives g.moment.world.frame) c.who.ensures.pid ∙ ap (λ (w : World). lives w.frame c.args.pid.0) (sym c.requires.0) ∙ c.requires.1.1.0,
    ),
  ),
)

pub put-requires : goal.put-requires
put-requires g c = put_lives c.self.inside.files c.self.inside.procs c.self.inside.log _ _ _ c.self.view_is c.requires.1.1.0 (c.let_go.ensures.pid ∙ c.who.ensures.pid)

pub end-requires : goal.end-requires
end-requires g c =
    let h = end_asks c.self.inside.files _ _ c.self.inside.log _ _ _ c.self.view_is c.requires.1.1.0 c.requires.1.1.1 c.put.ensures in
    record { lives = h.0; childless = h.1 }

pub invariant_of-self : goal.invariant_of-self
invariant_of-self g c =
    joined_so _ _ _ _ _ _ _ _ _ _ _ _ c.requires.1.0 c.requires.1.1.0 c.requires.1.1.1 c.self.view_is c.requires.0 c.self.invariant
    c.who.ensures.pid c.let_go.ensures.row c.let_go.ensures.content c.let_go.ensures.counted c.put.ensures c.end.ensures

pub returns-clause-row : goal.returns-clause-row
returns-clause-row g c =
    ends_there _ _ _ _ _ _ _ _ _ _ _ _ c.requires.1.0 c.requires.1.1.0 c.requires.1.1.1 c.self.view_is c.requires.0 c.self.invariant
    c.who.ensures.pid c.let_go.ensures.row c.let_go.ensures.content c.let_go.ensures.counted c.put.ensures c.end.ensures

pub returns-clause-content : goal.returns-clause-content
returns-clause-content g c =
    leaves_there _ _ _ _ _ _ _ _ _ _ _ _ c.requires.1.0 c.requires.1.1.0 c.requires.1.1.1 c.self.view_is c.requires.0 c.self.invariant
    c.who.ensures.pid c.let_go.ensures.row c.let_go.ensures.content c.let_go.ensures.counted c.put.ensures c.end.ensures
