use Rattle.std.proofs.Common.{◌∙◌, refl, sym, ap}
use Rattle.ix_model.specs.{history.AuditLog.object_sought}
use Rattle.ix_fcalls.specs.{Views.sought_of, declared.walks.Outcome.Outcome}
use Rattle.ix_machine.proofs.Standing.{no_object, none_found, object_walked}
use Rattle.ix_machine.proofs.machine.Machine.object_of_path.Goals as goal

pub returns-then-not-lives : goal.returns-then-not-lives
returns-then-not-lives g c = no_object _ _ _ (sym c.lives.ensures ∙ c.if-not-lives.true)

pub returns-in-Found : goal.returns-in-Found
returns-in-Found g c =
    ap (λ (o : Outcome). object_sought (sought_of o)) (sym c.in-Found.is) ∙ object_walked c.self.inside.files c.self.inside.procs c.self.inside.log _ c.self.view_is _ _ c.who.result.now
    _ _ c.who.ensures.living refl c.walk.ensures.walk

pub returns-in_default : goal.returns-in_default
returns-in_default g c =
    none_found _ c.in_default.not-Found ∙ object_walked c.self.inside.files c.self.inside.procs c.self.inside.log _ c.self.view_is _ _ c.who.result.now
    _ _ c.who.ensures.living refl c.walk.ensures.walk
