use Rattle.std.proofs.Common.{◌∙◌, refl, sym}
use Rattle.ix_machine.proofs.Standing.{no_spot, spot_is}
use Rattle.ix_machine.proofs.machine.Machine.spot.Goals as goal

pub returns-then-not-lives : goal.returns-then-not-lives
returns-then-not-lives c = no_spot _ _ _ (sym c.lives.ensures ∙ c.if-not-lives.true)

pub returns : goal.returns
returns c = spot_is c.self.inside.files c.self.inside.procs c.self.inside.log _ c.self.view_is _ _ c.who.result.now _ _ c.who.ensures.living refl c.spot.ensures
