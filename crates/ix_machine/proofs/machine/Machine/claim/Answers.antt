use Rattle.std.proofs.Common.{refl}
use Rattle.ix_machine.proofs.Claims.{claimed_is, claims_joined}
use Rattle.ix_machine.proofs.machine.Machine.claim.Goals as goal

pub invariant_of-self : goal.invariant_of-self
invariant_of-self c = claims_joined _ _ _ _ c.claim.result c.who.result.now c.args.fd.0 c.self.invariant c.claim.ensures

pub returns : goal.returns
returns c = claimed_is _ _ c.self.inside.procs c.self.inside.log _ _ _ _ c.who.result.now _ c.self.view_is c.requires.sound c.who.ensures.living refl c.who.ensures.pid c.claim.ensures
