use Rattle.ix_machine.proofs.Exercising.{entitled_is}
use Rattle.ix_model.specs.world.{Callers.with_caller, World.at}
use Rattle.ix_fcalls.specs.Around.{no_process}
use Rattle.std.proofs.Common.{unwrap_or}
use Rattle.ix_machine.proofs.machine.Machine.entitled.Goals as goal

pub returns : goal.returns
returns c = record {
  row =
      entitled_is _ _ (with_caller c.who.result.now (unwrap_or (at c.args.self.now.frame.processes c.args.pid.0) no_process)) _ _ _ c.who.ensures.living c.privs_of.ensures c.may.ensures;
}
