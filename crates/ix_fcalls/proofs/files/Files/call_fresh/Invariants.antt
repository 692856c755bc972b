use Rattle.ix_fcalls.specs.Around.{around}
use Rattle.ix_fcalls.proofs.files.Files.call_fresh.Given as goal

abbrev pub ghosts-turn_known : goal.ghosts-turn_known
ghosts-turn_known g a = record { rest = around g.moment.place a.caller.now.pid.0 g.moment.world }
