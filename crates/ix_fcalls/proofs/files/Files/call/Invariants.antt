use Rattle.ix_fcalls.specs.Around.{around}
use Rattle.ix_fcalls.proofs.files.Files.call.Given as goal

abbrev pub ghosts-turn : goal.ghosts-turn
ghosts-turn g a = record { rest = around g.moment.place a.caller.now.pid.0 g.moment.world }
