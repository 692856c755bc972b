use Rattle.ix_fcalls.specs.Around.{around}
use Rattle.ix_fcalls.proofs.files.Files.let_go.Given as goal

abbrev pub ghosts-leave : goal.ghosts-leave
ghosts-leave g a = record { rest = around g.moment.place a.caller.now.pid.0 g.moment.world }
