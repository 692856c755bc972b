use Rattle.std.proofs.Common.{refl}
use Rattle.ix_machine.proofs.Rows.{joined_put}
use Rattle.ix_machine.proofs.machine.Machine.set_process_ceiling.Goals as goal

pub invariant_of-self : goal.invariant_of-self
invariant_of-self c =
    joined_put _ _ _ _ _ _ _ (λ q. record q { ceiling = c.args.ceiling }) (λ x. refl) (λ x. refl) (λ x. refl)
    c.self.view_is c.who-who.ensures.shown c.who-who.ensures.pid c.put.ensures c.self.invariant
