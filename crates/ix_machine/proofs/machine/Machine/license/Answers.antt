use Rattle.std.proofs.Common.{refl, ap, ◌∙◌}
use Rattle.ix_model.specs.{world.Privs.either_of, declared.{privs.PrivSet.PrivSet, views.Caller.Caller}}
use Rattle.ix_fcalls.specs.Around.{with_who}
use Rattle.ix_proc.specs.Table.{ProcTable}
use Rattle.ix_machine.proofs.Rows.{joined_put}
use Rattle.ix_machine.proofs.machine.Machine.license.Goals as goal

pub invariant_of-self : goal.invariant_of-self
invariant_of-self c =
    joined_put _ _ _ _ _ _ _ (λ q. record q {
      lic =
          either_of q.lic c.args.set;
    }) (λ x. refl) (λ x. refl) (λ x. refl) c.self.view_is c.who-who.ensures.shown c.who-who.ensures.pid
    (c.put.ensures ∙ ap (λ (v : PrivSet). let who : Caller = record c.who-who.result.now { lic = v } in
    let t : ProcTable = record c.self.inside.procs { processes = with_who c.self.inside.procs.processes who } in t) c.either_of-lic.ensures) c.self.invariant
