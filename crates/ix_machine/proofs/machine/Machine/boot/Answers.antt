use Rattle.std.proofs.Common.{◌≤◌, List, length, sym, ap, subst, ◌∙◌}
use Rattle.ix_model.specs.declared.config.ProcSpec.{ProcSpec}
use Rattle.ix_machine.{specs.Opened.opened, proofs.Booting.{opens, valid_few, valid_room}}
use Rattle.ix_machine.proofs.machine.Machine.boot.Goals as goal

pub opened-requires-clause-room : goal.opened-requires-clause-room
opened-requires-clause-room c = subst (λ (ss : List ProcSpec). length ss ≤ c.args.config.now.limits.procs) (sym c.as_slice.ensures) (valid_room _ c.requires)

pub opened-requires-clause-few : goal.opened-requires-clause-few
opened-requires-clause-few c = valid_few _ c.requires

pub invariant_of-result : goal.invariant_of-result
invariant_of-result c =
    (opens _ _ _ _ c.requires c.in_ok-files.ensures
    (c.in_ok-procs.ensures ∙ ap (λ (ss : List ProcSpec). opened ss c.args.config.now.limits.procs) c.as_slice.ensures) c.in_ok-log.ensures).joins

pub returns : goal.returns
returns c =
    (opens _ _ _ _ c.requires c.in_ok-files.ensures
    (c.in_ok-procs.ensures ∙ ap (λ (ss : List ProcSpec). opened ss c.args.config.now.limits.procs) c.as_slice.ensures) c.in_ok-log.ensures).view
