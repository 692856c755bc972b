use Rattle.std.proofs.Common.{◌≡◌, true, unwrap_or, sym, ◌∙◌}
use Rattle.ix_model.specs.{world.{World.{Process, at}, Callers.with_caller}, rows.OnProcesses.has_kept}
use Rattle.ix_fcalls.specs.Around.{no_process}
use Rattle.ix_proc.specs.Table.{child_of}
use Rattle.ix_machine.proofs.Births.{fork_is, kept_same, born_carried}
use Rattle.ix_machine.proofs.machine.Machine.fork.Goals as goal

pub returns-clause-row : goal.returns-clause-row
returns-clause-row c =
    let p : Process = with_caller c.who.result.now (unwrap_or (at c.args.self.now.frame.processes c.args.pid.0) no_process) in
    let kept : has_kept c.args.keep p ≡ true = sym (kept_same _ p) ∙ sym c.keeps.ensures ∙ c.if-not-keeps.false in
    let b = c.in-Some.ensures p c.who.ensures.living in
    fork_is _ _ _ c.in-Some.child.0 _ p c.who.ensures.living kept b.0 b.1 b.2

pub returns-clause-content : goal.returns-clause-content
returns-clause-content c =
    let p : Process = with_caller c.who.result.now (unwrap_or (at c.args.self.now.frame.processes c.args.pid.0) no_process) in
    born_carried _ _ (child_of c.args.pid.0 c.args.keep p) c.requires.sound (c.in-Some.ensures p c.who.ensures.living).2
