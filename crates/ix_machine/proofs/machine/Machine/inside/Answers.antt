use Rattle.std.proofs.Common.{◌∙◌, ap, length, min, take, drop, ◌++◌}
use Rattle.ix_machine.proofs.Viewing.{bytes_are}
use Rattle.ix_machine.proofs.machine.Machine.inside.Goals as goal

pub returns-clause-count : goal.returns-clause-count
returns-clause-count c = c.inside.ensures.count ∙ ap (λ bytes. min (length c.args.out.now) (length bytes)) (bytes_are _ c.self.inside.procs c.self.inside.log _ c.self.view_is _ _)

pub returns-clause-out : goal.returns-clause-out
returns-clause-out c = c.inside.ensures.out ∙ ap (λ bytes. take c.inside.result bytes ++ drop c.inside.result c.args.out.now) (bytes_are _ c.self.inside.procs c.self.inside.log _ c.self.view_is _ _)
