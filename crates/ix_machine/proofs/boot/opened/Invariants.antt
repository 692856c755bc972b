use Rattle.std.proofs.Common.{◌≡◌, take}
use Rattle.ix_machine.specs.Opened.{opened}
use Rattle.ix_machine.proofs.boot.opened.Given as goal

-- the lines so far are there
abbrev pub invariant-loop-spec : goal.invariant-loop-spec
invariant-loop-spec l = l.procs ≡ opened (take l.spec-index l.specs) l.limit
