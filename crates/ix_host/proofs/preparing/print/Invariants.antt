use Rattle.std.proofs.Common.{◌++◌, ◌-◌, ◌≤◌, None, length}
use Rattle.ix_script.specs.scripts.Canonical.{canonical, canonical_from}
use Rattle.ix_host.specs.run.Outlet.{StandsAt}
use Rattle.ix_host.proofs.preparing.print.Given as goal

abbrev pub invariant-parts : goal.invariant-parts
invariant-parts g l = record {
  within : l.first ≤ length l.script;
  stands : StandsAt None (g.K.Sink.taken l.fn.sink) (g.K.Sink.taken l.sink) (l.waiting.items ++ canonical_from l.script l.first) (canonical l.script)
      (g.K.Sink.faults l.fn.sink) (g.K.Sink.faults l.sink);
}

abbrev pub decreases-parts : goal.decreases-parts
decreases-parts g l = length l.script - l.first
