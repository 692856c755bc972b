use Rattle.std.{proofs.Common.{◌≡◌, ◌-◌, ◌+◌, ◌≤◌, vec_len}, specs.Prelude.IfSome}
use Rattle.ix_host.specs.run.Whole.{IsFront}
use Rattle.ix_host.proofs.streams.stream.read_all.Given as goal

abbrev pub invariant-pieces : goal.invariant-pieces
invariant-pieces g l = record {
  told : IfSome (g.S.Source.left l.fn.source) (λ all. IsFront all l.bytes.items (g.S.Source.left l.source));
  kept : g.S.Source.faults l.source ≡ g.S.Source.faults l.fn.source;
  few : vec_len l.bytes ≤ l.max + 1;
}

abbrev pub decreases-pieces : goal.decreases-pieces
decreases-pieces g l = l.max + 1 - vec_len l.bytes
