use Rattle.std.{proofs.Common.{◌≡◌, ◌-◌, ◌≤◌, ◌++◌, take, length, Some}, specs.Prelude.IfSome}
use Rattle.ix_host.proofs.streams.stream.write_piece.Given as goal

abbrev pub invariant-pieces : goal.invariant-pieces
invariant-pieces g l = record {
  told : IfSome (g.K.Sink.taken l.fn.sink) (λ taken. g.K.Sink.taken l.sink ≡ Some (taken ++ take l.at l.text));
  kept : g.K.Sink.faults l.sink ≡ g.K.Sink.faults l.fn.sink;
  within : l.at ≤ length l.text;
}

abbrev pub decreases-pieces : goal.decreases-pieces
decreases-pieces g l = length l.text - l.at
