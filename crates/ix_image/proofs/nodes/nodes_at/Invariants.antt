use Rattle.std.proofs.Common.{◌≡◌, ◌≤◌, ◌-◌}
use Rattle.ix_image.{specs.{Reading.nodes_at, Meant.nodes_of}, proofs.Looping.with_front}
use Rattle.ix_image.proofs.nodes.nodes_at.Given as goal

abbrev pub invariant-loop : goal.invariant-loop
invariant-loop l = record {
  so_far : with_front (nodes_of l.nodes.items) (nodes_at l.fss l.least (l.count - l.counter) l.rest) ≡ nodes_at l.fss 0 l.count l.bytes;
  small : l.least ≤ 1048576;
}
