use Rattle.std.proofs.Common.{◌≡◌, find, drop, slice_get}
use Rattle.ix_links.specs.Chains.{chain_of}
use Rattle.ix_marks.specs.RowIndex.{is_at}
use Rattle.ix_marks.proofs.row_index.index_of.Given as goal

abbrev pub invariant-loop : goal.invariant-loop
invariant-loop l =
    (l.next ≡ slice_get (chain_of l.chain l.links) l.counter)
    × (find (is_at l.pids l.pid) (drop l.counter (chain_of l.chain l.links)) ≡ find (is_at l.pids l.pid) (chain_of l.chain l.links))
