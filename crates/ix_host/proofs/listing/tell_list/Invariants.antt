use Rattle.std.proofs.Common.{◌++◌, None}
use Rattle.ix_image.specs.{Lines.list_of, Telling.{left_of, pieces_of}}
use Rattle.ix_host.specs.run.Outlet.{StandsAt}
use Rattle.ix_host.proofs.listing.tell_list.Given as goal

abbrev pub invariant-lines : goal.invariant-lines
invariant-lines g l = record {
  stands : StandsAt None (g.K.Sink.taken l.fn.sink) (g.K.Sink.taken l.sink) (l.waiting.items ++ left_of l.listing) (list_of l.fn.tree) (g.K.Sink.faults l.fn.sink) (g.K.Sink.faults l.sink);
}

abbrev pub decreases-lines : goal.decreases-lines
decreases-lines g l = pieces_of l.listing
