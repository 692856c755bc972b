use Rattle.std.proofs.Common.{◌++◌, None}
use Rattle.ix_model.specs.history.History.{world_of}
use Rattle.ix_image.specs.{Image.image_of, Taken.tree_on, Written.{IsBegun, left_of, pieces_of}}
use Rattle.ix_host.specs.run.Outlet.{StandsAt}
use Rattle.ix_host.proofs.saving.tell_image.Given as goal

abbrev pub invariant-pieces : goal.invariant-pieces
invariant-pieces g l = record {
  stands : StandsAt None (g.K.Sink.taken l.fn.sink) (g.K.Sink.taken l.sink) (l.waiting.items ++ left_of l.saving) (image_of (tree_on l.fn.fss (world_of l.fn.core))) (g.K.Sink.faults l.fn.sink)
      (g.K.Sink.faults l.sink);
  begun : IsBegun l.saving;
}

abbrev pub decreases-pieces : goal.decreases-pieces
decreases-pieces g l = pieces_of l.saving
