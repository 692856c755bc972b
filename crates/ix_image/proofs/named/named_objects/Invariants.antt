use Rattle.ix_model.specs.history.History.{world_of}
use Rattle.ix_image.proofs.Marked.{NamedTo}
use Rattle.ix_image.proofs.named.named_objects.Given as goal

abbrev pub invariant-loop-n : goal.invariant-loop-n
invariant-loop-n l = NamedTo (world_of l.core).frame.objects l.n l.named.items
