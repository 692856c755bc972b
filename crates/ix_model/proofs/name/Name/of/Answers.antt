use Rattle.ix_model.proofs.tables.Slots.{cells, named}
use Rattle.ix_model.proofs.name.Name.of.Goals as goal

pub invariant_of-result : goal.invariant_of-result
invariant_of-result c = rw c.copy_from_slice.ensures.after (cells c.args.bytes.now c.requires.few, named c.args.bytes.now _ c.requires.name)
