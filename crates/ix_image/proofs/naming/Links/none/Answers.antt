use Rattle.ix_image.proofs.Walking.{none_read, none_readable}
use Rattle.ix_image.proofs.naming.Links.none.Goals as goal

pub invariant_of-result : goal.invariant_of-result
invariant_of-result c = record { readable = none_readable }

pub returns : goal.returns
returns c = none_read _
