use Rattle.std.proofs.Common.{ap, ◌∙◌, ◌+◌, slice_set, slice_index_or}
use Rattle.ix_tables.specs.Parts.{Parts}
use Rattle.ix_fcalls.proofs.Giving.{counted_shared}
use Rattle.ix_fcalls.proofs.files.Files.share_under.Goals as goal

pub returns-clause-counted : goal.returns-clause-counted
returns-clause-counted g c =
    counted_shared _ _ c.requires.counted _ _ _ c.requires.free _ _ c.requires.stands
    (c.share.ensures ∙ ap (λ (v : Parts). let w : Parts = record v { owners = slice_set v.owners c.args.id (slice_index_or v.owners c.args.id 0 + 1) } in w) c.self.view_is) c.set_fd.ensures
