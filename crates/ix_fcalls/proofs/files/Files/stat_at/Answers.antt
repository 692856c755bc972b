use Rattle.ix_model.specs.rows.Walks.{node}
use Rattle.ix_tables.specs.Views.{object_by}
use Rattle.ix_fcalls.proofs.Chaining.{stat_is}
use Rattle.ix_fcalls.proofs.files.Files.stat_at.Goals as goal

pub returns-clause-row : goal.returns-clause-row
returns-clause-row g c =
    let x = object_by (node c.args.self.now.objects c.in_ok-object.object) c.in_ok-object.x in
    stat_is _ _ _
    _ _ _
    _ x
    c.in_ok-object.ensures.row
    c.in_ok-object.ensures.object
    c.in_ok-observe.ensures.row
    c.in_ok-object.ensures.links
