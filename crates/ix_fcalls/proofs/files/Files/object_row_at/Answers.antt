use Rattle.std.proofs.Common.{◌≡◌, subst}
use Rattle.ix_model.specs.rows.{OnPaths.links_of, Walks.node}
use Rattle.ix_tables.specs.Views.{frame_alone, object_by}
use Rattle.ix_fcalls.proofs.files.Files.object_row_at.Goals as goal

pub returns-clause-links : goal.returns-clause-links
returns-clause-links g c =
    subst (λ v. c.in-Some.x.links ≡ links_of (frame_alone v) c.in_ok-object.object (object_by (node v.objects c.in_ok-object.object) c.in-Some.x))
    c.self.view_is c.in-Some.ensures.links
