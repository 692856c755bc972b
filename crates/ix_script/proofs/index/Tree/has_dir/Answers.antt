use Rattle.std.{proofs.Common.{◌∙◌, ◌&&◌, cond, not}, specs.List.list_any}
use Rattle.ix_model.specs.world.Naming.{same_names}
use Rattle.ix_script.proofs.index.Tree.has_dir.Goals as goal

pub returns : goal.returns
returns c = λ objects are. c.contains.ensures ∙ are c.site_of.result
    ∙ (λ i. list_any (λ o. cond (c.site_of.ensures.dir i) o.dir (not o.dir) && same_names o.path.names (c.site_of.ensures.names i)) objects)
