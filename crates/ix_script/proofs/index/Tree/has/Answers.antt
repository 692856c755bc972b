use Rattle.std.{proofs.Common.{◌∙◌, ◌&&◌, cond, not}, specs.List.list_any}
use Rattle.ix_model.specs.world.{Naming.same_names, Paths.path_of}
use Rattle.ix_script.proofs.reader.Indexing.{there_by_dir, there_by_file}
use Rattle.ix_script.proofs.index.Tree.has.Goals as goal

pub returns-then-has_dir : goal.returns-then-has_dir
returns-then-has_dir c = λ objects are. there_by_dir objects (path_of c.args.path.now).names _ (c.has_dir.ensures objects are) c.if-has_dir.true

pub returns-else-has_dir : goal.returns-else-has_dir
returns-else-has_dir c = λ objects are.
    let dir = c.has_dir.ensures objects are in
    let file = c.contains.ensures ∙ are c.site_of.result
    ∙ (λ i. list_any (λ o. cond (c.site_of.ensures.dir i) o.dir (not o.dir) && same_names o.path.names (c.site_of.ensures.names i)) objects) in
    there_by_file objects (path_of c.args.path.now).names _ _ dir c.if-has_dir.false file
