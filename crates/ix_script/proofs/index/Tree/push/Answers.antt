use Rattle.std.proofs.Common.{sym, ◌∙◌}
use Rattle.ix_script.proofs.reader.Indexing.{site_indexed}
use Rattle.ix_script.proofs.index.Tree.push.Goals as goal

pub returns-clause-sites : goal.returns-clause-sites
returns-clause-sites c = λ objects o names dir are. site_indexed c.site_of.result o c.args.self.now.index c.insert.new.self _
    (names ∙ sym c.site_of.ensures.names) (dir ∙ sym c.site_of.ensures.dir) c.in_ok-insert.ensures.updates are
