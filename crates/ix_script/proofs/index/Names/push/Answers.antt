use Rattle.std.proofs.Common.{[], map, subst}
use Rattle.ix_script.{specs.reader.Indexed.AreIndexed, proofs.reader.Indexing.no_lane_push}
use Rattle.ix_script.proofs.index.Names.push.Goals as goal

pub returns-clause-names : goal.returns-clause-names
returns-clause-names c = λ names are.
    subst (λ items. AreIndexed c.add.new.self items) (no_lane_push _ _) (c.in_ok-add.ensures (map (λ n. ([], n)) names) are)
