use Rattle.std.proofs.Common.{[], map, sym, ◌∙◌}
use Rattle.ix_script.proofs.reader.Indexing.{in_no_lane}
use Rattle.ix_script.proofs.index.Names.has_near.Goals as goal

pub returns-clause-known : goal.returns-clause-known
returns-clause-known c = λ names are is. sym (in_no_lane c.args.word.now names) ∙ c.has_near.ensures.given (map (λ n. ([], n)) names) are is

pub returns-clause-name : goal.returns-clause-name
returns-clause-name c = λ names are is. c.has_near.ensures.name (map (λ n. ([], n)) names) are is
