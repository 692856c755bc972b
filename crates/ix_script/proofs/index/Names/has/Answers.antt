use Rattle.std.proofs.Common.{[], ◌∙◌, map}
use Rattle.ix_script.proofs.reader.Indexing.{in_no_lane}
use Rattle.ix_script.proofs.index.Names.has.Goals as goal

pub returns : goal.returns
returns c = λ names are. c.has.ensures (map (λ n. ([], n)) names) are ∙ in_no_lane c.args.word.now names
