use Rattle.std.proofs.Common.{◌≡◌, ◌+◌, drop}
use Rattle.ix_script.specs.declared.words.Spot.TheVariants as spot
use Rattle.ix_script.specs.reader.Cut.{end_from}
use Rattle.ix_script.proofs.words.end_of_quoted.Given as goal

abbrev pub invariant-bytes : goal.invariant-bytes
invariant-bytes l = end_from spot.Front l.text ≡ l.i + end_from l.at (drop l.i l.text)
