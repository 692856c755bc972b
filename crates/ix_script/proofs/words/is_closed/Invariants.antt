use Rattle.std.proofs.Common.{◌≡◌, drop}
use Rattle.ix_script.specs.texts.Cutting.{is_closed}
use Rattle.ix_script.specs.declared.words.Spot.TheVariants as spot
use Rattle.ix_script.proofs.words.is_closed.Given as goal

abbrev pub invariant-bytes : goal.invariant-bytes
invariant-bytes l = is_closed l.at (drop l.i l.word) ≡ is_closed spot.Front l.word
