use Rattle.std.proofs.Common.{◌≡◌, ◌≤◌, length, drop}
use Rattle.ix_script.specs.texts.Cutting.{pieces}
use Rattle.ix_script.specs.declared.words.Spot.TheVariants as spot
use Rattle.ix_script.proofs.writing.behind_words.Given as goal

abbrev pub invariant-words : goal.invariant-words
invariant-words l = record {
  words : pieces spot.Front l.rest ≡ drop l.counter (pieces spot.Front l.text);
  fewer : length l.rest ≤ length l.text;
}
