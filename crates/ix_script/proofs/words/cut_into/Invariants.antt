use Rattle.std.{proofs.Common.{[], map, length, suc}, specs.Option.option_map_or}
use Rattle.ix_script.{specs.texts.Cutting.{pieces, words_of}, proofs.texts.Words.Cutting}
use Rattle.ix_script.specs.declared.words.Spot.TheVariants as spot
use Rattle.ix_script.proofs.words.cut_into.Given as goal

abbrev pub invariant-words : goal.invariant-words
invariant-words l = Cutting (words_of l.text) (map (λ s. s.now) l.first) l.count l.has_empty l.has_open (option_map_or (λ front. pieces spot.Front front.now) l.rest [])

abbrev pub decreases-words : goal.decreases-words
decreases-words l = option_map_or (λ front. suc (length front.now)) l.rest 0
