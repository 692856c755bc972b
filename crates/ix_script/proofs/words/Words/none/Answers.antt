use Rattle.std.proofs.Common.{refl}
use Rattle.ix_script.{proofs.texts.Words.none_kept, specs.{texts.Cutting.words_of, lines.Rules.{has_empty_word, has_open_quote}}}
use Rattle.ix_script.proofs.words.Words.none.Goals as goal

pub invariant_of-result : goal.invariant_of-result
unfolding words_of has_empty_word has_open_quote
invariant_of-result c = record { eight = refl; first = λ i low. none_kept 8 i; count = refl; has_empty = refl; has_open = refl }

pub returns : goal.returns
unfolding words_of
returns c = refl
