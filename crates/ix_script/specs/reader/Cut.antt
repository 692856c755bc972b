-- What is kept of the words of a line.
use Rattle.std.specs.Prelude.{◌≡◌, ◌<◌, ℕ, suc, Bool, List, [], ◌∷◌, length, if◌then◌else◌}
use Rattle.ix_script.specs.texts.Cutting.{word_at, parts_words, after_byte}
use Rattle.ix_script.specs.declared.words.Spot.{Spot}
use Rattle.ix_script.specs.lines.Rules.{has_empty_word, has_open_quote}

-- where the first word ends: at the first space between words, or with the text
abbrev pub end_from : Spot → List ℕ → ℕ
end_from at [] = 0
end_from at (b ∷ text) = if parts_words at b then 0 else suc (end_from (after_byte at b) text)

-- eight words are kept, the first ones, with no bytes where there is none, their number, and whether one is empty or open
pub record AreWords (words kept : List (List ℕ)) (n : ℕ) (some_empty some_open : Bool) : Type 0 where
  pub eight : length kept ≡ 8
  pub first : (i : ℕ) → i < 8 → word_at kept i ≡ word_at words i
  pub count : n ≡ length words
  pub has_empty : some_empty ≡ has_empty_word words
  pub has_open : some_open ≡ has_open_quote words
