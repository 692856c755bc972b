-- What the walk over a label's runs finds, and what it writes.
use Rattle.std.specs.Prelude.{◌≡◌, ℕ, ◌+◌, ◌-◌, ◌<◌, ◌≤◌, true, false, List, [], ◌∷◌, ◌++◌, Option, None, Some}
use Rattle.ix_label.specs.Category.{Categories, has}
use Rattle.ix_label.specs.Words.{has_bit}
use Rattle.ix_label.specs.Spelling.{comma}

-- the place is the words' first bit from a place on that is 1
pub record IsFirstBit (words : List ℕ) (from place : ℕ) : Type 0 where
  pub start : from ≤ place
  pub found : has_bit words place ≡ true
  pub skipped : (q : ℕ) → from ≤ q → q < place → has_bit words q ≡ false

-- the first bit from a place on that is 1, if there is one
abbrev pub FirstBit : List ℕ → ℕ → Option ℕ → Type 0
FirstBit words from (Some place) = IsFirstBit words from place
FirstBit words from None = (q : ℕ) → from ≤ q → has_bit words q ≡ false

-- the category is the label's first from a place on
pub record IsFirstFrom (s : Categories) (from cat : ℕ) : Type 0 where
  pub start : from ≤ cat
  pub found : has s cat ≡ true
  pub skipped : (q : ℕ) → from ≤ q → q < cat → has s q ≡ false

-- the first category from a place on, if there is one
abbrev pub FirstFrom : Categories → ℕ → Option ℕ → Type 0
FirstFrom s from (Some cat) = IsFirstFrom s from cat
FirstFrom s from None = (q : ℕ) → from ≤ q → has s q ≡ false

-- the label has each category from the first to the last, and not the one after
pub record RunsTo (s : Categories) (first last : ℕ) : Type 0 where
  pub order : first ≤ last
  pub inside : (q : ℕ) → first ≤ q → q ≤ last → has s q ≡ true
  pub small : last < 512
  pub end : has s (last + 1) ≡ false

-- the first run of categories at or above a place, if there is one: its first and its last
abbrev pub RunFrom : Categories → ℕ → Option (ℕ × ℕ) → Type 0
RunFrom s from (Some (first, last)) = IsFirstFrom s from first × RunsTo s first last
RunFrom s from None = (q : ℕ) → from ≤ q → has s q ≡ false

-- how many categories there are at or above a place
unfoldable pub left_from : ℕ → ℕ
left_from from = 512 - from

-- what stands before one more item: the text and, where there is any, a comma
unfoldable pub comma_after : List ℕ → List ℕ
comma_after [] = []
comma_after (x ∷ xs) = (x ∷ xs) ++ comma ∷ []
