-- The one spelling of a label in each form.
use Rattle.std.specs.Prelude.{ℕ, zero, suc, ◌+◌, ◌==◌, Bool, false, not, ◌&&◌, List, [], ◌∷◌, ◌++◌, map, filter, if◌then◌else◌}
use Rattle.std.specs.List.{range_with_len, zip, join_with_byte}
use Rattle.std.specs.Fmt.{decimal}
use Rattle.ix_label.specs.declared.form.Form.{Form}
use Rattle.ix_label.specs.Category.{Categories, has, bottom, same}
use Rattle.ix_label.specs.Forms.{all_of}

-- the bytes that are no digits: '-', ',' and '*'
abbrev pub dash : ℕ
dash = 45

abbrev pub comma : ℕ
comma = 44

abbrev pub star : ℕ
star = 42

-- all categories in ascending order
unfoldable pub categories : List ℕ
categories = range_with_len 0 512

-- whether the label has the category before this one
unfoldable pub has_before : Categories → ℕ → Bool
has_before s zero = false
has_before s (suc q) = has s q

-- a longest run begins at a category of the label that has none before it
unfoldable pub begins : Categories → ℕ → Bool
begins s q = has s q && not (has_before s q)

-- and ends at one that has none after it
unfoldable pub ends : Categories → ℕ → Bool
ends s q = has s q && not (has s (q + 1))

-- the longest runs in ascending order, each as its first and its last category
unfoldable pub runs : Categories → List (ℕ × ℕ)
runs s = zip (filter (begins s) categories) (filter (ends s) categories)

-- a run of one category is its number, and one of more is the first number and the last
unfoldable pub item : ℕ × ℕ → List ℕ
item (a, b) = if a == b then decimal a else decimal a ++ dash ∷ decimal b

-- the items of runs, with a comma between each two
unfoldable pub items : List (ℕ × ℕ) → List ℕ
items rs = join_with_byte comma (map item rs)

-- `-` for bottom, `*` for all numbers of the form, and else the items of the longest runs
unfoldable pub spelling : Form → Categories → List ℕ
spelling form s = if same s bottom then dash ∷ [] else if same s (all_of form) then star ∷ [] else items (runs s)
