-- What contracts see: of each number, whether it is free.
use Rattle.std.specs.Prelude.{ℕ, Bool, false, List, Option, None, Some, is_none, map, position, count_by, slice_set}

-- the lowest free number
abbrev pub lowest : List Bool → Option ℕ
lowest marks = position (λ free. free) marks

-- how many are free
abbrev pub count : List Bool → ℕ
count marks = count_by (λ free. free) marks

-- with that number taken, if there is one
abbrev pub taken : Option ℕ → List Bool → List Bool
taken None marks = marks
taken (Some n) marks = slice_set marks n false

-- of each number of a table, whether nothing stands there
abbrev pub vacancies : {A : Type 0} → List (Option A) → List Bool
vacancies entries = map is_none entries
