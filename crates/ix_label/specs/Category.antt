-- A label is a finite set of categories, which are numbers.
use Rattle.std.specs.Prelude.{◌≡◌, ℕ, ◌<◌, Bool, true, ◌&&◌}
use Rattle.std.specs.Ordering.{nat_cmp}
use Rattle.std.specs.List.{range_with_len}
use Rattle.std.specs.FinSet as set

abbrev pub Categories : Type 0
Categories = set.FinSet nat_cmp

-- whether the category is in the set
unfoldable pub has : Categories → ℕ → Bool
has s q = set.contains s q

-- no category
unfoldable pub bottom : Categories
bottom = set.empty

-- each category below the number
unfoldable pub all_below : ℕ → Categories
all_below n = set.from_list (range_with_len 0 n)

-- every category: there are 512
unfoldable pub top : Categories
top = all_below 512

-- the set is a label: each of its categories is one of the 512
pub record IsLabel (s : Categories) : Type 0 where
  pub below : (q : ℕ) → has s q ≡ true → q < 512

-- the set with one category more
unfoldable pub with : Categories → ℕ → Categories
with s q = set.insert s q

-- the union: the least label that both are at or below
unfoldable pub join : Categories → Categories → Categories
join a b = set.union a b

-- the intersection: the greatest label that is at or below both
unfoldable pub meet : Categories → Categories → Categories
meet a b = set.intersection a b

-- whether each category of the first is in the second
unfoldable pub leq : Categories → Categories → Bool
leq a b = set.is_subset a b

-- whether the two are one set
unfoldable pub same : Categories → Categories → Bool
same a b = leq a b && leq b a
