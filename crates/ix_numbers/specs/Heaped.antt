-- The heap that holds each free number once.
use Rattle.std.specs.Prelude.{◌≡◌, ◌<◌, ◌≤◌, ℕ, ◌==◌, ◌^◌, Bool, nat_lt, List, map, count_by}
use Rattle.std.specs.List.{range_with_len}
use Rattle.std.specs.Ordering.{nat_cmp}
use Rattle.std.specs.declared.cmp.Ordering.{Ordering}
use Rattle.std.specs.BinaryHeap.{IsHeap}
use Rattle.std.specs.declared.cmp.Reverse.{Reverse}
use Rattle.ix_numbers.specs.Marks.{count}

-- how often a number stands in the heap, and whether it does
abbrev pub times : ℕ → List (Reverse ℕ) → ℕ
times n items = count_by (λ x. x.0 == n) items

abbrev pub is_in : List (Reverse ℕ) → ℕ → Bool
is_in items n = nat_lt 0 (times n items)

-- the numbers below a limit are free that stand in the heap
abbrev pub marks_of : ℕ → List (Reverse ℕ) → List Bool
marks_of limit items = map (is_in items) (range_with_len 0 limit)

abbrev pub lowest_first : Reverse ℕ → Reverse ℕ → Ordering
lowest_first x y = nat_cmp y.0 x.0

pub record AreHeaped (limit : ℕ) (items : List (Reverse ℕ)) (len capacity : ℕ) : Type 0 where
  pub once : (n : ℕ) → times n items ≤ 1
  pub low : (n : ℕ) → 0 < times n items → n < limit
  pub ordered : IsHeap lowest_first items
  pub counted : len ≡ count (marks_of limit items)
  pub room : limit ≤ capacity
  pub small : limit < 2 ^ 32
