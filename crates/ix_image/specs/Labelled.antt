-- Labels as 64 bytes: category c is bit c % 8 of byte c / 8, where bit 0 is the least.
use Rattle.std.specs.Prelude.{ℕ, ◌+◌, ◌*◌, ◌/◌, ◌%◌, ◌==◌, Bool, List, map, slice_index_or}
use Rattle.std.specs.List.{range_with_len}
use Rattle.std.specs.Int.{bit_at}
use Rattle.std.specs.FinSet as set
use Rattle.ix_label.specs.Category.{Categories, has, all_below}
use Rattle.ix_label.specs.Words.{from_bits}

-- the byte of eight categories, and all 64 bytes
abbrev pub label_byte : Categories → ℕ → ℕ
label_byte s k = from_bits (λ i. has s (8 * k + i)) 8

unfoldable pub label_bytes : Categories → List ℕ
label_bytes s = map (label_byte s) (range_with_len 0 64)

-- whether a category's bit is 1
abbrev pub has_label_bit : List ℕ → ℕ → Bool
has_label_bit bytes c = bit_at (slice_index_or bytes (c / 8) 0) (c % 8) == 1

-- the categories whose bits are 1
unfoldable pub label_in : List ℕ → Categories
label_in bytes = set.retain (all_below 512) (has_label_bit bytes)
