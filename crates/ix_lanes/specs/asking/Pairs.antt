-- Names with their numbers, as a map holds them.
use Rattle.std.specs.Prelude.{ℕ, List, map, Option}
use Rattle.std.specs.{BTreeMap.{BTreeMap, is_at}, Cmp.Lexicographic.{slice_cmp}, Global.{Vec}, Map.{lookup}, Ordering.{nat_cmp}}

-- each name's bytes, with its number
abbrev pub pairs_of : {X : Type 0} → List (Vec ℕ × X) → List (List ℕ × X)
pairs_of entries = map (λ e. (e.0.items, e.1)) entries

-- what a name stands for in the tree, if it stands there
abbrev pub beyond : {X : Type 0} → List ℕ → BTreeMap (Vec ℕ) X → Option X
beyond name tree = lookup (is_at (λ (k : Vec ℕ). slice_cmp nat_cmp name k.items)) tree.entries
