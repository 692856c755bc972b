-- The entries of the pool, and the chains in which they stand.
use Rattle.std.specs.Prelude.{ℕ, ◌≡◌, ◌==◌, ◌&&◌, Bool, true, false, List, [], map, Option, Some, None, slice_index_or}
use Rattle.std.specs.List.{list_any}
use Rattle.std.specs.Option.{option_map_or}
use Rattle.ix_model.specs.world.Naming.{same_bytes}
use Rattle.ix_name.specs.declared.entry.Entry.{Entry}

-- what stands at an index of the pool
abbrev pub entry_at : List (Option Entry) → ℕ → Option Entry
entry_at es i = slice_index_or es i None

-- whether an entry is that directory's, under that name
abbrev pub is_of : ℕ → List ℕ → Entry → Bool
is_of d name e = e.dir == d && same_bytes e.name name

-- whether such an entry stands at an index
abbrev pub is_at : List (Option Entry) → ℕ → List ℕ → ℕ → Bool
is_at es d name i = option_map_or (is_of d name) (entry_at es i) false

-- its name and its object's number
abbrev pub pair_of : Option Entry → List ℕ × ℕ
pair_of None = ([], 0)
pair_of (Some e) = (e.name, e.obj.0)

-- the name and the object's number at an index
abbrev pub pair_at : List (Option Entry) → ℕ → List ℕ × ℕ
pair_at es i = pair_of (entry_at es i)

-- the pairs of each chain
abbrev pub lists_of : List (Option Entry) → List (List ℕ) → List (List (List ℕ × ℕ))
lists_of es chains = map (map (pair_at es)) chains

-- whether an index stands in a chain
abbrev pub stands_in : List (List ℕ) → ℕ → ℕ → Bool
stands_in chains c i = list_any (λ j. j == i) (slice_index_or chains c [])

-- each index with an entry stands in the chain that the entry says, and in no other; one without stands in none
pub record AreFiled (chain_of : Entry → ℕ) (chains : List (List ℕ)) (es : List (Option Entry)) : Type 0 where
  pub filed : (c i : ℕ) → stands_in chains c i ≡ option_map_or (λ e. chain_of e == c) (entry_at es i) false

-- no directory has two entries of one name
abbrev pub AreUnique : List (Option Entry) → Type 0
AreUnique es = (i j : ℕ) (a b : Entry) → entry_at es i ≡ Some a → entry_at es j ≡ Some b → is_of b.dir b.name a ≡ true → i ≡ j
