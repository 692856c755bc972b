-- Names and paths.
use Rattle.std.specs.Prelude.{◌≡◌, ℕ, ◌-◌, ◌≤◌, Bool, ◌&&◌, not, List, [], ◌∷◌, ◌++◌, length, take, replicate, nat_eq, nat_lt, nat_le, ◌==◌, slice_index_or}
use Rattle.std.specs.List.{list_all}
use Rattle.std.specs.Cmp.Lexicographic.{pointwise}

-- whether two lists of bytes are one
abbrev pub same_bytes : List ℕ → List ℕ → Bool
same_bytes a b = pointwise nat_eq a b

-- whether two lists of names are one
abbrev pub same_names : List (List ℕ) → List (List ℕ) → Bool
same_names a b = pointwise same_bytes a b

-- a byte of a name: neither a slash nor zero
abbrev pub may_stand_in_name : ℕ → Bool
may_stand_in_name b = not (b == 47) && not (b == 0)

-- a name: 1 to 28 such bytes, and neither . nor ..
unfoldable pub is_name : List ℕ → Bool
is_name bytes =
    nat_lt 0 (length bytes) && nat_le (length bytes) 28
    && not (same_bytes bytes (46 ∷ [])) && not (same_bytes bytes (46 ∷ 46 ∷ []))
    && list_all may_stand_in_name bytes

-- a path: absolute or not, and its names
pub record PathOf : Type 0 where
  pub absolute : Bool
  pub names : List (List ℕ)

-- a path with one name more
abbrev pub add_name : PathOf → List ℕ → PathOf
add_name p name = record p { names = p.names ++ name ∷ [] }

-- the last name of a path
abbrev pub last_name : List (List ℕ) → List ℕ
last_name names = slice_index_or names (length names - 1) []

-- a text in n cells, with zeros after it
abbrev pub padded : ℕ → List ℕ → List ℕ
padded n text = text ++ replicate (n - length text) 0

-- how a name lies in 28 cells
pub record IsNameInside (bytes : List ℕ) (len : ℕ) : Type 0 where
  pub fits : len ≤ 28
  pub long : length (take len bytes) ≡ len
  pub padding : padded 28 (take len bytes) ≡ bytes
