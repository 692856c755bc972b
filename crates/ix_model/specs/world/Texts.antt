-- The text of names: a slash stands between each two.
use Rattle.std.specs.Prelude.{◌≡◌, ℕ, ◌≤◌, ◌==◌, nat_le, Bool, ◌&&◌, List, [], ◌∷◌, ◌++◌, length, take, IsTrue, if◌then◌else◌}
use Rattle.std.specs.List.{list_all}
use Rattle.ix_model.specs.world.Naming.{is_name}

-- pieces, the first of which has one byte more at its front
abbrev pub with_front : ℕ → List (List ℕ) → List (List ℕ)
with_front b [] = (b ∷ []) ∷ []
with_front b (piece ∷ pieces) = (b ∷ piece) ∷ pieces

-- what stands between slashes
unfoldable pub between_slashes : List ℕ → List (List ℕ)
between_slashes [] = [] ∷ []
between_slashes (b ∷ text) = if b == 47 then [] ∷ between_slashes text else with_front b (between_slashes text)

-- the names in a text; no bytes are no name
abbrev pub names_in : List ℕ → List (List ℕ)
names_in [] = []
names_in (b ∷ text) = between_slashes (b ∷ text)

-- the text of at most 16 names
unfoldable pub is_path_text : List ℕ → Bool
is_path_text text = list_all is_name (names_in text) && nat_le (length (names_in text)) 16

-- a text with one name more
abbrev pub with_name : List ℕ → List ℕ → List ℕ
with_name [] name = name
with_name (b ∷ text) name = (b ∷ text) ++ 47 ∷ name

-- how the text of a path lies in 463 cells
pub record IsTextInside (bytes : List ℕ) (len count : ℕ) : Type 0 where
  pub fits : len ≤ 463
  pub text : IsTrue (is_path_text (take len bytes))
  pub counted : length (names_in (take len bytes)) ≡ count
