-- The front of an entry's line: a mark of its place, and its lane's name with a space behind it.
use Rattle.std.specs.Prelude.{◌≡◌, ℕ, suc, ◌<◌, ◌==◌, ◌&&◌, not, Bool, true, false, List, [], ◌∷◌, ◌++◌, length, get_or, Option, Some, None, if◌then◌else◌}
use Rattle.std.specs.List.{list_all}

-- a line begins so
abbrev pub starts : List ℕ → List ℕ → Bool
starts [] line = true
starts (x ∷ front) [] = false
starts (x ∷ front) (y ∷ line) = (x == y) && starts front line

-- the seat of the lane whose name stands behind the mark; the first of these names is that of the lane of seat n
abbrev pub told_from : ℕ → List ℕ → List (List ℕ) → List ℕ → Option ℕ
told_from n mark [] line = None
told_from n mark (name ∷ names) line = if starts (mark ++ (name ++ 32 ∷ [])) line then Some n else told_from (suc n) mark names line

-- none of the bytes is a space
abbrev pub has_no_space : List ℕ → Bool
has_no_space name = list_all (λ b. not (b == 32)) name

-- no two of the names are the same
abbrev pub Differ : List (List ℕ) → Type 0
Differ names = (i j : ℕ) → i < length names → j < length names → get_or names i [] ≡ get_or names j [] → i ≡ j

-- where names have no space and differ, a line tells of the lane whose name stands there
abbrev pub NamesTell : Type 0
NamesTell = (names : List (List ℕ)) → list_all has_no_space names ≡ true → Differ names → (mark rest : List ℕ) (k : ℕ) → k < length names
    → told_from 0 mark names (mark ++ (get_or names k [] ++ 32 ∷ rest)) ≡ Some k
