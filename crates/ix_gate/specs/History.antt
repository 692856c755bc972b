-- Histories: lists of entries, each made by the seat of one number.
use Rattle.std.specs.Prelude.{◌≡◌, ℕ, ◌⊎◌, List, [], ◌∷◌, ◌++◌, length, filter, Contains, ◌==◌, nat_le, if◌then◌else◌}
use mathlib.Core.List.{IsPrefix}

module _ {A : Type 0} where
  -- one of the two lists begins the other
  abbrev pub IsInLine : List A → List A → Type 0
  IsInLine xs ys = IsPrefix xs ys ⊎ IsPrefix ys xs

  -- the longer of two lists, and the second where they are equally long
  abbrev pub longer : List A → List A → List A
  longer xs ys = if nat_le (length xs) (length ys) then ys else xs

  -- the other one
  abbrev pub shorter : List A → List A → List A
  shorter xs ys = if nat_le (length xs) (length ys) then xs else ys

module _ {E : Type 0} (seat : E → ℕ) where
  -- the entries that the seat n made
  abbrev pub entries_of : ℕ → List E → List E
  entries_of n es = filter (λ e. seat e == n) es

  -- the history is the one that was taken, or has one entry more, which the seat n made
  abbrev pub Grows : ℕ → List E → List E → Type 0
  Grows n taken h = (h ≡ taken) ⊎ ((e : E) × (h ≡ taken ++ e ∷ []) × (seat e ≡ n))

  -- the entries of each ended number are those that it ended with
  abbrev pub KeepsEnded : List (ℕ × List E) → List E → Type 0
  KeepsEnded ended h = (n : ℕ) (es : List E) → Contains ended (n, es) → entries_of n h ≡ es
