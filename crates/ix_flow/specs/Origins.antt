-- Where bytes came from.
use Rattle.std.specs.Prelude.{ℕ, suc, List, [], ◌∷◌, map}
use Rattle.ix_model.specs.world.World.{HoldingOf}

-- a byte came from the write of an entry's place, with its number among the bytes that were written; from a file of the config,
-- with its number in that; or from a gap
pub data Origin : Type 0 where
  Written : ℕ → ℕ → Origin
  InConfig : ℕ → ℕ → Origin
  Gap : Origin

-- a byte with its origin
pub record Marked : Type 0 where
  pub byte : ℕ
  pub origin : Origin

-- what stands in a gap
abbrev pub gap_mark : Marked
gap_mark = record { byte = 0; origin = Gap }

-- bytes with the origins of their numbers, the first of which has this one
unfoldable pub marked_from : (ℕ → Origin) → ℕ → List ℕ → List Marked
marked_from origin k [] = []
marked_from origin k (b ∷ bytes) = record { byte = b; origin = origin k } ∷ marked_from origin (suc k) bytes

-- what each of the things held is made to, in both lists
abbrev pub each : {A B : Type 0} → (A → B) → HoldingOf A → HoldingOf B
each h x = record { first = map h x.first; second = map h x.second }

-- bytes without their origins
abbrev pub bytes_of : List Marked → List ℕ
bytes_of marks = map (λ m. m.byte) marks

-- origins without their bytes
abbrev pub origins_of : List Marked → List Origin
origins_of marks = map (λ m. m.origin) marks
