-- How blocks and lengths hold the bytes of files.
use Rattle.std.specs.Prelude.{◌≡◌, ℕ, ◌+◌, ◌*◌, ◌<◌, List, [], ◌∷◌, length, take, get_or}
use Rattle.ix_blocks.specs.declared.blocks.Blocks.TheInside.{Inside}
use Rattle.ix_model.specs.rows.Telling.{blocks_for}
use Rattle.ix_blocks.specs.Files.{Files, used}
use Rattle.ix_blocks.specs.Wholes.{Wholes}

-- the first bytes of each file, as many as it has
abbrev pub cut_each : List ℕ → List (List ℕ) → List (List ℕ)
cut_each [] ws = []
cut_each (n ∷ ns) [] = []
cut_each (n ∷ ns) (w ∷ ws) = take n w ∷ cut_each ns ws

-- each file has the blocks that its bytes use
pub record AreFilled (lengths : List ℕ) (wholes : List (List ℕ)) : Type 0 where
  pub each : length wholes ≡ length lengths
  pub sized : (f : ℕ) → f < length lengths → length (get_or wholes f []) ≡ 512 * blocks_for (get_or lengths f 0)

-- the bytes of files of those lengths, and the blocks that are free or that they use
abbrev pub shown : List ℕ → Wholes → Files
shown lengths s =
    let files = cut_each lengths s.wholes in
    record { files = files; blocks = s.free + used files }

abbrev pub blocks_view : Inside → Files
blocks_view s = shown s.lengths.items s.store

abbrev pub IsBlocks : Inside → Type 0
IsBlocks s = AreFilled s.lengths.items s.store.wholes
