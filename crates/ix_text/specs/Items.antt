-- What stands between the items of a label.
use Rattle.std.specs.Prelude.{ℕ, ◌==◌, List, [], ◌∷◌, if◌then◌else◌}
use Rattle.ix_label.specs.Spelling.{comma}

-- a comma before an item, but not before the first, whose run is looked for from 0 on
abbrev pub separator : ℕ → List ℕ
separator from = if from == 0 then [] else comma ∷ []
