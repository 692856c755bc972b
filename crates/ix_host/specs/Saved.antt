-- What `save` writes.
use Rattle.std.specs.Prelude.{◌≡◌, ℕ, List, ◌++◌, Option, Some}
use Rattle.ix_model.specs.history.History.{world_of}
use Rattle.ix_script.specs.declared.line.Line.{Line}
use Rattle.ix_script.specs.scripts.Scripts.{config_of}
use Rattle.ix_image.specs.Image.{image_of}
use Rattle.ix_image.specs.Taken.{tree_of}
use Rattle.ix_image.specs.Trees.{TreeOf}
use Rattle.ix_host.specs.Traces.{serial_run}

-- the tree that is left after the serial history of a script
abbrev pub tree_left : List Line → TreeOf
tree_left s = tree_of (config_of s) (world_of (serial_run s))

-- its image
abbrev pub image_left : List Line → List ℕ
image_left s = image_of (tree_left s)

-- What was taken is what was taken before, and after it the image of the tree that is left after the script's serial history.
pub record TakesImage (s : List Line) (taken : List ℕ) (after : Option (List ℕ)) : Type 0 where
  pub went_out : after ≡ Some (taken ++ image_of (tree_left s))
