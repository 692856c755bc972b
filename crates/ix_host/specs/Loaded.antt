-- What `load` answers of bytes that are an image.
use Rattle.std.specs.Prelude.{◌≡◌, ℕ, List, ◌++◌, Option, Some}
use Rattle.ix_image.specs.Image.{image_of, IsSound}
use Rattle.ix_image.specs.Lines.{list_of}
use Rattle.ix_image.specs.Trees.{TreeOf}

-- What was taken is what was taken before, and after it the list of a tree that meets all rules, whose image these bytes are.
pub record TakesList (bytes taken : List ℕ) (after : Option (List ℕ)) : Type 0 where
  pub tree : TreeOf
  pub sound : IsSound tree
  pub image : bytes ≡ image_of tree
  pub went_out : after ≡ Some (taken ++ list_of tree)
