-- The laws of images.
use Rattle.std.specs.Prelude.{◌≡◌, ℕ, ◌<◌, ◌↔◌, List, length, Ok, None, get_or}
use Rattle.ix_label.specs.Category.{Categories, IsLabel}
use Rattle.ix_image.specs.Labelled.{label_bytes, label_in}
use Rattle.ix_image.specs.Trees.{TreeOf}
use Rattle.ix_image.specs.Image.{image_of, IsSound}
use Rattle.ix_image.specs.Reading.{tree_in, image_fault}

-- each is below 256
abbrev pub AreBytes : List ℕ → Type 0
AreBytes bytes = (i : ℕ) → get_or bytes i 0 < 256

-- a label and its 64 bytes give each other back
pub record LabelsAreTheirBytes : Type 0 where
  pub label : (s : Categories) → IsLabel s → label_in (label_bytes s) ≡ s
  pub bytes : (bytes : List ℕ) → length bytes ≡ 64 → AreBytes bytes → label_bytes (label_in bytes) ≡ bytes

-- bytes are the image of a tree that meets all rules
pub record IsImage (bytes : List ℕ) : Type 0 where
  pub tree : TreeOf
  pub sound : IsSound tree
  pub written : bytes ≡ image_of tree

-- bytes have no fault exactly where they are the image of such a tree
abbrev pub FaultlessAreImages : Type 0
FaultlessAreImages = (bytes : List ℕ) → AreBytes bytes → (image_fault bytes ≡ None) ↔ IsImage bytes

-- what is written is read as the same tree
abbrev pub WrittenIsRead : Type 0
WrittenIsRead = (t : TreeOf) → IsSound t → tree_in (image_of t) ≡ Ok t

-- two trees with one image are equal
abbrev pub ImagesAreOneToOne : Type 0
ImagesAreOneToOne = (s t : TreeOf) → IsSound s → IsSound t → image_of s ≡ image_of t → s ≡ t
