use Rattle.std.proofs.Common.{◌≡◌, ℕ, ◌++◌, List, length}
use Rattle.ix_model.specs.history.History.{world_of}
use Rattle.ix_image.specs.{Image.image_of, Taken.tree_of, Written.{IsBegun, left_of, pieces_of}}
use Rattle.ix_image.proofs.saving.save.Given as goal

abbrev pub invariant-pieces : goal.invariant-pieces
invariant-pieces l = record {
  text : l.out.items ++ left_of l.saving ≡ l.fn.out.items ++ image_of (tree_of l.config (world_of l.core));
  grown : (written : List ℕ) × (l.out.items ≡ l.fn.out.items ++ written);
  long : l.len ≡ length l.fn.out.items;
  begun : IsBegun l.saving;
}

abbrev pub decreases-pieces : goal.decreases-pieces
decreases-pieces l = pieces_of l.saving
