use Rattle.std.proofs.Common.{◌≡◌, ℕ, ◌++◌, List, length}
use Rattle.ix_image.specs.{Lines.list_of, Telling.{left_of, pieces_of}}
use Rattle.ix_image.proofs.listing.list.Given as goal

abbrev pub invariant-lines : goal.invariant-lines
invariant-lines l = record {
  text : l.out.items ++ left_of l.listing ≡ l.fn.out.items ++ list_of l.fn.tree;
  grown : (told : List ℕ) × (l.out.items ≡ l.fn.out.items ++ told);
  long : l.len ≡ length l.fn.out.items;
}

abbrev pub decreases-lines : goal.decreases-lines
decreases-lines l = pieces_of l.listing
