-- Labels that are the same are one.
use Rattle.std.proofs.Common.{◌≡◌, true}
use Rattle.ix_label.specs.{Category.{Categories, same}, Lattice.same-decides}

pub same_is : (a b : Categories) → same a b ≡ true → a ≡ b
same_is a b = (same-decides a b).0
