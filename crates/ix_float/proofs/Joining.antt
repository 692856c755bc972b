-- A join adds nothing to a label exactly where the label is at or above the other.
use Rattle.std.proofs.{Common.{◌≡◌}, lemmas.Bool.Decides.same_from_decides}
use Rattle.ix_label.specs.{Category.{Categories, join, leq, same}, Lattice.{leq-by_join, join-absorbs, same-decides}}

pub same-join : (a b : Categories) → same (join a b) a ≡ leq b a
same-join a b = same_from_decides (same (join a b) a) (leq b a) (same-decides (join a b) a) (join-absorbs b a, leq-by_join b a)

pub ruleset floating = (same-join)
