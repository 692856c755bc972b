use Rattle.std.proofs.Common.{◌≡◌, ◌≤◌, length, drop, ◌∷◌, []}
use Rattle.ix_model.specs.world.Texts.{between_slashes}
use Rattle.ix_model.proofs.path.last_slash.Given as goal

abbrev pub invariant-bytes : goal.invariant-bytes
invariant-bytes l = record {
  within : l.k ≤ length l.text;
  none : between_slashes (drop l.k l.text) ≡ drop l.k l.text ∷ [];
}

abbrev pub decreases-bytes : goal.decreases-bytes
decreases-bytes l = l.k
