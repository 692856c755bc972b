-- The parent of a living process.
use Rattle.std.{proofs.Common.{◌≡◌, Bool, true, false, Option, Some, None, if◌then◌else◌, ap}, specs.Option.option_and_then}
use Rattle.ix_model.specs.world.World.{Process, living}

pub parent_living : (o : Option Process) (q : Process) → living o ≡ Some q → option_and_then (λ p. p.parent) o ≡ q.parent
parent_living None q h = cc
parent_living (Some p) q h = go p.ended h
  where
    go : (b : Bool) → (if b then None else Some p) ≡ Some q → p.parent ≡ q.parent
    go true k = cc
    go false k = let e : p ≡ q = cc in ap (λ (x : Process). x.parent) e
