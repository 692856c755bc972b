-- A living process and its record.
use Rattle.std.proofs.Common.{◌≡◌, Bool, true, false, Option, Some, None, if◌then◌else◌, refl, ap, ◌∙◌, subst}
use Rattle.ix_model.specs.world.World.{Process, living}

pub is_living : (o : Option Process) (p : Process) → living o ≡ Some p → o ≡ Some p
is_living None p h = cc
is_living (Some q) p h = go _ h
  where
    go : (b : Bool) → (if b then None else Some q) ≡ Some p → Some q ≡ Some p
    go true h = cc
    go false h = h

pub not_ended : (o : Option Process) (p : Process) → living o ≡ Some p → p.ended ≡ false
not_ended None p h = cc
not_ended (Some q) p h = go _ refl h
  where
    go : (b : Bool) → q.ended ≡ b → (if b then None else Some q) ≡ Some p → p.ended ≡ false
    go true e h = cc
    go false e h = let same : q ≡ p = cc in subst (λ x. x.ended ≡ false) same e

pub lives_as : (o : Option Process) (p : Process) → o ≡ Some p → p.ended ≡ false → living o ≡ Some p
lives_as o p is e = ap living is ∙ ap (λ b. if b then None else Some p) e
