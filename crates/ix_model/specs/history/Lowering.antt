-- Which steps lower a label, and which lower one across a label.
use Rattle.std.specs.Prelude.{◌≡◌, ℕ, true, false, Some}
use Rattle.ix_label.specs.Category.{Categories, leq}
use Rattle.ix_model.specs.world.World.{Frame, Object, Process, at}

-- an object that lives before and after, or a process with a record before and after, has an old label that isn't at or
-- below its new one
pub data Lowered (f g : Frame) : Type 0 where
  OfObject : (o : ℕ) (x y : Object) → at f.objects o ≡ Some x → at g.objects o ≡ Some y → leq x.label y.label ≡ false → Lowered f g
  OfProcess : (p : ℕ) (x y : Process) → at f.processes p ≡ Some x → at g.processes p ≡ Some y → leq x.label y.label ≡ false → Lowered f g

-- such an object or process had an old label that isn't at or below L, and has a new one that is
pub data Crosses (l : Categories) (f g : Frame) : Type 0 where
  OfObject : (o : ℕ) (x y : Object) → at f.objects o ≡ Some x → at g.objects o ≡ Some y → leq x.label l ≡ false → leq y.label l ≡ true → Crosses l f g
  OfProcess : (p : ℕ) (x y : Process) → at f.processes p ≡ Some x → at g.processes p ≡ Some y → leq x.label l ≡ false → leq y.label l ≡ true → Crosses l f g
