use Rattle.std.proofs.Common.{◌≡◌, Result, Ok, Err, sym, ap, ◌∙◌, arith}
use Rattle.ix_image.{specs.{declared.fault.Fault.Fault, Trees.TreeOf, Reading.tree_in}, proofs.{Fielding.ok_is, Whole.{tree_takes, tree_again}}}
use Rattle.ix_image.proofs.reading.read.Goals as goal

pub returns-in-Ok-clause-image : goal.returns-in-Ok-clause-image
returns-in-Ok-clause-image c = tree_takes _ _ (λ i. omega (arith, c.type_inv.bytes i)) c.in-Ok.ensures

pub returns-in-Ok-clause-all : goal.returns-in-Ok-clause-all
returns-in-Ok-clause-all c = λ t sound is. ok_is _ t (sym c.in-Ok.ensures ∙ ap tree_in is ∙ tree_again t sound)

pub returns-in-Err-Fault-clause-all : goal.returns-in-Err-Fault-clause-all
returns-in-Err-Fault-clause-all c = λ t sound is. absurd (not_both t _ _ (rw c.in-Err-Fault.field-0-is at c.in-Err-Fault.ensures)
    (ap tree_in is ∙ tree_again t sound))
  where
    not_both : (t : TreeOf) (f : Fault) (r : Result TreeOf Fault) → r ≡ Err f → r ≡ Ok t → ⊥
    not_both t f r a b = cc (a, b)
