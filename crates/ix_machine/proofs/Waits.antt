-- The child that a wait collects has ended.
use Rattle.std.proofs.{Common.{◌≡◌, ◌&&◌, ℕ, true, List, Option, Some, None, subst}, lemmas.{Bool.and_parts, List.Quantifiers.position-Some}}
use Rattle.std.specs.Prelude.{position}
use Rattle.ix_model.specs.{world.World.{World, Process, at, is_ended, lives}, rows.OnProcesses.is_child}
use Rattle.ix_machine.{specs.Restoring.Restores, proofs.Ends.ended_still}

first_ended : (ps : List (Option Process)) (pid c : ℕ) → position (λ q. is_child pid q && is_ended q) ps ≡ Some c → is_ended (at ps c) ≡ true
first_ended ps pid c first = let found = position-Some (λ q. is_child pid q && is_ended q) ps c None first in (and_parts (is_child pid (at ps c)) (is_ended (at ps c)) found.1).1

-- after the wait has looked at it
pub ended_first : (w v : World) (ps : List (Option Process)) (pid c : ℕ) → ps ≡ w.frame.processes → lives w.frame pid ≡ true → Restores w.frame v.frame pid
    → position (λ q. is_child pid q && is_ended q) ps ≡ Some c → is_ended (at v.frame.processes c) ≡ true
ended_first w v ps pid c same alive back first = ended_still w v pid c alive back (subst (λ (qs : List (Option Process)). is_ended (at qs c) ≡ true) same (first_ended ps pid c first))
