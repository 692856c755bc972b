-- What is answered by a test is no refusal where the test holds.
use Rattle.std.proofs.Common.{◌≡◌, Bool, true, false, Result, Ok, Err, if◌then◌else◌}

pub not_refused : {E : Type 0} (b : Bool) (e f : E) (r : Result (Unit {0}) E) → r ≡ (if b then Ok tt else Err e) → r ≡ Err f → b ≡ true → ⊥
not_refused true e f r is err h = absurd (cc (is, err))
not_refused false e f r is err h = absurd (cc h)
