-- What asks for the same calls as another, and maybe for more after them.
use Rattle.std.proofs.Common.{◌≡◌, refl, ap}
use Rattle.ix_asking.specs.Asking.{Asked, Asking, Done, Ask, Answered, Came, Due, IsDue, first, followed, heard, mapped}

-- ---- where something else comes of the same calls
pub first_mapped : (A B : Type 0) (f : A → B) (p : Asking A) (a : Asked) → first p ≡ Due a → first (mapped f p) ≡ Due a
first_mapped A B f (Done r) a h = cc
first_mapped A B f (Ask b later) a h = let same : b ≡ a = cc in ap Due same

pub came_mapped : (A B : Type 0) (f : A → B) (p : Asking A) (r : A) → first p ≡ Came r → first (mapped f p) ≡ Came (f r)
came_mapped A B f (Done s) r h = let same : s ≡ r = cc in ap (λ t. Came (f t)) same
came_mapped A B f (Ask b later) r h = cc

pub heard_mapped : (A B : Type 0) (f : A → B) (p : Asking A) (answer : Answered) → heard (mapped f p) answer ≡ mapped f (heard p answer)
heard_mapped A B f (Done r) answer = refl
heard_mapped A B f (Ask a later) answer = refl

-- ---- where something follows
pub first_followed : (A B : Type 0) (p : Asking A) (more : A → Asking B) (a : Asked) → first p ≡ Due a → first (followed p more) ≡ Due a
first_followed A B (Done r) more a h = cc
first_followed A B (Ask b later) more a h = let same : b ≡ a = cc in ap Due same

pub heard_followed : (A B : Type 0) (p : Asking A) (more : A → Asking B) (answer : Answered) → IsDue (first p)
    → heard (followed p more) answer ≡ followed (heard p answer) more
heard_followed A B (Done r) more answer h = absurd h
heard_followed A B (Ask a later) more answer h = refl

-- once nothing more is asked for, what follows stands there
pub done_followed : (A B : Type 0) (p : Asking A) (more : A → Asking B) (r : A) → first p ≡ Came r → followed p more ≡ more r
done_followed A B (Done s) more r h = let same : s ≡ r = cc in ap more same
done_followed A B (Ask a later) more r h = cc
