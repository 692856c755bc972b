-- Rows that keep one thing up to a word, and another from there on.
use Rattle.std.proofs.Common.{◌≡◌, Bool, true, false, Option, Some, None, refl}
use Rattle.ix_model.specs.{world.World.Frame, rows.Outcomes.{Outcome, Row, Refuse, Pass}, declared.refusal.Refusal.Refusal}
use Rattle.ix_model.{specs.rows.Rows.{◌>>=◌, ◌>>◌, on_pass, pass, refuse, some, only_if, frame}, proofs.words.Keeps.{Holds, Keeps}}

-- from a frame of which R holds, the row comes to one of which S holds
pub record Turns {A : Type 0} (R S : Frame → Type 0) (m : Row A) : Type 0 where
  pub led : (g : Frame) → R g → Holds (m g) S

pub holds_more : {A : Type 0} (R S : Frame → Type 0) (o : Outcome A) → ((g : Frame) → R g → S g) → Holds o R → Holds o S
unfolding Holds
holds_more R S (Refuse r g) so h = so g h
holds_more R S (Pass a g) so h = so g h

module _ (R S : Frame → Type 0) (so : (g : Frame) → R g → S g) where
  before_passed : {A B : Type 0} (o : Outcome A) (k : A → Row B) → Holds o R → ((a : A) → Turns R S (k a)) → Holds (on_pass o k) S
  unfolding Holds on_pass
  before_passed (Refuse r g) k h t = so g h
  before_passed (Pass a g) k h t = (t a).led g h

  after_passed : {A B : Type 0} (o : Outcome A) (k : A → Row B) → Holds o S → ((a : A) → Keeps S (k a)) → Holds (on_pass o k) S
  unfolding Holds on_pass
  after_passed (Refuse r g) k h t = h
  after_passed (Pass a g) k h t = (t a).led g h

  -- the turn is still to come
  pub turns_bind_frame : {B : Type 0} (k : Frame → Row B) → ((f : Frame) → R f → Turns R S (k f)) → Turns R S (◌>>=◌ frame k)
  unfolding ◌>>=◌ frame on_pass
  turns_bind_frame k h = record { led = λ g r. (h g r).led g r }

  pub turns_bind_some : {A B : Type 0} (o : Option A) (why : Refusal) (k : A → Row B) → ((a : A) → o ≡ Some a → Turns R S (k a)) → Turns R S (◌>>=◌ (some o why) k)
  unfolding ◌>>=◌ some pass Holds on_pass refuse
  turns_bind_some None why k h = record { led = λ g r. so g r }
  turns_bind_some (Some x) why k h = record { led = λ g r. (h x refl).led g r }

  pub turns_bind_first : {A B : Type 0} (m : Row A) (k : A → Row B) → Keeps R m → ((a : A) → Turns R S (k a)) → Turns R S (◌>>=◌ m k)
  unfolding ◌>>=◌
  turns_bind_first m k hm hk = record { led = λ g r. before_passed (m g) k (hm.led g r) hk }

  pub turns_then_first : {A B : Type 0} (m : Row A) (k : Row B) → Keeps R m → Turns R S k → Turns R S (◌>>◌ m k)
  unfolding ◌>>◌
  turns_then_first m k hm hk = record { led = λ g r. before_passed (m g) _ (hm.led g r) (λ a. hk) }

  -- here is the turn
  pub turns_then_last : {A B : Type 0} (m : Row A) (k : Row B) → Turns R S m → Keeps S k → Turns R S (◌>>◌ m k)
  unfolding ◌>>◌
  turns_then_last m k hm hk = record { led = λ g r. after_passed (m g) _ (hm.led g r) (λ a. hk) }

  pub turns_only_if : (b : Bool) (m : Row (Unit {0})) → Turns R S m → Turns R S (only_if b m)
  unfolding only_if pass Holds
  turns_only_if true m h = h
  turns_only_if false m h = record { led = λ g r. so g r }

  pub ruleset turning = (turns_bind_frame, turns_bind_some, turns_bind_first, turns_then_first, turns_then_last, turns_only_if)
