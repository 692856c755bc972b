-- A row keeps what each of its words keeps.
use Rattle.std.proofs.Common.{ℕ, Bool, true, false, Option, Some, None}
use Rattle.ix_label.specs.Category.{Categories}
use Rattle.ix_model.specs.{world.World.{Frame, Object, at}, rows.{Outcomes.{Row, Outcome, Refuse, Pass}, OnLabels.{allowed, movable}}}
use Rattle.ix_model.specs.rows.{Walks.{Sought, found_object, found_spot, vacant}, Auditing.{entitled, log_has_room, exercise}, OnDescriptors.claimed}
use Rattle.ix_model.specs.{declared.{privs.PrivSet.PrivSet, refusal.Refusal.Refusal}, rows.Rows.{◌>>=◌, ◌>>◌, on_pass, pass, refuse, need, some, only_if, frame, process, object, record_of}}
use Rattle.ix_model.specs.rows.Walks as sought

-- R holds of the frame that the outcome has, passed or refused
unfoldable pub Holds : {A : Type 0} → Outcome A → (Frame → Type 0) → Type 0
Holds (Refuse r g) R = R g
Holds (Pass a g) R = R g

-- from a frame of which R holds, the row comes to one of which it holds
pub record Keeps {A : Type 0} (R : Frame → Type 0) (m : Row A) : Type 0 where
  pub led : (g : Frame) → R g → Holds (m g) R

keeps_on_pass : {A B : Type 0} (R : Frame → Type 0) (o : Outcome A) (k : A → Row B) → Holds o R → ((a : A) → Keeps R (k a)) → Holds (on_pass o k) R
unfolding Holds on_pass
keeps_on_pass R (Refuse r g) k h hk = h
keeps_on_pass R (Pass a g) k h hk = (hk a).led g h

pub keeps_bind : {A B : Type 0} (R : Frame → Type 0) (m : Row A) (k : A → Row B) → Keeps R m → ((a : A) → Keeps R (k a)) → Keeps R (◌>>=◌ m k)
unfolding ◌>>=◌
keeps_bind R m k hm hk = record { led = λ g a. keeps_on_pass R (m g) k (hm.led g a) hk }

pub keeps_then : {A B : Type 0} (R : Frame → Type 0) (m : Row A) (k : Row B) → Keeps R m → Keeps R k → Keeps R (◌>>◌ m k)
unfolding ◌>>◌
keeps_then R m k hm hk = record { led = λ g a. keeps_on_pass R (m g) _ (hm.led g a) (λ u. hk) }

pub keeps_pass : {A : Type 0} (R : Frame → Type 0) (a : A) → Keeps R (pass a)
unfolding pass Holds
keeps_pass R a = search

pub keeps_frame : (R : Frame → Type 0) → Keeps R frame
unfolding frame Holds
keeps_frame R = search

pub keeps_refuse : {A : Type 0} (R : Frame → Type 0) (r : Refusal) → Keeps R (refuse {A = A} r)
unfolding refuse Holds
keeps_refuse R r = search

pub keeps_need : (R : Frame → Type 0) (b : Bool) (r : Refusal) → Keeps R (need b r)
unfolding need Holds refuse pass
keeps_need R true r = search
keeps_need R false r = search

pub keeps_some : {A : Type 0} (R : Frame → Type 0) (o : Option A) (r : Refusal) → Keeps R (some o r)
unfolding some Holds refuse pass
keeps_some R None r = search
keeps_some R (Some x) r = search

pub keeps_only_if : (R : Frame → Type 0) (b : Bool) (m : Row (Unit {0})) → Keeps R m → Keeps R (only_if b m)
unfolding only_if pass Holds
keeps_only_if R true m h = h
keeps_only_if R false m h = search

pub keeps_there : (R : Frame → Type 0) (w : Sought) → Keeps R (found_object w)
unfolding found_object pass Holds refuse
keeps_there R sought.NotDir = search
keeps_there R _ = search

pub keeps_caller : (R : Frame → Type 0) (pid : ℕ) → Keeps R (process pid)
unfolding process
keeps_caller R pid = record { led = λ g. (keeps_some R _ _).led g }

pub keeps_object : (R : Frame → Type 0) (o : ℕ) → Keeps R (object o)
unfolding object
keeps_object R o = record { led = λ g. (keeps_some R (at g.objects o) _).led g }

pub keeps_spot : (R : Frame → Type 0) (w : Sought) → Keeps R (found_spot w)
unfolding found_spot pass Holds refuse
keeps_spot R sought.NotDir = search
keeps_spot R _ = search

pub keeps_vacant : (R : Frame → Type 0) (w : Sought) → Keeps R (vacant w)
unfolding vacant pass Holds refuse
keeps_vacant R sought.NotDir = search
keeps_vacant R _ = search

pub keeps_record_of : (R : Frame → Type 0) (p : ℕ) → Keeps R (record_of p)
unfolding record_of
keeps_record_of R p = record { led = λ g. (keeps_some R _ _).led g }

-- the words that change nothing, and those that join words: what every row is made of, whatever is kept
pub ruleset keeping = (
  keeps_bind,
  keeps_then,
  keeps_pass,
  keeps_frame,
  keeps_refuse,
  keeps_need,
  keeps_some,
  keeps_only_if,
  keeps_there,
  keeps_spot,
  keeps_vacant,
  keeps_caller,
  keeps_object,
  keeps_record_of,
)

-- privileges are looked at, and nothing changes
pub keeps_entitled : (R : Frame → Type 0) (pid : ℕ) (x : PrivSet) → Keeps R (entitled pid x)
unfolding entitled
keeps_entitled R pid x = search keeping depth 20

pub keeps_log_has_room : (R : Frame → Type 0) → Keeps R log_has_room
unfolding log_has_room
keeps_log_has_room R = search keeping depth 20

pub keeps_exercise : (R : Frame → Type 0) (pid : ℕ) (x : PrivSet) → Keeps R (exercise pid x)
unfolding exercise
keeps_exercise R pid x = search (keeping, keeps_entitled, keeps_log_has_room) depth 20

pub keeps_allowed : (R : Frame → Type 0) (pid : ℕ) (was now : Categories) → Keeps R (allowed pid was now)
unfolding allowed
keeps_allowed R pid was now = search (keeping, keeps_exercise) depth 20

pub keeps_movable : (R : Frame → Type 0) (x : Object) (now : Categories) → Keeps R (movable x now)
unfolding movable
keeps_movable R x now = search keeping depth 20

pub keeps_claimed : (R : Frame → Type 0) (other : Option ℕ) → Keeps R (claimed other)
unfolding claimed
keeps_claimed R None = search keeping depth 20
keeps_claimed R (Some q) = search keeping depth 20

-- the longer words that change nothing
pub ruleset keeping_tests = (keeps_entitled, keeps_log_has_room, keeps_exercise, keeps_allowed, keeps_movable, keeps_claimed)
