-- What is known where a row ends: P of a refusal and its frame, Q of what it passes and its frame.
use Rattle.std.proofs.Common.{ℕ, ◌≡◌, Bool, true, false, Option, Some, None, refl, subst}
use Rattle.ix_model.specs.{world.World.{Frame, Object, Process, Open, at, put, change, living}, rows.{Outcomes.{Row, Outcome, Refuse, Pass}, Rows.change_open}}
use Rattle.ix_model.{specs.{rows.Walks.{Sought, OpenFile, found_object, behind, opened}, declared.refusal.Refusal.Refusal}, proofs.words.Keeps.Holds}
use Rattle.ix_model.specs.rows.Rows.{◌>>=◌, ◌>>◌, on_pass, pass, refuse, need, some, only_if, frame, process, object, change_object, change_process, put_open}
use Rattle.ix_model.specs.rows.Walks as sought
use Rattle.ix_model.specs.declared.refusal.Refusal.TheVariants as refusal

unfoldable pub Ends : {A : Type 0} → Outcome A → (Refusal → Frame → Type 0) → (A → Frame → Type 0) → Type 0
Ends (Refuse r g) P Q = P r g
Ends (Pass a g) P Q = Q a g

-- nothing is said of a refusal
abbrev pub Anything : Refusal → Frame → Type 0
Anything r g = Unit

ends_on_pass : {A B : Type 0} (o : Outcome A) (k : A → Frame → Outcome B) (P : Refusal → Frame → Type 0) (Q : B → Frame → Type 0) → Ends o P (λ a g. Ends (k a g) P Q) → Ends (on_pass o k) P Q
unfolding Ends on_pass
ends_on_pass (Refuse r g) k P Q h = h
ends_on_pass (Pass a g) k P Q h = h

pub ends_more : {A : Type 0} (o : Outcome A) (P : Refusal → Frame → Type 0) (Q R : A → Frame → Type 0) → Ends o P Q → ((a : A) (g : Frame) → Q a g → R a g) → Ends o P R
unfolding Ends
ends_more (Refuse r g) P Q R h k = h
ends_more (Pass a g) P Q R h k = k a g h

-- what a row keeps is known where it ends
pub ends_kept : {A : Type 0} (R : Frame → Type 0) (o : Outcome A) (P : Refusal → Frame → Type 0) (Q : A → Frame → Type 0) → Holds o R
    → ((r : Refusal) (g : Frame) → R g → P r g) → ((a : A) (g : Frame) → R g → Q a g) → Ends o P Q
unfolding Ends Holds
ends_kept R (Refuse r g) P Q h k l = k r g h
ends_kept R (Pass a g) P Q h k l = l a g h

-- and the other way round
pub kept_ends : {A : Type 0} (R : Frame → Type 0) (o : Outcome A) → Ends o (λ r g. R g) (λ a g. R g) → Holds o R
unfolding Ends Holds
kept_ends R (Refuse r g) h = h
kept_ends R (Pass a g) h = h

-- what is known of a row that passed
pub known_passed : {A : Type 0} (o : Outcome A) (a : A) (g : Frame) (Q : A → Frame → Type 0) → o ≡ Pass a g → Ends o Anything Q → Q a g
unfolding Ends
known_passed (Refuse r h) a g Q is k = cc
known_passed {A = A} (Pass m h) a g Q is k =
    let number : m ≡ a = cc in
    let same : h ≡ g = cc in
    subst (λ x. Q x g) number (subst (λ x. Q m x) same k)

module _ {A B : Type 0} where
  pub ends_bind : (m : Row A) (k : A → Row B) (f : Frame) (P : Refusal → Frame → Type 0) (Q : B → Frame → Type 0) → Ends (m f) P (λ a g. Ends (k a g) P Q) → Ends (◌>>=◌ m k f) P Q
  unfolding ◌>>=◌
  ends_bind m k f P Q h = ends_on_pass (m f) k P Q h

  pub ends_then : (m : Row A) (k : Row B) (f : Frame) (P : Refusal → Frame → Type 0) (Q : B → Frame → Type 0) → Ends (m f) P (λ a g. Ends (k g) P Q) → Ends (◌>>◌ m k f) P Q
  unfolding ◌>>◌
  ends_then m k f P Q h = ends_on_pass (m f) _ P Q h

pub ends_pass : {A : Type 0} (a : A) (f : Frame) (P : Refusal → Frame → Type 0) (Q : A → Frame → Type 0) → Q a f → Ends (pass a f) P Q
unfolding Ends pass
ends_pass a f P Q h = h

pub ends_frame : (f : Frame) (P : Refusal → Frame → Type 0) (Q : Frame → Frame → Type 0) → Q f f → Ends (frame f) P Q
unfolding Ends frame
ends_frame f P Q h = h

pub ends_refuse : {A : Type 0} (r : Refusal) (f : Frame) (P : Refusal → Frame → Type 0) (Q : A → Frame → Type 0) → P r f → Ends (refuse {A = A} r f) P Q
unfolding Ends refuse
ends_refuse r f P Q h = h

pub ends_need : (b : Bool) (r : Refusal) (f : Frame) (P : Refusal → Frame → Type 0) (Q : Unit {0} → Frame → Type 0) → (b ≡ true → Q tt f) → P r f → Ends (need b r f) P Q
unfolding Ends need refuse pass
ends_need true r f P Q h k = h refl
ends_need false r f P Q h k = k

pub ends_some : {A : Type 0} (o : Option A) (r : Refusal) (f : Frame) (P : Refusal → Frame → Type 0) (Q : A → Frame → Type 0) → ((a : A) → o ≡ Some a → Q a f) → P r f → Ends (some o r f) P Q
unfolding Ends some refuse pass
ends_some None r f P Q h k = k
ends_some (Some a) r f P Q h k = h a refl

pub ends_only_if : (b : Bool) (m : Row (Unit {0})) (f : Frame) (P : Refusal → Frame → Type 0) (Q : Unit {0} → Frame → Type 0) → (b ≡ true → Ends (m f) P Q)
    → (b ≡ false → Q tt f) → Ends (only_if b m f) P Q
unfolding Ends only_if pass
ends_only_if true m f P Q h k = h refl
ends_only_if false m f P Q h k = k refl

pub ends_caller : (pid : ℕ) (f : Frame) (P : Refusal → Frame → Type 0) (Q : Process → Frame → Type 0) → ((p : Process) → living (at f.processes pid) ≡ Some p
    → Q p f) → P refusal.NoProcess f → Ends (process pid f) P Q
unfolding process
ends_caller pid f P Q h k = ends_some _ _ _ _ _ h k

pub ends_object : (o : ℕ) (f : Frame) (P : Refusal → Frame → Type 0) (Q : Object → Frame → Type 0) → ((x : Object) → at f.objects o ≡ Some x → Q x f) → P refusal.BadFd f → Ends (object o f) P Q
unfolding object
ends_object o f P Q h k = ends_some _ _ _ _ _ h k

pub ends_change_object : (o : ℕ) (h : Object → Object) (f : Frame) (P : Refusal → Frame → Type 0) (Q : Unit {0} → Frame → Type 0)
    → Q tt (record f { objects = change f.objects o h }) → Ends (change_object o h f) P Q
unfolding Ends change_object
ends_change_object o h f P Q k = k

pub ends_change_caller : (pid : ℕ) (h : Process → Process) (f : Frame) (P : Refusal → Frame → Type 0) (Q : Unit {0} → Frame → Type 0)
    → Q tt (record f { processes = change f.processes pid h }) → Ends (change_process pid h f) P Q
unfolding Ends change_process
ends_change_caller pid h f P Q k = k

pub ends_change_open : (e : ℕ) (h : Open → Open) (f : Frame) (P : Refusal → Frame → Type 0) (Q : Unit {0} → Frame → Type 0)
    → Q tt (record f { opens = change f.opens e h }) → Ends (change_open e h f) P Q
unfolding Ends change_open
ends_change_open e h f P Q k = k

pub ends_put_open : (e : ℕ) (x : Option Open) (f : Frame) (P : Refusal → Frame → Type 0) (Q : Unit {0} → Frame → Type 0) → Q tt (record f { opens = put f.opens e x }) → Ends (put_open e x f) P Q
unfolding Ends put_open
ends_put_open e x f P Q k = k

pub ends_there : (w : Sought) (f : Frame) (P : Refusal → Frame → Type 0) (Q : ℕ → Frame → Type 0) → ((o : ℕ) (dir : Option ℕ) → w ≡ sought.Found o dir → Q o f)
    → P refusal.NotDir f → P refusal.NotFound f → Ends (found_object w f) P Q
unfolding found_object Ends pass refuse
ends_there sought.NotDir f P Q h d n = d
ends_there sought.NotFound f P Q h d n = n
ends_there (sought.Missing a) f P Q h d n = n
ends_there (sought.Found o dir) f P Q h d n = h o dir refl

pub ends_opened : (pid fd : ℕ) (f : Frame) (P : Refusal → Frame → Type 0) (Q : OpenFile → Frame → Type 0) → ((e : OpenFile) → behind f pid fd ≡ Some e → Q e f)
    → P refusal.BadFd f → Ends (opened pid fd f) P Q
unfolding opened
ends_opened pid fd f P Q h k = ends_bind _ _ f P Q (ends_frame f P _ (ends_some _ _ _ _ _ h k))

-- one lemma for each word: those that ask for nothing of the frame, and all
pub ruleset plain = (
  ends_bind,
  ends_then,
  ends_pass,
  ends_refuse,
  ends_frame,
  ends_need,
  ends_some,
  ends_only_if,
  ends_change_object,
  ends_change_caller,
  ends_put_open,
  ends_there,
)

pub ruleset ending = (plain, ends_caller, ends_object, ends_opened)
