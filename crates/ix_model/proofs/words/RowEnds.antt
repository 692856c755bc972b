-- Where the other words end: those that test, those that change something, and those that let go, which refuse nothing.
use Rattle.std.{proofs.Common.{◌≡◌, ◌++◌, ℕ, List, [], ◌∷◌, Option, Some, None, refl, Bool}, specs.Option.{option_map_or, option_and_then}}
use Rattle.ix_label.specs.Category.{Categories}
use Rattle.ix_model.specs.{world.World.{Frame, Object, at, put}, rows.{Outcomes.Row, Walks.{Spot, Sought, OpenFile, found_spot, vacant}}}
use Rattle.ix_model.specs.rows.{Auditing.{entitled, log_has_room, exercise, logged}, OnProcesses.{remains, end_process}, OnLabels.{allowed, movable}}
use Rattle.ix_model.specs.{declared.{privs.PrivSet.PrivSet, audit.AuditLine.AuditLine, refusal.Refusal.Refusal}, rows.Rows.{pass, only_if, put_object, put_open, put_process}}
use Rattle.ix_model.specs.rows.Lifetimes.{let_go_object, let_go_open, let_go_claim, let_go, let_go_if_held, let_go_each, let_go_all}
use Rattle.ix_model.proofs.words.Keeps.{Keeps, keeps_entitled, keeps_log_has_room, keeps_exercise, keeps_allowed, keeps_movable}
use Rattle.ix_model.proofs.words.{Ends.{Ends, ending, ends_kept, ends_then, ends_only_if, ends_pass}, Endings.{ends_put_object, ends_put_process, ends_add_process, ends_record_of}}
use Rattle.ix_model.specs.rows.Walks as sought
use Rattle.ix_model.specs.declared.refusal.Refusal.TheVariants as refusal

-- ---- tests
-- a word that keeps whatever holds leaves the frame as it is
ends_test : (m : Row (Unit {0})) (f : Frame) (P : Refusal → Frame → Type 0) (Q : Unit {0} → Frame → Type 0) → ((R : Frame → Type 0) → Keeps R m) → ((r : Refusal) → P r f) → Q tt f → Ends (m f) P Q
ends_test m f P Q keeps h k =
    ends_kept _ (m f) P Q ((keeps (λ g. (r : Refusal) → (P r g) × (Q tt g))).led f (λ r. (h r, k)))
    (λ r g both. (both r).0) (λ u g both. (both refusal.NoProcess).1)

pub ends_entitled : (pid : ℕ) (x : PrivSet) (f : Frame) (P : Refusal → Frame → Type 0) (Q : Unit {0} → Frame → Type 0) → ((r : Refusal) → P r f) → Q tt f → Ends (entitled pid x f) P Q
ends_entitled pid x f P Q h k = ends_test (entitled pid x) f P Q (λ R. keeps_entitled R _ x) h k

pub ends_log_has_room : (f : Frame) (P : Refusal → Frame → Type 0) (Q : Unit {0} → Frame → Type 0) → ((r : Refusal) → P r f) → Q tt f → Ends (log_has_room f) P Q
ends_log_has_room f P Q h k = ends_test log_has_room f P Q (λ R. keeps_log_has_room R) h k

pub ends_exercise : (pid : ℕ) (x : PrivSet) (f : Frame) (P : Refusal → Frame → Type 0) (Q : Unit {0} → Frame → Type 0) → ((r : Refusal) → P r f) → Q tt f → Ends (exercise pid x f) P Q
ends_exercise pid x f P Q h k = ends_test (exercise pid x) f P Q (λ R. keeps_exercise R _ x) h k

pub ends_allowed : (pid : ℕ) (was now : Categories) (f : Frame) (P : Refusal → Frame → Type 0) (Q : Unit {0} → Frame → Type 0) → ((r : Refusal) → P r f) → Q tt f → Ends (allowed pid was now f) P Q
ends_allowed pid was now f P Q h k = ends_test (allowed pid was now) f P Q (λ R. keeps_allowed R _ _ _) h k

pub ends_movable : (x : Object) (now : Categories) (f : Frame) (P : Refusal → Frame → Type 0) (Q : Unit {0} → Frame → Type 0) → ((r : Refusal) → P r f) → Q tt f → Ends (movable x now f) P Q
ends_movable x now f P Q h k = ends_test (movable x now) f P Q (λ R. keeps_movable R x _) h k

pub ends_spot : (w : Sought) (f : Frame) (P : Refusal → Frame → Type 0) (Q : Spot → Frame → Type 0) → ((o : ℕ) (dir : Option ℕ) → w ≡ sought.Found o dir
    → Q (record { object = o; dir = dir }) f) → P refusal.NotDir f → P refusal.NotFound f → Ends (found_spot w f) P Q
unfolding found_spot Ends pass Rattle.ix_model.specs.rows.Rows.refuse
ends_spot sought.NotDir f P Q h d n = d
ends_spot sought.NotFound f P Q h d n = n
ends_spot (sought.Missing a) f P Q h d n = n
ends_spot (sought.Found o dir) f P Q h d n = h o dir refl

pub ends_vacant : (w : Sought) (f : Frame) (P : Refusal → Frame → Type 0) (Q : ℕ → Frame → Type 0) → ((d : ℕ) → w ≡ sought.Missing d → Q d f)
    → P refusal.Exists f → P refusal.NotDir f → P refusal.NotFound f → Ends (vacant w f) P Q
unfolding vacant Ends pass Rattle.ix_model.specs.rows.Rows.refuse
ends_vacant sought.NotDir f P Q h e d n = d
ends_vacant sought.NotFound f P Q h e d n = n
ends_vacant (sought.Missing a) f P Q h e d n = h a refl
ends_vacant (sought.Found o dir) f P Q h e d n = e

-- ---- changes
pub ends_end_process : (pid : ℕ) (f : Frame) (P : Refusal → Frame → Type 0) (Q : Unit {0} → Frame → Type 0)
    → Q tt (record f { processes = put f.processes pid (option_and_then remains (at f.processes pid)) }) → Ends (end_process pid f) P Q
unfolding Ends end_process put_process
ends_end_process pid f P Q k = k

pub ends_logged : (l : AuditLine) (f : Frame) (P : Refusal → Frame → Type 0) (Q : Unit {0} → Frame → Type 0) → Q tt (record f { log = f.log ++ l ∷ [] }) → Ends (logged l f) P Q
unfolding Ends logged
ends_logged l f P Q k = k

-- one lemma for each of these words
pub ruleset storing = (ending, ends_record_of, ends_spot, ends_vacant, ends_put_object, ends_put_process, ends_add_process, ends_end_process, ends_logged)

pub ruleset endings = (storing, ends_entitled, ends_log_has_room, ends_exercise, ends_allowed, ends_movable)

-- ---- what lets go
-- a word that refuses nothing, whatever frame it leaves
module _ (P : Refusal → Frame → Type 0) (Q : Unit {0} → Frame → Type 0) (leaves : (g : Frame) → Q tt g) where
  whether : (b : Bool) (m : Row (Unit {0})) (f : Frame) → ((g : Frame) → Ends (m g) P Q) → Ends (only_if b m f) P Q
  whether b m f h = ends_only_if b m f P Q (λ on. h f) (λ off. leaves f)

  pub ends_let_go_object : (o : ℕ) (f : Frame) → Ends (let_go_object o f) P Q
  unfolding let_go_object
  ends_let_go_object o f = whether _ (put_object o None) f (λ g. ends_put_object o _ g P Q (leaves _))

  pub ends_let_go_open : (e : ℕ) (f : Frame) → Ends (let_go_open e f) P Q
  unfolding let_go_open
  ends_let_go_open e f = whether _ (put_open e None) f (λ g. search (ending, leaves))

  pub ends_let_go_claim : (pid o end : ℕ) (f : Frame) → Ends (let_go_claim pid o end f) P Q
  unfolding let_go_claim
  ends_let_go_claim pid o end f = whether _ _ f (λ g. search (ending, leaves))

module _ (P : Refusal → Frame → Type 0) where
  pub ends_let_go : (pid fd : ℕ) (e : OpenFile) (f : Frame) (Q : Unit {0} → Frame → Type 0) → ((g : Frame) → Q tt g) → Ends (let_go pid fd e f) P Q
  unfolding let_go
  ends_let_go pid fd e f Q leaves = search (ending, ends_let_go_object, ends_let_go_open, ends_let_go_claim, leaves) depth 20

  ends_let_go_if_held : (pid fd : ℕ) (f : Frame) (Q : Unit {0} → Frame → Type 0) → ((g : Frame) → Q tt g) → Ends (let_go_if_held pid fd f) P Q
  unfolding let_go_if_held
  ends_let_go_if_held pid fd f Q leaves = go _
    where
      go : (b : Option OpenFile) → Ends (option_map_or (let_go pid fd) b (pass tt) f) P Q
      go None = ends_pass tt f P Q (leaves f)
      go (Some e) = ends_let_go _ fd e f Q leaves

  ends_let_go_each : (pid : ℕ) (fds : List ℕ) (f : Frame) (Q : Unit {0} → Frame → Type 0) → ((g : Frame) → Q tt g) → Ends (let_go_each pid fds f) P Q
  unfolding let_go_each
  ends_let_go_each pid [] f Q leaves = ends_pass tt f P Q (leaves f)
  ends_let_go_each pid (fd ∷ fds) f Q leaves = ends_then _ _ f P Q (ends_let_go_if_held _ fd f _ (λ g. ends_let_go_each _ fds g Q leaves))

  pub ends_let_go_all : (pid : ℕ) (f : Frame) (Q : Unit {0} → Frame → Type 0) → ((g : Frame) → Q tt g) → Ends (let_go_all pid f) P Q
  unfolding let_go_all
  ends_let_go_all pid f Q leaves = ends_let_go_each _ _ f Q leaves
