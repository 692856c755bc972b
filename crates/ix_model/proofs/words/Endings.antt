-- What is known where the words end that make and unmake.
use Rattle.std.proofs.Common.{◌≡◌, ℕ, Option, Some, [], ◌∷◌, ◌++◌}
use Rattle.ix_model.specs.{world.World.{Frame, Object, Process, at, put}, rows.Rows.{put_object, put_process, add_process, record_of}}
use Rattle.ix_model.{specs.declared.refusal.Refusal.Refusal, proofs.words.Ends.{Ends, ends_some}}
use Rattle.ix_model.specs.declared.refusal.Refusal.TheVariants as refusal

pub ends_put_object : (o : ℕ) (x : Option Object) (f : Frame) (P : Refusal → Frame → Type 0) (Q : Unit {0} → Frame → Type 0)
    → Q tt (record f { objects = put f.objects o x }) → Ends (put_object o x f) P Q
unfolding put_object Ends
ends_put_object o x f P Q h = h

pub ends_put_process : (p : ℕ) (x : Option Process) (f : Frame) (P : Refusal → Frame → Type 0) (Q : Unit {0} → Frame → Type 0)
    → Q tt (record f { processes = put f.processes p x }) → Ends (put_process p x f) P Q
unfolding put_process Ends
ends_put_process p x f P Q h = h

pub ends_add_process : (q : Process) (f : Frame) (P : Refusal → Frame → Type 0) (Q : Unit {0} → Frame → Type 0)
    → Q tt (record f { processes = f.processes ++ Some q ∷ [] }) → Ends (add_process q f) P Q
unfolding add_process Ends
ends_add_process q f P Q h = h

pub ends_record_of : (p : ℕ) (f : Frame) (P : Refusal → Frame → Type 0) (Q : Process → Frame → Type 0) → ((q : Process) → at f.processes p ≡ Some q → Q q f)
    → P refusal.NoProcess f → Ends (record_of p f) P Q
unfolding record_of
ends_record_of p f P Q h k = ends_some _ _ _ _ _ h k
