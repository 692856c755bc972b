-- What the two rules of floating come to: a refusal that changes nothing, nothing to do, or a label joined that may be.
use Rattle.std.proofs.Common.{◌≡◌, ℕ, true, Some}
use Rattle.ix_label.specs.Category.{Categories, join, leq}
use Rattle.ix_model.{specs.{world.World.{Frame, Object, Process, at, change, living, ceiling_of, Open}, declared.refusal.Refusal.Refusal}, proofs.words.Ends.ends_change_open}
use Rattle.ix_model.specs.rows.{Walks.OpenFile, OnDescriptors.float_entry, Rows.{observe, affect}}
use Rattle.ix_model.proofs.words.Ends.{Ends, ending, ends_bind, ends_then, ends_caller, ends_object, ends_frame, ends_only_if, ends_need, ends_change_object}

pub ends_observe : (pid : ℕ) (seen : Categories) (f : Frame) (P : Refusal → Frame → Type 0) (Q : Unit {0} → Frame → Type 0) → ((r : Refusal) → P r f) → Q tt f
    → ((p : Process) → living (at f.processes pid) ≡ Some p → leq (join p.label seen) p.ceiling ≡ true
    → Q tt (record f { processes = change f.processes pid (λ q. record q { label = join q.label seen }) })) → Ends (observe pid seen f) P Q
unfolding observe
ends_observe pid seen f P Q refused stays changes = search (ending, refused, stays, changes) depth 30 fits 4000

pub ends_affect : (pid o : ℕ) (through : Categories) (f : Frame) (P : Refusal → Frame → Type 0) (Q : Unit {0} → Frame → Type 0) → ((r : Refusal) → P r f)
    → Q tt f → ((l : Categories) (x : Object) → at f.objects o ≡ Some x → leq (join x.label l) (ceiling_of f.fss x) ≡ true
    → Q tt (record f { objects = change f.objects o (λ y. record y { label = join y.label l }) })) → Ends (affect pid o through f) P Q
unfolding affect
ends_affect pid o through f P Q refused stays changes =
    ends_bind _ _ f P Q (ends_caller pid f P _ (λ p lives.
    ends_bind _ _ f P Q (ends_object o f P _ (λ x is.
    ends_bind _ _ f P Q (ends_frame f P _ (ends_only_if _ _ f P Q
    (λ raises. ends_then _ _ f P Q (ends_need _ _ f P _
    (λ free. ends_then _ _ f P Q (ends_need _ _ f P _
    (λ low. ends_change_object o _ f P Q (changes (join p.label through) x is low))
    (refused _)))
    (refused _)))
    (λ same. stays))))
    (refused _)))
    (refused _))

-- whatever becomes of the object
pub ends_touch : (pid o : ℕ) (through : Categories) (f : Frame) (P : Refusal → Frame → Type 0) (Q : Unit {0} → Frame → Type 0) → ((r : Refusal) → P r f)
    → ((g : Frame) → Q tt g) → Ends (affect pid o through f) P Q
ends_touch pid o through f P Q h k = ends_affect pid o through f P Q h (k f) (λ l x is low. k _)

-- whatever becomes of the open entry
pub ends_float_entry : (p : Process) (x : Object) (e : OpenFile) (f : Frame) (P : Refusal → Frame → Type 0) (Q : Unit {0} → Frame → Type 0) → Q tt f
    → ((h : Open → Open) → Q tt (record f { opens = change f.opens e.id h })) → Ends (float_entry p x e f) P Q
unfolding float_entry
ends_float_entry p x e f P Q stays changes = ends_only_if _ _ f P Q (λ file. ends_change_open _ _ f P Q (changes _)) (λ pipe. stays)
