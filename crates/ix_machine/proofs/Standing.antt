-- What stands behind a descriptor, in the files' parts and in the world, and which of it a call may change.
use Rattle.std.proofs.Common.{◌≡◌, ℕ, Bool, true, false, not, List, Option, Some, None, option_map, unwrap_or, refl, sym, ap, ◌∙◌, if◌then◌else◌}
use Rattle.std.specs.Option.{option_map_or, option_and_then}
use Rattle.ix_label.specs.Category.{bottom}
use Rattle.ix_model.specs.world.{Naming.PathOf, World.{World, Frame, Object, Process, at, living, lives}}
use Rattle.ix_model.specs.history.{AuditLog.{object_of_path, object_sought, label_at, of_process}, Calls.op_of, Views.shown_of}
use Rattle.ix_model.specs.rows.Walks.{OpenFile, behind, behind_of, entry_at, node, nothing, walk}
use Rattle.ix_model.specs.declared.{call.Call.Call, ids.Obj.Obj, views.{Caller.Caller, ProcView.ProcView}}
use Rattle.ix_model.specs.declared.call.Call.TheVariants as call
use Rattle.ix_audit.specs.Lines.{Lines}
use Rattle.ix_proc.specs.Table.{ProcTable}
use Rattle.ix_tables.specs.{Parts.Parts, Views.frame_alone}
use Rattle.ix_fresh.specs.{Laws.{Spot, spot_behind}, Touched.{entry_target, label_of_entry, target}}
use Rattle.ix_fcalls.specs.{Claiming.entry_of, Views.{Seen, seen_in, seen_of, sought_of}, Spots.{spot_in, spot_through}}
use Rattle.ix_fcalls.specs.declared.walks.{Outcome.Outcome, Walked.Walked}
use Rattle.ix_fcalls.specs.declared.walks.Outcome.TheVariants as outcome
use Rattle.ix_machine.specs.Joined.{joined}

-- ---- behind a descriptor
module _ (t : Parts) (p : ProcTable) (l : Lines) (pid fd : ℕ) where
  entry_alone : (d : Option ℕ) → entry_at (frame_alone t) d ≡ entry_at (joined t p l).frame d
  entry_alone None = refl
  entry_alone (Some e) = refl

  pub behind_by : (c : Caller) (q : Process) → living (at p.processes pid) ≡ Some q → q.fds ≡ c.fds → entry_of c fd t ≡ behind (joined t p l).frame pid fd
  unfolding behind
  behind_by c q is fds = entry_alone (at c.fds fd) ∙ ap (λ (ds : List (Option ℕ)). entry_at (joined t p l).frame (at ds fd)) (sym fds)
      ∙ sym (ap (λ (o : Option Process). behind_of o (joined t p l).frame fd) is)

-- no descriptor of a process that doesn't live stands for anything
pub no_spot : (f : Frame) (pid fd : ℕ) → lives f pid ≡ false → None ≡ spot_behind f pid fd
unfolding behind
no_spot f pid fd h = go (at f.processes pid) h
  where
    ended : (b : Bool) (p : Process) → not b ≡ false → None ≡ option_map spot_through (behind_of (if b then None else Some p) f fd)
    ended true p h = refl
    ended false p h = cc

    go : (o : Option Process) → option_map_or (λ p. not p.ended) o false ≡ false → None ≡ option_map spot_through (behind_of (living o) f fd)
    go None h = refl
    go (Some p) h = ended p.ended p h

-- the open entry and the object of a spot, by their numbers
pub entry_in : (s : Option (ℕ × Obj)) (o : Option OpenFile) → option_map spot_in s ≡ option_map spot_through o → option_map (λ x. x.0) s ≡ option_map (λ b. b.id) o
entry_in None None h = refl
entry_in None (Some b) h = cc
entry_in (Some s) None h = cc
entry_in (Some s) (Some b) h = ap (option_map (λ (x : Spot). x.entry)) h

pub object_in : (s : Option (ℕ × Obj)) (o : Option OpenFile) → option_map spot_in s ≡ option_map spot_through o → option_map (λ x. x.1.0) s ≡ option_map (λ b. b.entry.object) o
object_in None None h = refl
object_in None (Some b) h = cc
object_in (Some s) None h = cc
object_in (Some s) (Some b) h = ap (option_map (λ (x : Spot). x.object)) h

-- ---- labels, and where a path leads
label_looked : (o : Option Process) (s : Option ProcView) → s ≡ option_map shown_of o → option_map_or (λ v. v.label) s bottom ≡ option_map_or (λ p. p.label) o bottom
label_looked None s h = ap (λ (x : Option ProcView). option_map_or (λ v. v.label) x bottom) h
label_looked (Some p) s h = ap (λ (x : Option ProcView). option_map_or (λ v. v.label) x bottom) h

label_there : (o : Option Object) → (unwrap_or o nothing).label ≡ option_map_or (λ x. x.label) o bottom
label_there None = refl
label_there (Some x) = refl

module _ (t : Parts) (p : ProcTable) (l : Lines) (w : World) (here : joined t p l ≡ w) where
  pub process_label_is : (pid : ℕ) (s : Option ProcView) → s ≡ option_map shown_of (at p.processes pid) → option_map_or (λ v. v.label) s bottom ≡ of_process (λ q. q.label) bottom w.frame pid
  unfolding of_process
  process_label_is pid s h = label_looked (at p.processes pid) s h ∙ ap (λ (v : World). option_map_or (λ q. q.label) (at v.frame.processes pid) bottom) here

  pub object_label_is : (n : ℕ) → (node t.objects n).label ≡ label_at w.frame (Some n)
  unfolding label_at
  object_label_is n = label_there (at t.objects n) ∙ ap (λ (v : World). option_map_or (λ x. x.label) (at v.frame.objects n) bottom) here

  pub entry_label_is : (id : ℕ) → label_of_entry (frame_alone t) (Some id) ≡ label_of_entry w.frame (Some id)
  entry_label_is id = ap (λ (v : World). label_of_entry v.frame (Some id)) here

  pub spot_is : (pid fd : ℕ) (c : Caller) (q : Process) (s : Option (ℕ × Obj)) → living (at w.frame.processes pid) ≡ Some q → q.fds ≡ c.fds
      → option_map spot_in s ≡ option_map spot_through (entry_of c fd t) → option_map spot_in s ≡ spot_behind w.frame pid fd
  spot_is pid fd c q s is fds h =
      h ∙ ap (option_map spot_through) (behind_by t p l pid fd c q (ap (λ (v : World). living (at v.frame.processes pid)) here ∙ is) fds)
      ∙ ap (λ (v : World). spot_behind v.frame pid fd) here

  pub object_walked : (pid : ℕ) (path : PathOf) (c : Caller) (q : Process) (s : Walked) → living (at w.frame.processes pid) ≡ Some q → q.cwd ≡ c.cwd.0
      → ((r : Process) → r.cwd ≡ c.cwd.0 → seen_of s ≡ seen_in (walk t.objects r path)) → object_sought (sought_of s.outcome) ≡ object_of_path w.frame pid path
  unfolding object_of_path
  object_walked pid path c q s is home walks =
      ap (λ (x : Seen). object_sought x.outcome) (walks q home)
      ∙ ap (λ (v : World). object_sought (walk v.frame.objects q path).outcome) here
      ∙ sym (ap (λ (o : Option Process). option_and_then (λ r. object_sought (walk w.frame.objects r path).outcome) o) is)

pub no_object : (f : Frame) (pid : ℕ) (path : PathOf) → lives f pid ≡ false → None ≡ object_of_path f pid path
unfolding object_of_path
no_object f pid path h = go (at f.processes pid) h
  where
    ended : (b : Bool) (p : Process) → not b ≡ false → None ≡ option_and_then (λ q. object_sought (walk f.objects q path).outcome) (if b then None else Some p)
    ended true p h = refl
    ended false p h = cc

    go : (o : Option Process) → option_map_or (λ p. not p.ended) o false ≡ false → None ≡ option_and_then (λ q. object_sought (walk f.objects q path).outcome) (living o)
    go None h = refl
    go (Some p) h = ended p.ended p h

pub none_found : (o : Outcome) → ((obj : _) (dir : _) → o ≡ outcome.Found obj dir → ⊥) → None ≡ object_sought (sought_of o)
none_found (outcome.Found obj dir) h = absurd (h obj dir refl)
none_found _ h = refl

-- ---- which of it a call may change
pub target_left : (f : Frame) (pid : ℕ) (c : Call)
    → ((fd : _) (bytes : _) → c ≡ call.WriteFd fd bytes → ⊥) → ((fd : _) (len : _) → c ≡ call.CutFd fd len → ⊥)
    → ((path : _) (label : _) → c ≡ call.SetLabel path label → ⊥) → ((path : _) → c ≡ call.Freeze path → ⊥)
    → ((path : _) (cap : _) (lic : _) → c ≡ call.SetPriv path cap lic → ⊥) → None ≡ target f pid (op_of c)
target_left f pid (call.WriteFd fd bytes) write cut set freeze give = absurd (write fd bytes refl)
target_left f pid (call.CutFd fd len) write cut set freeze give = absurd (cut fd len refl)
target_left f pid (call.SetLabel path label) write cut set freeze give = absurd (set path label refl)
target_left f pid (call.Freeze path) write cut set freeze give = absurd (freeze path refl)
target_left f pid (call.SetPriv path cap lic) write cut set freeze give = absurd (give path cap lic refl)
target_left f pid _ write cut set freeze give = refl

pub entry_left : (f : Frame) (pid : ℕ) (c : Call)
    → ((fd : _) (count : _) → c ≡ call.ReadFd fd count → ⊥) → ((fd : _) (bytes : _) → c ≡ call.WriteFd fd bytes → ⊥)
    → ((fd : _) (offset : _) → c ≡ call.SeekFd fd offset → ⊥) → None ≡ entry_target f pid (op_of c)
entry_left f pid (call.ReadFd fd count) read write seek = absurd (read fd count refl)
entry_left f pid (call.WriteFd fd bytes) read write seek = absurd (write fd bytes refl)
entry_left f pid (call.SeekFd fd offset) read write seek = absurd (seek fd offset refl)
entry_left f pid _ read write seek = refl
