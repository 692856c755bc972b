-- Who may exercise a privilege, and what calls make of the privileges that processes and objects have.
use Rattle.std.specs.Prelude.{◌≡◌, ℕ, ◌==◌, Bool, true, false, ◌&&◌, ◌||◌, Some, None, if◌then◌else◌}
use Rattle.std.specs.Option.{option_map_or, option_and_then}
use Rattle.std.proofs.Common.{option_map}
use Rattle.ix_model.specs.world.Naming.{PathOf}
use Rattle.ix_model.specs.world.Privs.{no_privileges, has_all, either_of, without, to_lower, to_grant, to_set_ceilings, to_thaw, to_read_the_log}
use Rattle.ix_model.specs.world.World.{Frame, World, Object, Process, at, living}
use Rattle.ix_model.specs.history.Step.{step}
use Rattle.ix_model.specs.history.AuditLog.{object_of_path, is_answer, is_licensed}
use Rattle.ix_model.specs.history.Events.{Op, Event}
use Rattle.ix_model.specs.history.Events as op
use Rattle.ix_model.specs.declared.privs.PrivSet.{PrivSet}

-- ---- exercising one
-- the privilege that a call exercises, where it exercises one
abbrev pub privilege_of : Op → PrivSet
privilege_of (op.SetLabel path now) = to_lower
privilege_of (op.SetSelf now) = to_lower
privilege_of (op.Thaw path) = to_thaw
privilege_of op.ThawSelf = to_thaw
privilege_of (op.SetPriv path caps lics) = to_grant
privilege_of (op.GrantLic target set) = to_grant
privilege_of (op.SetCeiling target now) = to_set_ceilings
privilege_of (op.ReadLog index) = to_read_the_log
privilege_of _ = no_privileges

-- whether a living process has a privilege among its capabilities, and a licence for it, its own or its program's
abbrev pub is_entitled : Frame → ℕ → PrivSet → Bool
is_entitled f pid x = option_map_or (λ p. has_all p.cap x && (has_all p.lic x || has_all p.own x)) (living (at f.processes pid)) false

-- who exercises a privilege was entitled to it
abbrev pub TheEntitledExercise : Type 0
TheEntitledExercise = (w : World) (place : ℕ) (e : Event) → is_licensed w place e ≡ true → is_entitled w.frame e.pid (privilege_of e.op) ≡ true

-- ---- having them
pub record Privileges : Type 0 where
  pub cap : PrivSet
  pub lic : PrivSet
  pub own : PrivSet

-- what a process has
abbrev pub privileges : Process → Privileges
privileges q = record { cap = q.cap; lic = q.lic; own = q.own }

-- what an object carries
pub record Carried : Type 0 where
  pub cap : PrivSet
  pub lic : PrivSet

abbrev pub carried_by : Object → Carried
carried_by x = record { cap = x.cap; lic = x.lic }

abbrev pub carries_none : Carried
carries_none = record { cap = no_privileges; lic = no_privileges }

-- what the object of a path carries
abbrev pub carried_at : Frame → ℕ → PathOf → Carried
carried_at f pid path = option_map_or carried_by (option_and_then (λ o. at f.objects o) (object_of_path f pid path)) carries_none

-- what an answered call makes of the privileges of a process: exec takes the file's, a drop goes from all three sets, a
-- grant joins the target's licences
abbrev pub privileges_after : Frame → ℕ → Op → ℕ → Process → Privileges
privileges_after f pid (op.Exec path) p q = if p == pid then record { cap = (carried_at f pid path).cap; lic = q.lic; own = (carried_at f pid path).lic } else privileges q
privileges_after f pid (op.DropLic set) p q = if p == pid then record { cap = without q.cap set; lic = without q.lic set; own = without q.own set } else privileges q
privileges_after f pid (op.GrantLic target set) p q = if p == target then record { cap = q.cap; lic = either_of q.lic set; own = q.own } else privileges q
privileges_after f pid _ p q = privileges q

-- and of what an object carries: it is set by SetPriv on its path
abbrev pub carried_after : Frame → ℕ → Op → ℕ → Object → Carried
carried_after f pid (op.SetPriv path caps lics) o x = if option_map_or (λ n. o == n) (object_of_path f pid path) false then record { cap = caps; lic = lics } else carried_by x
carried_after f pid _ o x = carried_by x

-- from one frame to the next the privileges change as the answered call says, and by nothing else; a new process has its
-- parent's, the caller's, and a new object has none
pub record PrivilegesAs (f g : Frame) (pid : ℕ) (c : Op) (answered : Bool) : Type 0 where
  pub processes : (p : ℕ) (q r : Process) → at f.processes p ≡ Some q → at g.processes p ≡ Some r → privileges r ≡ (if answered then privileges_after f pid c p q else privileges q)
  pub children : (p : ℕ) (r : Process) → at f.processes p ≡ None → at g.processes p ≡ Some r → option_map privileges (at f.processes pid) ≡ Some (privileges r)
  pub objects : (o : ℕ) (x y : Object) → at f.objects o ≡ Some x → at g.objects o ≡ Some y → carried_by y ≡ (if answered then carried_after f pid c o x else carried_by x)
  pub made : (o : ℕ) (y : Object) → at f.objects o ≡ None → at g.objects o ≡ Some y → carried_by y ≡ carries_none

abbrev pub PrivilegesChangeAsSaid : Type 0
PrivilegesChangeAsSaid = (w : World) (place pid : ℕ) (c : Op) → PrivilegesAs w.frame (step w place pid c).world.frame pid c (is_answer (step w place pid c).reply)
