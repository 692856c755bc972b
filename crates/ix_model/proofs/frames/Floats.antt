-- Frames that are one but for labels, those of open entries too, ceilings, frozen marks, privileges, claims, working directories and the log.
use Rattle.std.proofs.Common.{◌≡◌, ℕ, false, refl}
use Rattle.ix_label.specs.Category.{Categories, bottom}
use Rattle.ix_model.specs.{world.{Privs.no_privileges, World.{Frame, Object, Process, Open, change, no_claims}}, rows.Rows.{change_object, change_process, change_open, observe, affect}}
use Rattle.ix_model.proofs.{tables.Tables.{SameBut, same_itself, same_changed}, words.Keeps.{Holds, Keeps, keeping}}

-- an object by its kind, its file system and its names
abbrev pub object_but : Object → Object
object_but x = record x { label = bottom; frozen = false; cap = no_privileges; lic = no_privileges; claims = no_claims }

-- a process by its parent and its descriptors, and whether it has ended
abbrev pub process_but : Process → Process
process_but p = record p { label = bottom; ceiling = bottom; frozen = false; cap = no_privileges; lic = no_privileges; own = no_privileges; cwd = 0 }

-- an open entry without its label
abbrev pub open_but : Open → Open
open_but e = record e { label = bottom }

-- the second frame is the first but for these, and for the log
pub record Floats (f g : Frame) : Type 0 where
  pub limits : g.limits ≡ f.limits
  pub fss : g.fss ≡ f.fss
  pub objects : SameBut object_but f.objects g.objects
  pub processes : SameBut process_but f.processes g.processes
  pub opens : SameBut open_but f.opens g.opens

pub floats_itself : (f : Frame) → Floats f f
floats_itself f = record { limits = refl; fss = refl; objects = same_itself _ _; processes = same_itself _ _; opens = same_itself _ _ }

-- one change
pub floats_object : (f g : Frame) (o : ℕ) (h : Object → Object) → ((x : Object) → object_but (h x) ≡ object_but x) → Floats f g → Floats f (record g { objects = change g.objects o h })
floats_object f g o h same r = let objects = same_changed object_but _ _ o h same r.objects in search

pub floats_process : (f g : Frame) (p : ℕ) (h : Process → Process) → ((q : Process) → process_but (h q) ≡ process_but q) → Floats f g → Floats f (record g { processes = change g.processes p h })
floats_process f g p h same r = let processes = same_changed process_but _ _ p h same r.processes in search

pub floats_open : (f g : Frame) (e : ℕ) (h : Open → Open) → ((x : Open) → open_but (h x) ≡ open_but x) → Floats f g → Floats f (record g { opens = change g.opens e h })
floats_open f g e h same r = let opens = same_changed open_but _ _ e h same r.opens in search

module _ (f : Frame) where
  pub floats_change_object : (o : ℕ) (h : Object → Object) → ((x : Object) → object_but (h x) ≡ object_but x) → Keeps (Floats f) (change_object o h)
  unfolding change_object Holds
  floats_change_object o h same = record { led = λ g r. floats_object f g o h same r }

  pub floats_change_process : (pid : ℕ) (h : Process → Process) → ((p : Process) → process_but (h p) ≡ process_but p) → Keeps (Floats f) (change_process pid h)
  unfolding change_process Holds
  floats_change_process pid h same = record { led = λ g r. floats_process f g _ h same r }

  pub floats_change_open : (e : ℕ) (h : Open → Open) → ((x : Open) → open_but (h x) ≡ open_but x) → Keeps (Floats f) (change_open e h)
  unfolding change_open Holds
  floats_change_open e h same = record { led = λ g r. floats_open f g e h same r }

  ruleset floating = (keeping, floats_change_object, floats_change_process, floats_change_open)

  pub floats_observe : (pid : ℕ) (seen : Categories) → Keeps (Floats f) (observe pid seen)
  unfolding observe
  floats_observe pid seen = search floating depth 30

  pub floats_affect : (pid o : ℕ) (through : Categories) → Keeps (Floats f) (affect pid o through)
  unfolding affect
  floats_affect pid o through = search floating depth 30
