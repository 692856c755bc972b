-- What no call changes: the limits, the file systems, and the lengths of the objects' and the open entries' tables.
use Rattle.std.proofs.Common.{◌≡◌, ℕ, Option, Some, None, sym, subst, ◌∙◌, length, length-set}
use Rattle.ix_model.specs.{world.World.{World, Frame, Object, Process, Open}, rows.{Auditing.logged, OnProcesses.end_process, Table.verdict}}
use Rattle.ix_model.specs.rows.{Rows.{change_object, change_process, put_object, put_open, put_process, add_process, change_open}, Telling.told}
use Rattle.ix_model.specs.{rows.OnDescriptors.LengthChecks, history.{Step.step, Events.Op}, declared.audit.AuditLine.AuditLine}
use Rattle.ix_model.proofs.words.{Keeps.{Holds, Keeps}, Rowwise.{Words, changes_of, kept_row, all, bears_all}, Lasts.decided, Answered.step_frame}

pub record Fixed (f g : Frame) : Type 0 where
  pub limits : g.limits ≡ f.limits
  pub fss : g.fss ≡ f.fss
  pub objects : length g.objects ≡ length f.objects
  pub opens : length g.opens ≡ length f.opens

fixed_itself : (f : Frame) → Fixed f f
fixed_itself f = search

module _ (f : Frame) where
  fixed_change_object : (o : ℕ) (h : Object → Object) → Keeps (Fixed f) (change_object o h)
  unfolding change_object Holds
  fixed_change_object o h = record { led = λ g r. record { limits = r.limits; fss = r.fss; objects = length-set g.objects o _ ∙ r.objects; opens = r.opens } }

  fixed_put_object : (o : ℕ) (x : Option Object) → Keeps (Fixed f) (put_object o x)
  unfolding put_object Holds
  fixed_put_object o x = record { led = λ g r. let objects = length-set g.objects o x ∙ r.objects in search }

  fixed_change_open : (e : ℕ) (h : Open → Open) → Keeps (Fixed f) (change_open e h)
  unfolding change_open Holds
  fixed_change_open e h = record { led = λ g r. record { limits = r.limits; fss = r.fss; objects = r.objects; opens = length-set g.opens e _ ∙ r.opens } }

  fixed_put_open : (e : ℕ) (x : Option Open) → Keeps (Fixed f) (put_open e x)
  unfolding put_open Holds
  fixed_put_open e x = record { led = λ g r. let opens = length-set g.opens e x ∙ r.opens in search }

  fixed_change_process : (p : ℕ) (h : Process → Process) → Keeps (Fixed f) (change_process p h)
  unfolding change_process Holds
  fixed_change_process p h = record { led = λ g r. record { limits = r.limits; fss = r.fss; objects = r.objects; opens = r.opens } }

  fixed_put_process : (p : ℕ) (x : Option Process) → Keeps (Fixed f) (put_process p x)
  unfolding put_process Holds
  fixed_put_process p x = record { led = λ g r. record { limits = r.limits; fss = r.fss; objects = r.objects; opens = r.opens } }

  fixed_add_process : (q : Process) → Keeps (Fixed f) (add_process q)
  unfolding add_process Holds
  fixed_add_process q = record { led = λ g r. record { limits = r.limits; fss = r.fss; objects = r.objects; opens = r.opens } }

  fixed_end_process : (p : ℕ) → Keeps (Fixed f) (end_process p)
  unfolding end_process
  fixed_end_process p = record { led = λ g r. (fixed_put_process p _).led g r }

  fixed_logged : (l : AuditLine) → Keeps (Fixed f) (logged l)
  unfolding logged Holds
  fixed_logged l = record { led = λ g r. record { limits = r.limits; fss = r.fss; objects = r.objects; opens = r.opens } }

fixed_words : (pid : ℕ) (f : Frame) → Words all pid (Fixed f)
fixed_words pid f = record {
  object = λ o h same. fixed_change_object f o h;
  process = λ p h same. fixed_change_process f p h;
  float = λ h same. fixed_change_process f _ h;
  entry = λ e x low. fixed_put_open f e (Some x);
  through = λ can e l. fixed_change_open f e _;
  unclaim = λ o end. fixed_change_object f o _;
  relabel = λ can o h same. fixed_change_object f o h;
  claim = λ can o h same. fixed_change_object f o h;
  log = λ can. fixed_logged f;
  inode = λ can g o k kind r free. fixed_put_object f o _;
  pipe = λ can g o r free. fixed_put_object f o _;
  gone_object = λ can o. fixed_put_object f o None;
  gone_open = λ can e. fixed_put_open f e None;
  fork = λ can q. fixed_add_process f q;
  end = λ can. fixed_end_process f pid;
  collect = λ can p. fixed_put_process f p None;
}

pub fixed_decided : (t : LengthChecks) (place pid : ℕ) (c : Op) (f : Frame) → Fixed f (verdict t place pid c f).frame
fixed_decided t place pid c f = decided (Fixed f) t place pid c f (fixed_itself f) ((kept_row all pid (Fixed f) (fixed_words pid f) t place c (bears_all (changes_of c))).led f (fixed_itself f))

pub fixed_step : (w : World) (place pid : ℕ) (c : Op) → Fixed w.frame (step w place pid c).world.frame
fixed_step w place pid c = subst (λ (g : Frame). Fixed w.frame g) (sym (step_frame w place pid c)) (fixed_decided (told w pid c) place pid c w.frame)
