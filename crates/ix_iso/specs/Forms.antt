-- The form of labels, from a config to its histories: no call makes a number that neither the config nor a call had.
use Rattle.std.specs.Prelude.{◌≡◌, ℕ, List, All, Some, slice_get, take}
use Rattle.ix_label.specs.declared.form.Form.{Form}
use Rattle.ix_label.specs.Forms.{Fits}
use Rattle.ix_model.specs.world.World.{Frame, Object, Process, Open, at}
use Rattle.ix_model.specs.opening.Opening.{opening_world}
use Rattle.ix_model.specs.history.Events.{Event}
use Rattle.ix_model.specs.history.Spelled.{AuditFits, ConfigFits, EventsFit, ReplyFits}
use Rattle.ix_model.specs.history.Step.{run}
use Rattle.ix_model.specs.declared.audit.AuditLine.{AuditLine}
use Rattle.ix_model.specs.declared.config.Config.{Config}
use Rattle.ix_model.specs.declared.config.FsSpec.{FsSpec}
use Rattle.ix_iso.specs.Laws.{given_after}

-- the form has a text for each label and ceiling of a frame, and those of its log
pub record FrameFits (form : Form) (f : Frame) : Type 0 where
  pub fss : All (λ (s : FsSpec). Fits form s.ceiling) f.fss
  pub objects : (o : ℕ) (x : Object) → at f.objects o ≡ Some x → Fits form x.label
  pub labels : (p : ℕ) (q : Process) → at f.processes p ≡ Some q → Fits form q.label
  pub ceilings : (p : ℕ) (q : Process) → at f.processes p ≡ Some q → Fits form q.ceiling
  pub opens : (e : ℕ) (x : Open) → at f.opens e ≡ Some x → Fits form x.label
  pub log : All (λ (l : AuditLine). AuditFits form l) f.log

-- a history keeps to a form: after so many of its entries each label of the frame fits, and so does each that a reply tells
pub record KeepsForm (form : Form) (c : Config) (events : List Event) : Type 0 where
  pub frames : (n : ℕ) → FrameFits form (run (opening_world c) 1 (take n events)).frame
  pub replies : (n : ℕ) (e : Event) → slice_get events n ≡ Some e → ReplyFits form (given_after (opening_world c) 1 events n e).reply

-- so does each history whose calls fit, from a config that fits
abbrev pub FormsStay : Type 0
FormsStay = (form : Form) (c : Config) (events : List Event) → ConfigFits form c → EventsFit form events → KeepsForm form c events
