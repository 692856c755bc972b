-- For which form of labels calls, replies, audit lines, configs and histories have a text: the one that spells each label in them.
use Rattle.std.specs.Prelude.{List, All, Option, Some, None}
use Rattle.ix_label.specs.declared.form.Form.{Form}
use Rattle.ix_label.specs.Category.{Categories}
use Rattle.ix_label.specs.Forms.{Fits}
use Rattle.ix_model.specs.declared.audit.AuditLine.{AuditLine}
use Rattle.ix_model.specs.declared.config.Config.{Config}
use Rattle.ix_model.specs.declared.config.FsSpec.{FsSpec}
use Rattle.ix_model.specs.declared.config.ObjSpec.{ObjSpec}
use Rattle.ix_model.specs.declared.config.ProcSpec.{ProcSpec}
use Rattle.ix_model.specs.declared.reply.Reply.{Reply}
use Rattle.ix_model.specs.declared.reply.Reply.TheVariants as reply
use Rattle.ix_model.specs.history.Events.{Op, Event}
use Rattle.ix_model.specs.history.Events as op

-- the label that a call gives
abbrev pub CallFits : Form → Op → Type 0
CallFits form (op.SetLabel path label) = Fits form label
CallFits form (op.SetSelf label) = Fits form label
CallFits form (op.SetCeiling target label) = Fits form label
CallFits form _ = Unit {0}

-- both labels of an audit line
pub record AuditFits (form : Form) (line : AuditLine) : Type 0 where
  pub was : Fits form line.was
  pub now : Fits form line.now

-- the labels that a reply tells
abbrev pub ReplyFits : Form → Reply → Type 0
ReplyFits form (reply.Lab label) = Fits form label
ReplyFits form (reply.Whole pid label lic) = Fits form label
ReplyFits form (reply.LogLine line) = AuditFits form line
ReplyFits form _ = Unit {0}

-- the label of a record, where there is one
abbrev pub SeenFits : Form → Option Categories → Type 0
SeenFits form (Some label) = Fits form label
SeenFits form None = Unit {0}

-- the labels and ceilings of a config
pub record ConfigFits (form : Form) (c : Config) : Type 0 where
  pub fss : All (λ (s : FsSpec). Fits form s.ceiling) c.fss
  pub labels : All (λ (p : ProcSpec). Fits form p.label) c.procs
  pub ceilings : All (λ (p : ProcSpec). Fits form p.ceiling) c.procs
  pub objects : All (λ (x : ObjSpec). Fits form x.label) c.objects

-- the labels that the calls of a history give
abbrev pub EventsFit : Form → List Event → Type 0
EventsFit form events = All (λ (e : Event). CallFits form e.op) events
