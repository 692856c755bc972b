-- The replies as a report writes them.
use Rattle.std.specs.Prelude.{◌≡◌, ℕ, List, ◌++◌, codes, length}
use Rattle.std.specs.Fmt.{decimal}
use Rattle.ix_model.specs.rows.Refusals.{number_of}
use Rattle.ix_model.specs.declared.reply.Reply.{Reply}
use Rattle.ix_model.specs.declared.reply.Reply.TheVariants as reply
use Rattle.ix_model.specs.declared.audit.AuditLine.{AuditLine}
use Rattle.ix_label.specs.declared.form.Form.{Form}
use Rattle.ix_label.specs.Spelling.{spelling}
use Rattle.ix_report.specs.Hex.{hex}
use Rattle.ix_report.specs.Names.{name_text}
use Rattle.ix_report.specs.RefusalText.{refusal_text}
use Rattle.ix_text.specs.Spellings.{privs_text, state_text}
use Rattle.ix_report.specs.Words.{act_text, kind_text}

-- an audit line, without its line feed
unfoldable pub audit_text : Form → AuditLine → List ℕ
audit_text form a =
    decimal a.place ++ codes " p" ++ decimal a.pid.0 ++ codes " " ++ act_text a.act ++ codes " " ++ decimal a.target
    ++ codes " " ++ spelling form a.was ++ codes " " ++ spelling form a.now
    ++ codes " " ++ privs_text a.cap ++ codes " " ++ privs_text a.lic

-- a reply; of one that so many bytes were read, with these bytes
unfoldable pub reply_text : Form → Reply → List ℕ → List ℕ
reply_text form reply.Done bytes = codes "done"
reply_text form (reply.Number n) bytes = codes "number " ++ decimal n
reply_text form (reply.Two f g) bytes = codes "two " ++ decimal f.0 ++ codes " " ++ decimal g.0
reply_text form (reply.Bytes k) bytes = codes "bytes " ++ decimal k ++ codes " x" ++ hex bytes
reply_text form (reply.Stat obj kind size links frozen cap lic) bytes =
    codes "stat " ++ decimal obj.0 ++ codes " " ++ kind_text kind ++ codes " " ++ decimal size ++ codes " " ++ decimal links
    ++ codes " " ++ state_text frozen ++ codes " " ++ privs_text cap ++ codes " " ++ privs_text lic
reply_text form (reply.Lab label) bytes = codes "label " ++ spelling form label
reply_text form (reply.Named name obj) bytes = codes "entry " ++ name_text name ++ codes " " ++ decimal obj.0
reply_text form reply.Half bytes = codes "half"
reply_text form (reply.Whole pid label lic) bytes = codes "whole p" ++ decimal pid.0 ++ codes " " ++ spelling form label ++ codes " " ++ privs_text lic
reply_text form (reply.LogLine line) bytes = codes "log " ++ audit_text form line
reply_text form (reply.Child pid status) bytes = codes "child p" ++ decimal pid.0 ++ codes " " ++ decimal status
reply_text form (reply.No why) bytes = codes "no " ++ decimal (number_of why) ++ codes " " ++ refusal_text why

-- where so many bytes were read, these are so many
abbrev pub AreBytesOf : Reply → List ℕ → Type 0
AreBytesOf (reply.Bytes k) bytes = length bytes ≡ k
AreBytesOf _ bytes = Unit {0}
