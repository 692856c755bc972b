-- Short histories of the labels of open entries.
use Rattle.std.specs.Prelude.{List, [], ◌∷◌, codes}
use Rattle.ix_label.specs.Category.{bottom, top}
use Rattle.ix_model.specs.history.Events.{Event}
use Rattle.ix_model.specs.history.Events as op
use Rattle.ix_model.specs.world.Privs.{to_lower}
use Rattle.ix_model.specs.declared.audit.Act.TheVariants as act
use Rattle.ix_model.specs.declared.audit.AuditLine.{AuditLine}
use Rattle.ix_model.specs.declared.call.Keep.TheVariants as keep
use Rattle.ix_model.specs.declared.call.Mode.TheVariants as mode
use Rattle.ix_model.specs.declared.config.Config.{Config}
use Rattle.ix_model.specs.declared.reply.Reply.TheVariants as reply
use Rattle.ix_worked.specs.Scripts.{seven, in_root, proc, file, gives, log_line, by, small}
use Rattle.ix_worked.specs.Sessions.{Line}

-- proc a - * D D
-- file /n - free - - "abc"
abbrev pub shared_desk : Config
shared_desk = small (record (proc bottom top) { cap = to_lower; lic = to_lower } ∷ []) (file (codes "n") bottom (codes "abc") ∷ [])

-- the child is at 7 and seeks; its parent cuts and seeks too, and reads
abbrev pub seeking_high : List (Event × Line)
seeking_high =
    (by 1 (op.OpenAt (in_root (codes "n")) mode.Both), gives (reply.Number 0) [] bottom)
    ∷ (by 1 (op.ReadFd 0 1), gives (reply.Bytes 1) (codes "a") bottom)
    ∷ (by 1 (op.Fork keep.All), gives (reply.Number 2) [] bottom)
    ∷ (by 2 (op.SetSelf seven), gives reply.Done [] seven)
    ∷ (by 2 (op.SeekFd 0 1), gives reply.Done [] seven)
    ∷ (by 1 (op.CutFd 0 2), gives reply.Done [] bottom)
    ∷ (by 1 (op.LabelOf (in_root (codes "n"))), gives (reply.Lab bottom) [] bottom)
    ∷ (by 1 (op.SeekFd 0 0), gives reply.Done [] bottom)
    ∷ (by 1 (op.ReadFd 0 8), gives (reply.Bytes 2) (codes "ab") seven)
    ∷ []

-- the child is at 7 and writes; its parent lowers the file, and writes and reads on through the same open entry
abbrev pub writing_high : List (Event × Line)
writing_high =
    (by 1 (op.OpenAt (in_root (codes "n")) mode.Both), gives (reply.Number 0) [] bottom)
    ∷ (by 1 (op.Fork keep.All), gives (reply.Number 2) [] bottom)
    ∷ (by 2 (op.SetSelf seven), gives reply.Done [] seven)
    ∷ (by 2 (op.WriteFd 0 (codes "x")), gives (reply.Number 1) [] seven)
    ∷ (by 1 (op.SetLabel (in_root (codes "n")) bottom), gives reply.Done [] bottom)
    ∷ (by 1 (op.WriteFd 0 (codes "y")), gives (reply.Number 1) [] bottom)
    ∷ (by 1 (op.LabelOf (in_root (codes "n"))), gives (reply.Lab seven) [] bottom)
    ∷ (by 1 (op.SetLabel (in_root (codes "n")) bottom), gives reply.Done [] bottom)
    ∷ (by 1 (op.ReadFd 0 8), gives (reply.Bytes 1) (codes "c") seven)
    ∷ []

abbrev pub writing_high_log : List AuditLine
writing_high_log = log_line 5 1 act.DownFile 1 seven bottom ∷ log_line 8 1 act.DownFile 1 seven bottom ∷ []

-- the child is at 7 and cuts, which moves no offset; its parent opens the file anew, lowers it, and reads by both
abbrev pub cutting_high : List (Event × Line)
cutting_high =
    (by 1 (op.OpenAt (in_root (codes "n")) mode.Both), gives (reply.Number 0) [] bottom)
    ∷ (by 1 (op.Fork keep.All), gives (reply.Number 2) [] bottom)
    ∷ (by 2 (op.SetSelf seven), gives reply.Done [] seven)
    ∷ (by 2 (op.CutFd 0 2), gives reply.Done [] seven)
    ∷ (by 1 (op.LabelOf (in_root (codes "n"))), gives (reply.Lab seven) [] bottom)
    ∷ (by 1 (op.OpenAt (in_root (codes "n")) mode.Read), gives (reply.Number 1) [] bottom)
    ∷ (by 1 (op.SetLabel (in_root (codes "n")) bottom), gives reply.Done [] bottom)
    ∷ (by 1 (op.ReadFd 0 8), gives (reply.Bytes 2) (codes "ab") bottom)
    ∷ (by 1 (op.ReadFd 1 1), gives (reply.Bytes 1) (codes "a") bottom)
    ∷ []

-- the child is at 7 and reads no byte; its parent opens the file anew, and then reads through the open entry that both have
abbrev pub reading_nothing_high : List (Event × Line)
reading_nothing_high =
    (by 1 (op.OpenAt (in_root (codes "n")) mode.Read), gives (reply.Number 0) [] bottom)
    ∷ (by 1 (op.Fork keep.All), gives (reply.Number 2) [] bottom)
    ∷ (by 2 (op.SetSelf seven), gives reply.Done [] seven)
    ∷ (by 2 (op.ReadFd 0 0), gives (reply.Bytes 0) [] seven)
    ∷ (by 1 (op.OpenAt (in_root (codes "n")) mode.Read), gives (reply.Number 1) [] bottom)
    ∷ (by 1 (op.ReadFd 1 1), gives (reply.Bytes 1) (codes "a") bottom)
    ∷ (by 1 (op.ReadFd 0 1), gives (reply.Bytes 1) (codes "a") seven)
    ∷ []

-- the child is at 7 and takes the first of two bytes; its parent takes the second
abbrev pub draining_high : List (Event × Line)
draining_high =
    (by 1 op.MakePipe, gives (reply.Two (record { 0 = 0 }) (record { 0 = 1 })) [] bottom)
    ∷ (by 1 (op.Fork keep.All), gives (reply.Number 2) [] bottom)
    ∷ (by 1 (op.WriteFd 1 (codes "xy")), gives (reply.Number 2) [] bottom)
    ∷ (by 2 (op.SetSelf seven), gives reply.Done [] seven)
    ∷ (by 2 (op.ReadFd 0 1), gives (reply.Bytes 1) (codes "x") seven)
    ∷ (by 1 (op.ReadFd 0 1), gives (reply.Bytes 1) (codes "y") bottom)
    ∷ []
