-- The call table: the row of each call, and what a decision leaves.
use Rattle.std.specs.Prelude.{ℕ, if◌then◌else◌}
use Rattle.ix_model.specs.rows.Refusals.{keeps_label}
use Rattle.ix_model.specs.world.World.{Frame, lives}
use Rattle.ix_model.specs.rows.Outcomes.{Outcome, Refuse, Pass, Row}
use Rattle.ix_model.specs.rows.OnPaths.{create_at, make_dir, open_at, link_at, unlink_at, remove_dir, change_dir, stat_at, list_at}
use Rattle.ix_model.specs.rows.OnDescriptors.{LengthChecks, read_fd, write_fd, cut_fd, seek_fd, dup_fd, close_fd, make_pipe, pex, unpex}
use Rattle.ix_model.specs.rows.OnProcesses.{fork, exec, exit, wait_child}
use Rattle.ix_model.specs.rows.OnLabels.{label_of, self_label, set_label, set_self, freeze, freeze_self, thaw, thaw_self, set_priv, drop_lic, grant_lic, set_ceiling, read_log}
use Rattle.ix_model.specs.history.Events.{Op}
use Rattle.ix_model.specs.history.Events as op
use Rattle.ix_model.specs.declared.refusal.Refusal.TheVariants as refusal
use Rattle.ix_model.specs.declared.reply.Reply.{Reply}
use Rattle.ix_model.specs.declared.reply.Reply.TheVariants as reply

-- the row of each call
unfoldable pub row : LengthChecks → ℕ → ℕ → Op → Row Reply
row t place pid (op.CreateAt path) = create_at pid path
row t place pid (op.OpenAt path mode) = open_at pid path mode
row t place pid (op.ReadFd fd count) = read_fd t pid fd count
row t place pid (op.WriteFd fd bytes) = write_fd t pid fd
row t place pid (op.CutFd fd len) = cut_fd t pid fd len
row t place pid (op.SeekFd fd offset) = seek_fd pid fd offset
row t place pid (op.DupFd fd) = dup_fd pid fd
row t place pid (op.CloseFd fd) = close_fd pid fd
row t place pid op.MakePipe = make_pipe pid
row t place pid (op.MakeDir path) = make_dir pid path
row t place pid (op.LinkAt target path) = link_at pid target path
row t place pid (op.UnlinkAt path) = unlink_at pid path
row t place pid (op.RemoveDir path) = remove_dir pid path
row t place pid (op.ChangeDir path) = change_dir pid path
row t place pid (op.StatAt path) = stat_at pid path
row t place pid (op.ListAt path index) = list_at pid path index
row t place pid (op.Fork keep) = fork pid keep
row t place pid (op.Exec path) = exec pid path
row t place pid (op.Exit status) = exit pid
row t place pid op.WaitChild = wait_child pid
row t place pid (op.LabelOf path) = label_of pid path
row t place pid op.SelfLabel = self_label pid
row t place pid (op.SetLabel path label) = set_label place pid path label
row t place pid (op.SetSelf label) = set_self place pid label
row t place pid (op.Freeze path) = freeze pid path
row t place pid op.FreezeSelf = freeze_self pid
row t place pid (op.Thaw path) = thaw place pid path
row t place pid op.ThawSelf = thaw_self place pid
row t place pid (op.SetPriv path cap lic) = set_priv place pid path cap lic
row t place pid (op.DropLic set) = drop_lic pid set
row t place pid (op.GrantLic target set) = grant_lic place pid target set
row t place pid (op.SetCeiling target label) = set_ceiling place pid target label
row t place pid (op.Pex fd) = pex pid fd
row t place pid (op.Unpex fd) = unpex pid fd
row t place pid (op.ReadLog index) = read_log place pid index

-- a reply, and the frame that stands after it
pub record Decision : Type 0 where
  pub reply : Reply
  pub frame : Frame

-- A refusal leaves the frame as it was, but for the raised label where it keeps that.
abbrev pub settled : Frame → Outcome Reply → Decision
settled f (Refuse r g) = record { reply = reply.No r; frame = if keeps_label r then g else f }
settled f (Pass answer g) = record { reply = answer; frame = g }

-- A call by a process that doesn't live is refused; else its row decides.
unfoldable pub verdict : LengthChecks → ℕ → ℕ → Op → Frame → Decision
verdict t place pid o f = if lives f pid then settled f (row t place pid o f) else record { reply = reply.No refusal.NoProcess; frame = f }
