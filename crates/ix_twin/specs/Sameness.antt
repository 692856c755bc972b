-- Whether two calls, and two entries, say the same.
use Rattle.std.specs.Prelude.{◌==◌, Bool, true, false, ◌&&◌, ◌||◌}
use Rattle.std.proofs.Math.Bool.{beq}
use Rattle.ix_label.specs.Category.{same}
use Rattle.ix_model.specs.world.Naming.{PathOf, same_bytes, same_names}
use Rattle.ix_model.specs.history.Events.{Op, Event}
use Rattle.ix_model.specs.history.Events as op
use Rattle.ix_model.specs.declared.call.Keep.{Keep}
use Rattle.ix_model.specs.declared.call.Keep.TheVariants as keep
use Rattle.ix_model.specs.declared.call.Mode.{Mode}
use Rattle.ix_model.specs.declared.call.Mode.TheVariants as mode
use Rattle.ix_model.specs.declared.privs.PrivSet.{PrivSet}

-- ---- values
abbrev pub same_path : PathOf → PathOf → Bool
same_path p q = beq p.absolute q.absolute && same_names p.names q.names

abbrev pub same_privs : PrivSet → PrivSet → Bool
same_privs x y = x.0 == y.0

abbrev pub same_mode : Mode → Mode → Bool
same_mode mode.Read mode.Read = true
same_mode mode.Write mode.Write = true
same_mode mode.Both mode.Both = true
same_mode _ _ = false

abbrev pub same_keep : Keep → Keep → Bool
same_keep keep.All keep.All = true
same_keep keep.Nothing keep.Nothing = true
same_keep (keep.One fd) (keep.One other) = fd.0 == other.0
same_keep _ _ = false

-- ---- calls
-- two calls on descriptors, whatever they write
abbrev pub same_on_descriptors : Op → Op → Bool
same_on_descriptors (op.ReadFd fd count) (op.ReadFd other more) = fd == other && count == more
same_on_descriptors (op.WriteFd fd bytes) (op.WriteFd other more) = fd == other
same_on_descriptors (op.CutFd fd len) (op.CutFd other more) = fd == other && len == more
same_on_descriptors (op.SeekFd fd offset) (op.SeekFd other more) = fd == other && offset == more
same_on_descriptors (op.DupFd fd) (op.DupFd other) = fd == other
same_on_descriptors (op.CloseFd fd) (op.CloseFd other) = fd == other
same_on_descriptors op.MakePipe op.MakePipe = true
same_on_descriptors (op.Pex fd) (op.Pex other) = fd == other
same_on_descriptors (op.Unpex fd) (op.Unpex other) = fd == other
same_on_descriptors _ _ = false

-- two calls on paths
abbrev pub same_on_paths : Op → Op → Bool
same_on_paths (op.CreateAt path) (op.CreateAt other) = same_path path other
same_on_paths (op.OpenAt path m) (op.OpenAt other n) = same_path path other && same_mode m n
same_on_paths (op.MakeDir path) (op.MakeDir other) = same_path path other
same_on_paths (op.LinkAt target path) (op.LinkAt towards other) = same_path target towards && same_path path other
same_on_paths (op.UnlinkAt path) (op.UnlinkAt other) = same_path path other
same_on_paths (op.RemoveDir path) (op.RemoveDir other) = same_path path other
same_on_paths (op.ChangeDir path) (op.ChangeDir other) = same_path path other
same_on_paths (op.StatAt path) (op.StatAt other) = same_path path other
same_on_paths (op.ListAt path index) (op.ListAt other place) = same_path path other && index == place
same_on_paths (op.Exec path) (op.Exec other) = same_path path other
same_on_paths _ _ = false

-- two calls that tell or set labels and privileges of what stands at paths
abbrev pub same_on_labels : Op → Op → Bool
same_on_labels (op.LabelOf path) (op.LabelOf other) = same_path path other
same_on_labels (op.SetLabel path label) (op.SetLabel other l) = same_path path other && same label l
same_on_labels (op.Freeze path) (op.Freeze other) = same_path path other
same_on_labels (op.Thaw path) (op.Thaw other) = same_path path other
same_on_labels (op.SetPriv path cap lic) (op.SetPriv other x y) = same_path path other && same_privs cap x && same_privs lic y
same_on_labels _ _ = false

-- two calls on processes and on the log, whatever status they give
abbrev pub same_on_processes : Op → Op → Bool
same_on_processes (op.Fork k) (op.Fork other) = same_keep k other
same_on_processes (op.Exit status) (op.Exit other) = true
same_on_processes op.WaitChild op.WaitChild = true
same_on_processes op.SelfLabel op.SelfLabel = true
same_on_processes (op.SetSelf label) (op.SetSelf l) = same label l
same_on_processes op.FreezeSelf op.FreezeSelf = true
same_on_processes op.ThawSelf op.ThawSelf = true
same_on_processes (op.DropLic set) (op.DropLic other) = same_privs set other
same_on_processes (op.GrantLic target set) (op.GrantLic towards other) = target == towards && same_privs set other
same_on_processes (op.SetCeiling target label) (op.SetCeiling towards l) = target == towards && same label l
same_on_processes (op.ReadLog index) (op.ReadLog place) = index == place
same_on_processes _ _ = false

-- whether two calls are the same, whatever bytes they write and whatever status they give
unfoldable pub same_but_given : Op → Op → Bool
same_but_given a b = same_on_descriptors a b || same_on_paths a b || same_on_labels a b || same_on_processes a b

-- whether they write the same bytes and give the same status, where they write or exit
unfoldable pub same_given : Op → Op → Bool
same_given (op.WriteFd fd bytes) (op.WriteFd other more) = same_bytes bytes more
same_given (op.Exit status) (op.Exit other) = status == other
same_given _ _ = true

-- ---- entries
-- whether two entries are the same, whatever bytes they write and whatever status they give
abbrev pub same_entry_but_given : Event → Event → Bool
same_entry_but_given e f = e.seat == f.seat && e.line == f.line && e.pid == f.pid && same_but_given e.op f.op
