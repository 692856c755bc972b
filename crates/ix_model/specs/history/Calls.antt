-- What the calls and entries of the code mean.
use Rattle.std.specs.Prelude.{ℕ, List}
use Rattle.ix_model.specs.history.Events.{Op, Event}
use Rattle.ix_model.specs.history.Events as op
use Rattle.ix_model.specs.world.Paths.{path_of}
use Rattle.ix_model.specs.declared.call.Call.{Call}
use Rattle.ix_model.specs.declared.call.Call.TheVariants as call
use Rattle.ix_model.specs.declared.entry.Entry.{Entry}

-- the call that a call of the code is
abbrev pub op_of : Call → Op
op_of (call.CreateAt path) = op.CreateAt (path_of path)
op_of (call.OpenAt path mode) = op.OpenAt (path_of path) mode
op_of (call.ReadFd fd count) = op.ReadFd fd.0 count
op_of (call.WriteFd fd bytes) = op.WriteFd fd.0 bytes.now
op_of (call.CutFd fd len) = op.CutFd fd.0 len
op_of (call.SeekFd fd at) = op.SeekFd fd.0 at
op_of (call.DupFd fd) = op.DupFd fd.0
op_of (call.CloseFd fd) = op.CloseFd fd.0
op_of call.MakePipe = op.MakePipe
op_of (call.MakeDir path) = op.MakeDir (path_of path)
op_of (call.LinkAt target path) = op.LinkAt (path_of target) (path_of path)
op_of (call.UnlinkAt path) = op.UnlinkAt (path_of path)
op_of (call.RemoveDir path) = op.RemoveDir (path_of path)
op_of (call.ChangeDir path) = op.ChangeDir (path_of path)
op_of (call.StatAt path) = op.StatAt (path_of path)
op_of (call.ListAt path index) = op.ListAt (path_of path) index
op_of (call.Fork keep) = op.Fork keep
op_of (call.Exec path) = op.Exec (path_of path)
op_of (call.Exit status) = op.Exit status
op_of call.WaitChild = op.WaitChild
op_of (call.LabelOf path) = op.LabelOf (path_of path)
op_of call.SelfLabel = op.SelfLabel
op_of (call.SetLabel path label) = op.SetLabel (path_of path) label
op_of (call.SetSelf label) = op.SetSelf label
op_of (call.Freeze path) = op.Freeze (path_of path)
op_of call.FreezeSelf = op.FreezeSelf
op_of (call.Thaw path) = op.Thaw (path_of path)
op_of call.ThawSelf = op.ThawSelf
op_of (call.SetPriv path cap lic) = op.SetPriv (path_of path) cap lic
op_of (call.DropLic set) = op.DropLic set
op_of (call.GrantLic pid set) = op.GrantLic pid.0 set
op_of (call.SetCeiling pid label) = op.SetCeiling pid.0 label
op_of (call.Pex fd) = op.Pex fd.0
op_of (call.Unpex fd) = op.Unpex fd.0
op_of (call.ReadLog index) = op.ReadLog index

-- a call that was kept with its bytes beside it
abbrev pub with_bytes : List ℕ → Op → Op
with_bytes bytes (op.WriteFd fd none) = op.WriteFd fd bytes
with_bytes bytes o = o

-- the entry that an entry of the code is
abbrev pub event_of : Entry → Event
event_of e = record { seat = e.seat; line = e.line; pid = e.pid.0; op = op_of e.call }
