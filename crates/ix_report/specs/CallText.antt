-- The calls as a report writes them: the command's word, the caller, and the arguments in the command's order.
use Rattle.std.specs.Prelude.{ℕ, List, ◌++◌, codes}
use Rattle.std.specs.Fmt.{decimal}
use Rattle.ix_model.specs.history.Events.{Op}
use Rattle.ix_model.specs.history.Events as op
use Rattle.ix_label.specs.declared.form.Form.{Form}
use Rattle.ix_label.specs.Spelling.{spelling}
use Rattle.ix_report.specs.Hex.{hex}
use Rattle.ix_report.specs.Names.{path_text}
use Rattle.ix_text.specs.Spellings.{mode_text, privs_text}
use Rattle.ix_report.specs.Words.{keep_text}

-- a call of a process
unfoldable pub call_text : Form → ℕ → Op → List ℕ
call_text form pid (op.CreateAt path) = codes "create p" ++ decimal pid ++ codes " " ++ path_text path
call_text form pid (op.OpenAt path mode) = codes "open p" ++ decimal pid ++ codes " " ++ path_text path ++ codes " " ++ mode_text mode
call_text form pid (op.ReadFd fd count) = codes "read p" ++ decimal pid ++ codes " " ++ decimal fd ++ codes " " ++ decimal count
call_text form pid (op.WriteFd fd bytes) = codes "write p" ++ decimal pid ++ codes " " ++ decimal fd ++ codes " x" ++ hex bytes
call_text form pid (op.CutFd fd len) = codes "cut p" ++ decimal pid ++ codes " " ++ decimal fd ++ codes " " ++ decimal len
call_text form pid (op.SeekFd fd at) = codes "seek p" ++ decimal pid ++ codes " " ++ decimal fd ++ codes " " ++ decimal at
call_text form pid (op.DupFd fd) = codes "dup p" ++ decimal pid ++ codes " " ++ decimal fd
call_text form pid (op.CloseFd fd) = codes "close p" ++ decimal pid ++ codes " " ++ decimal fd
call_text form pid op.MakePipe = codes "pipe p" ++ decimal pid
call_text form pid (op.MakeDir path) = codes "mkdir p" ++ decimal pid ++ codes " " ++ path_text path
call_text form pid (op.LinkAt target path) = codes "link p" ++ decimal pid ++ codes " " ++ path_text target ++ codes " " ++ path_text path
call_text form pid (op.UnlinkAt path) = codes "unlink p" ++ decimal pid ++ codes " " ++ path_text path
call_text form pid (op.RemoveDir path) = codes "rmdir p" ++ decimal pid ++ codes " " ++ path_text path
call_text form pid (op.ChangeDir path) = codes "chdir p" ++ decimal pid ++ codes " " ++ path_text path
call_text form pid (op.StatAt path) = codes "stat p" ++ decimal pid ++ codes " " ++ path_text path
call_text form pid (op.ListAt path index) = codes "list p" ++ decimal pid ++ codes " " ++ path_text path ++ codes " " ++ decimal index
call_text form pid (op.Fork keep) = codes "fork p" ++ decimal pid ++ codes " " ++ keep_text keep
call_text form pid (op.Exec path) = codes "exec p" ++ decimal pid ++ codes " " ++ path_text path
call_text form pid (op.Exit status) = codes "exit p" ++ decimal pid ++ codes " " ++ decimal status
call_text form pid op.WaitChild = codes "wait p" ++ decimal pid
call_text form pid (op.LabelOf path) = codes "labelof p" ++ decimal pid ++ codes " " ++ path_text path
call_text form pid op.SelfLabel = codes "self p" ++ decimal pid
call_text form pid (op.SetLabel path label) = codes "setlabel p" ++ decimal pid ++ codes " " ++ path_text path ++ codes " " ++ spelling form label
call_text form pid (op.SetSelf label) = codes "setself p" ++ decimal pid ++ codes " " ++ spelling form label
call_text form pid (op.Freeze path) = codes "freeze p" ++ decimal pid ++ codes " " ++ path_text path
call_text form pid op.FreezeSelf = codes "freezeself p" ++ decimal pid
call_text form pid (op.Thaw path) = codes "thaw p" ++ decimal pid ++ codes " " ++ path_text path
call_text form pid op.ThawSelf = codes "thawself p" ++ decimal pid
call_text form pid (op.SetPriv path cap lic) = codes "setpriv p" ++ decimal pid ++ codes " " ++ path_text path ++ codes " " ++ privs_text cap ++ codes " " ++ privs_text lic
call_text form pid (op.DropLic set) = codes "droplic p" ++ decimal pid ++ codes " " ++ privs_text set
call_text form pid (op.GrantLic target set) = codes "grant p" ++ decimal pid ++ codes " p" ++ decimal target ++ codes " " ++ privs_text set
call_text form pid (op.SetCeiling target label) = codes "ceiling p" ++ decimal pid ++ codes " p" ++ decimal target ++ codes " " ++ spelling form label
call_text form pid (op.Pex fd) = codes "pex p" ++ decimal pid ++ codes " " ++ decimal fd
call_text form pid (op.Unpex fd) = codes "unpex p" ++ decimal pid ++ codes " " ++ decimal fd
call_text form pid (op.ReadLog index) = codes "readlog p" ++ decimal pid ++ codes " " ++ decimal index
