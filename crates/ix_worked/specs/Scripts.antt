-- The words that the sessions' configs and histories are written in.
use Rattle.std.specs.Prelude.{ℕ, true, false, List, [], ◌∷◌, length, Some, None, codes}
use Rattle.ix_label.specs.Category.{Categories, bottom, top, with}
use Rattle.ix_model.specs.world.Naming.{PathOf}
use Rattle.ix_model.specs.world.Privs.{no_privileges}
use Rattle.ix_model.specs.history.Events.{Op, Event}
use Rattle.ix_model.specs.declared.audit.Act.{Act}
use Rattle.ix_model.specs.declared.audit.AuditLine.{AuditLine}
use Rattle.ix_model.specs.declared.config.Config.{Config}
use Rattle.ix_model.specs.declared.config.Limits.{Limits}
use Rattle.ix_model.specs.declared.config.FsSpec.{FsSpec}
use Rattle.ix_model.specs.declared.config.ProcSpec.{ProcSpec}
use Rattle.ix_model.specs.declared.config.ObjSpec.{ObjSpec}
use Rattle.ix_model.specs.declared.privs.PrivSet.{PrivSet}
use Rattle.ix_model.specs.declared.refusal.Refusal.{Refusal}
use Rattle.ix_model.specs.declared.refusal.Refusal.TheVariants as refusal
use Rattle.ix_model.specs.declared.reply.Reply.{Reply}
use Rattle.ix_model.specs.declared.reply.Reply.TheVariants as reply
use Rattle.ix_worked.specs.Sessions.{Line}

-- the labels 3, 4, 5, 7, and 3,5 and 2,5
abbrev pub three : Categories
three = with bottom 3

abbrev pub four : Categories
four = with bottom 4

abbrev pub five : Categories
five = with bottom 5

abbrev pub seven : Categories
seven = with bottom 7

abbrev pub three_and_five : Categories
three_and_five = with three 5

abbrev pub two_and_five : Categories
two_and_five = with (with bottom 2) 5

-- an absolute path of one name
abbrev pub in_root : List ℕ → PathOf
in_root name = record { absolute = true; names = name ∷ [] }

-- a relative path of one name
abbrev pub from_here : List ℕ → PathOf
from_here name = record { absolute = false; names = name ∷ [] }

-- the path /, the relative path of no names, and an absolute path of two names
abbrev pub at_root : PathOf
at_root = record { absolute = true; names = [] }

abbrev pub here : PathOf
here = record { absolute = false; names = [] }

abbrev pub under : List ℕ → List ℕ → PathOf
under directory name = record { absolute = true; names = directory ∷ name ∷ [] }

-- DPCTL
abbrev pub all_five : PrivSet
all_five = record { 0 = 31 }

-- proc NAME LABEL CEILING - -
abbrev pub proc : Categories → Categories → ProcSpec
proc label ceiling = record { label = label; ceiling = ceiling; cap = no_privileges; lic = no_privileges }

-- file NAME LABEL free - - BYTES
abbrev pub file : List ℕ → Categories → List ℕ → ObjSpec
file name label bytes = record { path = in_root name; dir = false; label = label; frozen = false; cap = no_privileges; lic = no_privileges; bytes = bytes }

-- dir NAME LABEL free
abbrev pub dir : List ℕ → Categories → ObjSpec
dir name label = record { path = in_root name; dir = true; label = label; frozen = false; cap = no_privileges; lic = no_privileges; bytes = [] }

-- the file system of a script that says nothing of it
abbrev pub usual_fs : FsSpec
usual_fs = record { name = codes "root"; ceiling = top; blocks = 4096; inodes = 256 }

abbrev pub usual_limits : Limits
usual_limits = record { procs = 64; opens = 256; pipes = 32; names = 4096; log = 1024 }

-- a machine with this file system, these processes and these files
abbrev pub machine : FsSpec → List ProcSpec → List ObjSpec → Config
machine fs procs files = record { fss = fs ∷ []; limits = usual_limits; procs = procs; objects = files; journal = 870400000 }

-- a machine with little of everything
abbrev pub small_fs : FsSpec
small_fs = record { name = codes "root"; ceiling = top; blocks = 4; inodes = 4 }

abbrev pub small_limits : Limits
small_limits = record { procs = 3; opens = 4; pipes = 1; names = 16; log = 2 }

abbrev pub small : List ProcSpec → List ObjSpec → Config
small procs files = record (machine small_fs procs files) { limits = small_limits }

-- an entry of the first lane
abbrev pub entry : ℕ → ℕ → Op → Event
entry line pid op = record { seat = 0; line = line; pid = pid; op = op }

-- a call of a process, from no line
abbrev pub by : ℕ → Op → Event
by pid op = entry 0 pid op

-- a line of a report; the caller's record may be gone after it
abbrev pub gives : Reply → List ℕ → Categories → Line
gives reply bytes label = record { reply = reply; bytes = bytes; label = Some label }

-- lines of an answer by a number, one by bytes, and one that tells nothing more
abbrev pub gives_number : ℕ → Categories → Line
gives_number n label = gives (reply.Number n) [] label

abbrev pub gives_bytes : List ℕ → Categories → Line
gives_bytes bytes label = gives (reply.Bytes (length bytes)) bytes label

abbrev pub gives_done : Categories → Line
gives_done label = gives reply.Done [] label

abbrev pub ends : Line
ends = record { reply = reply.Done; bytes = []; label = None }

-- lines of refusals: the caller's record is there after one, or it isn't
abbrev pub refuses : Refusal → Categories → Line
refuses why label = gives (reply.No why) [] label

abbrev pub unknown : Line
unknown = record { reply = reply.No refusal.NoProcess; bytes = []; label = None }

-- a line of the audit log without sets: the entry's place, the caller, the act, its target, and the label or ceiling before and after
abbrev pub log_line : ℕ → ℕ → Act → ℕ → Categories → Categories → AuditLine
log_line place pid act target was now = record { place = place; pid = record { 0 = pid }; act = act; target = target; was = was; now = now; cap = no_privileges; lic = no_privileges }
