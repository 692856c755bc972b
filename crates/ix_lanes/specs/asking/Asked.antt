-- The system calls that the commands of a lane ask for.
use Rattle.std.specs.Prelude.{refl, ℕ, nat_lt, min, List, [], Option, Some, None, if◌then◌else◌, unwrap_or}
use Rattle.std.specs.FinMap as map
use Rattle.std.specs.Coded.{Coded, code_by, coded×, coded_list, coded_ℕ}
use Rattle.std.specs.Ordering.{nat_cmp}
use Rattle.std.specs.Cmp.Lexicographic.{slice_cmp}
use Rattle.std.specs.Option.{option_map}
use Rattle.ix_model.specs.history.Calls.{op_of}
use Rattle.ix_model.specs.history.Events.{Event, Op}
use Rattle.ix_model.specs.history.Made.{entry}
use Rattle.ix_model.specs.declared.call.Call.{Call}
use Rattle.ix_model.specs.history.Events as op
use Rattle.ix_model.specs.declared.call.Keep.{Keep}
use Rattle.ix_model.specs.declared.call.Keep.TheVariants as keep
use Rattle.ix_script.specs.declared.line.Line.{Line}
use Rattle.ix_script.specs.declared.line.Line.TheVariants as line
use Rattle.ix_script.specs.declared.line.FdWord.{FdWord}
use Rattle.ix_script.specs.declared.line.FdWord.TheVariants as fd_word
use Rattle.ix_script.specs.declared.line.KeepWord.{KeepWord}
use Rattle.ix_script.specs.declared.line.KeepWord.TheVariants as keep_word
use Rattle.ix_asking.specs.Asking.{Asked}
use Rattle.ix_lanes.specs.declared.asking.caller.Caller.{Caller}
use Rattle.ix_lanes.specs.declared.asking.handed.Handed.{Handed}
use Rattle.ix_lanes.specs.declared.asking.handed.Handed.TheVariants as handed

-- ---- names
-- names, each with the number that it stands for: of two that are equal the later counts
abbrev pub Numbers : Type 0
Numbers = map.FinMap (slice_cmp nat_cmp) ℕ

-- what the names that a lane gave stand for
pub record Names : Type 0 where
  pub procs : Numbers
  pub fds : Numbers

abbrev pub names_code : Coded Names
names_code =
    code_by (Numbers × Numbers) (coded× (map.code (coded_list coded_ℕ) coded_ℕ) (map.code (coded_list coded_ℕ) coded_ℕ))
    (λ n. (n.procs, n.fds)) (λ p. record { procs = p.0; fds = p.1 }) (λ _. refl)

-- a lane's names at first
abbrev pub no_names : Names
no_names = record { procs = map.empty; fds = map.empty }

-- a process's name is one of the header, or one that the lane gave; pid 0 stands for what has no name
abbrev pub pid_of : Numbers → Names → List ℕ → ℕ
pid_of header names name = unwrap_or (map.get names.procs name) (unwrap_or (map.get header name) 0)

-- a descriptor is a number, or a name that the lane gave; 255 stands for what has no name
abbrev pub fd_of : Names → FdWord → ℕ
fd_of names (fd_word.Number n) = n
fd_of names (fd_word.Named name) = unwrap_or (map.get names.fds name) 255

abbrev pub keep_of : Names → KeepWord → Keep
keep_of names keep_word.All = keep.All
keep_of names keep_word.Nothing = keep.Nothing
keep_of names (keep_word.One w) = keep.One (record { 0 = fd_of names w })

-- ---- what a command asks for
-- the entry of a call that somebody makes, if anybody does
abbrev pub made_by : Option Caller → Call → Option Event
made_by caller call = option_map (λ c. entry c.seat c.line c.pid (op_of call)) caller

abbrev pub by : Numbers → Names → ℕ → List ℕ → Op → Option Asked
by header names n proc o = Some (record { line = n; pid = pid_of header names proc; op = o })

-- The system call of the line n, where it is a command of one call. A script's statuses are at most 255.
unfoldable pub asked : Numbers → Names → ℕ → Line → Option Asked
asked header names n (line.Create proc path) = by header names n proc (op.CreateAt path)
asked header names n (line.Open proc path mode named) = by header names n proc (op.OpenAt path mode)
asked header names n (line.Read proc fd count) = by header names n proc (op.ReadFd (fd_of names fd) count)
asked header names n (line.Write proc fd bytes) = by header names n proc (op.WriteFd (fd_of names fd) bytes)
asked header names n (line.Cut proc fd len) = by header names n proc (op.CutFd (fd_of names fd) len)
asked header names n (line.Seek proc fd offset) = by header names n proc (op.SeekFd (fd_of names fd) offset)
asked header names n (line.Dup proc fd named) = by header names n proc (op.DupFd (fd_of names fd))
asked header names n (line.Close proc fd) = by header names n proc (op.CloseFd (fd_of names fd))
asked header names n (line.Pipe proc named) = by header names n proc op.MakePipe
asked header names n (line.Mkdir proc path) = by header names n proc (op.MakeDir path)
asked header names n (line.Link proc target path) = by header names n proc (op.LinkAt target path)
asked header names n (line.Unlink proc path) = by header names n proc (op.UnlinkAt path)
asked header names n (line.Rmdir proc path) = by header names n proc (op.RemoveDir path)
asked header names n (line.Chdir proc path) = by header names n proc (op.ChangeDir path)
asked header names n (line.Stat proc path) = by header names n proc (op.StatAt path)
asked header names n (line.List proc path index) = by header names n proc (op.ListAt path index)
asked header names n (line.Fork proc keeps named) = by header names n proc (op.Fork (keep_of names keeps))
asked header names n (line.Exec proc path) = by header names n proc (op.Exec path)
asked header names n (line.Exit proc status) = by header names n proc (op.Exit (min status 255))
asked header names n (line.Wait proc) = by header names n proc op.WaitChild
asked header names n (line.Labelof proc path) = by header names n proc (op.LabelOf path)
asked header names n (line.Self_ proc) = by header names n proc op.SelfLabel
asked header names n (line.Setlabel proc path label) = by header names n proc (op.SetLabel path label)
asked header names n (line.Setself proc label) = by header names n proc (op.SetSelf label)
asked header names n (line.Freeze proc path) = by header names n proc (op.Freeze path)
asked header names n (line.Freezeself proc) = by header names n proc op.FreezeSelf
asked header names n (line.Thaw proc path) = by header names n proc (op.Thaw path)
asked header names n (line.Thawself proc) = by header names n proc op.ThawSelf
asked header names n (line.Setpriv proc path cap lic) = by header names n proc (op.SetPriv path cap lic)
asked header names n (line.Droplic proc set) = by header names n proc (op.DropLic set)
asked header names n (line.Grant proc to set) = by header names n proc (op.GrantLic (pid_of header names to) set)
asked header names n (line.Ceiling proc of_proc label) = by header names n proc (op.SetCeiling (pid_of header names of_proc) label)
asked header names n (line.Pex proc fd) = by header names n proc (op.Pex (fd_of names fd))
asked header names n (line.Unpex proc fd) = by header names n proc (op.Unpex (fd_of names fd))
asked header names n (line.Readlog proc index) = by header names n proc (op.ReadLog index)
asked header names n _ = None

-- the bytes that a line writes
abbrev pub written : Line → List ℕ
written (line.Write proc fd bytes) = bytes
written _ = []

-- ---- what names are given
-- the number that is given where it is at most so great, else one that stands for none
abbrev pub number_in : ℕ → ℕ → Handed → ℕ
number_in most none (handed.Number n) = if nat_lt most n then none else n
number_in most none _ = none

abbrev pub first_in : Handed → ℕ
first_in (handed.Two f g) = f.0
first_in _ = 255

abbrev pub second_in : Handed → ℕ
second_in (handed.Two f g) = g.0
second_in _ = 255

-- a name in its place, where a line gives one
abbrev pub bound : {X : Type 0} → Option (List ℕ) → X → map.FinMap (slice_cmp nat_cmp) X → map.FinMap (slice_cmp nat_cmp) X
bound None n numbers = numbers
bound (Some name) n numbers = map.insert numbers name n

abbrev pub both_bound : Option (List ℕ × List ℕ) → Handed → Numbers → Numbers
both_bound None g numbers = numbers
both_bound (Some two) g numbers = map.insert (map.insert numbers two.0 (first_in g)) two.1 (second_in g)

-- What a lane's names stand for once a line is done. A name stands for none where the line gives it no number.
unfoldable pub named : Names → Line → Handed → Names
named names (line.Open proc path mode f) g = record names { fds = bound f (number_in 255 255 g) names.fds }
named names (line.Dup proc fd f) g = record names { fds = bound f (number_in 255 255 g) names.fds }
named names (line.Pipe proc two) g = record names { fds = both_bound two g names.fds }
named names (line.Fork proc keeps q) g = record names { procs = bound q (number_in 4294967295 0 g) names.procs }
named names (line.Login proc fd hand q) g = record names { procs = bound q (number_in 4294967295 0 g) names.procs }
named names _ g = names
