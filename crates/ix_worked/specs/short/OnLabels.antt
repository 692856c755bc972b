-- Short histories of the calls on labels, privileges, ceilings and the log.
use Rattle.std.specs.Prelude.{true, false, List, [], ◌∷◌, replicate, codes}
use Rattle.ix_label.specs.Category.{bottom, top}
use Rattle.ix_model.specs.history.Events.{Event}
use Rattle.ix_model.specs.history.Events as op
use Rattle.ix_model.specs.world.Privs.{to_lower, to_thaw, to_read_the_log, no_privileges}
use Rattle.ix_model.specs.declared.audit.Act.TheVariants as act
use Rattle.ix_model.specs.declared.audit.AuditLine.{AuditLine}
use Rattle.ix_model.specs.declared.call.Keep.TheVariants as keep
use Rattle.ix_model.specs.declared.call.Mode.TheVariants as mode
use Rattle.ix_model.specs.declared.config.Config.{Config}
use Rattle.ix_model.specs.declared.refusal.Refusal.TheVariants as refusal
use Rattle.ix_model.specs.declared.reply.Kind.TheVariants as kind
use Rattle.ix_model.specs.declared.reply.Reply.TheVariants as reply
use Rattle.ix_worked.specs.Scripts.{all_five, three, five, three_and_five, in_root, under, proc, file, dir, gives, log_line, by, refuses, small_limits, small_fs, small}
use Rattle.ix_worked.specs.Sessions.{Line}

-- proc a 3 * - -
-- proc b - * - -
-- proc c 3,5 * - -
-- file /f - free - - x
-- file /s 5 free - - x
-- file /z 3 frozen - - x
abbrev pub levels : Config
levels = record
    (small (proc three top ∷ proc bottom top ∷ proc three_and_five top ∷ [])
    (file (codes "f") bottom [] ∷ file (codes "s") five [] ∷ record (file (codes "z") three []) { frozen = true } ∷ []))
    { limits = record small_limits { procs = 8 } }

-- limit log 0
-- proc a 3 * DPCTL DPCTL
-- proc b - * - -
-- file /z 3 frozen - - x
abbrev pub no_lines : Config
no_lines = record
    (small (record (proc three top) { cap = all_five; lic = all_five } ∷ proc bottom top ∷ []) (record (file (codes "z") three []) { frozen = true } ∷ []))
    { limits = record small_limits { log = 0 } }

-- proc a 3 * DPCTL DPCTL
-- proc b - * L -
-- file /f - free - - "abc"
-- file /y - frozen - - x
abbrev pub officers : Config
officers = record
    (small (record (proc three top) { cap = all_five; lic = all_five } ∷ record (proc bottom top) { cap = to_read_the_log } ∷ [])
    (file (codes "f") bottom (codes "abc") ∷ record (file (codes "y") bottom []) { frozen = true } ∷ []))
    { limits = record small_limits { log = 8 } }

-- proc a - * - -, and so on to e
-- file /s 5 free - - x
-- dir /h 5 free
abbrev pub heights : Config
heights = record (small (replicate 5 (proc bottom top)) (file (codes "s") five [] ∷ dir (codes "h") five ∷ [])) { limits = record small_limits { procs = 8 } }

-- proc a - 3 - -
-- dir /h 3 free
-- dir /k 3,5 free
abbrev pub two_steps : Config
two_steps = small (proc bottom three ∷ []) (dir (codes "h") three ∷ dir (codes "k") three_and_five ∷ [])

-- file /prog - free T T x
-- file /z - frozen - - x
-- proc a - * - -
abbrev pub program : Config
program = small (proc bottom top ∷ []) (record (file (codes "prog") bottom []) { cap = to_thaw; lic = to_thaw } ∷ record (file (codes "z") bottom []) { frozen = true } ∷ [])

-- fs root 3 4 4
-- proc a 5 * - -
-- proc b - 3 - -
-- file /z - frozen - - x
-- file /g - free - - x
abbrev pub stiff_house : Config
stiff_house = record
    (small (proc five top ∷ proc bottom three ∷ []) (record (file (codes "z") bottom []) { frozen = true } ∷ file (codes "g") bottom [] ∷ []))
    { fss = record small_fs { ceiling = three } ∷ [] }

-- fs root 3 4 4
-- proc a - 3 - -
-- file /f - free - - x
abbrev pub low_house : Config
low_house = record (small (proc bottom three ∷ []) (file (codes "f") bottom [] ∷ [])) { fss = record small_fs { ceiling = three } ∷ [] }

-- proc a - * - -
-- file /s 5 free - - x
abbrev pub pair : Config
pair = small (proc bottom top ∷ []) (file (codes "s") five [] ∷ [])

-- proc a 3 * - -
-- proc b 3,5 * - -
-- dir /d - free
abbrev pub chest : Config
chest = small (proc three top ∷ proc three_and_five top ∷ []) (dir (codes "d") bottom ∷ [])

-- it has opened a file above it
abbrev pub holding_down : List (Event × Line)
holding_down =
    (by 2 (op.OpenAt (in_root (codes "s")) mode.Read), gives (reply.Number 0) [] bottom)
    ∷ (by 2 op.FreezeSelf, gives reply.Done [] bottom)
    ∷ (by 2 (op.ReadFd 0 1), refuses refusal.ProcFrozen bottom)
    ∷ (by 2 (op.SetSelf five), refuses refusal.ProcFrozen bottom)
    ∷ (by 2 (op.SetSelf bottom), gives reply.Done [] bottom)
    ∷ (by 2 op.SelfLabel, gives (reply.Lab bottom) [] bottom)
    ∷ []

-- a frozen file may be set to the label that it has, and to no other
abbrev pub setting_labels : List (Event × Line)
setting_labels =
    (by 1 (op.SetLabel (in_root (codes "f")) five), refuses refusal.NotAbove three)
    ∷ (by 1 (op.SetLabel (in_root (codes "f")) bottom), refuses refusal.NotAbove three)
    ∷ (by 1 (op.SetLabel (in_root (codes "z")) three), gives reply.Done [] three)
    ∷ (by 1 (op.SetLabel (in_root (codes "z")) three_and_five), refuses refusal.FileFrozen three)
    ∷ (by 1 (op.SetLabel (in_root (codes "f")) three), gives reply.Done [] three)
    ∷ (by 1 (op.LabelOf (in_root (codes "f"))), gives (reply.Lab three) [] three)
    ∷ []

-- pid 4 is a child of pid 2, and pid 5 of pid 4
abbrev pub setting_ceilings : List (Event × Line)
setting_ceilings =
    (by 1 (op.SetCeiling 1 bottom), refuses refusal.BelowLabel three)
    ∷ (by 2 (op.SetCeiling 1 bottom), refuses refusal.BelowLabel bottom)
    ∷ (by 2 (op.SetCeiling 1 top), refuses refusal.NoCapability bottom)
    ∷ (by 1 (op.SetCeiling 1 three), gives reply.Done [] three)
    ∷ (by 1 (op.SetCeiling 1 top), refuses refusal.NoCapability three)
    ∷ (by 2 (op.Fork keep.All), gives (reply.Number 4) [] bottom)
    ∷ (by 2 (op.SetCeiling 4 bottom), gives reply.Done [] bottom)
    ∷ (by 2 (op.SetCeiling 4 three), refuses refusal.NoCapability bottom)
    ∷ (by 4 (op.Fork keep.All), gives (reply.Number 5) [] bottom)
    ∷ (by 2 (op.SetCeiling 5 bottom), refuses refusal.NoCapability bottom)
    ∷ []

-- pid 1 is at 3, pid 2 at bottom, pid 3 at 3,5
abbrev pub freezing : List (Event × Line)
freezing =
    (by 1 (op.Freeze (in_root (codes "f"))), gives reply.Done [] three)
    ∷ (by 1 (op.Freeze (in_root (codes "f"))), gives reply.Done [] three)
    ∷ (by 2 (op.Freeze (in_root (codes "f"))), gives reply.Done [] bottom)
    ∷ (by 3 (op.Freeze (in_root (codes "f"))), refuses refusal.FileFrozen three_and_five)
    ∷ (by 3 (op.LabelOf (in_root (codes "f"))), gives (reply.Lab three) [] three_and_five)
    ∷ []

-- the process and the file are frozen
abbrev pub acting_without_a_line : List (Event × Line)
acting_without_a_line =
    (by 1 op.FreezeSelf, gives reply.Done [] three)
    ∷ (by 1 (op.SetSelf bottom), refuses refusal.LogFull three)
    ∷ (by 1 (op.SetLabel (in_root (codes "z")) bottom), refuses refusal.LogFull three)
    ∷ (by 1 (op.SetPriv (in_root (codes "z")) to_lower to_lower), refuses refusal.LogFull three)
    ∷ (by 1 (op.Thaw (in_root (codes "z"))), refuses refusal.LogFull three)
    ∷ (by 1 op.ThawSelf, refuses refusal.LogFull three)
    ∷ (by 1 (op.GrantLic 2 to_lower), refuses refusal.LogFull three)
    ∷ (by 1 (op.SetCeiling 2 bottom), refuses refusal.LogFull three)
    ∷ (by 1 (op.ReadLog 0), refuses refusal.EndOfList three)
    ∷ []

-- pid 2 lacks the licence to read the log until it is granted
abbrev pub acting : List (Event × Line)
acting =
    (by 2 (op.ReadLog 0), refuses refusal.NoLicence bottom)
    ∷ (by 1 op.FreezeSelf, gives reply.Done [] three)
    ∷ (by 1 (op.SetSelf bottom), refuses refusal.ProcFrozen three)
    ∷ (by 1 (op.SetPriv (in_root (codes "y")) to_lower to_lower), refuses refusal.FileFrozen three)
    ∷ (by 1 op.ThawSelf, gives reply.Done [] three)
    ∷ (by 1 (op.SetPriv (in_root (codes "f")) to_lower to_thaw), gives reply.Done [] three)
    ∷ (by 1 (op.StatAt (in_root (codes "f"))), gives (reply.Stat (record { 0 = 1 }) kind.File 3 1 false to_lower to_thaw) [] three)
    ∷ (by 1 (op.GrantLic 2 to_read_the_log), gives reply.Done [] three)
    ∷ (by 2 (op.ReadLog 0), gives (reply.LogLine (log_line 5 1 act.ThawSelf 1 three three)) [] bottom)
    ∷ (by 1 (op.Exec (in_root (codes "f"))), gives reply.Done [] three)
    ∷ (by 1 (op.Thaw (in_root (codes "y"))), refuses refusal.NoCapability three)
    ∷ (by 1 (op.SetSelf bottom), gives reply.Done [] bottom)
    ∷ (by 1 (op.DropLic to_lower), gives reply.Done [] bottom)
    ∷ (by 1 (op.SetLabel (in_root (codes "f")) bottom), refuses refusal.NoCapability bottom)
    ∷ []

abbrev pub acting_log : List AuditLine
acting_log =
    log_line 5 1 act.ThawSelf 1 three three
    ∷ record (log_line 6 1 act.SetPriv 1 bottom three) { cap = to_lower; lic = to_thaw }
    ∷ record (log_line 8 1 act.Grant 2 bottom bottom) { lic = to_read_the_log }
    ∷ log_line 9 2 act.ReadLog 0 bottom bottom
    ∷ log_line 12 1 act.DownSelf 1 three bottom
    ∷ []

-- a file and a directory above all who find them
abbrev pub finding_what_is_high : List (Event × Line)
finding_what_is_high =
    (by 1 (op.LabelOf (in_root (codes "s"))), gives (reply.Lab five) [] bottom)
    ∷ (by 1 (op.OpenAt (in_root (codes "s")) mode.Read), gives (reply.Number 0) [] bottom)
    ∷ (by 1 (op.ChangeDir (in_root (codes "h"))), gives reply.Done [] bottom)
    ∷ (by 1 (op.SetLabel (in_root (codes "s")) five), gives reply.Done [] bottom)
    ∷ (by 1 (op.Freeze (in_root (codes "s"))), gives reply.Done [] bottom)
    ∷ (by 1 (op.Exec (in_root (codes "h"))), refuses refusal.IsDir bottom)
    ∷ (by 1 (op.ListAt (in_root (codes "s")) 0), refuses refusal.NotDir bottom)
    ∷ (by 1 (op.RemoveDir (in_root (codes "s"))), refuses refusal.NotDir bottom)
    ∷ (by 1 (op.StatAt (in_root (codes "s"))), gives (reply.Stat (record { 0 = 1 }) kind.File 0 1 true no_privileges no_privileges) [] five)
    ∷ (by 2 (op.ListAt (in_root (codes "h")) 0), refuses refusal.EndOfList five)
    ∷ (by 3 (op.StatAt (in_root (codes "h"))), gives (reply.Stat (record { 0 = 2 }) kind.Dir 0 1 false no_privileges no_privileges) [] five)
    ∷ (by 4 (op.Exec (in_root (codes "s"))), gives reply.Done [] five)
    ∷ (by 5 (op.RemoveDir (in_root (codes "h"))), refuses refusal.InUse bottom)
    ∷ []

-- both ceilings are 3
abbrev pub setting_high : List (Event × Line)
setting_high =
    (by 1 (op.SetLabel (in_root (codes "f")) five), refuses refusal.FsCeiling bottom)
    ∷ (by 1 (op.SetLabel (in_root (codes "f")) three), gives reply.Done [] bottom)
    ∷ (by 1 (op.SetSelf five), refuses refusal.ProcCeiling bottom)
    ∷ (by 1 (op.SetSelf three), gives reply.Done [] three)
    ∷ (by 1 (op.LabelOf (in_root (codes "f"))), gives (reply.Lab three) [] three)
    ∷ []

-- the child has read what is at 5
abbrev pub looking_into_an_empty_pipe : List (Event × Line)
looking_into_an_empty_pipe =
    (by 1 op.MakePipe, gives (reply.Two (record { 0 = 0 }) (record { 0 = 1 })) [] bottom)
    ∷ (by 1 (op.Fork keep.All), gives (reply.Number 2) [] bottom)
    ∷ (by 2 (op.OpenAt (in_root (codes "s")) mode.Read), gives (reply.Number 2) [] bottom)
    ∷ (by 2 (op.ReadFd 2 1), gives (reply.Bytes 0) [] five)
    ∷ (by 2 (op.WriteFd 0 []), gives (reply.Number 0) [] five)
    ∷ (by 1 (op.ReadFd 1 8), refuses refusal.Again five)
    ∷ []

-- the directory is frozen after the first
abbrev pub making_names_high : List (Event × Line)
making_names_high =
    (by 1 (op.CreateAt (under (codes "d") (codes "x"))), gives (reply.Number 2) [] three)
    ∷ (by 1 (op.LabelOf (in_root (codes "d"))), gives (reply.Lab three) [] three)
    ∷ (by 1 (op.LabelOf (under (codes "d") (codes "x"))), gives (reply.Lab bottom) [] three)
    ∷ (by 1 (op.Freeze (in_root (codes "d"))), gives reply.Done [] three)
    ∷ (by 2 (op.CreateAt (under (codes "d") (codes "y"))), refuses refusal.FileFrozen three_and_five)
    ∷ (by 2 (op.UnlinkAt (under (codes "d") (codes "x"))), refuses refusal.FileFrozen three_and_five)
    ∷ (by 1 (op.CreateAt (under (codes "d") (codes "y"))), gives (reply.Number 3) [] three)
    ∷ []

-- another's is lowered and raised, a child's is too, and the own is lowered
abbrev pub raising_ceilings : List (Event × Line)
raising_ceilings =
    (by 1 (op.SetCeiling 2 three), gives reply.Done [] three)
    ∷ (by 1 (op.SetCeiling 2 top), gives reply.Done [] three)
    ∷ (by 1 (op.Fork keep.All), gives (reply.Number 3) [] three)
    ∷ (by 1 (op.SetCeiling 3 three), gives reply.Done [] three)
    ∷ (by 1 (op.SetCeiling 3 top), gives reply.Done [] three)
    ∷ (by 1 (op.SetCeiling 1 three), gives reply.Done [] three)
    ∷ []

abbrev pub raising_ceilings_log : List AuditLine
raising_ceilings_log = log_line 1 1 act.Ceiling 2 top three ∷ log_line 2 1 act.Ceiling 2 three top ∷ log_line 5 1 act.Ceiling 3 three top ∷ []

-- the first directory is at the ceiling, and the second above it
abbrev pub walking_too_high : List (Event × Line)
walking_too_high =
    (by 1 (op.LinkAt (under (codes "h") (codes "x")) (under (codes "k") (codes "y"))), refuses refusal.ProcCeiling bottom)
    ∷ (by 1 (op.CreateAt (under (codes "k") (codes "y"))), refuses refusal.ProcCeiling bottom)
    ∷ (by 1 (op.StatAt (under (codes "h") (codes "x"))), refuses refusal.NotFound three)
    ∷ []

-- the program is executed, and its privileges pass to a child, which drops them
abbrev pub handing_on : List (Event × Line)
handing_on =
    (by 1 (op.OpenAt (in_root (codes "prog")) mode.Both), gives (reply.Number 0) [] bottom)
    ∷ (by 1 (op.CutFd 0 0), refuses refusal.Trusted bottom)
    ∷ (by 1 (op.Exec (in_root (codes "prog"))), gives reply.Done [] bottom)
    ∷ (by 1 (op.Fork keep.Nothing), gives (reply.Number 2) [] bottom)
    ∷ (by 2 (op.Thaw (in_root (codes "z"))), gives reply.Done [] bottom)
    ∷ (by 2 (op.DropLic to_thaw), gives reply.Done [] bottom)
    ∷ (by 2 (op.Thaw (in_root (codes "z"))), refuses refusal.NoCapability bottom)
    ∷ (by 1 (op.Thaw (in_root (codes "z"))), gives reply.Done [] bottom)
    ∷ []

abbrev pub handing_on_log : List AuditLine
handing_on_log = log_line 5 2 act.ThawFile 2 bottom bottom ∷ log_line 8 1 act.ThawFile 2 bottom bottom ∷ []

-- a frozen file whose label would pass its ceiling, and a frozen process whose label would pass its own
abbrev pub moving_what_is_frozen : List (Event × Line)
moving_what_is_frozen =
    (by 1 (op.OpenAt (in_root (codes "z")) mode.Write), gives (reply.Number 0) [] five)
    ∷ (by 1 (op.WriteFd 0 (codes "x")), refuses refusal.FileFrozen five)
    ∷ (by 1 (op.CutFd 0 0), refuses refusal.FileFrozen five)
    ∷ (by 1 (op.SetLabel (in_root (codes "z")) five), refuses refusal.FileFrozen five)
    ∷ (by 1 (op.SetLabel (in_root (codes "g")) five), refuses refusal.FsCeiling five)
    ∷ (by 1 (op.Freeze (in_root (codes "g"))), refuses refusal.FsCeiling five)
    ∷ (by 1 (op.Thaw (in_root (codes "no"))), refuses refusal.NotFound five)
    ∷ (by 1 (op.Thaw (in_root (codes "z"))), refuses refusal.NoCapability five)
    ∷ (by 2 (op.SetSelf five), refuses refusal.ProcCeiling bottom)
    ∷ (by 2 op.FreezeSelf, gives reply.Done [] bottom)
    ∷ (by 2 (op.SetSelf five), refuses refusal.ProcFrozen bottom)
    ∷ []

-- fs root * 4 4
-- fs vol * 4 2
-- proc a - * - -, and so on to f
-- dir /h 5 free
-- file /h/s - free - - x
-- dir /h/e - free
abbrev pub towers : Config
towers = record
    (small (replicate 6 (proc bottom top))
    (dir (codes "h") five
    ∷ record (file (codes "s") bottom []) { path = under (codes "h") (codes "s") }
    ∷ record (dir (codes "e") bottom) { path = under (codes "h") (codes "e") }
    ∷ []))
    { limits = record small_limits { procs = 8 }; fss = small_fs ∷ record small_fs { name = codes "vol"; inodes = 2 } ∷ [] }

-- each looks into /h, and is refused for what it finds there
abbrev pub looking_in_vain : List (Event × Line)
looking_in_vain =
    (by 1 (op.StatAt (record { absolute = true; names = codes "h" ∷ codes "s" ∷ codes "x" ∷ [] })), refuses refusal.NotDir five)
    ∷ (by 2 (op.OpenAt (under (codes "h") (codes "e")) mode.Read), refuses refusal.IsDir five)
    ∷ (by 3 (op.CreateAt (under (codes "h") (codes "s"))), refuses refusal.Exists five)
    ∷ (by 4 (op.RemoveDir (in_root (codes "h"))), refuses refusal.NotEmpty five)
    ∷ (by 5 (op.LinkAt (under (codes "h") (codes "s")) (under (codes "vol") (codes "x"))), refuses refusal.CrossFs five)
    ∷ (by 6 (op.LinkAt (under (codes "h") (codes "x")) (in_root (codes "y"))), refuses refusal.NotFound five)
    ∷ []

-- what is raised is no line
abbrev pub reading_each_line : List (Event × Line)
reading_each_line =
    (by 1 (op.SetPriv (in_root (codes "f")) to_lower to_thaw), gives reply.Done [] three)
    ∷ (by 1 (op.SetLabel (in_root (codes "f")) three_and_five), gives reply.Done [] three)
    ∷ (by 1 (op.SetSelf three_and_five), gives reply.Done [] three_and_five)
    ∷ (by 1 (op.SetCeiling 2 three), gives reply.Done [] three_and_five)
    ∷ (by 1 (op.Thaw (in_root (codes "y"))), gives reply.Done [] three_and_five)
    ∷ (by 1 (op.StatAt (in_root (codes "y"))), gives (reply.Stat (record { 0 = 2 }) kind.File 0 1 false no_privileges no_privileges) [] three_and_five)
    ∷ (by 1 (op.ReadLog 0), gives (reply.LogLine (record (log_line 1 1 act.SetPriv 1 bottom three) { cap = to_lower; lic = to_thaw })) [] three_and_five)
    ∷ (by 1 (op.ReadLog 1), gives (reply.LogLine (log_line 4 1 act.Ceiling 2 top three)) [] three_and_five)
    ∷ (by 1 (op.ReadLog 2), gives (reply.LogLine (log_line 5 1 act.ThawFile 2 bottom bottom)) [] three_and_five)
    ∷ (by 1 (op.ReadLog 6), refuses refusal.EndOfList three_and_five)
    ∷ []
