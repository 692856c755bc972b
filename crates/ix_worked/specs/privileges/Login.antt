-- Servers act for their users, who ask over whole paths: two get a session, and one a licence.
use Rattle.std.specs.Prelude.{true, List, [], ◌∷◌, codes}
use Rattle.ix_label.specs.Category.{bottom, top}
use Rattle.ix_model.specs.history.Events.{Event}
use Rattle.ix_model.specs.history.Events as op
use Rattle.ix_model.specs.world.Privs.{to_lower, to_grant, to_read_the_log, no_privileges}
use Rattle.ix_model.specs.declared.audit.Act.TheVariants as act
use Rattle.ix_model.specs.declared.call.Keep.TheVariants as keep
use Rattle.ix_model.specs.declared.call.Mode.TheVariants as mode
use Rattle.ix_model.specs.declared.config.Config.{Config}
use Rattle.ix_model.specs.declared.refusal.Refusal.TheVariants as refusal
use Rattle.ix_model.specs.declared.reply.Reply.TheVariants as reply
use Rattle.ix_worked.specs.Scripts.{all_five, two_and_five, in_root, under, proc, file, dir, usual_fs, machine, entry, gives, log_line, gives_bytes, gives_done, gives_number, refuses}
use Rattle.ix_worked.specs.Sessions.{Shown}

-- proc srv - * P P
-- dir /mail - frozen
-- dir /work 2,5 free
-- file /release - free D - "rel"
-- file /plan 2,5 free - - "q3"
-- policy, by which ann has 2,5 and L, and bob has 2,5, and who is at or below 2,5 may have D
abbrev pub office : Config
office = machine usual_fs (record (proc bottom top) { cap = to_grant; lic = to_grant } ∷ [])
    (record (dir (codes "mail") bottom) { frozen = true }
    ∷ dir (codes "work") two_and_five
    ∷ record (file (codes "release") bottom (codes "rel")) { cap = to_lower }
    ∷ file (codes "plan") two_and_five (codes "q3")
    ∷ [])

-- pipe srv as s c
-- pipe srv as p d
-- fork srv c as t
-- droplic t DPCTL
-- pex srv s
-- pex t c
-- write t c "login ann"
-- login srv s d as ann
-- read t c 64
-- pex srv s
-- write t c "login bob"
-- login srv s d as bob
-- create bob /mail/m1
-- open ann /plan r as f
-- read ann f 2
-- create ann /mail/m2
-- create ann /work/rep
-- open ann /work/rep w as g
-- write ann g "q3 is up"
-- exec ann /release
-- setlabel ann /work/rep -
-- pex srv p
-- pex ann d
-- write ann d "want D"
-- priv srv p
-- setlabel ann /work/rep -
abbrev pub asking : List Event
asking =
    entry 10 1 op.MakePipe
    ∷ entry 11 1 op.MakePipe
    ∷ entry 12 1 (op.Fork (keep.One (record { 0 = 1 })))
    ∷ entry 13 2 (op.DropLic all_five)
    ∷ entry 14 1 (op.Pex 0)
    ∷ entry 15 2 (op.Pex 1)
    ∷ entry 16 2 (op.WriteFd 1 (codes "login ann"))
    ∷ entry 17 1 (op.Pex 0)
    ∷ entry 17 1 (op.ReadFd 0 64)
    ∷ entry 17 1 (op.Fork (keep.One (record { 0 = 3 })))
    ∷ entry 17 3 (op.DropLic all_five)
    ∷ entry 17 1 (op.SetCeiling 3 two_and_five)
    ∷ entry 17 1 (op.GrantLic 3 to_read_the_log)
    ∷ entry 17 1 (op.WriteFd 0 (codes "granted 1"))
    ∷ entry 17 1 (op.Unpex 0)
    ∷ entry 18 2 (op.ReadFd 1 64)
    ∷ entry 19 1 (op.Pex 0)
    ∷ entry 20 2 (op.WriteFd 1 (codes "login bob"))
    ∷ entry 21 1 (op.Pex 0)
    ∷ entry 21 1 (op.ReadFd 0 64)
    ∷ entry 21 1 (op.Fork (keep.One (record { 0 = 3 })))
    ∷ entry 21 4 (op.DropLic all_five)
    ∷ entry 21 1 (op.SetCeiling 4 two_and_five)
    ∷ entry 21 1 (op.WriteFd 0 (codes "granted 2"))
    ∷ entry 21 1 (op.Unpex 0)
    ∷ entry 22 4 (op.CreateAt (under (codes "mail") (codes "m1")))
    ∷ entry 23 3 (op.OpenAt (in_root (codes "plan")) mode.Read)
    ∷ entry 24 3 (op.ReadFd 0 2)
    ∷ entry 25 3 (op.CreateAt (under (codes "mail") (codes "m2")))
    ∷ entry 26 3 (op.CreateAt (under (codes "work") (codes "rep")))
    ∷ entry 27 3 (op.OpenAt (under (codes "work") (codes "rep")) mode.Write)
    ∷ entry 28 3 (op.WriteFd 1 (codes "q3 is up"))
    ∷ entry 29 3 (op.Exec (in_root (codes "release")))
    ∷ entry 30 3 (op.SetLabel (under (codes "work") (codes "rep")) bottom)
    ∷ entry 31 1 (op.Pex 2)
    ∷ entry 32 3 (op.Pex 3)
    ∷ entry 33 3 (op.WriteFd 3 (codes "want D"))
    ∷ entry 34 1 (op.Pex 2)
    ∷ entry 34 1 (op.ReadFd 2 64)
    ∷ entry 34 1 (op.GrantLic 3 to_lower)
    ∷ entry 34 1 (op.WriteFd 2 (codes "granted 3"))
    ∷ entry 34 1 (op.Unpex 2)
    ∷ entry 35 3 (op.SetLabel (under (codes "work") (codes "rep")) bottom)
    ∷ []

-- each gets a process below a ceiling; ann floats, writes a report, and lowers it once she has the licence to
abbrev pub asking_shows : Shown
asking_shows = record {
  lines =
      gives (reply.Two (record { 0 = 0 }) (record { 0 = 1 })) [] bottom ∷ gives (reply.Two (record { 0 = 2 }) (record { 0 = 3 })) [] bottom
      ∷ gives_number 2 bottom ∷ gives_done bottom ∷ gives reply.Half [] bottom
      ∷ gives (reply.Whole (record { 0 = 1 }) bottom to_grant) [] bottom ∷ gives_number 9 bottom
      ∷ gives (reply.Whole (record { 0 = 2 }) bottom no_privileges) [] bottom ∷ gives_bytes (codes "login ann") bottom
      ∷ gives_number 3 bottom ∷ gives_done bottom ∷ gives_done bottom ∷ gives_done bottom ∷ gives_number 9 bottom ∷ gives_done bottom
      ∷ gives_bytes (codes "granted 1") bottom ∷ gives (reply.Whole (record { 0 = 2 }) bottom no_privileges) [] bottom
      ∷ gives_number 9 bottom ∷ gives (reply.Whole (record { 0 = 2 }) bottom no_privileges) [] bottom
      ∷ gives_bytes (codes "login bob") bottom ∷ gives_number 4 bottom ∷ gives_done bottom ∷ gives_done bottom ∷ gives_number 9 bottom
      ∷ gives_done bottom ∷ gives_number 5 bottom ∷ gives_number 0 bottom ∷ gives_bytes (codes "q3") two_and_five
      ∷ refuses refusal.FileFrozen two_and_five ∷ gives_number 6 two_and_five ∷ gives_number 1 two_and_five ∷ gives_number 8 two_and_five
      ∷ gives_done two_and_five ∷ refuses refusal.NoLicence two_and_five ∷ gives reply.Half [] bottom
      ∷ gives (reply.Whole (record { 0 = 1 }) bottom to_grant) [] two_and_five ∷ gives_number 6 two_and_five
      ∷ gives (reply.Whole (record { 0 = 3 }) two_and_five to_read_the_log) [] bottom ∷ gives_bytes (codes "want D") two_and_five
      ∷ gives_done two_and_five ∷ gives_number 9 two_and_five ∷ gives_done two_and_five ∷ gives_done two_and_five ∷ [];
  objects = (0, bottom) ∷ (1, bottom) ∷ (2, two_and_five) ∷ (3, bottom) ∷ (4, two_and_five) ∷ (5, bottom) ∷ (6, bottom) ∷ (256, bottom) ∷ (257, two_and_five) ∷ [];
  processes = (1, two_and_five) ∷ (2, bottom) ∷ (3, two_and_five) ∷ (4, bottom) ∷ [];
  log =
      record (log_line 13 1 act.Grant 3 bottom bottom) { lic = to_read_the_log }
      ∷ record (log_line 40 1 act.Grant 3 two_and_five two_and_five) { lic = to_lower }
      ∷ log_line 43 3 act.DownFile 6 two_and_five bottom
      ∷ [];
}
