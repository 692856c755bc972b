-- What a high process does comes to one that was low: by a status, a pipe, a shared offset, and once it was let down.
use Rattle.std.specs.Prelude.{ℕ, false, List, [], ◌∷◌, length, codes}
use Rattle.ix_label.specs.Category.{bottom, top}
use Rattle.ix_model.specs.history.Events.{Event}
use Rattle.ix_model.specs.history.Events as op
use Rattle.ix_model.specs.world.Privs.{no_privileges, to_lower, to_read_the_log}
use Rattle.ix_model.specs.declared.audit.Act.TheVariants as act
use Rattle.ix_model.specs.declared.call.Keep.TheVariants as keep
use Rattle.ix_model.specs.declared.call.Mode.TheVariants as mode
use Rattle.ix_model.specs.declared.config.Config.{Config}
use Rattle.ix_model.specs.declared.reply.Kind.TheVariants as kind
use Rattle.ix_model.specs.declared.reply.Reply.TheVariants as reply
use Rattle.ix_worked.specs.Scripts.{seven, in_root, proc, file, gives, by, log_line, small}
use Rattle.ix_worked.specs.Sessions.{Line}

-- a child rises and ends with a status, and its parent waits for it
abbrev pub waiting_for_high : ℕ → List (Event × Line)
waiting_for_high status =
    (by 1 (op.Fork keep.Nothing), gives (reply.Number 2) [] bottom)
    ∷ (by 2 (op.SetSelf seven), gives reply.Done [] seven)
    ∷ (by 2 (op.Exit status), gives reply.Done [] seven)
    ∷ (by 1 op.WaitChild, gives (reply.Child (record { 0 = 2 }) status) [] seven)
    ∷ []

-- a child rises and writes a byte into a pipe, and its parent reads it at the other end
abbrev pub piping_from_high : ℕ → List (Event × Line)
piping_from_high byte =
    (by 1 op.MakePipe, gives (reply.Two (record { 0 = 0 }) (record { 0 = 1 })) [] bottom)
    ∷ (by 1 (op.Fork keep.All), gives (reply.Number 2) [] bottom)
    ∷ (by 2 (op.SetSelf seven), gives reply.Done [] seven)
    ∷ (by 2 (op.WriteFd 0 (byte ∷ [])), gives (reply.Number 1) [] seven)
    ∷ (by 1 (op.ReadFd 1 1), gives (reply.Bytes 1) (byte ∷ []) seven)
    ∷ []

-- proc a - * - -
-- file /n - free - - "abcde"
abbrev pub notebook : Config
notebook = small (proc bottom top ∷ []) (file (codes "n") bottom (codes "abcde") ∷ [])

-- a child rises and writes through the open entry that it shares with its parent, which then reads the next byte
abbrev pub sharing_with_high : List ℕ → List ℕ → List (Event × Line)
sharing_with_high written next =
    (by 1 (op.OpenAt (in_root (codes "n")) mode.Both), gives (reply.Number 0) [] bottom)
    ∷ (by 1 (op.Fork keep.All), gives (reply.Number 2) [] bottom)
    ∷ (by 2 (op.SetSelf seven), gives reply.Done [] seven)
    ∷ (by 2 (op.WriteFd 0 written), gives (reply.Number (length written)) [] seven)
    ∷ (by 1 (op.ReadFd 0 1), gives (reply.Bytes 1) next seven)
    ∷ []

-- proc l - * - -
-- proc h 7 * - -
-- file /d - free - - x
abbrev pub drawer : Config
drawer = small (proc bottom top ∷ proc seven top ∷ []) (file (codes "d") bottom [] ∷ [])

-- a high process writes into a file, and a low one looks at it
abbrev pub looking_at_high : List ℕ → List (Event × Line)
looking_at_high written =
    (by 2 (op.OpenAt (in_root (codes "d")) mode.Write), gives (reply.Number 0) [] seven)
    ∷ (by 2 (op.WriteFd 0 written), gives (reply.Number (length written)) [] seven)
    ∷ (by 1 (op.StatAt (in_root (codes "d"))), gives (reply.Stat (record { 0 = 1 }) kind.File (length written) 1 false no_privileges no_privileges) [] seven)
    ∷ []

-- proc w 7 * D D
-- proc r - * L L
-- file /s 7 free - - x
abbrev pub bureau : Config
bureau = small
    (record (proc seven top) { cap = to_lower; lic = to_lower } ∷ record (proc bottom top) { cap = to_read_the_log; lic = to_read_the_log } ∷ [])
    (file (codes "s") seven [] ∷ [])

-- a high process writes a byte and lets the file down, and a low one reads the log and then the file
abbrev pub letting_down : ℕ → List (Event × Line)
letting_down byte =
    (by 1 (op.OpenAt (in_root (codes "s")) mode.Write), gives (reply.Number 0) [] seven)
    ∷ (by 1 (op.WriteFd 0 (byte ∷ [])), gives (reply.Number 1) [] seven)
    ∷ (by 1 (op.SetLabel (in_root (codes "s")) bottom), gives reply.Done [] seven)
    ∷ (by 2 (op.ReadLog 0), gives (reply.LogLine (log_line 3 1 act.DownFile 1 seven bottom)) [] bottom)
    ∷ (by 2 (op.OpenAt (in_root (codes "s")) mode.Read), gives (reply.Number 0) [] bottom)
    ∷ (by 2 (op.ReadFd 0 1), gives (reply.Bytes 1) (byte ∷ []) bottom)
    ∷ []
