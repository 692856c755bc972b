-- Calls and replies are written without a line feed.
use Rattle.std.proofs.{Common.{◌≡◌, ℕ, ◌==◌, Bool, true, false, not, List, [], ◌∷◌, refl}, lemmas.List.Folds.list_all-append}
use Rattle.std.specs.{Prelude.{codes, bit_and}, List.flat_map}
use Rattle.ix_label.specs.declared.form.Form.{Form}
use Rattle.ix_model.specs.{history.Events.Op, world.Privs.is_empty, declared.audit.Act.Act, declared.audit.AuditLine.AuditLine, declared.call.Keep.Keep}
use Rattle.ix_model.specs.{declared.call.Mode.Mode, declared.privs.PrivSet.PrivSet, declared.refusal.Refusal.Refusal, declared.reply.Kind.Kind}
use Rattle.ix_model.specs.declared.reply.Reply.{Reply}
use Rattle.ix_model.specs.history.Events as op
use Rattle.ix_model.specs.declared.audit.Act.TheVariants as act
use Rattle.ix_model.specs.declared.call.Keep.TheVariants as keep
use Rattle.ix_model.specs.declared.call.Mode.TheVariants as mode
use Rattle.ix_model.specs.declared.refusal.Refusal.TheVariants as refusal
use Rattle.ix_model.specs.declared.reply.Kind.TheVariants as kind
use Rattle.ix_model.specs.declared.reply.Reply.TheVariants as reply
use Rattle.ix_text.specs.Spellings.{letter_in, letters, mode_text, privs_text, state_text}
use Rattle.ix_report.specs.{CallText.call_text, Feeds.has_no_feed, RefusalText.refusal_text, ReplyText.{audit_text, reply_text}}
use Rattle.ix_report.specs.Words.{act_text, keep_text, kind_text, life_text}
use Rattle.ix_report.proofs.feeds.Plain.{decimal_plain, either, hex_plain, label_plain, name_plain, path_plain}

-- ---- words
letter_plain : (set : PrivSet) (one : ℕ × ℕ) → not (one.0 == 10) ≡ true → has_no_feed (letter_in set one) ≡ true
letter_plain set one h = either (bit_and set.0 one.1 == one.1) (one.0 ∷ []) [] (rw h refl) refl

pub privs_plain : (set : PrivSet) → has_no_feed (privs_text set) ≡ true
unfolding privs_text
privs_plain set = either (is_empty set) (codes "-") (flat_map (letter_in set) letters) refl (letters_plain set)
  where
    letters_plain : (set : PrivSet) → has_no_feed (flat_map (letter_in set) letters) ≡ true
    letters_plain set =
        let d = letter_plain set (68, 1) refl in
        let p = letter_plain set (80, 2) refl in
        let c = letter_plain set (67, 4) refl in
        let t = letter_plain set (84, 8) refl in
        let l = letter_plain set (76, 16) refl in simp (list_all-append, d, p, c, t, l) refl

mode_plain : (m : Mode) → has_no_feed (mode_text m) ≡ true
mode_plain mode.Read = refl
mode_plain mode.Write = refl
mode_plain mode.Both = refl

pub state_plain : (frozen : Bool) → has_no_feed (state_text frozen) ≡ true
state_plain true = refl
state_plain false = refl

pub life_plain : (ended : Bool) → has_no_feed (life_text ended) ≡ true
life_plain true = refl
life_plain false = refl

pub kind_plain : (k : Kind) → has_no_feed (kind_text k) ≡ true
kind_plain kind.File = refl
kind_plain kind.Dir = refl
kind_plain kind.Pipe = refl

keep_plain : (k : Keep) → has_no_feed (keep_text k) ≡ true
keep_plain keep.All = refl
keep_plain keep.Nothing = refl
keep_plain (keep.One fd) = decimal_plain fd.0

act_plain : (a : Act) → has_no_feed (act_text a) ≡ true
act_plain act.DownFile = refl
act_plain act.DownSelf = refl
act_plain act.SetPriv = refl
act_plain act.Grant = refl
act_plain act.Ceiling = refl
act_plain act.ThawFile = refl
act_plain act.ThawSelf = refl
act_plain act.ReadLog = refl

refusal_plain : (why : Refusal) → has_no_feed (refusal_text why) ≡ true
unfolding refusal_text
refusal_plain refusal.NoProcess = refl
refusal_plain refusal.BadFd = refl
refusal_plain refusal.NotReadable = refl
refusal_plain refusal.NotWritable = refl
refusal_plain refusal.NotFound = refl
refusal_plain refusal.NotDir = refl
refusal_plain refusal.IsDir = refl
refusal_plain refusal.Exists = refl
refusal_plain refusal.NotEmpty = refl
refusal_plain refusal.CrossFs = refl
refusal_plain refusal.ProcFrozen = refl
refusal_plain refusal.ProcCeiling = refl
refusal_plain refusal.FileFrozen = refl
refusal_plain refusal.FsCeiling = refl
refusal_plain refusal.Trusted = refl
refusal_plain refusal.NoCapability = refl
refusal_plain refusal.NoLicence = refl
refusal_plain refusal.NotAbove = refl
refusal_plain refusal.BelowLabel = refl
refusal_plain refusal.PexHeld = refl
refusal_plain refusal.NotPipe = refl
refusal_plain refusal.NotClaimed = refl
refusal_plain refusal.NoSpace = refl
refusal_plain refusal.NoInode = refl
refusal_plain refusal.NoEntry = refl
refusal_plain refusal.NoSlot = refl
refusal_plain refusal.NoFd = refl
refusal_plain refusal.NoOpen = refl
refusal_plain refusal.TooBig = refl
refusal_plain refusal.PipeFull = refl
refusal_plain refusal.Broken = refl
refusal_plain refusal.NoChild = refl
refusal_plain refusal.ChildrenLive = refl
refusal_plain refusal.LogFull = refl
refusal_plain refusal.Again = refl
refusal_plain refusal.EndOfList = refl
refusal_plain refusal.IsPipe = refl
refusal_plain refusal.InUse = refl

-- all of these
ruleset values = (decimal_plain, label_plain, hex_plain, name_plain, path_plain, privs_plain)

ruleset words = (mode_plain, state_plain, life_plain, kind_plain, keep_plain, act_plain, refusal_plain)

ruleset plain = (list_all-append, values, words)

-- ---- calls
pub call_plain : (form : Form) (pid : ℕ) (o : Op) → has_no_feed (call_text form pid o) ≡ true
unfolding call_text
call_plain form pid (op.CreateAt path) = simp plain refl
call_plain form pid (op.OpenAt path mode) = simp plain refl
call_plain form pid (op.ReadFd fd count) = simp plain refl
call_plain form pid (op.WriteFd fd bytes) = simp plain refl
call_plain form pid (op.CutFd fd len) = simp plain refl
call_plain form pid (op.SeekFd fd at) = simp plain refl
call_plain form pid (op.DupFd fd) = simp plain refl
call_plain form pid (op.CloseFd fd) = simp plain refl
call_plain form pid op.MakePipe = simp plain refl
call_plain form pid (op.MakeDir path) = simp plain refl
call_plain form pid (op.LinkAt target path) = simp plain refl
call_plain form pid (op.UnlinkAt path) = simp plain refl
call_plain form pid (op.RemoveDir path) = simp plain refl
call_plain form pid (op.ChangeDir path) = simp plain refl
call_plain form pid (op.StatAt path) = simp plain refl
call_plain form pid (op.ListAt path index) = simp plain refl
call_plain form pid (op.Fork keep) = simp plain refl
call_plain form pid (op.Exec path) = simp plain refl
call_plain form pid (op.Exit status) = simp plain refl
call_plain form pid op.WaitChild = simp plain refl
call_plain form pid (op.LabelOf path) = simp plain refl
call_plain form pid op.SelfLabel = simp plain refl
call_plain form pid (op.SetLabel path label) = simp plain refl
call_plain form pid (op.SetSelf label) = simp plain refl
call_plain form pid (op.Freeze path) = simp plain refl
call_plain form pid op.FreezeSelf = simp plain refl
call_plain form pid (op.Thaw path) = simp plain refl
call_plain form pid op.ThawSelf = simp plain refl
call_plain form pid (op.SetPriv path cap lic) = simp plain refl
call_plain form pid (op.DropLic set) = simp plain refl
call_plain form pid (op.GrantLic target set) = simp plain refl
call_plain form pid (op.SetCeiling target label) = simp plain refl
call_plain form pid (op.Pex fd) = simp plain refl
call_plain form pid (op.Unpex fd) = simp plain refl
call_plain form pid (op.ReadLog index) = simp plain refl

-- ---- replies
pub audit_plain : (form : Form) (a : AuditLine) → has_no_feed (audit_text form a) ≡ true
unfolding audit_text
audit_plain form a = simp plain refl

pub reply_plain : (form : Form) (r : Reply) (bytes : List ℕ) → has_no_feed (reply_text form r bytes) ≡ true
unfolding reply_text
reply_plain form reply.Done bytes = refl
reply_plain form (reply.Number n) bytes = simp plain refl
reply_plain form (reply.Two f g) bytes = simp plain refl
reply_plain form (reply.Bytes k) bytes = simp plain refl
reply_plain form (reply.Stat obj kind size links frozen may lic) bytes = simp plain refl
reply_plain form (reply.Lab label) bytes = simp plain refl
reply_plain form (reply.Named name obj) bytes = simp plain refl
reply_plain form reply.Half bytes = refl
reply_plain form (reply.Whole pid label lic) bytes = simp plain refl
reply_plain form (reply.LogLine line) bytes = audit_plain form line
reply_plain form (reply.Child pid status) bytes = simp plain refl
reply_plain form (reply.No why) bytes = simp plain refl
