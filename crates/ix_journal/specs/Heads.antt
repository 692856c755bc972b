-- How a call lies in a journal: a head of fixed size, its words, which are the texts of its paths or the bytes that it writes, and its label.
use Rattle.std.specs.Prelude.{◌≡◌, ℕ, suc, ◌+◌, ◌≤◌, IsTrue, List, [], ◌∷◌, ◌++◌, length, take, drop, get_or}
use Rattle.ix_label.specs.Category.{Categories, bottom}
use Rattle.ix_model.specs.world.Naming.{PathOf}
use Rattle.ix_model.specs.world.Texts.{is_path_text}
use Rattle.ix_model.specs.world.Paths.{path_from, path_of}
use Rattle.ix_model.specs.history.Calls.{op_of}
use Rattle.ix_model.specs.history.Events.{Op}
use Rattle.ix_model.specs.history.Events as op
use Rattle.ix_model.specs.history.Cost.{cost_of_path, cost_of_words}
use Rattle.ix_model.specs.declared.call.Call.{Call}
use Rattle.ix_model.specs.declared.call.Call.TheVariants as call
use Rattle.ix_journal.specs.declared.words.Words.{Words}
use Rattle.ix_journal.specs.declared.words.Words.TheVariants as words
use Rattle.ix_journal.specs.declared.record.OnPath.{OnPath}
use Rattle.ix_journal.specs.declared.record.OnPath.TheVariants as on
use Rattle.ix_journal.specs.declared.record.Alone.{Alone}
use Rattle.ix_journal.specs.declared.record.Alone.TheVariants as alone
use Rattle.ix_journal.specs.declared.record.Head.{Head}
use Rattle.ix_journal.specs.declared.record.Head.TheVariants as head

-- ---- words
-- the words of a call: the bytes that it writes, or the texts of its paths, one after another
abbrev pub words_of : Call → List ℕ
words_of (call.CreateAt path) = path.text.now
words_of (call.OpenAt path mode) = path.text.now
words_of (call.WriteFd fd bytes) = bytes.now
words_of (call.MakeDir path) = path.text.now
words_of (call.LinkAt target path) = target.text.now ++ path.text.now
words_of (call.UnlinkAt path) = path.text.now
words_of (call.RemoveDir path) = path.text.now
words_of (call.ChangeDir path) = path.text.now
words_of (call.StatAt path) = path.text.now
words_of (call.ListAt path index) = path.text.now
words_of (call.Exec path) = path.text.now
words_of (call.LabelOf path) = path.text.now
words_of (call.SetLabel path label) = path.text.now
words_of (call.Freeze path) = path.text.now
words_of (call.Thaw path) = path.text.now
words_of (call.SetPriv path cap lic) = path.text.now
words_of _ = []

-- what the words of a call cost, and what they are
pub record HasWords (c : Call) (n : ℕ) (bytes : List ℕ) : Type 0 where
  pub cost : cost_of_words (op_of c) ≡ n
  pub words : words_of c ≡ bytes

-- these are the words of a call
abbrev pub AreWordsOf : Call → Words → Type 0
AreWordsOf c words.None = HasWords c 0 []
AreWordsOf c (words.Bytes bytes) = HasWords c (length bytes.now) bytes.now
AreWordsOf c (words.Path path) = HasWords c (cost_of_path (path_of path)) path.text.now
AreWordsOf c (words.Paths first second) = HasWords c (cost_of_path (path_of first) + cost_of_path (path_of second)) (first.text.now ++ second.text.now)

-- ---- labels
-- the label that a call names, if it names one
abbrev pub labels_of : Call → List Categories
labels_of (call.SetLabel path label) = label ∷ []
labels_of (call.SetSelf label) = label ∷ []
labels_of (call.SetCeiling pid label) = label ∷ []
labels_of _ = []

-- ---- heads
-- a call without its words, and with the place of its label among all labels, which is the next
abbrev pub head_of : ℕ → Call → Head
head_of place (call.CreateAt path) = head.Path path.absolute on.CreateAt
head_of place (call.OpenAt path mode) = head.Path path.absolute (on.OpenAt mode)
head_of place (call.ReadFd fd count) = head.Plain (alone.ReadFd fd count)
head_of place (call.WriteFd fd bytes) = head.Write fd
head_of place (call.CutFd fd len) = head.Plain (alone.CutFd fd len)
head_of place (call.SeekFd fd at) = head.Plain (alone.SeekFd fd at)
head_of place (call.DupFd fd) = head.Plain (alone.DupFd fd)
head_of place (call.CloseFd fd) = head.Plain (alone.CloseFd fd)
head_of place call.MakePipe = head.Plain alone.MakePipe
head_of place (call.MakeDir path) = head.Path path.absolute on.MakeDir
head_of place (call.LinkAt target path) = head.Link target.absolute (length target.text.now) path.absolute
head_of place (call.UnlinkAt path) = head.Path path.absolute on.UnlinkAt
head_of place (call.RemoveDir path) = head.Path path.absolute on.RemoveDir
head_of place (call.ChangeDir path) = head.Path path.absolute on.ChangeDir
head_of place (call.StatAt path) = head.Path path.absolute on.StatAt
head_of place (call.ListAt path index) = head.Path path.absolute (on.ListAt index)
head_of place (call.Fork keep) = head.Plain (alone.Fork keep)
head_of place (call.Exec path) = head.Path path.absolute on.Exec
head_of place (call.Exit status) = head.Plain (alone.Exit status)
head_of place call.WaitChild = head.Plain alone.WaitChild
head_of place (call.LabelOf path) = head.Path path.absolute on.LabelOf
head_of place call.SelfLabel = head.Plain alone.SelfLabel
head_of place (call.SetLabel path label) = head.Path path.absolute (on.SetLabel place)
head_of place (call.SetSelf label) = head.Plain (alone.SetSelf place)
head_of place (call.Freeze path) = head.Path path.absolute on.Freeze
head_of place call.FreezeSelf = head.Plain alone.FreezeSelf
head_of place (call.Thaw path) = head.Path path.absolute on.Thaw
head_of place call.ThawSelf = head.Plain alone.ThawSelf
head_of place (call.SetPriv path cap lic) = head.Path path.absolute (on.SetPriv cap lic)
head_of place (call.DropLic set) = head.Plain (alone.DropLic set)
head_of place (call.GrantLic pid set) = head.Plain (alone.GrantLic pid set)
head_of place (call.SetCeiling pid label) = head.Plain (alone.SetCeiling pid place)
head_of place (call.Pex fd) = head.Plain (alone.Pex fd)
head_of place (call.Unpex fd) = head.Plain (alone.Unpex fd)
head_of place (call.ReadLog index) = head.Plain (alone.ReadLog index)

-- ---- back
-- the label at a place
abbrev pub label_in : List Categories → ℕ → Categories
label_in labels at = get_or labels at bottom

-- the call on a path
abbrev pub op_on : List Categories → OnPath → PathOf → Op
op_on labels on.CreateAt path = op.CreateAt path
op_on labels (on.OpenAt mode) path = op.OpenAt path mode
op_on labels on.MakeDir path = op.MakeDir path
op_on labels on.UnlinkAt path = op.UnlinkAt path
op_on labels on.RemoveDir path = op.RemoveDir path
op_on labels on.ChangeDir path = op.ChangeDir path
op_on labels on.StatAt path = op.StatAt path
op_on labels (on.ListAt index) path = op.ListAt path index
op_on labels on.Exec path = op.Exec path
op_on labels on.LabelOf path = op.LabelOf path
op_on labels (on.SetLabel at) path = op.SetLabel path (label_in labels at)
op_on labels on.Freeze path = op.Freeze path
op_on labels on.Thaw path = op.Thaw path
op_on labels (on.SetPriv cap lic) path = op.SetPriv path cap lic

-- the call without words
abbrev pub op_alone : List Categories → Alone → Op
op_alone labels (alone.ReadFd fd count) = op.ReadFd fd.0 count
op_alone labels (alone.CutFd fd len) = op.CutFd fd.0 len
op_alone labels (alone.SeekFd fd at) = op.SeekFd fd.0 at
op_alone labels (alone.DupFd fd) = op.DupFd fd.0
op_alone labels (alone.CloseFd fd) = op.CloseFd fd.0
op_alone labels alone.MakePipe = op.MakePipe
op_alone labels (alone.Fork keep) = op.Fork keep
op_alone labels (alone.Exit status) = op.Exit status
op_alone labels alone.WaitChild = op.WaitChild
op_alone labels alone.SelfLabel = op.SelfLabel
op_alone labels (alone.SetSelf at) = op.SetSelf (label_in labels at)
op_alone labels alone.FreezeSelf = op.FreezeSelf
op_alone labels alone.ThawSelf = op.ThawSelf
op_alone labels (alone.DropLic set) = op.DropLic set
op_alone labels (alone.GrantLic pid set) = op.GrantLic pid.0 set
op_alone labels (alone.SetCeiling pid at) = op.SetCeiling pid.0 (label_in labels at)
op_alone labels (alone.Pex fd) = op.Pex fd.0
op_alone labels (alone.Unpex fd) = op.Unpex fd.0
op_alone labels (alone.ReadLog index) = op.ReadLog index

-- the call of a head with those words, whose label is among these
abbrev pub op_in : List Categories → Head → List ℕ → Op
op_in labels (head.Plain plain) words = op_alone labels plain
op_in labels (head.Path absolute call) words = op_on labels call (path_from absolute words)
op_in labels (head.Link target split path) words = op.LinkAt (path_from target (take split words)) (path_from path (drop split words))
op_in labels (head.Write fd) words = op.WriteFd fd.0 words

-- the texts of a head's paths lie there
abbrev pub IsPacked : Head → List ℕ → Type 0
IsPacked (head.Path absolute call) words = IsTrue (is_path_text words)
IsPacked (head.Link target split path) words = (split ≤ length words) × IsTrue (is_path_text (take split words)) × IsTrue (is_path_text (drop split words))
IsPacked _ words = Unit {0}

-- so many labels there have to be for a call on a path
abbrev pub labels_on : OnPath → ℕ
labels_on (on.SetLabel at) = suc at
labels_on _ = 0

-- for a call without words
abbrev pub labels_alone : Alone → ℕ
labels_alone (alone.SetSelf at) = suc at
labels_alone (alone.SetCeiling pid at) = suc at
labels_alone _ = 0

-- for the call of a head
abbrev pub labels_for : Head → ℕ
labels_for (head.Plain plain) = labels_alone plain
labels_for (head.Path absolute call) = labels_on call
labels_for _ = 0
