-- The laws of isolation: what two runs that agree at a label have in common.
use Rattle.std.specs.Prelude.{◌≡◌, ◌⊎◌, ℕ, ◌+◌, suc, Bool, true, false, List, [], ◌∷◌, ◌++◌, length, take, Some, None, is_some, slice_get}
use Rattle.ix_label.specs.Category.{Categories, bottom}
use Rattle.ix_model.specs.world.World.{World, Frame, Open, at, is_ended}
use Rattle.ix_model.specs.world.Contents.{holding_of, offset_of, status_of, holds_nothing}
use Rattle.ix_model.specs.history.Step.{Given, step, step_of, run}
use Rattle.ix_model.specs.rows.Auditing.{audit_line}
use Rattle.ix_model.specs.history.AuditLog.{is_licensed, lines_added}
use Rattle.ix_model.specs.history.Lowering.{Crosses, Lowered}
use Rattle.ix_model.specs.history.Lowering as low
use Rattle.ix_model.specs.two_runs.TwoRuns.{shape, Alike, IsLow, Low, AgreeAt, Agree, is_one_kind}
use Rattle.ix_model.specs.two_runs.EqualLengths.{outline, AlikeInLength, AgreeInLength, ReplacedInLength}
use Rattle.ix_model.specs.history.Events.{Op, Event}
use Rattle.ix_model.specs.history.Events as op
use Rattle.ix_model.specs.declared.audit.Act.TheVariants as act
use Rattle.ix_model.specs.declared.audit.AuditLine.{AuditLine}
use Rattle.ix_model.specs.declared.reply.Reply.{Reply}
use Rattle.ix_model.specs.declared.reply.Reply.TheVariants as reply

-- ---- one entry
-- the part of a reply that the frame decides: all but how many bytes were read or written, the size of a file and a status
abbrev pub frame_part : Op → Reply → Reply
frame_part (op.ReadFd fd count) (reply.Bytes k) = reply.Bytes 0
frame_part (op.WriteFd fd bytes) (reply.Number n) = reply.Number 0
frame_part (op.StatAt path) (reply.Stat o kind size links frozen cap lic) = reply.Stat o kind 0 links frozen cap lic
frame_part op.WaitChild (reply.Child p status) = reply.Child p 0
frame_part o r = r

-- whether a call is a read, which alone gives bytes
abbrev pub gives_bytes : Op → Bool
gives_bytes (op.ReadFd fd count) = true
gives_bytes _ = false

-- two calls leave worlds of one shape, and their replies are equal in the part that the frame decides, and in all bytes but a read's
pub record OneShape (o p : Op) (a b : Given) : Type 0 where
  pub shapes : shape a.world ≡ shape b.world
  pub replies : frame_part o a.reply ≡ frame_part p b.reply
  pub bytes : gives_bytes o ≡ false → a.bytes ≡ b.bytes

-- so two calls do from worlds of one shape, where their replies are of one kind
abbrev pub KeepShape : Op → Op → Type 0
KeepShape o p = (v w : World) (place pid : ℕ) → shape v ≡ shape w → is_one_kind (step v place pid o).reply (step w place pid p).reply ≡ true → OneShape o p (step v place pid o) (step w place pid p)

-- two calls by a process leave worlds alike at L, where no label crosses L; and where it ends low their replies are equal,
-- with bytes and status
pub record AlikeAfter (l : Categories) (pid : ℕ) (f : Frame) (a b : Given) : Type 0 where
  pub worlds : (Crosses l f a.world.frame → ⊥) → Alike l a.world b.world
  pub replies : IsLow l a.world.frame pid → (a.reply ≡ b.reply) × (a.bytes ≡ b.bytes)

-- so two entries with these calls do from worlds alike at L, where they agree at L and their replies are of one kind
abbrev pub KeepAlike : Op → Op → Type 0
KeepAlike o p = (l : Categories) (v w : World) (seat line place pid : ℕ) → Alike l v w
    → AgreeAt l v.frame (record { seat = seat; line = line; pid = pid; op = o }) (record { seat = seat; line = line; pid = pid; op = p })
    → is_one_kind (step v place pid o).reply (step w place pid p).reply ≡ true → AlikeAfter l pid v.frame (step v place pid o) (step w place pid p)

-- ---- the calls that neither read nor edit what is held
-- all but eight
abbrev pub goes_by_shape : Op → Bool
goes_by_shape (op.ReadFd fd count) = false
goes_by_shape (op.WriteFd fd bytes) = false
goes_by_shape (op.CutFd fd len) = false
goes_by_shape (op.SeekFd fd offset) = false
goes_by_shape (op.StatAt path) = false
goes_by_shape (op.Exit status) = false
goes_by_shape op.WaitChild = false
goes_by_shape (op.Pex fd) = false
goes_by_shape _ = true

-- What stands before and after a call keeps its bytes and its offset, a process that has ended keeps its status, and no open
-- entry's label changes. What is new has no bytes, and a new open entry has the offset 0 and the label bottom.
pub record LeavesWhatIsHeld (v w : World) : Type 0 where
  pub bytes : (o : ℕ) → is_some (at v.frame.objects o) ≡ true → is_some (at w.frame.objects o) ≡ true → holding_of w.content o ≡ holding_of v.content o
  pub new_bytes : (o : ℕ) → is_some (at v.frame.objects o) ≡ false → holding_of w.content o ≡ holds_nothing
  pub offsets : (e : ℕ) → is_some (at v.frame.opens e) ≡ true → is_some (at w.frame.opens e) ≡ true → offset_of w.content e ≡ offset_of v.content e
  pub labels : (e : ℕ) (x y : Open) → at v.frame.opens e ≡ Some x → at w.frame.opens e ≡ Some y → y.label ≡ x.label
  pub new_entries : (e : ℕ) (y : Open) → at v.frame.opens e ≡ None → at w.frame.opens e ≡ Some y → (offset_of w.content e ≡ 0) × (y.label ≡ bottom)
  pub statuses : (p : ℕ) → is_ended (at v.frame.processes p) ≡ true → is_ended (at w.frame.processes p) ≡ true → status_of w.content p ≡ status_of v.content p

-- such a call does so; from worlds of one shape it gives equal replies and worlds of one shape; and from worlds alike at L
-- it leaves worlds alike at L, where no label crosses L
pub record GoesByShape (o : Op) : Type 0 where
  pub held : (w : World) (place pid : ℕ) → LeavesWhatIsHeld w (step w place pid o).world
  pub shapes : (v w : World) (place pid : ℕ) → shape v ≡ shape w → ((step v place pid o).reply ≡ (step w place pid o).reply) × (shape (step v place pid o).world ≡ shape (step w place pid o).world)
  pub alike : (l : Categories) (v w : World) (place pid : ℕ) → Alike l v w → (Crosses l v.frame (step v place pid o).world.frame → ⊥) → Alike l (step v place pid o).world (step w place pid o).world

abbrev pub MostCallsGoByShape : Type 0
MostCallsGoByShape = (o : Op) → goes_by_shape o ≡ true → GoesByShape o

-- ---- histories
-- no entry of a history crosses L; the first is at this place
abbrev pub NoneCrosses : Categories → World → ℕ → List Event → Type 0
NoneCrosses l w place [] = Unit {0}
NoneCrosses l w place (e ∷ events) = (Crosses l w.frame (step_of w place e).world.frame → ⊥) × NoneCrosses l (step_of w place e).world (suc place) events

-- what an entry gives after the first n entries of a history
abbrev pub given_after : World → ℕ → List Event → ℕ → Event → Given
given_after w place events n e = step_of (run w place (take n events)) (place + n) e

-- what two histories that agree at L, from worlds alike at L, have in common
pub record Isolated (l : Categories) (v w : World) (place : ℕ) (events others : List Event) : Type 0 where
  -- after each prefix the shapes are equal
  pub shapes : (n : ℕ) → shape (run v place (take n events)) ≡ shape (run w place (take n others))
  -- at each place the replies are equal in the part that the frame decides, and in all bytes but a read's
  pub replies : (n : ℕ) (e f : Event) → slice_get events n ≡ Some e → slice_get others n ≡ Some f →
      (frame_part e.op (given_after v place events n e).reply ≡ frame_part f.op (given_after w place others n f).reply) × (gives_bytes e.op ≡ false
      → (given_after v place events n e).bytes ≡ (given_after w place others n f).bytes)
  -- after each prefix in which no entry crosses L the worlds are alike at L
  pub worlds : (n : ℕ) → NoneCrosses l v place (take n events) → Alike l (run v place (take n events)) (run w place (take n others))
  -- an entry that is low is the same in both
  pub entries : (n : ℕ) (e f : Event) → slice_get events n ≡ Some e → slice_get others n ≡ Some f → Low l (run v place (take n events)) (place + n) e → e ≡ f
  -- where an entry is low and none before it crosses L, the replies are equal with their bytes and status
  pub reads : (n : ℕ) (e f : Event) → slice_get events n ≡ Some e → slice_get others n ≡ Some f → NoneCrosses l v place (take n events) → Low l (run v place (take n events)) (place + n) e →
      ((given_after v place events n e).reply ≡ (given_after w place others n f).reply) × ((given_after v place events n e).bytes ≡ (given_after w place others n f).bytes)

-- whatever the label, the worlds and the histories are
abbrev pub Isolation : Type 0
Isolation = (l : Categories) (v w : World) (place : ℕ) (events others : List Event) → Alike l v w → Agree l v w place events others → Isolated l v w place events others

-- ---- lowered labels
-- the line that a lowering has in the log: the entry's place and process, downfile or downself, the object or the process,
-- and its label before and after
abbrev pub line_of_lowering : {f g : Frame} → ℕ → ℕ → Lowered f g → AuditLine
line_of_lowering place pid (low.OfObject o x y before after falls) = audit_line place pid act.DownFile o x.label y.label
line_of_lowering place pid (low.OfProcess p x y before after falls) = audit_line place pid act.DownSelf p x.label y.label

-- an entry is licensed, and the log has that line for it
pub record IsLogged (w : World) (place : ℕ) (e : Event) (line : AuditLine) : Type 0 where
  pub licensed : is_licensed w place e ≡ true
  pub added : lines_added w place e ≡ line ∷ []
  pub log : (step_of w place e).world.frame.log ≡ w.frame.log ++ line ∷ []

-- each entry that lowered a label is licensed and logged
abbrev pub LoweringsAreLogged : Type 0
LoweringsAreLogged = (w : World) (place : ℕ) (e : Event) → (lowered : Lowered w.frame (step_of w place e).world.frame) → IsLogged w place e (line_of_lowering place e.pid lowered)

-- an entry of a history is licensed and logged, and its line stands in the log at the end of the history, behind all that the
-- log held before the entry
pub record StaysLogged (w : World) (place : ℕ) (events : List Event) (n : ℕ) (e : Event) (line : AuditLine) : Type 0 where
  pub logged : IsLogged (run w place (take n events)) (place + n) e line
  pub stands : slice_get (run w place events).frame.log (length (run w place (take n events)).frame.log) ≡ Some line

-- so is each entry of this history that lowered a label
abbrev pub LowersUnderLog : World → ℕ → List Event → Type 0
LowersUnderLog w place events = (n : ℕ) (e : Event) → slice_get events n ≡ Some e → (lowered : Lowered (run w place (take n events)).frame (given_after w place events n e).world.frame) →
    StaysLogged w place events n e (line_of_lowering (place + n) e.pid lowered)

-- and of every other
abbrev pub LoweringsStayLogged : Type 0
LoweringsStayLogged = (w : World) (place : ℕ) (events : List Event) → LowersUnderLog w place events

-- ---- equal lengths
-- two calls are one, or write bytes of one length, or give statuses
abbrev pub AreLikeInLength : Op → Op → Type 0
AreLikeInLength o p = (o ≡ p) ⊎ ReplacedInLength o p

-- a reply but for the status in Child; that of a read tells how many bytes it gave, and not which
abbrev pub but_status : Reply → Reply
but_status (reply.Child p status) = reply.Child p 0
but_status r = r

-- their replies are equal but for the bytes of a read and the status in Child, and they leave worlds of one outline
pub record OneOutline (a b : Given) : Type 0 where
  pub replies : but_status a.reply ≡ but_status b.reply
  pub outlines : outline a.world ≡ outline b.world

-- so it is from worlds of one outline: no row sees more of the bytes than four tests on lengths, nor of the call
abbrev pub OutlinesDecideReplies : Type 0
OutlinesDecideReplies = (v w : World) (place pid : ℕ) (o p : Op) → outline v ≡ outline w → AreLikeInLength o p → OneOutline (step v place pid o) (step w place pid p)

-- what two histories have in common that agree at L in length, from worlds alike at L in length
pub record IsolatedInLength (l : Categories) (v w : World) (place : ℕ) (events others : List Event) : Type 0 where
  pub isolated : Isolated l v w place events others
  -- after each prefix lengths and offsets are equal
  pub outlines : (n : ℕ) → outline (run v place (take n events)) ≡ outline (run w place (take n others))
  -- at each place the replies are equal but for the bytes of a read and the status in Child
  pub replies : (n : ℕ) (e f : Event) → slice_get events n ≡ Some e → slice_get others n ≡ Some f
      → but_status (given_after v place events n e).reply ≡ but_status (given_after w place others n f).reply

-- whatever the label, the worlds and the histories are; nothing is asked of replies
abbrev pub IsolationInLength : Type 0
IsolationInLength = (l : Categories) (v w : World) (place : ℕ) (events others : List Event) → AlikeInLength l v w → AgreeInLength l v place events others → IsolatedInLength l v w place events others
