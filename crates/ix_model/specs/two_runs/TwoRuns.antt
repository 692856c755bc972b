-- Two runs: worlds of one shape, worlds alike at a label, and histories that agree at it. Lengths may differ.
use Rattle.std.specs.Prelude.{◌≡◌, ℕ, suc, ◌==◌, Bool, true, false, List, [], ◌∷◌, map, Some}
use Rattle.ix_label.specs.Category.{Categories, leq}
use Rattle.ix_model.specs.rows.Refusals.{number_of}
use Rattle.ix_model.specs.world.World.{World, Frame, Content, Object, Process, Open, at, living}
use Rattle.ix_model.specs.world.Contents.{holding_of, offset_of, status_of, holds_nothing}
use Rattle.ix_model.specs.history.Step.{step_of}
use Rattle.ix_model.specs.history.Events.{Op, Event}
use Rattle.ix_model.specs.history.Events as op
use Rattle.ix_model.specs.declared.reply.Reply.{Reply}
use Rattle.ix_model.specs.declared.reply.Reply.TheVariants as reply

-- ---- worlds
-- as many objects, open entries and processes, which hold no bytes, stand at offset 0 and have status 0
abbrev pub blank : Content → Content
blank c = record { holdings = map (λ h. holds_nothing) c.holdings; offsets = map (λ n. 0) c.offsets; statuses = map (λ n. 0) c.statuses }

-- the world without what it holds: bytes, offsets and exit statuses
unfoldable pub shape : World → World
shape w = record w { content = blank w.content }

-- each object at or below L has equal bytes, each open entry whose label is at or below L has equal offsets, and each ended
-- process whose label is at or below L has equal statuses
pub record AlikeIn (l : Categories) (f : Frame) (c d : Content) : Type 0 where
  pub bytes : (o : ℕ) (x : Object) → at f.objects o ≡ Some x → leq x.label l ≡ true → holding_of c o ≡ holding_of d o
  pub offsets : (e : ℕ) (x : Open) → at f.opens e ≡ Some x → leq x.label l ≡ true → offset_of c e ≡ offset_of d e
  pub statuses : (p : ℕ) (q : Process) → at f.processes p ≡ Some q → q.ended ≡ true → leq q.label l ≡ true → status_of c p ≡ status_of d p

-- two worlds are alike at L: they have one shape, and are equal in what L may know
pub record Alike (l : Categories) (v w : World) : Type 0 where
  pub shapes : shape v ≡ shape w
  pub inside : AlikeIn l v.frame v.content w.content

-- ---- entries
-- a living process whose label is at or below L
pub record IsLow (l : Categories) (f : Frame) (pid : ℕ) : Type 0 where
  pub process : Process
  pub lives : living (at f.processes pid) ≡ Some process
  pub low : leq process.label l ≡ true

-- a living process whose label isn't
pub record IsHigh (l : Categories) (f : Frame) (pid : ℕ) : Type 0 where
  pub process : Process
  pub lives : living (at f.processes pid) ≡ Some process
  pub high : leq process.label l ≡ false

-- an entry is low where its process lives after it, with a label at or below L
abbrev pub Low : Categories → World → ℕ → Event → Type 0
Low l w place e = IsLow l (step_of w place e).world.frame e.pid

-- other bytes are written, however many, or another status is given at exit
pub data Replaced : Op → Op → Type 0 where
  Written : {fd : ℕ} {a b : List ℕ} → Replaced (op.WriteFd fd a) (op.WriteFd fd b)
  Exited : {s t : ℕ} → Replaced (op.Exit s) (op.Exit t)

-- two entries agree where they are equal, or where a process that isn't at or below L has bytes or a status replaced
pub data AgreeAt (l : Categories) (f : Frame) : Event → Event → Type 0 where
  Same : {e : Event} → AgreeAt l f e e
  Other : {seat line pid : ℕ} {a b : Op} → IsHigh l f pid → Replaced a b → AgreeAt l f (record { seat = seat; line = line; pid = pid; op = a }) (record { seat = seat; line = line; pid = pid; op = b })

-- two replies are of one kind where they are of one variant, and refusals where they are the same
abbrev pub is_one_kind : Reply → Reply → Bool
is_one_kind (reply.No why) (reply.No other) = number_of why == number_of other
is_one_kind reply.Done reply.Done = true
is_one_kind (reply.Number m) (reply.Number n) = true
is_one_kind (reply.Two a b) (reply.Two c d) = true
is_one_kind (reply.Bytes m) (reply.Bytes n) = true
is_one_kind (reply.Stat o kind size links frozen cap lic) (reply.Stat o2 kind2 size2 links2 frozen2 cap2 lic2) = true
is_one_kind (reply.Lab a) (reply.Lab b) = true
is_one_kind (reply.Named m n) (reply.Named name o) = true
is_one_kind reply.Half reply.Half = true
is_one_kind (reply.Whole p a x) (reply.Whole q b y) = true
is_one_kind (reply.LogLine x) (reply.LogLine y) = true
is_one_kind (reply.Child p x) (reply.Child q y) = true
is_one_kind a b = false

-- ---- histories
-- Two histories agree at L where they have one length, and at each place they agree and their replies are of one kind. The
-- first is run from v and the second from w; whether a caller is low is asked of the first run.
abbrev pub Agree : Categories → World → World → ℕ → List Event → List Event → Type 0
Agree l v w place [] [] = Unit {0}
Agree l v w place [] (e ∷ others) = ⊥
Agree l v w place (e ∷ events) [] = ⊥
Agree l v w place (e ∷ events) (f ∷ others) =
    AgreeAt l v.frame e f × is_one_kind (step_of v place e).reply (step_of w place f).reply ≡ true
    × Agree l (step_of v place e).world (step_of w place f).world (suc place) events others
