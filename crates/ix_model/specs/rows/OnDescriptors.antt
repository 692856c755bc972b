-- The calls on descriptors: their tests in order, their effects and replies.
use Rattle.std.specs.Prelude.{ℕ, ◌-◌, nat_le, Bool, not, ◌&&◌, Option, Some, None}
use Rattle.ix_label.specs.Category.{bottom, join}
use Rattle.ix_model.specs.world.World.{Object, Process, Open, at, put, lowest_free, is_pipe, is_trusted, may_read, may_write, held, claimed_by_another, claimed_by}
use Rattle.ix_model.specs.world.Numbers.{free_pipe}
use Rattle.ix_model.specs.rows.Outcomes.{Row}
use Rattle.ix_model.specs.rows.Rows.{◌>>=◌, ◌>>◌, pass, need, some, only_if, frame, process, object, change_process, change_object, put_object, put_open, change_open, observe, affect}
use Rattle.ix_model.specs.rows.Walks.{OpenFile, opened}
use Rattle.ix_model.specs.rows.Lifetimes.{let_go}
use Rattle.ix_model.specs.rows.OnPaths.{new_object}
use Rattle.ix_model.specs.declared.call.Mode.TheVariants as mode
use Rattle.ix_model.specs.declared.refusal.Refusal.TheVariants as refusal
use Rattle.ix_model.specs.declared.reply.Kind.TheVariants as kind
use Rattle.ix_model.specs.declared.reply.Reply.{Reply}
use Rattle.ix_model.specs.declared.reply.Reply.TheVariants as reply

-- what lengths and offsets tell a row: nothing but these tests
pub record LengthChecks : Type 0 where
  pub too_big : Bool
  pub full : Bool
  pub no_space : Bool
  pub empty : Bool

-- ---- labels of open entries
-- a file's open entry takes in the label of the caller, who moves its offset; a pipe's stays at bottom
unfoldable pub float_entry : Process → Object → OpenFile → Row (Unit {0})
float_entry p x e = only_if (not (is_pipe x)) (change_open e.id (λ y. record y { label = join y.label p.label }))

-- ---- bytes
-- what the rows of reads and writes answer: the content fills in how many bytes there are
abbrev pub read_passed : Reply
read_passed = reply.Bytes 0

-- the same for how many were written
abbrev pub write_passed : Reply
write_passed = reply.Number 0

-- ReadFd: what is there, up to the count
unfoldable pub read_fd : LengthChecks → ℕ → ℕ → ℕ → Row Reply
read_fd t pid fd count = do
  e ← opened pid fd
  need (may_read e.entry.mode) refusal.NotReadable
  x ← object e.entry.object
  need (not (claimed_by_another x e.entry.end pid)) refusal.PexHeld
  need (nat_le count 4096) refusal.TooBig
  observe pid (join x.label e.entry.label)
  f ← frame
  need (not (is_pipe x && t.empty && held f.opens e.entry.object (1 - e.entry.end))) refusal.Again
  p ← process pid
  float_entry p x e
  pass read_passed

-- WriteFd: all bytes, or none
unfoldable pub write_fd : LengthChecks → ℕ → ℕ → Row Reply
write_fd t pid fd = do
  e ← opened pid fd
  need (may_write e.entry.mode) refusal.NotWritable
  x ← object e.entry.object
  need (not (claimed_by_another x e.entry.end pid)) refusal.PexHeld
  need (not t.too_big) refusal.TooBig
  need (not (is_trusted x)) refusal.Trusted
  f ← frame
  need (not (is_pipe x && not (held f.opens e.entry.object (1 - e.entry.end)))) refusal.Broken
  need (not t.full) refusal.PipeFull
  need (not t.no_space) refusal.NoSpace
  p ← process pid
  affect pid e.entry.object e.entry.label
  float_entry p x e
  pass write_passed

-- CutFd: the file has that length; the offset stays
unfoldable pub cut_fd : LengthChecks → ℕ → ℕ → ℕ → Row Reply
cut_fd t pid fd len = do
  e ← opened pid fd
  need (may_write e.entry.mode) refusal.NotWritable
  x ← object e.entry.object
  need (not (is_pipe x)) refusal.IsPipe
  need (nat_le len 1048576) refusal.TooBig
  need (not (is_trusted x)) refusal.Trusted
  need (not t.no_space) refusal.NoSpace
  affect pid e.entry.object bottom
  pass reply.Done

-- SeekFd: the offset is that, and the caller has set it
unfoldable pub seek_fd : ℕ → ℕ → ℕ → Row Reply
seek_fd pid fd offset = do
  e ← opened pid fd
  x ← object e.entry.object
  need (not (is_pipe x)) refusal.IsPipe
  need (nat_le offset 1048576) refusal.TooBig
  p ← process pid
  float_entry p x e
  pass reply.Done

-- ---- descriptors
-- DupFd: the lowest free descriptor shares the open entry
unfoldable pub dup_fd : ℕ → ℕ → Row Reply
dup_fd pid fd = do
  e ← opened pid fd
  p ← process pid
  n ← some (lowest_free p.fds) refusal.NoFd
  change_process pid (λ q. record q { fds = put q.fds n (Some e.id) })
  pass (reply.Number n)

-- CloseFd: the descriptor is free, and what it alone kept is gone
unfoldable pub close_fd : ℕ → ℕ → Row Reply
close_fd pid fd = do
  e ← opened pid fd
  let_go pid fd e
  pass reply.Done

-- ---- pipes
-- an end of a pipe, open for both ways
abbrev pub pipe_end : ℕ → ℕ → Option Open
pipe_end o end = Some (record { object = o; end = end; mode = mode.Both; label = bottom })

-- MakePipe: the lowest free pipe under the two lowest free descriptors and open entries, end 0 under the lower
unfoldable pub make_pipe : ℕ → Row Reply
make_pipe pid = do
  f ← frame
  o ← some (free_pipe f) refusal.NoInode
  p ← process pid
  a ← some (lowest_free p.fds) refusal.NoFd
  b ← some (lowest_free (put p.fds a (Some 0))) refusal.NoFd
  d ← some (lowest_free f.opens) refusal.NoOpen
  e ← some (lowest_free (put f.opens d (pipe_end o 0))) refusal.NoOpen
  put_object o (Some (new_object kind.Pipe None))
  put_open d (pipe_end o 0)
  put_open e (pipe_end o 1)
  change_process pid (λ q. record q { fds = put (put q.fds a (Some d)) b (Some e) })
  pass (reply.Two (record { 0 = a }) (record { 0 = b }))

-- what a claim is answered: who has claimed the other end, if anybody has
unfoldable pub claimed : Option ℕ → Row Reply
claimed None = pass reply.Half
claimed (Some q) = do
  p ← process q
  pass (reply.Whole (record { 0 = q }) p.label p.lic)

-- Pex: the end is the caller's; where the path becomes whole by it, what was in it is gone
unfoldable pub pex : ℕ → ℕ → Row Reply
pex pid fd = do
  e ← opened pid fd
  x ← object e.entry.object
  need (is_pipe x) refusal.NotPipe
  need (not (claimed_by_another x e.entry.end pid)) refusal.PexHeld
  answer ← claimed (at (put x.claims e.entry.end (Some pid)) (1 - e.entry.end))
  change_object e.entry.object (λ y. record y { claims = put y.claims e.entry.end (Some pid) })
  pass answer

-- Unpex: the caller's claim goes
unfoldable pub unpex : ℕ → ℕ → Row Reply
unpex pid fd = do
  e ← opened pid fd
  x ← object e.entry.object
  need (is_pipe x) refusal.NotPipe
  need (claimed_by x e.entry.end pid) refusal.NotClaimed
  change_object e.entry.object (λ y. record y { claims = put y.claims e.entry.end None })
  pass reply.Done
