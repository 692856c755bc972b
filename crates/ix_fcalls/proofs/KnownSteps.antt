-- What a read and a write that have nothing to look at come to as steps of the world.
use Rattle.std.proofs.Common.{◌≡◌, ◌≤◌, ℕ, Bool, true, false, List, length, take, Option, Some, refl, sym, ap, if◌then◌else◌}
use Rattle.ix_model.specs.{world.{World.{Frame, Process, lives}, Contents.{readable, after_read, after_write}}, laws.Sound.Sound, rows.Outcomes.{Refuse, Pass}}
use Rattle.ix_model.specs.rows.{OnDescriptors.{LengthChecks, read_fd, write_fd}, Refusals.keeps_label, Table.{Decision, verdict, row}}
use Rattle.ix_model.specs.rows.{Telling.{nothing_told, told_of_read, told_of_write}, Walks.{OpenFile, behind}}
use Rattle.ix_model.specs.{history.{Calls.op_of, Events.Op, Step.{step, put_front}}, declared.{call.Call.Call, refusal.Refusal.Refusal, reply.Reply.Reply}}
use Rattle.ix_tables.specs.Parts.{Parts}
use Rattle.ix_fcalls.specs.{Around.{Around, frame_of, world_of}, Counted.Keeps, Filed.Answers, Tested.IsKnown}
use Rattle.ix_fcalls.proofs.{ReadSteps.{read_few, answers_unread, answers_read}, WriteSteps.{write_room, answers_unwritten, answers_write}}
use Rattle.ix_model.specs.history.Events as op
use Rattle.ix_model.specs.declared.call.Call.TheVariants as call
use Rattle.ix_model.specs.declared.reply.Reply.TheVariants as reply

-- ---- the decision, where the row leaves the frame as it was
same_frame : (b : Bool) (f : Frame) → (if b then f else f) ≡ f
same_frame true f = refl
same_frame false f = refl

passes : (m : LengthChecks) (place pid : ℕ) (o : Op) (f : Frame) (r : Reply) → lives f pid ≡ true → row m place pid o f ≡ Pass r f → verdict m place pid o f ≡ record { reply = r; frame = f }
unfolding verdict
passes m place pid o f r alive is = rw (alive, is) refl

refuses : (m : LengthChecks) (place pid : ℕ) (o : Op) (f : Frame) (why : Refusal) → lives f pid ≡ true → row m place pid o f ≡ Refuse why f
    → verdict m place pid o f ≡ record { reply = reply.No why; frame = f }
unfolding verdict
refuses m place pid o f why alive is = rw (alive, is) (λ i. record { reply = reply.No why; frame = same_frame (keeps_label why) f i })

read_passes : (m : LengthChecks) (place pid fd count : ℕ) (f : Frame) → lives f pid ≡ true → read_fd m pid fd count f ≡ Pass (reply.Bytes 0) f
    → verdict m place pid (op.ReadFd fd count) f ≡ record { reply = reply.Bytes 0; frame = f }
unfolding row
read_passes m place pid fd count f alive is = passes m _ _ _ f _ alive is

read_refuses : (m : LengthChecks) (place pid fd count : ℕ) (f : Frame) (why : Refusal) → lives f pid ≡ true → read_fd m pid fd count f ≡ Refuse why f
    → verdict m place pid (op.ReadFd fd count) f ≡ record { reply = reply.No why; frame = f }
unfolding row
read_refuses m place pid fd count f why alive is = refuses m _ _ _ f _ alive is

write_passes : (m : LengthChecks) (place pid fd : ℕ) (new : List ℕ) (f : Frame) → lives f pid ≡ true → write_fd m pid fd f ≡ Pass (reply.Number 0) f
    → verdict m place pid (op.WriteFd fd new) f ≡ record { reply = reply.Number 0; frame = f }
unfolding row
write_passes m place pid fd new f alive is = passes m _ _ _ f _ alive is

write_refuses : (m : LengthChecks) (place pid fd : ℕ) (new : List ℕ) (f : Frame) (why : Refusal) → lives f pid ≡ true → write_fd m pid fd f ≡ Refuse why f
    → verdict m place pid (op.WriteFd fd new) f ≡ record { reply = reply.No why; frame = f }
unfolding row
write_refuses m place pid fd new f why alive is = refuses m _ _ _ f _ alive is

said : (d : Decision) (r : Reply) (f : Frame) → d ≡ record { reply = r; frame = f } → r ≡ d.reply
said d r f is = sym (ap (λ x. x.reply) is)

stands : (d : Decision) (r : Reply) (f : Frame) → d ≡ record { reply = r; frame = f } → f ≡ d.frame
stands d r f is = sym (ap (λ x. x.frame) is)

still : (t : Parts) → Keeps t t
still t = record { holdings = refl; offsets = refl }

-- ---- reads
module _ (a : Around) (t : Parts) (ps : List (Option Process)) (fd count : ℕ) (m : LengthChecks) (sound : Sound (world_of a t ps)) (alive : lives (frame_of a t ps) a.pid ≡ true)
    (e : OpenFile) (some : behind (frame_of a t ps) a.pid fd ≡ Some e) (is : m ≡ told_of_read (frame_of a t ps) (world_of a t ps).content (Some e)) where
  pub known_unread : (why : Refusal) (buf : List ℕ) → read_fd m a.pid fd count (frame_of a t ps) ≡ Refuse why (frame_of a t ps)
      → Answers (step (world_of a t ps) a.place a.pid (op.ReadFd fd count)) (world_of a t ps) (reply.No why) buf buf
  known_unread why buf refused =
      let d = read_refuses m _ _ fd _ _ _ alive refused in
      answers_unread a t t ps ps fd _ m _ sound (still t) (said _ _ _ d) (stands _ _ _ d) e some is _ (λ k h. cc)

  module _ (passed : read_fd m a.pid fd count (frame_of a t ps) ≡ Pass (reply.Bytes 0) (frame_of a t ps)) where
    decided_read : verdict m a.place a.pid (op.ReadFd fd count) (frame_of a t ps) ≡ record { reply = reply.Bytes 0; frame = frame_of a t ps }
    decided_read = read_passes m _ _ fd _ _ alive passed

    pub known_few : count ≤ 4096
    known_few = read_few a t t ps ps fd _ m _ sound (still t) (said _ _ _ decided_read) (stands _ _ _ decided_read) 0 refl

    pub known_read : (v : Parts) (n : ℕ) (before after : List ℕ) → n ≡ length (take count (readable (frame_of a t ps) (world_of a t ps).content e))
        → after ≡ put_front (take count (readable (frame_of a t ps) (world_of a t ps).content e)) before
        → frame_of a v ps ≡ frame_of a t ps → (world_of a v ps).content ≡ after_read (frame_of a t ps) e n (world_of a t ps).content
        → Answers (step (world_of a t ps) a.place a.pid (op.ReadFd fd count)) (world_of a v ps) (reply.Bytes n) before after
    known_read v n before after long front same moved =
        answers_read a t t ps ps fd _ m _ sound (still t) (said _ _ _ decided_read) (stands _ _ _ decided_read) e some is v 0 n _ _ refl long front same moved

-- ---- writes
module _ (a : Around) (t : Parts) (ps : List (Option Process)) (fd : ℕ) (new : List ℕ) (m : LengthChecks) (sound : Sound (world_of a t ps)) (alive : lives (frame_of a t ps) a.pid ≡ true)
    (e : OpenFile) (some : behind (frame_of a t ps) a.pid fd ≡ Some e) (is : m ≡ told_of_write (frame_of a t ps) (world_of a t ps).content (length new) (Some e)) where
  pub known_unwritten : (why : Refusal) (buf : List ℕ) → write_fd m a.pid fd (frame_of a t ps) ≡ Refuse why (frame_of a t ps)
      → Answers (step (world_of a t ps) a.place a.pid (op.WriteFd fd new)) (world_of a t ps) (reply.No why) buf buf
  known_unwritten why buf refused =
      let d = write_refuses m _ _ fd _ _ _ alive refused in
      answers_unwritten a t t ps ps fd _ m _ sound (still t) (said _ _ _ d) (stands _ _ _ d) e some is _ (λ k h. cc)

  module _ (passed : write_fd m a.pid fd (frame_of a t ps) ≡ Pass (reply.Number 0) (frame_of a t ps)) where
    decided_write : verdict m a.place a.pid (op.WriteFd fd new) (frame_of a t ps) ≡ record { reply = reply.Number 0; frame = frame_of a t ps }
    decided_write = write_passes m _ _ fd _ _ alive passed

    pub known_room : told_of_write (frame_of a t ps) (world_of a t ps).content (length new) (Some e) ≡ nothing_told
    known_room = write_room a t t ps ps fd _ m _ sound (still t) (said _ _ _ decided_write) (stands _ _ _ decided_write) e some is 0 refl

    pub known_write : (v : Parts) (buf : List ℕ) → frame_of a v ps ≡ frame_of a t ps → (world_of a v ps).content ≡ after_write (frame_of a t ps) e new (world_of a t ps).content
        → Answers (step (world_of a t ps) a.place a.pid (op.WriteFd fd new)) (world_of a v ps) (reply.Number (length new)) buf buf
    known_write v buf same moved =
        answers_write a t t ps ps fd _ m _ sound (still t) (said _ _ _ decided_write) (stands _ _ _ decided_write) e some is v 0 _ refl same moved

-- ---- the call
-- no other call has nothing to look at
pub known_left : (f : Frame) (pid : ℕ) (c : Call) → IsKnown f pid (op_of c) → ((fd : _) (count : _) → c ≡ call.ReadFd fd count → ⊥) → ((fd : _) (bytes : _) → c ≡ call.WriteFd fd bytes → ⊥) → ⊥
known_left f pid (call.ReadFd fd count) known read write = read fd count refl
known_left f pid (call.WriteFd fd bytes) known read write = write fd bytes refl
known_left f pid _ known read write = known
