-- What a step has from its decision: the frame, and where it answers, a row that passed.
use Rattle.std.proofs.Common.{◌≡◌, ℕ, Bool, true, false, List, Option, Some, None, refl, if◌then◌else◌}
use Rattle.ix_model.specs.{world.{World.{Frame, World}, Contents.carried}, rows.{Outcomes.{Outcome, Refuse, Pass}, Walks.OpenFile}, history.{AuditLog.is_answer, Events.Op, Step.step}}
use Rattle.ix_model.{specs.{rows.{OnDescriptors.LengthChecks, Table.{Decision, row, settled, verdict}, Telling.told}, declared.reply.Reply.Reply}, proofs.words.Ends.{Ends, Anything}}
use Rattle.ix_model.specs.history.Step.{plainly, read_answer, write_answer, cut_answer, seek_answer, stat_answer, exit_answer, wait_answer, pex_answer, answer}
use Rattle.ix_model.specs.history.Events as op
use Rattle.ix_model.specs.declared.reply.Kind.TheVariants as kind
use Rattle.ix_model.specs.declared.reply.Reply.TheVariants as reply
use Rattle.ix_model.specs.declared.refusal.Refusal.TheVariants as refusal

-- ---- the frame
frame_read : (w : World) (count : ℕ) (b : Option OpenFile) (r : Reply) (g : Frame) → (read_answer w count b r g).world.frame ≡ g
unfolding read_answer plainly
frame_read w count (Some e) (reply.Bytes k) g = refl
frame_read w count _ r g = refl

frame_write : (w : World) (new : List ℕ) (b : Option OpenFile) (r : Reply) (g : Frame) → (write_answer w new b r g).world.frame ≡ g
unfolding write_answer plainly
frame_write w new (Some e) (reply.Number k) g = refl
frame_write w new _ r g = refl

frame_cut : (w : World) (len : ℕ) (b : Option OpenFile) (r : Reply) (g : Frame) → (cut_answer w len b r g).world.frame ≡ g
unfolding cut_answer plainly
frame_cut w len (Some e) reply.Done g = refl
frame_cut w len _ r g = refl

frame_seek : (w : World) (offset : ℕ) (b : Option OpenFile) (r : Reply) (g : Frame) → (seek_answer w offset b r g).world.frame ≡ g
unfolding seek_answer plainly
frame_seek w offset (Some e) reply.Done g = refl
frame_seek w offset _ r g = refl

-- the size of a file and the status of a child are filled in, and the world is a plain one
pub world_stat : (w : World) (r : Reply) (g : Frame) → (stat_answer w r g).world ≡ record { frame = g; content = carried w.frame g w.content }
unfolding stat_answer plainly
world_stat w (reply.Stat o kind.File size links frozen cap lic) g = refl
world_stat w r g = refl

pub world_wait : (w : World) (r : Reply) (g : Frame) → (wait_answer w r g).world ≡ record { frame = g; content = carried w.frame g w.content }
unfolding wait_answer plainly
world_wait w (reply.Child p status) g = refl
world_wait w r g = refl

frame_exit : (w : World) (pid status : ℕ) (r : Reply) (g : Frame) → (exit_answer w pid status r g).world.frame ≡ g
unfolding exit_answer plainly
frame_exit w pid status reply.Done g = refl
frame_exit w pid status r g = refl

frame_pex : (w : World) (b : Option OpenFile) (r : Reply) (g : Frame) → (pex_answer w b r g).world.frame ≡ g
unfolding pex_answer plainly
frame_pex w (Some e) r g = refl
frame_pex w None r g = refl

-- the frame after a step is the decision's
pub step_frame : (w : World) (place pid : ℕ) (c : Op) → (step w place pid c).world.frame ≡ (verdict (told w pid c) place pid c w.frame).frame
unfolding step answer plainly
step_frame w place pid (op.ReadFd fd count) = frame_read w _ _ _ _
step_frame w place pid (op.WriteFd fd bytes) = frame_write w _ _ _ _
step_frame w place pid (op.CutFd fd len) = frame_cut w _ _ _ _
step_frame w place pid (op.SeekFd fd offset) = frame_seek w _ _ _ _
step_frame w place pid (op.StatAt path) =
    λ i. (world_stat w (verdict (told w pid (op.StatAt path)) place pid (op.StatAt path) w.frame).reply
    (verdict (told w pid (op.StatAt path)) place pid (op.StatAt path) w.frame).frame i).frame
step_frame w place pid (op.Exit status) = frame_exit w _ _ _ _
step_frame w place pid op.WaitChild =
    λ i. (world_wait w (verdict (told w pid op.WaitChild) place pid op.WaitChild w.frame).reply (verdict (told w pid op.WaitChild) place pid op.WaitChild
    w.frame).frame i).frame
step_frame w place pid (op.Pex fd) = frame_pex w _ _ _
step_frame w place pid c = refl

-- ---- an answer
settled_passed : (f : Frame) (o : Outcome Reply) (Q : Reply → Frame → Type 0) → is_answer (settled f o).reply ≡ true → Ends o Anything Q → Q (settled f o).reply (settled f o).frame
unfolding Ends
settled_passed f (Refuse r g) Q h ends = cc
settled_passed f (Pass a g) Q h ends = ends

-- what is known of where a row passes is known of an answer
pub passed : (t : LengthChecks) (place pid : ℕ) (c : Op) (f : Frame) (Q : Reply → Frame → Type 0) → Ends (row t place pid c f) Anything Q
    → is_answer (verdict t place pid c f).reply ≡ true → Q (verdict t place pid c f).reply (verdict t place pid c f).frame
unfolding verdict
passed t place pid c f Q ends h = go _ h
  where
    unknown : Decision
    unknown = record { reply = reply.No refusal.NoProcess; frame = f }

    go : (b : Bool) → is_answer (if b then settled f (row t place pid c f) else unknown).reply ≡ true → Q (if b then settled f (row t place pid c f) else
        unknown).reply (if b then settled f (row t place pid c f) else unknown).frame
    go true h = settled_passed f (row t place pid c f) Q h ends
    go false h = cc
