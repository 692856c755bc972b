-- Every reply to a call fits it: the row passes what the table says, and the content fills in no more than that.
use Rattle.std.proofs.{Common.{◌≡◌, ◌≤◌, ℕ, Bool, true, false, List, length, take, length-set, Option, Some, None, nat_le, arith, if◌then◌else◌}, lemmas.{Bool.leb-true, List.length-take}}
use Rattle.ix_label.specs.Category.{Categories}
use Rattle.ix_model.{specs.{world.{Naming.PathOf, World.{World, Frame, Process, at, put, living, lives, lowest_free}}, rows.Rows.observe, history.Step.step}, proofs.words.OpenRows.open_row}
use Rattle.ix_model.specs.rows.{Outcomes.{Outcome, Refuse, Pass}, Walks.{Sought, OpenFile, walked_to, object_at, spot_at, missing}, OnDescriptors.{LengthChecks, claimed}}
use Rattle.ix_model.specs.{rows.{Table.{Decision, row, settled, verdict}, Telling.told}, laws.Sound.Sound}
use Rattle.ix_model.specs.{history.{Systems.{AreRead, IsClaim, FitsCall}, Events.Op}, declared.{reply.Reply.Reply, refusal.Refusal.Refusal}}
use Rattle.ix_model.specs.history.Step.{plainly, read_answer, write_answer, cut_answer, seek_answer, stat_answer, exit_answer, wait_answer, pex_answer, answer}
use Rattle.ix_model.proofs.{tables.FreeNumbers.lowest_free_is, words.{Living.is_living, Ends.{Ends, Anything, ending, ends_kept}}}
use Rattle.ix_model.proofs.words.{RowEnds.{endings, ends_let_go_object, ends_let_go, ends_let_go_all}, Looks.{ends_touch, ends_float_entry}}
use Rattle.ix_model.proofs.{frames.Frames.{FrameSound, Follows, frame_of, follows_itself, follows_observe}, sound.Steadily.follows_walked_to}
use Rattle.ix_model.specs.history.Events as op
use Rattle.ix_model.specs.declared.reply.Kind.TheVariants as kind
use Rattle.ix_model.specs.declared.reply.Reply.TheVariants as reply
use Rattle.ix_model.specs.declared.refusal.Refusal.TheVariants as refusal

-- ---- what a row passes
-- a read's row passes what the content fills in, and lets no greater count through
abbrev IsToRead : ℕ → Reply → Type 0
IsToRead count (reply.No why) = Unit
IsToRead count (reply.Bytes k) = (k ≡ 0) × (count ≤ 4096)
IsToRead count _ = ⊥

-- what is decided before the content fills it in
abbrev FitsRow : Op → Reply → Type 0
FitsRow (op.ReadFd fd count) r = IsToRead count r
FitsRow c r = FitsCall c r

-- a refusal always fits
refused_fits : (c : Op) (why : Refusal) → FitsRow c (reply.No why)
refused_fits (op.ReadFd fd count) why = tt
refused_fits _ why = tt

-- ---- numbers
-- a process has 32 descriptors, so the lowest free one is at most 31
module _ (f g : Frame) (pid : ℕ) (p : Process) (s : Follows f g) (lives : living (at g.processes pid) ≡ Some p) where
  low : (n : ℕ) → lowest_free p.fds ≡ Some n → n ≤ 31
  low n free = omega (arith, (lowest_free_is p.fds n free).0, s.sound.processes.descriptors pid p (is_living _ p lives))

  -- and the second one
  low_next : (a n : ℕ) → lowest_free (put p.fds a (Some 0)) ≡ Some n → n ≤ 31
  low_next a n free = omega (arith, (lowest_free_is (put p.fds a (Some 0)) n free).0, length-set p.fds a (Some 0), s.sound.processes.descriptors pid p (is_living _ p lives))

small : (count : ℕ) → nat_le count 4096 ≡ true → count ≤ 4096
small count h = leb-true count 4096 h

-- what a claim is answered
ends_claimed : (other : Option ℕ) (f : Frame) (Q : Reply → Frame → Type 0) → ((a : Reply) → IsClaim a → Q a f) → Ends (claimed other f) Anything Q
unfolding claimed
ends_claimed None f Q k = search (ending, k) depth 20
ends_claimed (Some q) f Q k = search (ending, k) depth 20

fits_claim : (fd : ℕ) (a : Reply) → IsClaim a → FitsRow (op.Pex fd) a
fits_claim fd reply.Half h = tt
fits_claim fd (reply.Whole pid label lic) h = tt
fits_claim fd _ h = absurd h

module _ (f : Frame) (s : FrameSound f) (few : length f.processes ≤ 4294967295) (pid : ℕ) where
  -- ---- the words
  ends_look : (seen : Categories) (g : Frame) (Q : Unit {0} → Frame → Type 0) → Follows f g → ((u : Unit {0}) (h : Frame) → Follows f h → Q u h) → Ends (observe pid seen g) Anything Q
  ends_look seen g Q here k = ends_kept (Follows f) (observe pid seen g) Anything Q ((follows_observe f pid seen).led g here) (λ r h on. tt) k

  ends_walk : (path : PathOf) (g : Frame) (Q : Sought → Frame → Type 0) → Follows f g → ((w : Sought) (h : Frame) → Follows f h → Q w h) → Ends (walked_to pid path g) Anything Q
  ends_walk path g Q here k = ends_kept _ (walked_to pid path g) _ Q ((follows_walked_to f _ _).led g here) (λ r h on. tt) k

  start : Follows f f
  start = follows_itself f s

  ruleset fitting = (endings, ends_look, ends_walk, ends_touch, ends_float_entry, ends_claimed, ends_let_go_object, ends_let_go, ends_let_go_all, start)

  -- ---- the rows
  abbrev Passes : Op → Outcome Reply → Type 0
  Passes c o = Ends o Anything (λ a g. FitsRow c a)

  -- ---- the table
  ruleset passing = (fitting, low, low_next, small, fits_claim)

  passes_row : (t : LengthChecks) (place : ℕ) (c : Op) → Passes c (row t place pid c f)
  unfolding open_row missing spot_at object_at Ends
  passes_row t place (op.Fork keep) = search (fitting, few) depth 80 fits 16000
  passes_row t place c = search passing depth 80 fits 16000

-- ---- the decision
fits_settled : (f : Frame) (c : Op) (o : Outcome Reply) → Ends o Anything (λ a g. FitsRow c a) → FitsRow c (settled f o).reply
unfolding Ends
fits_settled f c (Refuse r g) h = refused_fits c _
fits_settled f c (Pass a g) h = h

fits_decided : (t : LengthChecks) (place pid : ℕ) (c : Op) (f : Frame) → FrameSound f → length f.processes ≤ 4294967295 → FitsRow c (verdict t place pid c f).reply
unfolding verdict
fits_decided t place pid c f s few = go _
  where
    unknown : Decision
    unknown = record { reply = reply.No refusal.NoProcess; frame = f }

    go : (b : Bool) → FitsRow c (if b then settled f (row t place pid c f) else unknown).reply
    go true = fits_settled f c (row t place pid c f) (passes_row f s few pid t place c)
    go false = refused_fits c _

-- ---- what the content fills in
few_taken : (count k : ℕ) (bytes : List ℕ) → IsToRead count (reply.Bytes k) → AreRead count (reply.Bytes (length (take count bytes)))
few_taken count k bytes h = let n = length-take count bytes in (omega (arith, n, h.1), omega (arith, n))

-- nothing was read
none_taken : (count k : ℕ) → IsToRead count (reply.Bytes k) → AreRead count (reply.Bytes k)
none_taken count k h = (omega (arith, h.0), omega (arith, h.0))

fits_read : (w : World) (fd count : ℕ) (b : Option OpenFile) (r : Reply) (g : Frame) → IsToRead count r → FitsCall (op.ReadFd fd count) (read_answer w count b r g).reply
unfolding read_answer plainly
fits_read w fd count (Some e) (reply.Bytes k) g h = few_taken _ k _ h
fits_read w fd count None (reply.Bytes k) g h = none_taken _ k h
fits_read w fd count (Some e) (reply.No why) g h = tt
fits_read w fd count None (reply.No why) g h = tt
fits_read w fd count _ _ g h = absurd h

fits_write : (w : World) (fd : ℕ) (new : List ℕ) (b : Option OpenFile) (r : Reply) (g : Frame) → FitsCall (op.WriteFd fd new) r → FitsCall (op.WriteFd fd new) (write_answer w new b r g).reply
unfolding write_answer plainly
fits_write w fd new (Some e) (reply.Number k) g h = tt
fits_write w fd new _ _ g h = h

fits_cut : (w : World) (fd len : ℕ) (b : Option OpenFile) (r : Reply) (g : Frame) → FitsCall (op.CutFd fd len) r → FitsCall (op.CutFd fd len) (cut_answer w len b r g).reply
unfolding cut_answer plainly
fits_cut w fd len (Some e) reply.Done g h = tt
fits_cut w fd len _ _ g h = h

fits_seek : (w : World) (fd offset : ℕ) (b : Option OpenFile) (r : Reply) (g : Frame) → FitsCall (op.SeekFd fd offset) r → FitsCall (op.SeekFd fd offset) (seek_answer w offset b r g).reply
unfolding seek_answer plainly
fits_seek w fd offset (Some e) reply.Done g h = tt
fits_seek w fd offset _ _ g h = h

fits_stat : (w : World) (path : PathOf) (r : Reply) (g : Frame) → FitsCall (op.StatAt path) r → FitsCall (op.StatAt path) (stat_answer w r g).reply
unfolding stat_answer plainly
fits_stat w path (reply.Stat o kind.File size links frozen cap lic) g h = tt
fits_stat w path _ g h = h

fits_exit : (w : World) (pid status : ℕ) (r : Reply) (g : Frame) → FitsCall (op.Exit status) r → FitsCall (op.Exit status) (exit_answer w pid status r g).reply
unfolding exit_answer plainly
fits_exit w pid status reply.Done g h = tt
fits_exit w pid status _ g h = h

fits_wait : (w : World) (r : Reply) (g : Frame) → FitsCall op.WaitChild r → FitsCall op.WaitChild (wait_answer w r g).reply
unfolding wait_answer plainly
fits_wait w (reply.Child p status) g h = tt
fits_wait w _ g h = h

fits_pex : (w : World) (fd : ℕ) (b : Option OpenFile) (r : Reply) (g : Frame) → FitsCall (op.Pex fd) r → FitsCall (op.Pex fd) (pex_answer w b r g).reply
unfolding pex_answer plainly
fits_pex w fd (Some e) r g h = h
fits_pex w fd None r g h = h

fits_answer : (w : World) (pid : ℕ) (c : Op) (d : Decision) → FitsRow c d.reply → FitsCall c (answer w pid c d).reply
unfolding answer plainly
fits_answer w pid (op.ReadFd fd count) d h = fits_read w fd _ _ _ _ h
fits_answer w pid (op.WriteFd fd bytes) d h = fits_write w fd _ _ _ _ h
fits_answer w pid (op.CutFd fd len) d h = fits_cut w fd _ _ _ _ h
fits_answer w pid (op.SeekFd fd offset) d h = fits_seek w fd _ _ _ _ h
fits_answer w pid (op.StatAt path) d h = fits_stat w path _ _ h
fits_answer w pid (op.Exit status) d h = fits_exit w _ _ _ _ h
fits_answer w pid op.WaitChild d h = fits_wait w _ _ h
fits_answer w pid (op.Pex fd) d h = fits_pex w fd _ _ _ h
fits_answer w pid _ d h = h

-- ---- the step
pub replies_fit : (w : World) (place pid : ℕ) (c : Op) → Sound w → length w.frame.processes ≤ 4294967295 → FitsCall c (step w place pid c).reply
unfolding step
replies_fit w place pid c s few = fits_answer w pid c _ (fits_decided (told w pid c) place pid c w.frame (frame_of w s) few)
