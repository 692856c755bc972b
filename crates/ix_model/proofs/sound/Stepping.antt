-- The step of every call leaves a sound frame, and lengths within their bounds.
use Rattle.std.proofs.Common.{◌≡◌, ℕ, Bool, true, false, not, nat_le, List, length, take, Option, Some, None, refl, sym, ap, ◌∙◌, subst, if◌then◌else◌}
use Rattle.std.proofs.lemmas.Bool.{leb-true, ltb-false, not-true}
use Rattle.ix_model.proofs.{words.{Looks.ends_float_entry, Ends.{Ends, Anything, ending}, Lasts.decided, Answered.passed}, sound.Carried.{lengths_carried, carried_floats}}
use Rattle.ix_model.{proofs.{words.{Fixed.{Fixed, fixed_decided}, Standing.{Standing, behind_is, stands}}, clean.Cleaning.{wrote, CutFacts, was_cut}}, specs.history.Step.step}
use Rattle.ix_model.proofs.frames.{Floats.{Floats, floats_itself}, Floated.lengths_floated, Frames.{Follows, Measured, frame_of, measured_of}}
use Rattle.ix_model.{proofs.sound.{FloatingRows.{floats_read_fd, floats_write_fd, floats_cut_fd}, Following.follows_decided}, specs.laws.{Clean.IsClean, Sound.{LengthsSound, Sound}}}
use Rattle.ix_model.proofs.sound.Lengths.{lengths_read, lengths_write, lengths_cut, lengths_seek, lengths_emptied}
use Rattle.ix_model.specs.{world.World.{Frame, Content, World, at, is_pipe}, rows.{Walks.{OpenFile, behind}, Table.{verdict, row}}}
use Rattle.ix_model.specs.{world.Contents.{carried, readable, after_read, after_write, after_cut, after_exit, emptied}, history.{AuditLog.is_answer, Events.Op}}
use Rattle.ix_model.specs.{rows.{OnDescriptors.{LengthChecks, seek_fd}, Telling.{told, told_of_write, told_of_cut}}, declared.reply.Reply.Reply}
use Rattle.ix_model.specs.history.Step.{plainly, read_answer, write_answer, cut_answer, seek_answer, stat_answer, exit_answer, wait_answer, pex_answer, answer}
use Rattle.ix_model.specs.history.Events as op
use Rattle.ix_model.specs.declared.reply.Kind.TheVariants as kind
use Rattle.ix_model.specs.declared.reply.Reply.TheVariants as reply

-- ---- answers, from a frame that follows
module _ (w : World) (g : Frame) (fixed : Fixed w.frame g) (k : Follows w.frame g) (s : Sound w) where
  lengths : LengthsSound (record { frame = g; content = carried w.frame g w.content })
  lengths = lengths_carried w g fixed k.kinds s.lengths

  sound_plain : Measured (record { frame = g; content = carried w.frame g w.content })
  sound_plain = measured_of g _ k.sound lengths

  sound_seek : (offset : ℕ) (b : Option OpenFile) (r : Reply) → (r ≡ reply.Done → nat_le offset 1048576 ≡ true) → Measured (seek_answer w offset b r g).world
  unfolding seek_answer plainly
  sound_seek offset (Some e) reply.Done low = measured_of g _ k.sound (lengths_seek g _ lengths e _ (leb-true offset 1048576 (low refl)))
  sound_seek offset _ _ low = sound_plain

  sound_stat : (r : Reply) → Measured (stat_answer w r g).world
  unfolding stat_answer plainly
  sound_stat (reply.Stat o kind.File size links frozen cap lic) = sound_plain
  sound_stat _ = sound_plain

  sound_wait : (r : Reply) → Measured (wait_answer w r g).world
  unfolding wait_answer plainly
  sound_wait (reply.Child p status) = sound_plain
  sound_wait _ = sound_plain

  exited : (b : Bool) (statuses : List ℕ) → LengthsSound (record { frame = g; content = if b then record (carried w.frame g w.content) { statuses = statuses } else carried w.frame g w.content })
  exited true statuses = let l = lengths in search
  exited false statuses = lengths

  sound_exit : (pid status : ℕ) (r : Reply) → Measured (exit_answer w pid status r g).world
  unfolding exit_answer plainly after_exit
  sound_exit pid status reply.Done = measured_of g _ k.sound (exited _ _)
  sound_exit pid status _ = sound_plain

  either_emptied : (b : Bool) (o : ℕ) → LengthsSound (record { frame = g; content = if b then emptied o (carried w.frame g w.content) else carried w.frame g w.content })
  either_emptied true o = lengths_emptied g _ lengths o
  either_emptied false o = lengths

  sound_pex : (b : Option OpenFile) (r : Reply) → Measured (pex_answer w b r g).world
  unfolding pex_answer plainly
  sound_pex (Some e) r = measured_of g _ k.sound (either_emptied _ _)
  sound_pex None r = sound_plain

  -- ---- where labels alone have changed in the frame
  module _ (floats : Floats w.frame g) (clean : IsClean w) where
    -- a content that the old frame can hold the new one can
    edited : (h : Content → Content) → LengthsSound (record { frame = w.frame; content = h w.content }) → Measured (record { frame = g; content = h (carried w.frame g w.content) })
    edited h l = measured_of g _ k.sound (subst (λ c. LengthsSound (record { frame = g; content = h c })) (sym (carried_floats w g floats clean))
        (lengths_floated _ g floats _ l))

    sound_read : (count : ℕ) (b : Option OpenFile) (r : Reply) → ((e : OpenFile) → b ≡ Some e → Standing w.frame e.entry) → Measured (read_answer w count b r g).world
    unfolding read_answer plainly
    sound_read count (Some e) (reply.Bytes n) there =
        edited (after_read w.frame e (length (take count (readable w.frame w.content e)))) (lengths_read w.frame w.content s.lengths e (there e refl) s.limits
        count)
    sound_read count _ _ there = sound_plain

    sound_write : (new : List ℕ) (b : Option OpenFile) (r : Reply) → ((e : OpenFile) → b ≡ Some e → Standing w.frame e.entry)
        → ((n : ℕ) → r ≡ reply.Number n → (not (told_of_write w.frame w.content (length new) b).too_big ≡ true)
        × (not (told_of_write w.frame w.content (length new) b).full ≡ true) × (not (told_of_write w.frame w.content (length new) b).no_space ≡ true))
        → Measured (write_answer w new b r g).world
    unfolding write_answer plainly
    sound_write new (Some e) (reply.Number n) there fits = let t = fits n refl in
        edited (after_write w.frame e new) (lengths_write _ _ s.lengths e (there e refl) s.limits _ t.0 t.1 t.2)
    sound_write new _ _ there fits = sound_plain

    sound_cut : (len : ℕ) (b : Option OpenFile) (r : Reply) → ((e : OpenFile) → b ≡ Some e → Standing w.frame e.entry)
        → (r ≡ reply.Done → (e : OpenFile) (x : Standing w.frame e.entry) → b ≡ Some e → (is_pipe x.object ≡ false) × (nat_le len 1048576 ≡ true)
        × (not (told_of_cut w.frame w.content len b).no_space ≡ true)) → Measured (cut_answer w len b r g).world
    unfolding cut_answer plainly told_of_cut
    sound_cut len (Some e) reply.Done there fits =
        let t = fits refl e (there e refl) refl in
        edited (after_cut e len) (lengths_cut _ _ s.lengths e (there e _) s.limits _ t.0 (leb-true len 1048576 t.1) (ltb-false _ _ (not-true _ t.2)))
    sound_cut len _ _ there fits = sound_plain

-- ---- what the tests said
seek_ends : (pid fd offset : ℕ) (f : Frame) → Ends (seek_fd pid fd offset f) Anything (λ r g. nat_le offset 1048576 ≡ true)
unfolding seek_fd
seek_ends pid fd offset f = search (ending, ends_float_entry) depth 40 fits 8000

sought : (t : LengthChecks) (place pid fd offset : ℕ) (f : Frame) → (verdict t place pid (op.SeekFd fd offset) f).reply ≡ reply.Done → nat_le offset 1048576 ≡ true
unfolding row
sought t place pid fd offset f done = passed t _ _ _ f _ (seek_ends _ fd _ f) (ap is_answer done)

cut_tests : (t : LengthChecks) (pid fd len : ℕ) (f : Frame) (facts : CutFacts t pid fd len f) (e : OpenFile) (x : Standing f e.entry) → behind f pid fd ≡ Some e
    → (is_pipe x.object ≡ false) × (nat_le len 1048576 ≡ true) × (not t.no_space ≡ true)
cut_tests t pid fd len f facts e x is =
    let one = sym facts.is_entry ∙ is in
    let same : facts.entry ≡ e = cc in
    let two = sym facts.is_object ∙ ap (λ b. at f.objects b.entry.object) same ∙ x.is_object in
    let object : facts.object ≡ x.object = cc in
    (ap is_pipe (sym object) ∙ not-true _ facts.no_pipe, facts.short, facts.space)

-- ---- the step
pub measured_step : (w : World) (place pid : ℕ) (c : Op) → IsClean w → Sound w → Measured (step w place pid c).world
unfolding step answer told plainly row
measured_step w place pid (op.ReadFd fd count) clean s =
    let t : LengthChecks = told w pid (op.ReadFd fd count) in
    sound_read w _ (fixed_decided t place pid (op.ReadFd fd count) w.frame) (follows_decided w.frame (frame_of w s) t place pid (op.ReadFd fd count)) s
    (decided (Floats w.frame) t place pid (op.ReadFd fd count) w.frame (floats_itself w.frame) ((floats_read_fd w.frame t pid fd count).led w.frame (floats_itself w.frame))) clean
    count (behind w.frame pid fd) _ (λ e is. stands w.frame e.id e.entry s.opens (behind_is w.frame pid fd e is))
measured_step w place pid (op.WriteFd fd bytes) clean s =
    let t : LengthChecks = told w pid (op.WriteFd fd bytes) in
    sound_write w _ (fixed_decided t place pid (op.WriteFd fd bytes) w.frame) (follows_decided w.frame (frame_of w s) t place pid (op.WriteFd fd bytes)) s
    (decided (Floats w.frame) t place pid (op.WriteFd fd bytes) w.frame (floats_itself w.frame) ((floats_write_fd w.frame t pid fd).led w.frame (floats_itself w.frame))) clean
    bytes (behind w.frame pid fd) _ (λ e is. stands w.frame e.id e.entry s.opens (behind_is w.frame pid fd e is))
    (λ n wrote_n. let facts = wrote t place pid fd bytes w.frame n wrote_n in (facts.small, facts.room, facts.space))
measured_step w place pid (op.CutFd fd len) clean s =
    let t : LengthChecks = told w pid (op.CutFd fd len) in
    sound_cut w _ (fixed_decided t place pid (op.CutFd fd len) w.frame) (follows_decided w.frame (frame_of w s) t place pid (op.CutFd fd len)) s
    (decided (Floats w.frame) t place pid (op.CutFd fd len) w.frame (floats_itself w.frame) ((floats_cut_fd w.frame t pid fd len).led w.frame (floats_itself w.frame))) clean
    len (behind w.frame pid fd) _ (λ e is. stands w.frame e.id e.entry s.opens (behind_is w.frame pid fd e is))
    (λ done e x is. cut_tests t pid fd len w.frame (was_cut t place pid fd len w.frame done) e x is)
measured_step w place pid (op.SeekFd fd offset) clean s =
    let t : LengthChecks = told w pid (op.SeekFd fd offset) in
    sound_seek w _ (fixed_decided t place pid (op.SeekFd fd offset) w.frame) (follows_decided w.frame (frame_of w s) t place pid (op.SeekFd fd offset)) s offset
    (behind w.frame pid fd) _ (sought t place pid fd offset w.frame)
measured_step w place pid (op.StatAt path) clean s = sound_stat w _ (fixed_decided (told w pid (op.StatAt path)) place pid (op.StatAt path) w.frame)
    (follows_decided w.frame (frame_of w s) (told w pid (op.StatAt path)) place pid (op.StatAt path)) s _
measured_step w place pid (op.Exit status) clean s = sound_exit w _ (fixed_decided (told w pid (op.Exit status)) place pid (op.Exit status) w.frame)
    (follows_decided w.frame (frame_of w s) (told w pid (op.Exit status)) place pid (op.Exit status)) s pid status _
measured_step w place pid op.WaitChild clean s =
    sound_wait w _ (fixed_decided (told w pid op.WaitChild) place pid op.WaitChild w.frame) (follows_decided w.frame (frame_of w s) (told w pid op.WaitChild)
    place pid op.WaitChild) s _
measured_step w place pid (op.Pex fd) clean s =
    sound_pex w _ (fixed_decided (told w pid (op.Pex fd)) place pid (op.Pex fd) w.frame) (follows_decided w.frame (frame_of w s) (told w pid (op.Pex fd)) place
    pid (op.Pex fd)) s (behind w.frame pid fd) _
measured_step w place pid c clean s = sound_plain w _ (fixed_decided (told w pid c) place pid c w.frame) (follows_decided w.frame (frame_of w s) (told w pid c) place pid c) s
