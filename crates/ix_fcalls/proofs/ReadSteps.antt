-- What a read comes to as a step of the world.
use Rattle.std.proofs.{Common.{◌≡◌, ◌≤◌, ℕ, true, nat_le, List, length, take, Option, Some, None, refl, sym, ap, subst, ◌∙◌}, lemmas.Bool.leb-true}
use Rattle.ix_model.specs.{world.{World.{World, Frame, Process}, Contents.{readable, after_read}}, laws.Sound.Sound, rows.OnDescriptors.{LengthChecks, read_fd}}
use Rattle.ix_model.specs.rows.{Table.{verdict, row}, Telling.{told, nothing_told, told_of_read}, Walks.{OpenFile, behind}, Rows.observe}
use Rattle.ix_model.specs.{history.{Step.{step, answer, plainly, edited, read_answer, put_front}, AuditLog.is_answer}, declared.reply.Reply.Reply}
use Rattle.ix_model.proofs.{frames.Floats.Floats, words.{Ends.{Ends, Anything, ending}, Looks.{ends_observe, ends_float_entry}, Answered.passed}}
use Rattle.ix_label.specs.Category.{Categories}
use Rattle.ix_tables.specs.Parts.{Parts}
use Rattle.ix_fcalls.specs.{Around.{Around, frame_of, world_of}, Counted.Keeps, Filed.Answers}
use Rattle.ix_fcalls.proofs.{Answering.{answers_said, answers_untold, answers_edited}, Unmoved.{floats_read, readable_same, after_read_same, content_same}}
use Rattle.ix_model.specs.history.Events as op
use Rattle.ix_model.specs.declared.reply.Reply.TheVariants as reply

read_none : (w : World) (place pid fd count : ℕ) → behind w.frame pid fd ≡ None → step w place pid (op.ReadFd fd count) ≡ plainly w (verdict nothing_told place pid (op.ReadFd fd count) w.frame)
unfolding step answer told told_of_read read_answer
read_none w place pid fd count none = rw none refl

read_some : (w : World) (place pid fd count : ℕ) (e : OpenFile) (m : LengthChecks) → behind w.frame pid fd ≡ Some e → m ≡ told_of_read w.frame w.content (Some e)
    → step w place pid (op.ReadFd fd count) ≡ read_answer w count (Some e) (verdict m place pid (op.ReadFd fd count) w.frame).reply (verdict m place pid (op.ReadFd fd count) w.frame).frame
unfolding step answer told
read_some w place pid fd count e m some is = rw (some, ← is) refl

unread : (w : World) (count : ℕ) (e : OpenFile) (r : Reply) (g : Frame) → ((k : ℕ) → r ≡ reply.Bytes k → ⊥) → read_answer w count (Some e) r g ≡ plainly w (record { reply = r; frame = g })
unfolding read_answer
unread w count e (reply.Bytes k) g not = absurd (not k refl)
unread w count e _ g not = refl

was_read : (w : World) (count : ℕ) (e : OpenFile) (r : Reply) (g : Frame) (k : ℕ) → r ≡ reply.Bytes k
    → read_answer w count (Some e) r g ≡ edited w g (reply.Bytes (length (take count (readable w.frame w.content e))))
    (take count (readable w.frame w.content e)) (after_read w.frame e (length (take count (readable w.frame w.content e))))
unfolding read_answer
was_read w count e r g k is = rw is refl

any_observe : (pid : ℕ) (seen : Categories) (f : Frame) (Q : Unit {0} → Frame → Type 0) → ((g : Frame) → Q tt g) → Ends (observe pid seen f) Anything Q
any_observe pid seen f Q h = ends_observe _ _ f _ Q (λ why. tt) (h f) (λ p lives low. h _)

few_ends : (m : LengthChecks) (pid fd count : ℕ) (f : Frame) → Ends (read_fd m pid fd count f) Anything (λ r g. nat_le count 4096 ≡ true)
unfolding read_fd
few_ends m pid fd count f = search (ending, any_observe, ends_float_entry) depth 40 fits 8000

few_decided : (m : LengthChecks) (place pid fd count : ℕ) (f : Frame) (k : ℕ) → (verdict m place pid (op.ReadFd fd count) f).reply ≡ reply.Bytes k → count ≤ 4096
unfolding row
few_decided m place pid fd count f k h = leb-true count 4096 (passed m _ _ _ f (λ r g. nat_le count 4096 ≡ true) (few_ends m _ fd _ f) (ap is_answer h))

module _ (a : Around) (t u : Parts) (ps qs : List (Option Process)) (fd count : ℕ) (m : LengthChecks) (r : Reply) (sound : Sound (world_of a t ps)) (kept : Keeps t u)
    (said : r ≡ (verdict m a.place a.pid (op.ReadFd fd count) (frame_of a t ps)).reply) (stands : frame_of a u qs ≡ (verdict m a.place a.pid (op.ReadFd fd count) (frame_of a t ps)).frame) where
  pub read_floats : Floats (frame_of a t ps) (frame_of a u qs)
  read_floats = subst (λ g. Floats (frame_of a t ps) g) (sym stands) (floats_read m _ _ fd _ _)

  -- a read that passed asked for at most 4,096 bytes
  pub read_few : (k : ℕ) → r ≡ reply.Bytes k → count ≤ 4096
  read_few k bytes = few_decided m _ _ fd _ _ k (sym said ∙ bytes)

  pub answers_read_none : (buf : List ℕ) → behind (frame_of a t ps) a.pid fd ≡ None → m ≡ nothing_told → Answers (step (world_of a t ps) a.place a.pid (op.ReadFd fd count)) (world_of a u qs) r buf buf
  answers_read_none buf none is = answers_untold a t u ps qs _ m refl sound kept stands r _ said is (read_none _ _ _ fd _ none)

  module _ (e : OpenFile) (some : behind (frame_of a t ps) a.pid fd ≡ Some e) (is : m ≡ told_of_read (frame_of a t ps) (world_of a t ps).content (Some e)) where
    pub answers_unread : (buf : List ℕ) → ((k : ℕ) → r ≡ reply.Bytes k → ⊥) → Answers (step (world_of a t ps) a.place a.pid (op.ReadFd fd count)) (world_of a u qs) r buf buf
    answers_unread buf not = answers_said a t u ps qs _ m refl sound kept stands r _ said
        (read_some _ _ _ fd _ e m some is ∙ unread _ _ e _ _ (λ k b. not k (said ∙ b)))

    pub answers_read : (v : Parts) (k n : ℕ) (before after : List ℕ) → r ≡ reply.Bytes k → n ≡ length (take count (readable (frame_of a u qs) (world_of a u qs).content e))
        → after ≡ put_front (take count (readable (frame_of a u qs) (world_of a u qs).content e)) before
        → frame_of a v qs ≡ frame_of a u qs → (world_of a v qs).content ≡ after_read (frame_of a u qs) e n (world_of a u qs).content
        → Answers (step (world_of a t ps) a.place a.pid (op.ReadFd fd count)) (world_of a v qs) (reply.Bytes n) before after
    answers_read v k n before after bytes long front same moved =
        let bs = take _ _ in
        let there =
        ap (take _) (readable_same _ _ read_floats _ e ∙ ap (λ c. readable (frame_of a t ps) c e) (content_same a t u ps qs kept)) in
        let count_is = long ∙ ap (λ xs. length xs) there in
        subst (λ j. Answers (step (world_of a t ps) a.place a.pid (op.ReadFd fd count)) (world_of a v qs) (reply.Bytes j) before after) (sym count_is)
        (answers_edited a t u ps qs _ m refl sound kept stands v _ bs _ _ (after_read (frame_of a t ps) e (length bs))
        (read_some _ _ _ fd _ e m some is ∙ was_read _ _ e _ _ k (sym said ∙ bytes))
        same (moved ∙ after_read_same _ _ read_floats e n _ ∙ ap (λ j. after_read (frame_of a t ps) e j (world_of a u qs).content) count_is)
        (front ∙ ap (λ xs. put_front xs before) there))
