-- What a write comes to as a step of the world.
use Rattle.std.proofs.{Common.{◌≡◌, ◌-◌, ℕ, Bool, true, false, List, [], length, Option, Some, None, refl, sym, ap, subst, ◌∙◌, if◌then◌else◌}, lemmas.Bool.not-true}
use Rattle.ix_model.{specs.{world.{World.{World, Frame, Content, Process}, Contents.{after_write, side, holding_of}}, laws.Sound.Sound}, proofs.{frames.Floats.Floats, clean.Cleaning.wrote}}
use Rattle.ix_model.specs.{rows.{OnDescriptors.LengthChecks, Table.verdict, Walks.{OpenFile, behind}}, declared.reply.Reply.Reply, history.Step.{step, answer, plainly, edited, write_answer}}
use Rattle.ix_model.specs.rows.Telling.{told, nothing_told, told_of_write, told_of_pipe_write, told_of_file_write}
use Rattle.ix_tables.specs.Parts.{Parts}
use Rattle.ix_fcalls.specs.{Around.{Around, frame_of, world_of}, Counted.Keeps, Filed.Answers}
use Rattle.ix_fcalls.proofs.{Answering.{answers_said, answers_untold, answers_edited}, Unmoved.{floats_write, told_write_same, after_write_same, content_same}}
use Rattle.ix_model.specs.history.Events as op
use Rattle.ix_model.specs.declared.reply.Reply.TheVariants as reply

write_none : (w : World) (place pid fd : ℕ) (new : List ℕ) → behind w.frame pid fd ≡ None
    → step w place pid (op.WriteFd fd new) ≡ plainly w (verdict nothing_told place pid (op.WriteFd fd new) w.frame)
unfolding step answer told told_of_write write_answer
write_none w place pid fd new none = rw none refl

write_some : (w : World) (place pid fd : ℕ) (new : List ℕ) (e : OpenFile) (m : LengthChecks) → behind w.frame pid fd ≡ Some e → m ≡ told_of_write w.frame w.content (length new) (Some e)
    → step w place pid (op.WriteFd fd new) ≡ write_answer w new (Some e) (verdict m place pid (op.WriteFd fd new) w.frame).reply (verdict m place pid (op.WriteFd fd new) w.frame).frame
unfolding step answer told
write_some w place pid fd new e m some is = rw (some, ← is) refl

unwritten : (w : World) (new : List ℕ) (e : OpenFile) (r : Reply) (g : Frame) → ((k : ℕ) → r ≡ reply.Number k → ⊥) → write_answer w new (Some e) r g ≡ plainly w (record { reply = r; frame = g })
unfolding write_answer
unwritten w new e (reply.Number k) g not = absurd (not k refl)
unwritten w new e _ g not = refl

was_written : (w : World) (new : List ℕ) (e : OpenFile) (r : Reply) (g : Frame) (k : ℕ) → r ≡ reply.Number k
    → write_answer w new (Some e) r g ≡ edited w g (reply.Number (length new)) [] (after_write w.frame e new)
unfolding write_answer
was_written w new e r g k is = rw is refl

-- a write is never told that there is nothing to read
none_empty : (f : Frame) (c : Content) (n : ℕ) (e : OpenFile) → (told_of_write f c n (Some e)).empty ≡ false
unfolding told_of_write
none_empty f c n e = either _
  where
    either : (b : Bool) → (if b then told_of_pipe_write (length (side (1 - e.entry.end) (holding_of c e.entry.object))) n else told_of_file_write f c e n).empty ≡ false
    either true = refl
    either false = refl

-- the write of a list through a descriptor, as it is decided
module _ (a : Around) (t u : Parts) (ps qs : List (Option Process)) (fd : ℕ) (new : List ℕ) (m : LengthChecks) (r : Reply) (sound : Sound (world_of a t ps)) (kept : Keeps t u)
    (said : r ≡ (verdict m a.place a.pid (op.WriteFd fd new) (frame_of a t ps)).reply) (stands : frame_of a u qs ≡ (verdict m a.place a.pid (op.WriteFd fd new) (frame_of a t ps)).frame) where
  pub write_floats : Floats (frame_of a t ps) (frame_of a u qs)
  write_floats = subst (λ g. Floats (frame_of a t ps) g) (sym stands) (floats_write m _ _ fd _ _)

  pub answers_write_none : (buf : List ℕ) → behind (frame_of a t ps) a.pid fd ≡ None → m ≡ nothing_told → Answers (step (world_of a t ps) a.place a.pid (op.WriteFd fd new)) (world_of a u qs) r buf buf
  answers_write_none buf none is = answers_untold a t u ps qs _ m refl sound kept stands r _ said is (write_none _ _ _ fd _ none)

  module _ (e : OpenFile) (some : behind (frame_of a t ps) a.pid fd ≡ Some e) (is : m ≡ told_of_write (frame_of a t ps) (world_of a t ps).content (length new) (Some e)) where
    pub answers_unwritten : (buf : List ℕ) → ((k : ℕ) → r ≡ reply.Number k → ⊥) → Answers (step (world_of a t ps) a.place a.pid (op.WriteFd fd new)) (world_of a u qs) r buf buf
    answers_unwritten buf not = answers_said a t u ps qs _ m refl sound kept stands r _ said
        (write_some _ _ _ fd _ e m some is ∙ unwritten _ _ e _ _ (λ k b. not k (said ∙ b)))

    -- there is room for a write that passed
    pub write_room : (k : ℕ) → r ≡ reply.Number k → told_of_write (frame_of a u qs) (world_of a u qs).content (length new) (Some e) ≡ nothing_told
    write_room k number =
        let facts = wrote m _ _ fd _ _ k (sym said ∙ number) in
        let big = not-true m.too_big facts.small in
        let full = not-true m.full facts.room in
        let space = not-true m.no_space facts.space in
        let empty = ap (λ n. n.empty) is ∙ none_empty _ _ _ e in
        told_write_same _ _ write_floats _ _ e ∙ ap (λ c. told_of_write (frame_of a t ps) c (length new) (Some e)) (content_same a t u ps qs kept)
        ∙ sym is ∙ (λ i. record { too_big = big i; full = full i; no_space = space i; empty = empty i })

    pub answers_write : (v : Parts) (k : ℕ) (buf : List ℕ) → r ≡ reply.Number k → frame_of a v qs ≡ frame_of a u qs
        → (world_of a v qs).content ≡ after_write (frame_of a u qs) e new (world_of a u qs).content
        → Answers (step (world_of a t ps) a.place a.pid (op.WriteFd fd new)) (world_of a v qs) (reply.Number (length new)) buf buf
    answers_write v k buf number same moved = answers_edited a t u ps qs _ m refl sound kept stands v _ [] _ _ (after_write (frame_of a t ps) e new)
        (write_some _ _ _ fd _ e m some is ∙ was_written _ _ e _ _ k (sym said ∙ number))
        same (moved ∙ after_write_same _ _ write_floats e _ _) refl
