-- What a cut comes to as a step of the world.
use Rattle.std.proofs.Common.{◌≡◌, ◌||◌, ℕ, true, false, true≢false, not, nat_le, nat_lt, List, [], Option, Some, None, inl, inr, refl, sym, ap, subst, ◌∙◌, if◌then◌else◌}
use Rattle.std.{specs.Option.option_map_or, proofs.lemmas.Bool.{not-true, or_cases, lt-leb, ltb-true}}
use Rattle.ix_model.specs.{world.{World.{World, Frame, Object, Process, at, is_pipe, lives}, Contents.{after_cut, on_pipe}}, laws.Sound.Sound}
use Rattle.ix_model.specs.{declared.{call.Mode.Mode, reply.Reply.Reply}, rows.Rows.{◌>>=◌, ◌>>◌, on_pass, pass, need, some, refuse, frame, object}}
use Rattle.ix_model.specs.rows.{OnDescriptors.{LengthChecks, cut_fd}, Table.{verdict, row, settled}, Telling.{told, nothing_told, told_of_cut}}
use Rattle.ix_model.specs.{rows.Walks.{OpenFile, behind, opened}, history.Step.{step, answer, plainly, cut_answer}}
use Rattle.ix_model.proofs.{frames.Floats.Floats, words.Standing.{behind_is, stands as stands_on}, clean.Cleaning.was_cut}
use Rattle.ix_tables.specs.Parts.{Parts}
use Rattle.ix_fcalls.specs.{Around.{Around, frame_of, world_of}, Counted.Keeps, Filed.Answers}
use Rattle.ix_fcalls.proofs.{Answering.{answers_said, answers_untold, answers_edited}, Unmoved.{floats_cut, told_cut_same, content_same}}
use Rattle.ix_model.specs.declared.call.Mode.TheVariants as mode
use Rattle.ix_model.specs.declared.refusal.Refusal.TheVariants as refusal
use Rattle.ix_model.specs.history.Events as op
use Rattle.ix_model.specs.declared.reply.Reply.TheVariants as reply

cut_none : (w : World) (place pid fd len : ℕ) → behind w.frame pid fd ≡ None → step w place pid (op.CutFd fd len) ≡ plainly w (verdict nothing_told place pid (op.CutFd fd len) w.frame)
unfolding step answer told told_of_cut cut_answer
cut_none w place pid fd len none = rw none refl

cut_some : (w : World) (place pid fd len : ℕ) (e : OpenFile) (m : LengthChecks) → behind w.frame pid fd ≡ Some e → m ≡ told_of_cut w.frame w.content len (Some e)
    → step w place pid (op.CutFd fd len) ≡ cut_answer w len (Some e) (verdict m place pid (op.CutFd fd len) w.frame).reply (verdict m place pid (op.CutFd fd len) w.frame).frame
unfolding step answer told
cut_some w place pid fd len e m some is = rw (some, ← is) refl

uncut : (w : World) (len : ℕ) (e : OpenFile) (r : Reply) (g : Frame) → (r ≡ reply.Done → ⊥) → cut_answer w len (Some e) r g ≡ plainly w (record { reply = r; frame = g })
unfolding cut_answer
uncut w len e reply.Done g not = absurd (not refl)
uncut w len e _ g not = refl

-- ---- what is refused before lengths count
-- a cut to more than there may be
cut_long : (m n : LengthChecks) (pid fd len : ℕ) (f : Frame) → nat_le len 1048576 ≡ false → cut_fd m pid fd len f ≡ cut_fd n pid fd len f
unfolding cut_fd ◌>>=◌ ◌>>◌ on_pass need refuse
cut_long m n pid fd len f long = rw long refl

-- a cut of a pipe
cut_pipe : (m n : LengthChecks) (pid fd len : ℕ) (f : Frame) (e : OpenFile) (x : Object) → behind f pid fd ≡ Some e → at f.objects e.entry.object ≡ Some x
    → is_pipe x ≡ true → cut_fd m pid fd len f ≡ cut_fd n pid fd len f
unfolding cut_fd opened frame object some ◌>>=◌ ◌>>◌ on_pass pass need refuse
cut_pipe m n pid fd len f e x is there pipe = go _ refl
  where
    go : (d : Mode) → e.entry.mode ≡ d → cut_fd m pid fd len f ≡ cut_fd n pid fd len f
    go mode.Read d = rw (is, d) refl
    go mode.Write d = rw (is, d, there, pipe) refl
    go mode.Both d = rw (is, d, there, pipe) refl

-- what is settled of the same row
settled_same : (m n : LengthChecks) (place pid fd len : ℕ) (f : Frame) → cut_fd m pid fd len f ≡ cut_fd n pid fd len f
    → verdict m place pid (op.CutFd fd len) f ≡ verdict n place pid (op.CutFd fd len) f
unfolding verdict row
settled_same m n place pid fd len f same = ap (λ o. if lives f pid then settled f o else record { reply = reply.No refusal.NoProcess; frame = f }) same

no_cut_long : (m : LengthChecks) (place pid fd len : ℕ) (f : Frame) → nat_le len 1048576 ≡ false → (verdict m place pid (op.CutFd fd len) f).reply ≡ reply.Done → ⊥
no_cut_long m place pid fd len f long done = true≢false (sym (was_cut m _ _ fd _ f done).short ∙ long)

no_cut_pipe : (m : LengthChecks) (place pid fd len : ℕ) (f : Frame) (e : OpenFile) → behind f pid fd ≡ Some e → on_pipe f e ≡ true → (verdict m place pid (op.CutFd fd len) f).reply ≡ reply.Done → ⊥
no_cut_pipe m place pid fd len f e is pipe done =
    let facts = was_cut m _ _ fd _ f done in
    let same : e ≡ facts.entry = let h = facts.is_entry in cc in
    let there = ap (λ x. at f.objects x.entry.object) same ∙ facts.is_object in
    true≢false (sym pipe ∙ ap (λ o. option_map_or is_pipe o false) there ∙ not-true _ facts.no_pipe)

-- a cut of a file, as it is decided
module _ (a : Around) (t u : Parts) (ps qs : List (Option Process)) (fd len : ℕ) (m : LengthChecks) (r : Reply) (sound : Sound (world_of a t ps)) (kept : Keeps t u)
    (said : r ≡ (verdict m a.place a.pid (op.CutFd fd len) (frame_of a t ps)).reply) (stands : frame_of a u qs ≡ (verdict m a.place a.pid (op.CutFd fd len) (frame_of a t ps)).frame) where
  pub cut_floats : Floats (frame_of a t ps) (frame_of a u qs)
  cut_floats = subst (λ g. Floats (frame_of a t ps) g) (sym stands) (floats_cut m _ _ fd _ _)

  pub answers_cut_none : (buf : List ℕ) → behind (frame_of a t ps) a.pid fd ≡ None → m ≡ nothing_told → Answers (step (world_of a t ps) a.place a.pid (op.CutFd fd len)) (world_of a u qs) r buf buf
  answers_cut_none buf none is = answers_untold a t u ps qs _ m refl sound kept stands r _ said is (cut_none _ _ _ fd _ none)

  module _ (e : OpenFile) (some : behind (frame_of a t ps) a.pid fd ≡ Some e) where
    -- the row is that of what the length tells, and it refuses
    unheard : (buf : List ℕ) → cut_fd (told_of_cut (frame_of a t ps) (world_of a t ps).content len (Some e)) a.pid fd len (frame_of a t ps) ≡ cut_fd m a.pid fd len (frame_of a t ps)
        → (r ≡ reply.Done → ⊥) → Answers (step (world_of a t ps) a.place a.pid (op.CutFd fd len)) (world_of a u qs) r buf buf
    unheard buf same not =
        let w = world_of a t ps in
        answers_said a t u ps qs _ m refl sound kept stands r _ said (cut_some w _ _ fd _ e _ some refl
        ∙ ap (λ d. cut_answer w len (Some e) d.reply d.frame) (settled_same _ m _ _ fd _ _ same) ∙ uncut w _ e _ _ (λ done. not (said ∙ done)))

    pub answers_no_cut : (buf : List ℕ) → (nat_lt 1048576 len || on_pipe (frame_of a t ps) e) ≡ true → Answers (step (world_of a t ps) a.place a.pid (op.CutFd fd len)) (world_of a u qs) r buf buf
    answers_no_cut buf h = elim (or_cases _ _ h) [
      | inl long ↦
          let past = lt-leb len 1048576 (ltb-true 1048576 len long) in
          unheard _ (cut_long _ m _ fd _ _ past) (λ done. no_cut_long m _ _ fd _ _ past (sym said ∙ done))
      | inr pipe ↦
          let x = stands_on _ e.id e.entry sound.opens (behind_is _ _ fd e some) in
          unheard _ (cut_pipe _ m _ fd _ _ e _ some x.is_object (sym (ap (λ o. option_map_or is_pipe o false) x.is_object) ∙ pipe))
          (λ done. no_cut_pipe m _ _ fd _ _ e some pipe (sym said ∙ done))
    ]

    module _ (is : m ≡ told_of_cut (frame_of a t ps) (world_of a t ps).content len (Some e)) where
      pub answers_uncut : (buf : List ℕ) → (r ≡ reply.Done → ⊥) → Answers (step (world_of a t ps) a.place a.pid (op.CutFd fd len)) (world_of a u qs) r buf buf
      answers_uncut buf not = answers_said a t u ps qs _ m refl sound kept stands r _ said
          (cut_some _ _ _ fd _ e m some is ∙ uncut _ _ e _ _ (λ done. not (said ∙ done)))

      -- there is room for a cut that passed
      pub cut_room : r ≡ reply.Done → told_of_cut (frame_of a u qs) (world_of a u qs).content len (Some e) ≡ nothing_told
      unfolding told_of_cut
      cut_room done =
          let facts = was_cut m _ _ fd _ _ (sym said ∙ done) in
          let space = not-true m.no_space facts.space in
          told_cut_same _ _ cut_floats (world_of a u qs).content _ e ∙ ap (λ c. told_of_cut (frame_of a t ps) c len (Some e)) (content_same a t u ps qs kept)
          ∙ (λ i. record nothing_told { no_space = (sym (ap (λ n. n.no_space) is) ∙ space) i })

      pub answers_cut : (v : Parts) (buf : List ℕ) → r ≡ reply.Done → frame_of a v qs ≡ frame_of a u qs → (world_of a v qs).content ≡ after_cut e len (world_of a u qs).content
          → Answers (step (world_of a t ps) a.place a.pid (op.CutFd fd len)) (world_of a v qs) reply.Done buf buf
      unfolding cut_answer
      answers_cut v buf done same moved = answers_edited a t u ps qs _ m refl sound kept stands v _ [] _ _ (after_cut e len)
          (cut_some _ _ _ fd _ e m some is ∙ ap (λ x. cut_answer (world_of a t ps) len (Some e) x (verdict m a.place a.pid (op.CutFd fd len) (frame_of a t ps)).frame) (sym said ∙ done))
          same moved refl
