-- What a seek comes to as a step of the world.
use Rattle.std.proofs.Common.{◌≡◌, ℕ, true, false, nat_le, List, [], Option, Some, None, refl, sym, ap, subst, ◌∙◌, slice_set}
use Rattle.ix_label.specs.Category.{join}
use Rattle.ix_model.{specs.{world.{World.{World, Frame, Object, Process, at, change, living, is_pipe}, Contents.after_seek}, laws.Sound.Sound}, proofs.frames.Floats.Floats}
use Rattle.ix_model.specs.rows.{Outcomes.{Refuse, Pass}, OnDescriptors.{seek_fd, float_entry}, Table.verdict, Telling.{told, nothing_told}}
use Rattle.ix_model.specs.{rows.Walks.{OpenFile, behind, opened}, history.Step.{step, answer, plainly, seek_answer}, declared.reply.Reply.Reply}
use Rattle.ix_model.specs.rows.Rows.{◌>>=◌, ◌>>◌, on_pass, pass, need, some, only_if, refuse, frame, object, process, change_open}
use Rattle.ix_tables.specs.Parts.{Parts}
use Rattle.ix_fcalls.{specs.{Around.{Around, frame_of, world_of}, Counted.Keeps, Filed.Answers}, proofs.{Answering.{answers_said, answers_edited}, Unmoved.floats_seek}}
use Rattle.ix_model.specs.declared.refusal.Refusal.TheVariants as refusal
use Rattle.ix_model.specs.history.Events as op
use Rattle.ix_model.specs.declared.reply.Reply.TheVariants as reply

-- ---- the row
module _ (pid fd offset : ℕ) (f : Frame) (e : OpenFile) (x : Object) (is : behind f pid fd ≡ Some e) (there : at f.objects e.entry.object ≡ Some x) where
  pub seek_pipe : is_pipe x ≡ true → seek_fd pid fd offset f ≡ Refuse refusal.IsPipe f
  unfolding seek_fd opened frame object some ◌>>=◌ ◌>>◌ on_pass pass need refuse
  seek_pipe pipe = rw (is, there, pipe) refl

  pub seek_past : is_pipe x ≡ false → nat_le offset 1048576 ≡ false → seek_fd pid fd offset f ≡ Refuse refusal.TooBig f
  unfolding seek_fd opened frame object some ◌>>=◌ ◌>>◌ on_pass pass need refuse
  seek_past file past = rw (is, there, file, past) refl

  pub seek_passed : (p : Process) → is_pipe x ≡ false → nat_le offset 1048576 ≡ true → living (at f.processes pid) ≡ Some p
      → seek_fd pid fd offset f ≡ Pass reply.Done (record f { opens = change f.opens e.id (λ y. record y { label = join y.label p.label }) })
  unfolding seek_fd opened frame object process float_entry change_open only_if some ◌>>=◌ ◌>>◌ on_pass pass need refuse
  seek_passed p file low lives = rw (is, there, file, low, lives) refl

-- ---- the step
seek_none : (w : World) (place pid fd offset : ℕ) → behind w.frame pid fd ≡ None → step w place pid (op.SeekFd fd offset) ≡ plainly w (verdict nothing_told place pid (op.SeekFd fd offset) w.frame)
unfolding step answer told seek_answer
seek_none w place pid fd offset none = rw none refl

seek_some : (w : World) (place pid fd offset : ℕ) (e : OpenFile) → behind w.frame pid fd ≡ Some e
    → step w place pid (op.SeekFd fd offset) ≡ seek_answer w offset (Some e) (verdict nothing_told place pid (op.SeekFd fd offset) w.frame).reply
    (verdict nothing_told place pid (op.SeekFd fd offset) w.frame).frame
unfolding step answer told
seek_some w place pid fd offset e some = rw some refl

unsought : (w : World) (offset : ℕ) (e : OpenFile) (r : Reply) (g : Frame) → (r ≡ reply.Done → ⊥) → seek_answer w offset (Some e) r g ≡ plainly w (record { reply = r; frame = g })
unfolding seek_answer
unsought w offset e reply.Done g not = absurd (not refl)
unsought w offset e _ g not = refl

-- a seek, as it is decided
module _ (a : Around) (t u : Parts) (ps qs : List (Option Process)) (fd offset : ℕ) (r : Reply) (sound : Sound (world_of a t ps)) (kept : Keeps t u)
    (said : r ≡ (verdict nothing_told a.place a.pid (op.SeekFd fd offset) (frame_of a t ps)).reply) (stands : frame_of a u qs
    ≡ (verdict nothing_told a.place a.pid (op.SeekFd fd offset) (frame_of a t ps)).frame) where
  pub seek_floats : Floats (frame_of a t ps) (frame_of a u qs)
  seek_floats = subst (λ g. Floats (frame_of a t ps) g) (sym stands) (floats_seek _ _ _ fd _ _)

  pub answers_seek_none : (buf : List ℕ) → behind (frame_of a t ps) a.pid fd ≡ None → Answers (step (world_of a t ps) a.place a.pid (op.SeekFd fd offset)) (world_of a u qs) r buf buf
  answers_seek_none buf none = answers_said a t u ps qs _ _ refl sound kept stands r _ said (seek_none _ _ _ fd _ none)

  module _ (e : OpenFile) (some : behind (frame_of a t ps) a.pid fd ≡ Some e) where
    pub answers_unsought : (buf : List ℕ) → (r ≡ reply.Done → ⊥) → Answers (step (world_of a t ps) a.place a.pid (op.SeekFd fd offset)) (world_of a u qs) r buf buf
    answers_unsought buf not = answers_said a t u ps qs _ _ refl sound kept stands r _ said
        (seek_some _ _ _ fd _ e some ∙ unsought _ _ e _ _ (λ done. not (said ∙ done)))

    pub answers_seek : (v : Parts) (buf : List ℕ) → r ≡ reply.Done → v ≡ record u { offsets = slice_set u.offsets e.id offset }
        → Answers (step (world_of a t ps) a.place a.pid (op.SeekFd fd offset)) (world_of a v qs) reply.Done buf buf
    unfolding after_seek seek_answer
    answers_seek v buf done moved = answers_edited a t u ps qs _ _ refl sound kept stands v _ [] _ _ (after_seek e offset)
        (seek_some _ _ _ fd _ e some ∙ ap (λ x. seek_answer (world_of a t ps) offset (Some e) x (verdict nothing_told a.place a.pid (op.SeekFd fd offset) (frame_of a t ps)).frame)
        (sym said ∙ done)) (ap (λ x. frame_of a x qs) moved) (ap (λ x. (world_of a x qs).content) moved) refl
