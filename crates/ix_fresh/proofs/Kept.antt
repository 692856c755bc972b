-- The step of every call leaves descriptors, and what stands behind them.
use Rattle.std.proofs.Common.{◌≡◌, ◌==◌, ◌&&◌, ℕ, Bool, true, false, refl, sym, ap, ◌∙◌, subst, if◌then◌else◌}
use Rattle.ix_model.{specs.rows.{Outcomes.{Outcome, Refuse, Pass}, OnDescriptors.{LengthChecks, close_fd}, OnProcesses.exit}, proofs.refused.Refusing.{Relabelled, refusing_row}}
use Rattle.ix_model.specs.{rows.{Table.{Decision, row, settled, verdict}, Telling.told}, world.World.{World, Frame, lives}, declared.reply.Reply.Reply}
use Rattle.ix_model.specs.history.{Step.{step, answer, plainly, exit_answer}, Freshness.closes, AuditLog.is_answer, Events.Op}
use Rattle.ix_model.proofs.words.{Keeps.Holds, Ends.{Ends, Anything, ends_bind, ends_then, ends_pass, ends_frame, ends_need, ends_opened}}
use Rattle.ix_model.proofs.words.{RowEnds.{ends_let_go, ends_let_go_all, ends_end_process}, Answered.step_frame}
use Rattle.ix_fresh.{specs.Touched.{target, entry_target}, proofs.{Tables.has_changed, Staying.{Kept, kept_itself}, StayingRows.{given_up, KeptBy, row_keeps}}}
use Rattle.ix_model.specs.history.Events as op
use Rattle.ix_model.specs.declared.reply.Reply.TheVariants as reply
use Rattle.ix_model.specs.declared.refusal.Refusal.TheVariants as refusal

-- what a call with that reply leaves
abbrev pub KeptAs : Frame → ℕ → Op → Reply → Frame → Type 0
KeptAs f pid c r g = Kept f pid (target f pid c) (entry_target f pid c) (λ fd. closes fd c r) g

-- ---- what is given up is closed
abbrev Gives : Op → Reply → Type 0
Gives c a = (fd : ℕ) → closes fd c a ≡ given_up c fd

close_gives : (pid fd : ℕ) (f : Frame) → Ends (close_fd pid fd f) Anything (λ a g. Gives (op.CloseFd fd) a)
unfolding close_fd
close_gives pid fd f =
    let Q : Reply → Frame → Type 0 = λ a g. Gives (op.CloseFd fd) a in
    ends_bind _ _ f _ Q (ends_opened _ fd f _ _ (λ e is.
    ends_then _ _ f _ Q (ends_let_go _ _ fd e f _ (λ g. ends_pass _ g _ Q (λ n. refl)))) tt)

exit_gives : (pid status : ℕ) (f : Frame) → Ends (exit pid f) Anything (λ a g. Gives (op.Exit status) a)
unfolding exit
exit_gives pid status f =
    let Q : Reply → Frame → Type 0 = λ a g. Gives (op.Exit status) a in
    ends_bind _ _ f _ Q (ends_frame f _ _ (
    ends_then _ _ f _ Q (ends_need _ _ f _ _ (λ none.
    ends_then _ _ f _ Q (ends_let_go_all _ _ f _ (λ g.
    ends_then _ _ g _ Q (ends_end_process _ g _ _ (ends_pass _ _ _ Q (λ n. refl)))))) tt)))

ends_all : {A : Type 0} (o : Outcome A) (Q : A → Frame → Type 0) → ((a : A) (g : Frame) → Q a g) → Ends o Anything Q
unfolding Ends
ends_all (Refuse r g) Q h = tt
ends_all (Pass a g) Q h = h a g

row_gives : (t : LengthChecks) (place pid : ℕ) (c : Op) (f : Frame) → Ends (row t place pid c f) Anything (λ a g. Gives c a)
unfolding row
row_gives t place pid (op.CloseFd fd) f = close_gives _ fd f
row_gives t place pid (op.Exit status) f = exit_gives _ status f
row_gives t place pid c f = ends_all _ _ (λ a g fd. refl)

-- ---- the decision
module _ (f : Frame) (pid : ℕ) (c : Op) where
  -- a refusal gives nothing up
  relabelled_kept : (gone : ℕ → Bool) (g : Frame) → Relabelled pid f g → Kept f pid (target f pid c) (entry_target f pid c) gone g
  relabelled_kept gone g r = subst (Kept f pid (target f pid c) (entry_target f pid c) gone) (sym r.is) (record {
    descriptors = λ n fd d q lives is stays. has_changed _ _ _ n fd d (λ p. refl) (λ here p on. on) (kept.descriptors n fd d q lives is stays);
    objects = kept.objects;
    opens = kept.opens;
  })
    where
      kept : Kept f pid (target f pid c) (entry_target f pid c) gone f
      kept = kept_itself f _ _ _ _

  settled_kept : (o : Outcome Reply) → Ends o (λ r g. Relabelled pid f g) (λ a g. is_answer a ≡ true) → Ends o Anything (λ a g. Gives c a)
      → Holds o (KeptBy f pid c) → KeptAs f pid c (settled f o).reply (settled f o).frame
  unfolding Ends Holds
  settled_kept (Refuse r g) relabels gives k = go _
    where
      go : (b : Bool) → KeptAs f pid c (reply.No r) (if b then g else f)
      go true = relabelled_kept _ g relabels
      go false = kept_itself f _ _ _ _
  settled_kept (Pass a g) relabels gives k = record {
    descriptors = λ n fd d q lives is stays. k.descriptors n fd d q lives is (ap (λ b. n == pid && b) (sym (gives fd)) ∙ stays);
    objects = k.objects;
    opens = k.opens;
  }

decided_kept : (t : LengthChecks) (place pid : ℕ) (c : Op) (f : Frame) → KeptAs f pid c (verdict t place pid c f).reply (verdict t place pid c f).frame
unfolding verdict
decided_kept t place pid c f = go (lives f pid)
  where
    unknown : Decision
    unknown = record { reply = reply.No refusal.NoProcess; frame = f }

    go : (b : Bool) → KeptAs f pid c (if b then settled f (row t place pid c f) else unknown).reply (if b then settled f (row t place pid c f) else unknown).frame
    go true = settled_kept f pid c (row t place pid c f) (refusing_row t place pid c f) (row_gives t place pid c f) (row_keeps f pid t place c)
    go false = kept_itself f pid _ _ _

-- ---- the step
-- what the content fills in closes nothing
reply_of_exit : (w : World) (pid status : ℕ) (r : Reply) (g : Frame) → (exit_answer w pid status r g).reply ≡ r
unfolding exit_answer plainly
reply_of_exit w pid status reply.Done g = refl
reply_of_exit w pid status _ g = refl

closed_as_decided : (w : World) (place pid : ℕ) (c : Op) (fd : ℕ) → closes fd c (step w place pid c).reply ≡ closes fd c (verdict (told w pid c) place pid c w.frame).reply
unfolding step answer plainly
closed_as_decided w place pid (op.CloseFd d) fd = refl
closed_as_decided w place pid (op.Exit status) fd = ap (closes fd (op.Exit status)) (reply_of_exit w pid status _ _)
closed_as_decided w place pid c fd = refl

pub step_kept : (w : World) (place pid : ℕ) (c : Op) → KeptAs w.frame pid c (step w place pid c).reply (step w place pid c).world.frame
step_kept w place pid c =
    let k = decided_kept (told w pid c) place pid c w.frame in
    subst (λ (g : Frame). KeptAs w.frame pid c (step w place pid c).reply g) (sym (step_frame w place pid c)) (record {
      descriptors = λ n fd d q lives is stays. k.descriptors n fd d q lives is (ap (λ b. n == pid && b) (sym (closed_as_decided w place pid c fd)) ∙ stays);
      objects = k.objects;
      opens = k.opens;
    })
