-- The rows of a read and of a write, walked once: what is known where they look, affect and float, and where they end.
use Rattle.std.proofs.{Common.{◌≡◌, ◌-◌, ◌&&◌, ℕ, true, false, not, Option, Some, option_map, refl, sym, ap, ◌∙◌, subst, inl, inr}, lemmas.Bool.not-false}
use Rattle.ix_label.specs.{Category.{Categories, join, leq}, Lattice.{same-decides, leq-join_right}}
use Rattle.ix_model.specs.{world.World.{Frame, Object, Process, at, change, living, is_pipe, held}, rows.{Outcomes.Row, Walks.{OpenFile, behind}}}
use Rattle.ix_model.specs.{rows.Rows.{◌>>=◌, ◌>>◌, pass, need, frame, process, observe, affect}, declared.{refusal.Refusal.Refusal, reply.Reply.Reply}}
use Rattle.ix_model.specs.rows.OnDescriptors.{LengthChecks, float_entry, read_fd, write_fd, read_passed, write_passed}
use Rattle.ix_model.proofs.{tables.{Tables.at_changed, Finds.at_change}, words.Living.{is_living, not_ended, lives_as}}
use Rattle.ix_model.proofs.words.Ends.{Ends, Anything, ends_bind, ends_then, ends_frame, ends_need, ends_only_if, ends_caller, ends_object}
use Rattle.ix_model.proofs.words.Ends.{ends_pass, ends_change_open, ends_change_object, ends_change_caller, ending}
use Rattle.ix_model.specs.declared.refusal.Refusal.TheVariants as refusal

-- ---- looking and affecting
still_lives : (f : Frame) (pid : ℕ) (h : Process → Process) (p : Process) → (h p).ended ≡ p.ended → living (at f.processes pid) ≡ Some p → living (at (change f.processes pid h) pid) ≡ Some (h p)
still_lives f pid h p ended lives = lives_as _ _ (at_changed f.processes pid h ∙ ap (option_map h) (is_living _ p lives)) (ended ∙ not_ended _ p lives)

pub one_there : {A : Type 0} (o : Option A) (p q : A) → o ≡ Some p → o ≡ Some q → p ≡ q
one_there o p q is here = let h = sym is ∙ here in cc

-- where a look passes, the caller's label is at or above what was looked at
pub ends_looks : (pid : ℕ) (seen : Categories) (f : Frame) (Q : Unit {0} → Frame → Type 0) → ((g : Frame) (p : Process) → g.objects ≡ f.objects → g.opens ≡ f.opens
    → living (at g.processes pid) ≡ Some p → leq seen p.label ≡ true → Q tt g) → Ends (observe pid seen f) Anything Q
unfolding observe
ends_looks pid seen f Q looks =
    ends_bind _ _ f _ Q (ends_caller _ f _ _ (λ p lives. ends_only_if _ _ f _ Q
    (λ raises. ends_then _ _ f _ Q (ends_need _ _ f _ _ (λ free.
    ends_then _ _ f _ Q (ends_need _ _ f _ _ (λ low.
    ends_change_caller _ _ f _ Q (looks _ _ refl refl
    (still_lives f _ _ p refl lives) (leq-join_right _ _)))
    tt)) tt))
    (λ no. looks f p refl refl lives (subst (λ l. leq seen l ≡ true) ((same-decides _ _).0 (not-false _ no)) (leq-join_right p.label _))))
    tt)

-- where an object was affected, its label is at or above the caller's and that of the open entry
pub ends_affects : (pid o : ℕ) (through : Categories) (f : Frame) (Q : Unit {0} → Frame → Type 0)
    → ((g : Frame) (p : Process) → living (at f.processes pid) ≡ Some p → g.processes ≡ f.processes → g.opens ≡ f.opens
    → ((x : Object) → at g.objects o ≡ Some x → leq (join p.label through) x.label ≡ true) → Q tt g) → Ends (affect pid o through f) Anything Q
unfolding affect
ends_affects pid o through f Q affects =
    ends_bind _ _ f Anything Q (ends_caller pid f Anything _ (λ p lives.
    ends_bind _ _ f Anything Q (ends_object o f Anything _ (λ x here.
    ends_bind _ _ f Anything Q (ends_frame f Anything _ (ends_only_if _ _ f Anything Q
    (λ raises. ends_then _ _ f Anything Q (ends_need _ _ f Anything _ (λ free.
    ends_then _ _ f Anything Q (ends_need _ _ f Anything _ (λ low.
    ends_change_object o _ f Anything Q (affects _ p lives refl refl (λ y there. elim (at_change f.objects o (λ z. record z { label = join z.label (join p.label through) }) o y there) [
      | inl c ↦ subst (λ (z : Object). leq (join p.label through) z.label ≡ true) (sym c.same) (leq-join_right c.was.label (join p.label through))
      | inr apart ↦ absurd (apart.0 refl)
    ])))
    tt)) tt))
    (λ no. affects f p lives refl refl (λ y there.
    subst (λ (z : Object). leq (join p.label through) z.label ≡ true) (one_there _ x y here there)
    (subst (λ (a : Categories). leq (join p.label through) a ≡ true) ((same-decides (join x.label (join p.label through)) x.label).0 (not-false _ no))
    (leq-join_right x.label (join p.label through))))))))
    tt)) tt)

-- ---- the rows
-- what a read does behind its look
abbrev pub read_behind : LengthChecks → ℕ → OpenFile → Object → Row Reply
read_behind t pid e x = ◌>>=◌ frame (λ h. ◌>>◌ (need (not (is_pipe x && t.empty && held h.opens e.entry.object (1 - e.entry.end))) refusal.Again)
    (◌>>=◌ (process pid) (λ q. ◌>>◌ (float_entry q x e) (pass read_passed))))

module _ (f : Frame) (P : Refusal → Frame → Type 0) (Q : Reply → Frame → Type 0) (r : (why : Refusal) → P why f) where
  -- a read, from its look on
  pub ends_read : (t : LengthChecks) (pid fd count : ℕ) → ((e : OpenFile) → behind f pid fd ≡ Some e → (x : Object) → at f.objects e.entry.object ≡ Some x
      → Ends (◌>>◌ (observe pid (join x.label e.entry.label)) (read_behind t pid e x) f) P Q) → Ends (read_fd t pid fd count f) P Q
  unfolding read_fd
  ends_read t pid fd count h = search (ending, h, r) depth 60 fits 8000

  -- and from behind its look on
  pub ends_read_behind : (t : LengthChecks) (pid : ℕ) (e : OpenFile) (x : Object) → ((q : Process) → living (at f.processes pid) ≡ Some q
      → Ends (◌>>◌ (float_entry q x e) (pass read_passed) f) P Q) → Ends (read_behind t pid e x f) P Q
  ends_read_behind t pid e x h = search (ending, h, r) depth 40 fits 8000

  -- a write, from where it affects on
  pub ends_write : (t : LengthChecks) (pid fd : ℕ) → ((e : OpenFile) → behind f pid fd ≡ Some e → (x : Object) → at f.objects e.entry.object ≡ Some x
      → (q : Process) → living (at f.processes pid) ≡ Some q
      → Ends (◌>>◌ (affect pid e.entry.object e.entry.label) (◌>>◌ (float_entry q x e) (pass write_passed)) f) P Q) → Ends (write_fd t pid fd f) P Q
  unfolding write_fd
  ends_write t pid fd h = search (ending, h, r) depth 80 fits 16000

-- where the open entry floats, and where it is a pipe's and doesn't
pub ends_floated : (P : Refusal → Frame → Type 0) (Q : Reply → Frame → Type 0) (q : Process) (x : Object) (e : OpenFile) (a : Reply) (g : Frame)
    → (not (is_pipe x) ≡ true → Q a (record g { opens = change g.opens e.id (λ y. record y { label = join y.label q.label }) })) → (not (is_pipe x) ≡ false → Q a g)
    → Ends (◌>>◌ (float_entry q x e) (pass a) g) P Q
unfolding float_entry
ends_floated P Q q x e a g file pipe =
    ends_then _ _ g P Q (ends_only_if _ _ g P _ (λ yes_. ends_change_open _ _ g P _ (ends_pass _ _ P Q (file yes_))) (λ no. ends_pass _ _ P Q (pipe no)))
