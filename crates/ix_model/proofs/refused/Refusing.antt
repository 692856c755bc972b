-- What a refusal leaves: the world but for the caller's label.
use Rattle.std.proofs.Common.{◌≡◌, ℕ, Bool, true, false, not, ◌&&◌, true≢false, List, Option, Some, None, refl, sym, ap, ◌∙◌, subst, if◌then◌else◌}
use Rattle.ix_label.specs.Category.{Categories, bottom, join}
use Rattle.ix_model.specs.{world.{Naming.PathOf, World.{Frame, World, Process, at, change, lives}, Contents.carried}, rows.Refusals.keeps_label, history.{AuditLog.is_answer, Events.Op}}
use Rattle.ix_model.specs.{rows.{Outcomes.{Row, Outcome, Refuse, Pass}, Rows.observe}, declared.{reply.Reply.Reply, refusal.Refusal.Refusal}, history.Step.is_whole}
use Rattle.ix_model.specs.rows.{Walks.{Sought, OpenFile, object_at, spot_at, missing, walked_to}, Table.{Decision, verdict, settled, row}, OnDescriptors.{LengthChecks, claimed}}
use Rattle.ix_model.specs.history.Step.{plainly, read_answer, write_answer, cut_answer, seek_answer, stat_answer, exit_answer, wait_answer, pex_answer, answer}
use Rattle.ix_model.proofs.{words.{OpenRows.open_row, Keeps.{Keeps, keeping}, Ends.{Ends, ending, ends_more, ends_kept, kept_ends}}, tables.Tables.{change_same, change_twice}}
use Rattle.ix_model.proofs.words.{RowEnds.{endings, ends_let_go_object, ends_let_go, ends_let_go_all}, Looks.{ends_observe, ends_touch, ends_float_entry}}
use Rattle.ix_model.specs.history.Events as op
use Rattle.ix_model.specs.declared.reply.Kind.TheVariants as kind
use Rattle.ix_model.specs.declared.reply.Reply.TheVariants as reply
use Rattle.ix_model.specs.declared.refusal.Refusal.TheVariants as refusal

-- ---- a frame that differs in the caller's label alone
pub record Relabelled (pid : ℕ) (f g : Frame) : Type 0 where
  pub label : Categories
  pub is : g ≡ record f { processes = change f.processes pid (λ p. record p { label = label }) }

pub relabelled_itself : (pid : ℕ) (f : Frame) → Relabelled pid f f
relabelled_itself pid f = go _ refl
  where
    to : Categories → (Process → Process)
    to l p = record p { label = l }

    go : (o : Option Process) → at f.processes pid ≡ o → Relabelled pid f f
    go None is = record { label = bottom; is = ap (λ t. record f { processes = t }) (sym (change_same _ _ _ (λ x here. let e = sym is ∙ here in cc))) }
    go (Some p) is = record {
      label = p.label;
      is = ap (λ t. record f { processes = t }) (sym (change_same _ _ _ (λ x here.
          let e = sym is ∙ here in
          let same : p ≡ x = cc in
          ap (λ y. record x { label = y.label }) same)));
    }

pub relabelled_more : (pid : ℕ) (seen : Categories) (f g : Frame) → Relabelled pid f g
    → Relabelled pid f (record g { processes = change g.processes pid (λ p. record p { label = join p.label seen }) })
relabelled_more pid seen f g r =
    let to : Process → Process = λ p. record p { label = r.label } in
    let joined : Process → Process = λ p. record p { label = join p.label seen } in
    record {
      label = join r.label seen;
      is = ap (λ h. let k : Frame = record h { processes = change h.processes pid joined } in
          k) r.is ∙ ap (λ t. let k : Frame = record f { processes = t } in k) (change_twice _ _ to _);
    }

-- an answer without bytes
abbrev pub is_bare : Reply → Bool
is_bare (reply.No r) = false
is_bare (reply.Bytes k) = false
is_bare _ = true

bare_answers : (a : Reply) → is_bare a ≡ true → is_answer a ≡ true
bare_answers (reply.No r) h = cc
bare_answers _ h = refl

-- where a row refuses the caller's label alone may have changed, and where it passes its answer has that
abbrev pub Relabels : (Reply → Bool) → ℕ → Frame → Outcome Reply → Type 0
Relabels has pid f o = Ends o (λ r g. Relabelled pid f g) (λ a g. has a ≡ true)

-- a read alone answers bytes
abbrev pub answer_of : Op → Reply → Bool
answer_of (op.ReadFd fd count) = is_answer
answer_of _ = is_bare

-- what a claim is answered is an answer, and changes nothing
ends_claimed : (other : Option ℕ) (f : Frame) (P : Refusal → Frame → Type 0) (Q : Reply → Frame → Type 0) → P refusal.NoProcess f
    → ((a : Reply) → is_bare a ≡ true → Q a f) → Ends (claimed other f) P Q
unfolding claimed
ends_claimed None f P Q h k = search (ending, k) depth 20
ends_claimed (Some q) f P Q h k = search (ending, h, k) depth 20

module _ (pid : ℕ) (f : Frame) where
  pub relabelled_observe : (seen : Categories) → Keeps (Relabelled pid f) (observe pid seen)
  relabelled_observe seen =
      record {
        led = λ g r. kept_ends _ (observe pid seen g) (ends_observe _ _ g _ _
            (λ why. r) r (λ p lives low. relabelled_more _ _ f g r));
      }

  relabelled_walked_to : (path : PathOf) → Keeps (Relabelled pid f) (walked_to pid path)
  unfolding walked_to
  relabelled_walked_to path = search (keeping, relabelled_observe) depth 30

  -- ---- the words
  -- what a row keeps is known where it ends
  looked : {A : Type 0} (m : Row A) (g : Frame) (P : Refusal → Frame → Type 0) (Q : A → Frame → Type 0) → Keeps (Relabelled pid f) m → Relabelled pid f g
      → ((r : Refusal) (h : Frame) → Relabelled pid f h → P r h) → ((a : A) (h : Frame) → Relabelled pid f h → Q a h) → Ends (m g) P Q
  looked m g P Q keeps here h k = ends_kept _ (m g) P Q (keeps.led g here) h k

  ends_look : (seen : Categories) (g : Frame) (P : Refusal → Frame → Type 0) (Q : Unit {0} → Frame → Type 0) → Relabelled pid f g
      → ((r : Refusal) (h : Frame) → Relabelled pid f h → P r h) → ((u : Unit {0}) (h : Frame) → Relabelled pid f h → Q u h) → Ends (observe pid seen g) P Q
  ends_look seen g P Q here h k = looked (observe pid seen) g P Q (relabelled_observe _) here h k

  ends_walked_to : (path : PathOf) (g : Frame) (P : Refusal → Frame → Type 0) (Q : Sought → Frame → Type 0) → Relabelled pid f g
      → ((r : Refusal) (h : Frame) → Relabelled pid f h → P r h) → ((w : Sought) (h : Frame) → Relabelled pid f h → Q w h) → Ends (walked_to pid path g) P Q
  ends_walked_to path g P Q here h k = looked (walked_to pid path) g P Q (relabelled_walked_to _) here h k

  -- ---- the rows
  ruleset refusing = (endings, ends_look, ends_walked_to, ends_touch, ends_float_entry, ends_claimed, ends_let_go_object, ends_let_go, ends_let_go_all, relabelled_itself)

  pub relabels_row : (t : LengthChecks) (place : ℕ) (c : Op) → Relabels (answer_of c) pid f (row t place pid c f)
  unfolding open_row missing spot_at object_at
  relabels_row t place op.MakePipe = search refusing depth 80 fits 16000
  relabels_row t place c = search refusing depth 80 fits 16000

answers_of : (c : Op) (a : Reply) → answer_of c a ≡ true → is_answer a ≡ true
answers_of (op.ReadFd fd count) a h = h
answers_of c a h = bare_answers a h

-- no row passes a refusal
pub refusing_row : (t : LengthChecks) (place pid : ℕ) (c : Op) (f : Frame) → Relabels is_answer pid f (row t place pid c f)
refusing_row t place pid c f = ends_more (row t place pid c f) _ _ _
    (relabels_row _ f t place c) (λ a g h. answers_of c a h)

-- ---- the decision
-- what a refusing decision leaves of the frame
pub record Frames (pid : ℕ) (f : Frame) (r : Refusal) (g : Frame) : Type 0 where
  pub relabelled : Relabelled pid f g
  pub kept : keeps_label r ≡ false → g ≡ f

frames_of : (pid : ℕ) (f g : Frame) (r : Refusal) → Relabelled pid f g → Frames pid f r (if keeps_label r then g else f)
frames_of pid f g r h = go _ refl
  where
    go : (b : Bool) → keeps_label r ≡ b → Frames pid f r (if b then g else f)
    go true keeps = record { relabelled = h; kept = λ k. absurd (true≢false (sym keeps ∙ k)) }
    go false keeps = record { relabelled = relabelled_itself _ f; kept = λ k. refl }

settled_frames : (pid : ℕ) (f : Frame) (o : Outcome Reply) (r : Refusal) → Relabels is_answer pid f o → (settled f o).reply ≡ reply.No r → Frames pid f r (settled f o).frame
unfolding Ends
settled_frames pid f (Refuse why g) r h is =
    let same : why ≡ r = cc in
    subst (λ x. Frames pid f x (if keeps_label why then g else f)) same (frames_of _ f g _ h)
settled_frames pid f (Pass a g) r h is = absurd (true≢false (sym h ∙ ap is_answer is))

pub decided_frames : (t : LengthChecks) (place pid : ℕ) (c : Op) (f : Frame) (r : Refusal) → (verdict t place pid c f).reply ≡ reply.No r → Frames pid f r (verdict t place pid c f).frame
unfolding verdict
decided_frames t place pid c f r is = go _ is
  where
    unknown : Decision
    unknown = record { reply = reply.No refusal.NoProcess; frame = f }

    go : (b : Bool) → (if b then settled f (row t place pid c f) else unknown).reply ≡ reply.No r → Frames pid f r (if b then settled f (row t place pid c f) else unknown).frame
    go true h = settled_frames _ f (row t place pid c f) r (refusing_row t _ _ c f) h
    go false h = record { relabelled = relabelled_itself _ f; kept = λ k. refl }

-- ---- the step
-- a refused answer is a plain one
pub record Plain (w : World) (d : Decision) (r : Refusal) (v : World) : Type 0 where
  pub world : v ≡ record { frame = d.frame; content = carried w.frame d.frame w.content }
  pub reply : d.reply ≡ reply.No r

plain_read : (w : World) (count : ℕ) (b : Option OpenFile) (a : Reply) (g : Frame) (r : Refusal) → (read_answer w count b a g).reply ≡ reply.No r
    → Plain w (record { reply = a; frame = g }) r (read_answer w count b a g).world
unfolding read_answer plainly
plain_read w count (Some e) (reply.Bytes k) g r is = cc
plain_read w count _ _ g r is = search

plain_write : (w : World) (new : List ℕ) (b : Option OpenFile) (a : Reply) (g : Frame) (r : Refusal) → (write_answer w new b a g).reply ≡ reply.No r
    → Plain w (record { reply = a; frame = g }) r (write_answer w new b a g).world
unfolding write_answer plainly
plain_write w new (Some e) (reply.Number k) g r is = cc
plain_write w new _ _ g r is = search

plain_cut : (w : World) (len : ℕ) (b : Option OpenFile) (a : Reply) (g : Frame) (r : Refusal) → (cut_answer w len b a g).reply ≡ reply.No r
    → Plain w (record { reply = a; frame = g }) r (cut_answer w len b a g).world
unfolding cut_answer plainly
plain_cut w len (Some e) reply.Done g r is = cc
plain_cut w len _ _ g r is = search

plain_seek : (w : World) (offset : ℕ) (b : Option OpenFile) (a : Reply) (g : Frame) (r : Refusal) → (seek_answer w offset b a g).reply ≡ reply.No r
    → Plain w (record { reply = a; frame = g }) r (seek_answer w offset b a g).world
unfolding seek_answer plainly
plain_seek w offset (Some e) reply.Done g r is = cc
plain_seek w offset _ _ g r is = search

plain_stat : (w : World) (a : Reply) (g : Frame) (r : Refusal) → (stat_answer w a g).reply ≡ reply.No r → Plain w (record { reply = a; frame = g }) r (stat_answer w a g).world
unfolding stat_answer plainly
plain_stat w (reply.Stat o kind.File size links frozen cap lic) g r is = cc
plain_stat w a g r is = search

plain_exit : (w : World) (pid status : ℕ) (a : Reply) (g : Frame) (r : Refusal) → (exit_answer w pid status a g).reply ≡ reply.No r
    → Plain w (record { reply = a; frame = g }) r (exit_answer w pid status a g).world
unfolding exit_answer plainly
plain_exit w pid status reply.Done g r is = cc
plain_exit w pid status _ g r is = search

plain_wait : (w : World) (a : Reply) (g : Frame) (r : Refusal) → (wait_answer w a g).reply ≡ reply.No r → Plain w (record { reply = a; frame = g }) r (wait_answer w a g).world
unfolding wait_answer plainly
plain_wait w (reply.Child p status) g r is = cc
plain_wait w a g r is = search

and_not : (b : Bool) → (b && not b) ≡ false
and_not true = refl
and_not false = refl

-- a path is whole where it was, so nothing is emptied
plain_pex : (w : World) (b : Option OpenFile) (a : Reply) (g : Frame) (r : Refusal) → g.objects ≡ w.frame.objects → a ≡ reply.No r
    → Plain w (record { reply = a; frame = g }) r (pex_answer w b a g).world
unfolding pex_answer plainly
plain_pex w None a g r same is = search
plain_pex w (Some e) a g r same is =
    let stays =
    ap (λ t. is_whole (record g { objects = t }) e.entry.object && not (is_whole w.frame e.entry.object)) same
    ∙ and_not (is_whole w.frame e.entry.object) in
    record { world = rw stays refl; reply = is }

pex_reply : (w : World) (b : Option OpenFile) (a : Reply) (g : Frame) → (pex_answer w b a g).reply ≡ a
unfolding pex_answer plainly
pex_reply w None a g = refl
pex_reply w (Some e) a g = refl

pub plain_answer : (w : World) (pid : ℕ) (c : Op) (d : Decision) (r : Refusal) → (d.reply ≡ reply.No r → d.frame.objects ≡ w.frame.objects)
    → (answer w pid c d).reply ≡ reply.No r → Plain w d r (answer w pid c d).world
unfolding answer plainly
plain_answer w pid (op.ReadFd fd count) d r same is = plain_read w _ _ _ _ r is
plain_answer w pid (op.WriteFd fd bytes) d r same is = plain_write w _ _ _ _ r is
plain_answer w pid (op.CutFd fd len) d r same is = plain_cut w _ _ _ _ r is
plain_answer w pid (op.SeekFd fd offset) d r same is = plain_seek w _ _ _ _ r is
plain_answer w pid (op.StatAt path) d r same is = plain_stat w _ _ r is
plain_answer w pid (op.Exit status) d r same is = plain_exit w _ _ _ _ r is
plain_answer w pid op.WaitChild d r same is = plain_wait w _ _ r is
plain_answer w pid (op.Pex fd) d r same is =
    let refused = sym (pex_reply w _ _ _) ∙ is in
    plain_pex w _ _ _ r (same refused) refused
plain_answer w pid _ d r same is = search
