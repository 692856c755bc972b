-- A call that lets an object down is told by the last line of the log.
use Rattle.std.proofs.Common.{◌≡◌, ◌≤◌, ◌<◌, ◌+◌, ℕ, zero, suc, Bool, true, false, List, [], ◌∷◌, ◌++◌, length, Option, Some, None, option_map, if◌then◌else◌, refl, sym, ap, ◌∙◌, subst}
use Rattle.std.{proofs.{Common.arith, lemmas.Bool.not-true}, specs.{Option.option_map_or, Prelude.slice_get}}
use Rattle.ix_label.specs.Category.{Categories, leq}
use Rattle.ix_model.specs.{declared.{audit.AuditLine.AuditLine, config.{Config.Config, ObjSpec.ObjSpec}, refusal.Refusal.Refusal, reply.Reply.Reply}, history.AuditLog.audit_log}
use Rattle.ix_model.specs.{history.{AuditLog.{lines_added, line_of_act}, Events.{Op, Event}, Step.{step, step_of}}, opening.Opening.{opening_world, placed, with_object, with_objects}}
use Rattle.ix_model.specs.{opening.Opening.bare_world, rows.{Auditing.audit_line, OnLabels.set_label, Table.row, Telling.told, Walks.object_at}, world.{Naming.PathOf, World.World}}
use Rattle.ix_model.{specs.world.World.{Frame, Object, at}, proofs.words.{Ends.ends_change_object, Keeps.Holds, Lasts.decided, RowEnds.{ends_allowed, ends_movable, ends_logged}}}
use Rattle.ix_model.proofs.{tables.Tables.at_changed, words.{Answered.step_frame, Ends.{Ends, ends_kept, kept_ends, ends_bind, ends_then, ends_pass, ends_only_if, ends_object}}}
use Rattle.ix_iso.proofs.Facts.{looking_found}
use Rattle.ix_model.specs.history.Events as op
use Rattle.ix_model.specs.declared.audit.Act.TheVariants as act

-- ---- a label is set
-- the log has no line more, or one for an object that was let down
pub data Says (place pid : ℕ) (f g : Frame) : Type 0 where
  Nothing : g.log ≡ f.log → Says place pid f g
  LetDown : (o : ℕ) (x y : Object) → at f.objects o ≡ Some x → at g.objects o ≡ Some y → leq x.label y.label ≡ false
      → g.log ≡ f.log ++ audit_line place pid act.DownFile o x.label y.label ∷ [] → Says place pid f g

module _ (place pid : ℕ) (f : Frame) where
  P : Refusal → Frame → Type 0
  P r g = Says place pid f g

  Q : Reply → Frame → Type 0
  Q a g = Says place pid f g

  label_says : (path : PathOf) (now : Categories) → Ends (set_label place pid path now f) P Q
  unfolding set_label P Q
  label_says path now =
      ends_bind _ _ f P Q (ends_kept _ (object_at _ _ f) P _ ((looking_found f _ _).led f (refl, refl)) (λ why m kept. Nothing kept.1) (λ o m kept.
      ends_bind _ _ m P Q (ends_object o m P _ (λ x here.
      ends_then _ _ m P Q (ends_allowed _ _ _ m P _ (λ why. Nothing kept.1) (
      ends_then _ _ m P Q (ends_movable x _ m P _ (λ why. Nothing kept.1) (
      ends_then _ _ m P Q (ends_change_object o _ m P _ (
      ends_then _ _ _ P Q (ends_only_if _ _ _ P _
      (λ falls. ends_logged _ _ P _ (ends_pass _ _ P Q (LetDown o x _ (ap (λ t. at t o) (sym kept.0) ∙ here)
      (at_changed _ o _ ∙ ap (option_map (λ (y : Object). record y { label = now })) here) (not-true _ falls)
      (ap (λ log. log ++ audit_line place pid act.DownFile o x.label now ∷ []) kept.1))))
      (λ rises. ends_pass _ _ P Q (Nothing kept.1))))))))))
      (Nothing kept.1))))

  says_row : (path : PathOf) (now : Categories) → Holds (set_label place pid path now f) (Says place pid f)
  unfolding P Q
  says_row path now = kept_ends _ _ (label_says _ _)

pub says_step : (w : World) (place pid : ℕ) (path : PathOf) (now : Categories) → Says place pid w.frame (step w place pid (op.SetLabel path now)).world.frame
unfolding row
says_step w place pid path now =
    subst (λ g. Says place pid w.frame g) (sym (step_frame w _ _ _))
    (decided (Says place pid w.frame) (told w pid (op.SetLabel path now)) place pid (op.SetLabel path now) w.frame (Nothing refl) (says_row _ _ w.frame path now))

-- ---- no other call lets an object down
-- whether a call sets an object's label
abbrev pub sets_label : Op → Bool
sets_label (op.SetLabel path now) = true
sets_label _ = false

down_file : (f g : Frame) (place pid : ℕ) (c : Op) (line : AuditLine) → option_map_or (λ l. l ∷ []) (line_of_act f g place pid c) [] ≡ line ∷ [] → line.act ≡ act.DownFile → sets_label c ≡ true
unfolding line_of_act
down_file f g place pid (op.SetLabel path now) line is h = refl
down_file f g place pid _ line is h = cc

pub down_by_label : (w : World) (place : ℕ) (e : Event) (line : AuditLine) → lines_added w place e ≡ line ∷ [] → line.act ≡ act.DownFile → sets_label e.op ≡ true
unfolding lines_added
down_by_label w place e line is h = go _ is
  where
    go : (b : Bool) → (if b then option_map_or (λ l. l ∷ []) (line_of_act w.frame (step_of w place e).world.frame place e.pid e.op) [] else []) ≡ line ∷ [] → sets_label e.op ≡ true
    go true is = down_file _ _ _ _ _ _ is h
    go false is = cc

-- ---- places in the log
-- each line of a log has a place from one number on and before another
pub AreWithin : ℕ → ℕ → List AuditLine → Type 0
AreWithin from to [] = Unit
AreWithin from to (l ∷ log) = ((from ≤ l.place) × (l.place < to)) × AreWithin from to log

within_append : (from to : ℕ) (xs ys : List AuditLine) → AreWithin from to xs → AreWithin from to ys → AreWithin from to (xs ++ ys)
unfolding AreWithin
within_append from to [] ys a b = b
within_append from to (x ∷ xs) ys a b = (a.0, within_append _ to xs ys a.1 b)

within_more : (from low to : ℕ) (log : List AuditLine) → from ≤ low → AreWithin low to log → AreWithin from to log
unfolding AreWithin
within_more from low to [] below a = tt
within_more from low to (l ∷ log) below a = ((omega (arith, below, a.0.0), a.0.1), within_more _ _ to log below a.1)

line_place : (f g : Frame) (place pid : ℕ) (c : Op) (line : AuditLine) → line_of_act f g place pid c ≡ Some line → line.place ≡ place
unfolding line_of_act
line_place f g place pid (op.SetLabel path now) line is = cc
line_place f g place pid o line is = cc

added_within : (w : World) (place to : ℕ) (e : Event) → place < to → AreWithin place to (lines_added w place e)
unfolding lines_added AreWithin
added_within w place to e low = go _ _ refl
  where
    go : (b : Bool) (o : Option AuditLine) → line_of_act w.frame (step_of w place e).world.frame place e.pid e.op ≡ o → AreWithin place to (if b then option_map_or (λ l. l ∷ []) o [] else [])
    go false o is = tt
    go true None is = tt
    go true (Some l) is = let h = line_place _ _ _ _ _ l is in ((omega arith, omega arith), tt)

pub log_within : (w : World) (place : ℕ) (events : List Event) (to : ℕ) → length events + place ≤ to → AreWithin place to (audit_log w place events)
unfolding audit_log AreWithin
log_within w place [] to low = tt
log_within w place (e ∷ events) to low = within_append _ to _ _ (added_within w place to e (omega (arith, low)))
    (within_more place (suc place) to _ (omega arith) (log_within (step_of w place e).world _ events to (omega (arith, low))))

pub within_at : (from to : ℕ) (log : List AuditLine) (n : ℕ) (l : AuditLine) → AreWithin from to log → slice_get log n ≡ Some l → l.place < to
unfolding AreWithin
within_at from to [] n l a is = cc
within_at from to (x ∷ log) zero l a is = let e : x ≡ l = cc in subst (λ y. y.place < to) e a.0.1
within_at from to (x ∷ log) (suc n) l a is = within_at _ to log n l a.1 is

-- ---- the log of no entries
line_log : (w : World) (spec : ObjSpec) → (with_object w spec).frame.log ≡ w.frame.log
unfolding with_object
line_log w spec = go _ _ _
  where
    go : (dir k : ℕ) (free : Option ℕ) → (option_map_or (placed w spec dir k) free w).frame.log ≡ w.frame.log
    go dir k None = refl
    go dir k (Some o) = refl

lines_log : (w : World) (specs : List ObjSpec) → (with_objects w specs).frame.log ≡ w.frame.log
lines_log w [] = refl
lines_log w (spec ∷ specs) = lines_log (with_object w spec) specs ∙ line_log w _

pub opening_log : (c : Config) → (opening_world c).frame.log ≡ []
unfolding opening_world
opening_log c = lines_log (bare_world c) c.objects
