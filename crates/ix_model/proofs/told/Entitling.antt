-- Who exercises a privilege was entitled to it in the frame before.
use Rattle.std.{specs.Option.option_map_or, proofs.{Common.{◌≡◌, ℕ, true, false, not, true≢false, ◌&&◌, ◌||◌, Option, Some, refl, sym, ap, ◌∙◌}, lemmas.Bool.{and_parts, and_from}}}
use Rattle.ix_label.specs.Category.{Categories, bottom, join, leq}
use Rattle.ix_model.{specs.{world.{Naming.PathOf, Privs.has_all, World.{Frame, World, Object, Process, at, living}}, history.Step.{step, plainly, answer}}, proofs.words.OpenRows.open_row}
use Rattle.ix_model.specs.rows.{Rows.affect, Walks.{Sought, walked_to, object_at}, Auditing.{exercise, entitled, log_has_room}, Table.{row, verdict}, Telling.told}
use Rattle.ix_model.specs.rows.{Outcomes.{Outcome, Refuse, Pass}, OnDescriptors.LengthChecks, OnLabels.{needs_to_set_ceilings, allowed, movable}}
use Rattle.ix_model.specs.history.{AuditLog.{object_of_path, label_at, of_process, exercises, is_answer, is_licensed}, Events.{Op, Event}}
use Rattle.ix_model.specs.{laws.{Looked.along, Privileged.{privilege_of, is_entitled}}, declared.{privs.PrivSet.PrivSet, reply.Reply.Reply}}
use Rattle.ix_model.proofs.words.{Living.is_living, Ends.{Ends, Anything, ending, ends_bind, ends_then, ends_caller, ends_need}, Looks.ends_touch}
use Rattle.ix_model.proofs.{words.{RowEnds.{ends_logged, ends_log_has_room, ends_movable}, Answered.passed}, refused.Seeing.{Seen, seen_nothing, lived_before, ends_seen_walk}}
use Rattle.ix_model.specs.rows.Walks as sought
use Rattle.ix_model.specs.history.Events as op

-- where a call exercises a privilege its caller is entitled to it
pub record Entitles (f : Frame) (pid : ℕ) (c : Op) : Type 0 where
  pub is : exercises f pid c ≡ true → is_entitled f pid (privilege_of c) ≡ true

module _ (f : Frame) (pid : ℕ) (start : Seen pid f bottom f) where
  entitles : (c : Op) → is_entitled f pid (privilege_of c) ≡ true → Entitles f pid c
  entitles c h = search

  exercises_none : (c : Op) → exercises f pid c ≡ false → Entitles f pid c
  exercises_none c h = record { is = λ k. absurd (true≢false (sym k ∙ h)) }

  -- the caller's privileges are as they were before the looks
  entitled_before : (s : Categories) (g : Frame) (p : Process) (x : PrivSet) → Seen pid f s g → living (at g.processes pid) ≡ Some p → has_all p.cap x ≡ true
      → (has_all p.lic x || has_all p.own x) ≡ true → is_entitled f pid x ≡ true
  entitled_before s g p x r lives cap lic =
      let b = lived_before _ f s g p r lives in
      let cap_was = ap (λ q. has_all q.cap x) (sym b.is) ∙ cap in
      let lic_was = ap (λ q. has_all q.lic x || has_all q.own x) (sym b.is) ∙ lic in
      ap (λ o. option_map_or (λ q. has_all q.cap x && (has_all q.lic x || has_all q.own x)) o false) b.lived ∙ and_from _ _ cap_was lic_was

  is_entitled_here : (x : PrivSet) (s : Categories) (g : Frame) (Q : Unit {0} → Frame → Type 0) → Seen pid f s g → (is_entitled f pid x ≡ true → Q tt g) → Ends (entitled pid x g) Anything Q
  unfolding entitled
  is_entitled_here x s g Q r next =
      ends_bind _ _ g _ Q (ends_caller _ g _ _ (λ p lives.
      ends_then _ _ g _ Q (ends_need _ _ g _ _ (λ cap.
      ends_need _ _ g _ Q (λ lic. next (entitled_before s g p x r lives cap lic)) tt) tt)) tt)

  exercises_here : (x : PrivSet) (s : Categories) (g : Frame) (Q : Unit {0} → Frame → Type 0) → Seen pid f s g → (is_entitled f pid x ≡ true → Q tt g) → Ends (exercise pid x g) Anything Q
  unfolding exercise
  exercises_here x s g Q r next = ends_then _ _ g _ Q (is_entitled_here x s g _ r (λ yes. ends_log_has_room g _ Q (λ r. tt) (next yes)))

  -- a walk and where it leads
  leads_here : (path : PathOf) (Q : Sought → Frame → Type 0) → ((w : Sought) (h : Frame) → Seen pid f (join bottom (along f pid path)) h
      → ((o : ℕ) (dir : Option ℕ) → w ≡ sought.Found o dir → object_of_path f pid path ≡ Some o) → Q w h) → Ends (walked_to pid path f) Anything Q
  leads_here path Q next = ends_seen_walk _ f _ _ f _ Q start (λ r h k. tt) next

  touches : (o : ℕ) (l : Categories) (g : Frame) (Q : Unit {0} → Frame → Type 0) → ((h : Frame) → Q tt h) → Ends (affect pid o l g) Anything Q
  touches o l g Q next = ends_touch pid o l g Anything Q (λ r. tt) next

  moves : (x : Object) (now : Categories) (g : Frame) (Q : Unit {0} → Frame → Type 0) → Q tt g → Ends (movable x now g) Anything Q
  moves x now g Q next = ends_movable x _ g _ Q (λ r. tt) next

  ruleset entitling = (ending, ends_logged, is_entitled_here, exercises_here, leads_here, touches, moves, entitles)

  -- a label or a ceiling that needs no privilege
  self_quiet : (now : Categories) (p : Process) → living (at f.processes pid) ≡ Some p → not (leq p.label now) ≡ false → Entitles f pid (op.SetSelf now)
  unfolding exercises of_process
  self_quiet now p lives stays = exercises_none _ (rw (is_living (at f.processes pid) p lives) stays)

  ceiling_quiet : (target : ℕ) (now : Categories) (q : Process) → living (at f.processes target) ≡ Some q → needs_to_set_ceilings pid target q now ≡ false → Entitles f pid (op.SetCeiling target now)
  unfolding exercises of_process
  ceiling_quiet target now q lives free = exercises_none _ (rw (is_living (at f.processes target) q lives) free)

  label_quiet : (path : PathOf) (now s : Categories) (g : Frame) (o : ℕ) (x : Object) → Seen pid f s g → object_of_path f pid path ≡ Some o
      → at g.objects o ≡ Some x → not (leq x.label now) ≡ false → Entitles f pid (op.SetLabel path now)
  unfolding exercises label_at
  label_quiet path now s g o x r leads is stays =
      let here = sym (ap (λ h. at h.objects o) r.is) ∙ is in
      exercises_none _ (rw (leads, here) stays)

  always : (c : Op) (o : Outcome Reply) → Entitles f pid c → Ends o Anything (λ a g. Entitles f pid c)
  unfolding Ends
  always c (Refuse why g) h = tt
  always c (Pass a g) h = h

  -- ---- the table
  ruleset licensing = (entitling, self_quiet, ceiling_quiet, label_quiet)

  row_entitles : (t : LengthChecks) (place : ℕ) (c : Op) → Ends (row t place pid c f) Anything (λ a g. Entitles f pid c)
  unfolding open_row exercises log_has_room object_at allowed Ends
  row_entitles t place (op.Thaw path) = search licensing depth 80 fits 16000
  row_entitles t place op.ThawSelf = search licensing depth 80 fits 16000
  row_entitles t place (op.SetPriv path caps lics) = search licensing depth 80 fits 16000
  row_entitles t place (op.GrantLic target some) = search licensing depth 80 fits 16000
  row_entitles t place (op.ReadLog index) = search licensing depth 80 fits 16000
  row_entitles t place (op.SetSelf now) = search licensing depth 80 fits 16000
  row_entitles t place (op.SetCeiling target now) = search licensing depth 80 fits 16000
  row_entitles t place (op.SetLabel path now) = search licensing depth 80 fits 16000
  row_entitles t place c = always c _ (exercises_none c refl)

-- ---- the step
decided_entitles : (w : World) (place pid : ℕ) (c : Op) → is_answer (verdict (told w pid c) place pid c w.frame).reply ≡ true → Entitles w.frame pid c
decided_entitles w place pid c h =
    passed _ _ _ c _ _ (row_entitles _ _ (seen_nothing _ _) (told w _ c) place c) h

step_entitles : (w : World) (place pid : ℕ) (c : Op) → is_answer (step w place pid c).reply ≡ true → Entitles w.frame pid c
unfolding step answer plainly exercises
step_entitles w place pid (op.SetLabel path now) h = decided_entitles w _ _ _ h
step_entitles w place pid (op.SetSelf now) h = decided_entitles w _ _ _ h
step_entitles w place pid (op.Thaw path) h = decided_entitles w _ _ _ h
step_entitles w place pid op.ThawSelf h = decided_entitles w _ _ _ h
step_entitles w place pid (op.SetPriv path caps lics) h = decided_entitles w _ _ _ h
step_entitles w place pid (op.GrantLic target some) h = decided_entitles w _ _ _ h
step_entitles w place pid (op.SetCeiling target now) h = decided_entitles w _ _ _ h
step_entitles w place pid (op.ReadLog index) h = decided_entitles w _ _ _ h
step_entitles w place pid c h = record { is = λ k. absurd (true≢false (sym k)) }

pub entitled_entry : (w : World) (place : ℕ) (e : Event) → is_licensed w place e ≡ true → is_entitled w.frame e.pid (privilege_of e.op) ≡ true
unfolding is_licensed
entitled_entry w place e h =
    let both = and_parts _ _ h in
    (step_entitles w _ _ _ both.0).is both.1
