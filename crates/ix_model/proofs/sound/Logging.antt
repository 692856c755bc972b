-- The rows that log, that set labels and ceilings, and that move a process leave a sound frame.
use Rattle.std.proofs.Common.{◌≡◌, ℕ, Bool, true, false, true≢false, not, nat_lt, [], ◌∷◌, ◌++◌, Some, length, length-append, refl, sym, ap, ◌∙◌, subst, arith, inl, inr}
use Rattle.std.{specs.Option.option_map_or, proofs.lemmas.Bool.{ltb-true, not-false}}
use Rattle.ix_label.specs.{Category.{Categories, leq, same, bottom}, Lattice.same-decides}
use Rattle.ix_model.specs.{world.{Naming.PathOf, World.{Frame, Object, Process, at, change, living, is_dir, ceiling_of}}, rows.OnLabels.read_log}
use Rattle.ix_model.specs.rows.{Outcomes.{Row, Outcome, Refuse, Pass}, Rows.{◌>>◌, pass, need, change_process, only_if, affect}, OnPaths.change_dir}
use Rattle.ix_model.{specs.rows.Auditing.{entitled, log_has_room, exercise, logged, audit_line}, proofs.{tables.{Finds.at_change, Labels.labels_process}, sound.Steadily.follows_found}}
use Rattle.ix_model.specs.declared.{audit.AuditLine.AuditLine, privs.PrivSet.PrivSet, refusal.Refusal.Refusal, reply.Reply.Reply}
use Rattle.ix_model.specs.rows.OnLabels.{allowed, movable, set_label, set_self, thaw, thaw_self, set_priv, grant_lic, needs_to_set_ceilings, set_ceiling}
use Rattle.ix_model.proofs.words.{Living.{is_living, not_ended, lives_as}, Keeps.{Holds, Keeps}, RowEnds.{ends_entitled, ends_logged}, Looks.ends_affect}
use Rattle.ix_model.proofs.frames.{Floats.{floats_itself, floats_process}, Frames.{Follows, follows_affect, followed_object, followed_process}}
use Rattle.ix_model.proofs.words.Ends.{Ends, ending, ends_kept, kept_ends, ends_bind, ends_then, ends_pass, ends_frame, ends_need, ends_some, ends_only_if}
use Rattle.ix_model.proofs.words.Ends.{ends_caller, ends_object, ends_change_object, ends_change_caller}
use Rattle.ix_model.proofs.frames.Floated.{names_floated, lives_floated, opens_floated, processes_moved, claims_floated, limits_floated}
use Rattle.ix_model.specs.declared.audit.Act.TheVariants as act
use Rattle.ix_model.specs.declared.refusal.Refusal.TheVariants as refusal
use Rattle.ix_model.specs.declared.reply.Reply.TheVariants as reply

-- the log takes one line more
abbrev pub HasRoom : Frame → Type 0
HasRoom f = nat_lt (length f.log) f.limits.log ≡ true

room_exercise : (pid : ℕ) (x : PrivSet) (f : Frame) (P : Refusal → Frame → Type 0) (Q : Unit {0} → Frame → Type 0) → (HasRoom f → Q tt f) → ((r : Refusal) → P r f) → Ends (exercise pid x f) P Q
unfolding exercise entitled log_has_room
room_exercise pid x f P Q h k = search (ending, h, k) depth 30

room_log : (f : Frame) (P : Refusal → Frame → Type 0) (Q : Unit {0} → Frame → Type 0) → (HasRoom f → Q tt f) → ((r : Refusal) → P r f) → Ends (log_has_room f) P Q
unfolding log_has_room
room_log f P Q h k = search (ending, h, k) depth 30

room_allowed : (pid : ℕ) (was now : Categories) (f : Frame) (P : Refusal → Frame → Type 0) (Q : Unit {0} → Frame → Type 0)
    → ((not (leq was now) ≡ true → HasRoom f) → Q tt f) → ((r : Refusal) → P r f) → Ends (allowed pid was now f) P Q
unfolding allowed
room_allowed pid was now f P Q h k =
    let second =
    ends_only_if _ _ f P Q (λ yes. room_exercise _ _ f P Q (λ room. h (λ again. room)) k) (λ no. h (λ yes. absurd (true≢false (sym yes ∙ no)))) in
    ends_bind _ _ f P Q (ends_caller _ f P _ (λ p lives.
    ends_then _ _ f P Q (ends_only_if _ _ f P _ (λ yes. ends_need _ _ f P _ (λ low. second) (k _)) (λ no. second))) (k _))

fits_movable : (x : Object) (now : Categories) (f : Frame) (P : Refusal → Frame → Type 0) (Q : Unit {0} → Frame → Type 0)
    → leq x.label (ceiling_of f.fss x) ≡ true → (leq now (ceiling_of f.fss x) ≡ true → Q tt f) → ((r : Refusal) → P r f) → Ends (movable x now f) P Q
unfolding movable
fits_movable x now f P Q fits h k =
    ends_bind _ _ f P Q (ends_frame f P _ (ends_only_if _ _ f P Q
    (λ other. ends_then _ _ f P Q (ends_need _ _ f P _ (λ free. ends_need _ _ f P Q h (k _)) (k _)))
    (λ no. h (subst (λ l. leq l (ceiling_of f.fss x) ≡ true) ((same-decides _ _).0 (not-false _ no)) fits))))

pub holds_both : {A : Type 0} (R S : Frame → Type 0) (o : Outcome A) → Holds o R → Holds o S → Holds o (λ g. R g × S g)
unfolding Holds
holds_both R S (Refuse r g) h k = (h, k)
holds_both R S (Pass a g) h k = (h, k)

module _ (f : Frame) where
  abbrev pub Refused : Refusal → Frame → Type 0
  Refused r g = Follows f g

  abbrev pub Passed : {A : Type 0} → A → Frame → Type 0
  Passed a g = Follows f g

  follows_logged : (g : Frame) (l : AuditLine) → HasRoom g → Follows f g → Follows f (record g { log = g.log ++ l ∷ [] })
  follows_logged g l room s =
      let low = ltb-true _ g.limits.log room in
      let n = s.sound.names in let v = s.sound.lives in let o = s.sound.opens in let p = s.sound.processes in let w = s.sound.limits in
      record {
        sound = record {
          labels = search;
          names = search;
          lives = search;
          opens = search;
          processes = search;
          claims = search;
          limits = record {
            objects = w.objects;
            pipes = w.pipes;
            past = w.past;
            numbers = w.numbers;
            opens = w.opens;
            processes = w.processes;
            names =
                w.names;
            log = omega (arith, length-append g.log (l ∷ []), low);
          };
        };
        kinds = s.kinds;
      }

  ends_logged_if : (b : Bool) (l : AuditLine) (g : Frame) → (b ≡ true → HasRoom g) → Follows f g → (a : Reply) → Ends (◌>>◌ (only_if b (logged l)) (pass a) g) Refused Passed
  ends_logged_if b l g room s a =
      ends_then _ _ g _ _ (ends_only_if b _ g _ _
      (λ yes. ends_logged l g _ _ (ends_pass a _ _ _ (follows_logged g l (room yes) s)))
      (λ no. ends_pass a g _ _ s))

  ends_logged_last : (l : AuditLine) (g : Frame) → HasRoom g → Follows f g → (a : Reply) → Ends (◌>>◌ (logged l) (pass a) g) Refused Passed
  ends_logged_last l g room s a = ends_then _ _ g _ _ (ends_logged l g _ _ (ends_pass a _ _ _ (follows_logged g l room s)))

  -- what a row keeps, and what is done next
  pub ends_next : {A : Type 0} (m : Row A) (g : Frame) (Q : A → Frame → Type 0) → Keeps (Follows f) m → Follows f g → ((a : A) (h : Frame) → Follows f h → Q a h) → Ends (m g) Refused Q
  ends_next m g Q keeps s next = ends_kept _ (m g) _ Q (keeps.led g s) (λ r h k. k) next

  -- the object's label is that
  labelled : (g : Frame) (o : ℕ) (x : Object) (now : Categories) → at g.objects o ≡ Some x → leq now (ceiling_of g.fss x) ≡ true → Follows f g
      → Follows f (record g { objects = change g.objects o (λ y. record y { label = now }) })
  labelled g o x now is low s = followed_object f g o _ (λ y. refl) (λ y. refl) (λ y here.
      let e : Some x ≡ Some y = sym is ∙ here in
      let one : x ≡ y = cc in
      subst (λ (z : Object). leq now (ceiling_of g.fss z) ≡ true) one low) s

  pub set_label_ends : (place pid : ℕ) (path : PathOf) (now : Categories) (g : Frame) → Follows f g → Ends (set_label place pid path now g) Refused Passed
  unfolding set_label
  set_label_ends place pid path now g s =
      ends_bind _ _ g Refused Passed (ends_next _ g _ (follows_found f pid path) s (λ o m r.
      ends_bind _ _ m Refused Passed (ends_object o m Refused _ (λ x is.
      ends_then _ _ m Refused Passed (room_allowed pid x.label now m Refused _ (λ room.
      ends_then _ _ m Refused Passed (fits_movable x now m Refused _ (r.sound.labels.objects o x is) (λ low.
      ends_then _ _ m Refused Passed (ends_change_object o _ m Refused _ (
      ends_logged_if _ _ _ room (labelled m o x now is low r) _)))
      (λ why. r))) (λ why. r))) r)))

  -- the process's label is that
  process_labelled : (g : Frame) (pid : ℕ) (p : Process) (now : Categories) → living (at g.processes pid) ≡ Some p → leq now p.ceiling ≡ true → Follows f g
      → Follows f (record g { processes = change g.processes pid (λ q. record q { label = now }) })
  process_labelled g pid p now lives low s = followed_process f g pid _ (λ q. refl) (λ q. refl) (λ q here.
      let e : Some p ≡ Some q = sym (is_living _ p lives) ∙ here in
      let one : p ≡ q = cc in
      subst (λ (y : Process). leq now y.ceiling ≡ true) one low) s

  pub set_self_ends : (place pid : ℕ) (now : Categories) (g : Frame) → Follows f g → Ends (set_self place pid now g) Refused Passed
  unfolding set_self
  set_self_ends place pid now g s =
      ends_bind _ _ g Refused Passed (ends_caller pid g Refused _ (λ p lives.
      let low_again : not (same p.label now) ≡ false → leq now p.ceiling ≡ true =
      λ no. subst (λ (l : Categories). leq l p.ceiling ≡ true) ((same-decides p.label now).0 (not-false _ no))
      (s.sound.labels.processes pid p (is_living _ p lives)) in
      let last : (not (leq p.label now) ≡ true → HasRoom g) → leq now p.ceiling ≡ true
      → Ends (◌>>◌ (change_process pid (λ q. record q { label = now }))
      (◌>>◌ (only_if (not (leq p.label now)) (logged (audit_line place pid act.DownSelf pid p.label now))) (pass reply.Done)) g) Refused Passed =
      λ room low. ends_then _ _ g Refused Passed (ends_change_caller pid _ g Refused _ (ends_logged_if _ _ _ room (process_labelled g pid p now lives low s) _)) in
      let second : (not (leq p.label now) ≡ true → HasRoom g)
      → Ends (◌>>◌ (only_if (not (same p.label now)) (◌>>◌ (need (not p.frozen) refusal.ProcFrozen) (need (leq now p.ceiling) refusal.ProcCeiling)))
      (◌>>◌ (change_process pid (λ q. record q { label = now }))
      (◌>>◌ (only_if (not (leq p.label now)) (logged (audit_line place pid act.DownSelf pid p.label now))) (pass reply.Done))) g) Refused Passed =
      λ room. ends_then _ _ g Refused Passed (ends_only_if _ _ g Refused _
      (λ other. ends_then _ _ g Refused _ (ends_need _ _ g Refused _ (λ free. ends_need _ _ g Refused _ (λ low. last room low) s) s))
      (λ no. last room (low_again no))) in
      ends_then _ _ g Refused Passed (ends_only_if _ _ g Refused _
      (λ yes. room_exercise pid _ g Refused _ (λ room. second (λ again. room)) (λ why. s))
      (λ no. second (λ yes. absurd (true≢false (sym yes ∙ no)))))) s)

  pub thaw_ends : (place pid : ℕ) (path : PathOf) (g : Frame) → Follows f g → Ends (thaw place pid path g) Refused Passed
  unfolding thaw
  thaw_ends place pid path g s =
      ends_bind _ _ g Refused Passed (ends_next _ g _ (follows_found f pid path) s (λ o m r.
      ends_bind _ _ m Refused Passed (ends_object o m Refused _ (λ x is.
      ends_then _ _ m Refused Passed (room_exercise pid _ m Refused _ (λ room.
      ends_then _ _ m Refused Passed (ends_change_object o _ m Refused _ (
      ends_logged_last _ _ room (followed_object f m o _ (λ y. refl) (λ y. refl) (λ y here. r.sound.labels.objects o y here) r) _)))
      (λ why. r))) r)))

  pub thaw_self_ends : (place pid : ℕ) (g : Frame) → Follows f g → Ends (thaw_self place pid g) Refused Passed
  unfolding thaw_self
  thaw_self_ends place pid g s =
      ends_bind _ _ g Refused Passed (ends_caller pid g Refused _ (λ p lives.
      ends_then _ _ g Refused Passed (room_exercise pid _ g Refused _ (λ room.
      ends_then _ _ g Refused Passed (ends_change_caller pid _ g Refused _ (
      ends_logged_last _ _ room (followed_process f g pid _ (λ q. refl) (λ q. refl) (λ q here. s.sound.labels.processes pid q here) s) _)))
      (λ why. s))) s)

  pub grant_lic_ends : (place pid target : ℕ) (set : PrivSet) (g : Frame) → Follows f g → Ends (grant_lic place pid target set g) Refused Passed
  unfolding grant_lic
  grant_lic_ends place pid target set g s =
      ends_bind _ _ g Refused Passed (ends_caller target g Refused _ (λ p lives.
      ends_then _ _ g Refused Passed (room_exercise pid _ g Refused _ (λ room.
      ends_then _ _ g Refused Passed (ends_change_caller target _ g Refused _ (
      ends_logged_last _ _ room (followed_process f g target _ (λ q. refl) (λ q. refl) (λ q here. s.sound.labels.processes target q here) s) _)))
      (λ why. s))) s)

  -- the ceiling of a process is that, and not below its label
  process_bounded : (g : Frame) (target : ℕ) (p : Process) (now : Categories) → living (at g.processes target) ≡ Some p → leq p.label now ≡ true → Follows f g
      → Follows f (record g { processes = change g.processes target (λ q. record q { ceiling = now }) })
  process_bounded g target p now lives low s = followed_process f g target _ (λ q. refl) (λ q. refl) (λ q here.
      let e : Some p ≡ Some q = sym (is_living _ p lives) ∙ here in
      let one : p ≡ q = cc in
      subst (λ (y : Process). leq y.label now ≡ true) one low) s

  pub set_ceiling_ends : (place pid target : ℕ) (now : Categories) (g : Frame) → Follows f g → Ends (set_ceiling place pid target now g) Refused Passed
  unfolding set_ceiling
  set_ceiling_ends place pid target now g s =
      ends_bind _ _ g Refused Passed (ends_caller target g Refused _ (λ p lives.
      ends_then _ _ g Refused Passed (ends_need _ _ g Refused _ (λ low.
      let last : (needs_to_set_ceilings pid target p now ≡ true → HasRoom g)
      → Ends (◌>>◌ (change_process target (λ q. record q { ceiling = now }))
      (◌>>◌ (only_if (needs_to_set_ceilings pid target p now) (logged (audit_line place pid act.Ceiling target p.ceiling now))) (pass reply.Done)) g)
      Refused Passed =
      λ room. ends_then _ _ g Refused Passed (ends_change_caller target _ g Refused _ (ends_logged_if _ _ _ room (process_bounded g target p now lives low s) _)) in
      ends_then _ _ g Refused Passed (ends_only_if _ _ g Refused _
      (λ yes. room_exercise pid _ g Refused _ (λ room. last (λ again. room)) (λ why. s))
      (λ no. last (λ yes. absurd (true≢false (sym yes ∙ no)))))) s)) s)

  pub read_log_ends : (place pid index : ℕ) (g : Frame) → Follows f g → Ends (read_log place pid index g) Refused Passed
  unfolding read_log
  read_log_ends place pid index g s =
      ends_then _ _ g _ _ (ends_entitled _ _ g _ _ (λ why. s) (
      ends_bind _ _ g _ _ (ends_frame g _ _ (
      ends_bind _ _ g _ _ (ends_some _ _ g _ _ (λ l is.
      ends_then _ _ g _ _ (room_log g _ _ (λ room.
      ends_bind _ _ g _ _ (ends_caller _ g _ _ (λ p lives. ends_logged_last _ _ room s _) s))
      (λ why. s))) s)))))

  -- ---- privileges of files
  room_affect : (pid o : ℕ) (through : Categories) → Keeps HasRoom (affect pid o through)
  room_affect pid o through = record { led = λ g room. kept_ends HasRoom _ (ends_affect pid o through g (λ r h. HasRoom h) (λ u h. HasRoom h) (λ why. room) room (λ l x is low. room)) }

  pub set_priv_ends : (place pid : ℕ) (path : PathOf) (cap lic : PrivSet) (g : Frame) → Follows f g → Ends (set_priv place pid path cap lic g) Refused Passed
  unfolding set_priv
  set_priv_ends place pid path cap lic g s =
      ends_bind _ _ g Refused Passed (ends_next _ g _ (follows_found f pid path) s (λ o m r.
      ends_bind _ _ m Refused Passed (ends_object o m Refused _ (λ x is.
      ends_then _ _ m Refused Passed (ends_need _ _ m Refused _ (λ no_dir.
      ends_then _ _ m Refused Passed (room_exercise pid _ m Refused _ (λ room.
      ends_bind _ _ m Refused Passed (ends_caller pid m Refused _ (λ p lives.
      ends_then _ _ m Refused Passed (ends_kept (λ h. Follows f h × HasRoom h) _ Refused _ (holds_both _ _ _ ((follows_affect f pid o bottom).led m r)
      ((room_affect pid o bottom).led m room)) (λ why h k. k.0) (λ u h k.
      ends_then _ _ h Refused Passed (ends_change_object o _ h Refused _ (
      ends_logged_last _ _ k.1 (followed_object f h o _ (λ y. refl) (λ y. refl) (λ y here. k.0.sound.labels.objects o y here) k.0) _))))) r))
      (λ why. r))) r)) r)))

  -- ---- going
  moved : (g : Frame) (pid o : ℕ) (x : Object) → at g.objects o ≡ Some x → is_dir x ≡ true → Follows f g → Follows f (record g { processes = change g.processes pid (λ q. record q { cwd = o }) })
  moved g pid o x is dir s =
      let h : Process → Process = λ q. record q { cwd = o } in
      let r = floats_process g g pid (λ q. record q { cwd = o }) (λ q. refl) (floats_itself g) in
      let k : Frame = record g { processes = change g.processes pid (λ q. record q { cwd = o }) } in
      let homes : (p : ℕ) (q : Process) → living (at k.processes p) ≡ Some q → option_map_or is_dir (at g.objects q.cwd) false ≡ true =
      λ p q lives. elim (at_change g.processes pid h p q (is_living _ q lives)) [
        | inl c ↦ ap (λ n. option_map_or is_dir (at g.objects n.cwd) false) c.same ∙ ap (λ y. option_map_or is_dir y false) is ∙ dir
        | inr other ↦ s.sound.processes.home p q (lives_as _ q other.1 (not_ended _ q lives))
      ] in
      record {
        sound = record {
          labels = labels_process g s.sound.labels pid h (λ q here. s.sound.labels.processes pid q here);
          names = names_floated g k r s.sound.names;
          lives = lives_floated g k r s.sound.lives;
          opens = opens_floated g k r s.sound.opens;
          processes = processes_moved g k r homes s.sound.processes;
          claims = claims_floated g k r (λ n. refl) s.sound.claims;
          limits = limits_floated g k r s.sound.limits.log s.sound.limits;
        };
        kinds = s.kinds;
      }

  pub change_dir_ends : (pid : ℕ) (path : PathOf) (g : Frame) → Follows f g → Ends (change_dir pid path g) Refused Passed
  unfolding change_dir
  change_dir_ends pid path g s =
      ends_bind _ _ g Refused Passed (ends_next _ g _ (follows_found f pid path) s (λ o m r.
      ends_bind _ _ m Refused Passed (ends_object o m Refused _ (λ x is.
      ends_then _ _ m Refused Passed (ends_need _ _ m Refused _ (λ dir.
      ends_then _ _ m Refused Passed (ends_change_caller pid _ m Refused _ (ends_pass _ _ Refused Passed (moved m pid o x is dir r)))) r)) r)))
