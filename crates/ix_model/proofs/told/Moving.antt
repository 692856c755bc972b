-- What calls make of the privileges of processes and objects.
use Rattle.std.{specs.Option.option_map_or, proofs.{lemmas.Bool.{eq-eqb, Decides.eqb_tells}, Common.{◌∙◌, subst, arith, inl, inr, if◌then◌else◌}}}
use Rattle.std.proofs.Common.{◌≡◌, ◌≢◌, ◌==◌, ℕ, Bool, true, false, true≢false, List, [], ◌∷◌, ◌++◌, Option, Some, None, is_some, option_map, refl, sym, ap}
use Rattle.ix_label.specs.Category.{Categories, bottom, join}
use Rattle.ix_model.specs.{world.{Naming.PathOf, Privs.{either_of, without, to_grant}, World.{Frame, World, Object, Process, at, change, lives}}, history.Step.pex_answer}
use Rattle.ix_model.specs.rows.{Outcomes.{Outcome, Refuse, Pass}, Rows.affect, Walks.{OpenFile, object_at}}
use Rattle.ix_model.{specs.rows.{OnDescriptors.LengthChecks, OnProcesses.{kept_fds, fork, exec}, Telling.told}, proofs.tables.{Tables.at_changed, Finds.at_change}}
use Rattle.ix_model.{specs.rows.{OnLabels.{set_priv, drop_lic, grant_lic}, Table.{Decision, row, settled, verdict}}, proofs.words.Ends.ends_change_object}
use Rattle.ix_model.specs.{history.{AuditLog.{object_of_path, is_answer}, Events.Op}, declared.{call.Keep.Keep, privs.PrivSet.PrivSet, reply.Reply.Reply}}
use Rattle.ix_model.specs.history.Step.{step, answer, plainly, read_answer, write_answer, cut_answer, seek_answer, stat_answer, exit_answer, wait_answer}
use Rattle.ix_model.specs.laws.Privileged.{Privileges, Carried, privileges, carried_by, carried_at, carries_none, privileges_after, carried_after, PrivilegesAs}
use Rattle.ix_model.proofs.words.{Living.is_living, RowEnds.{endings, ends_exercise, ends_logged}, Answered.step_frame}
use Rattle.ix_model.proofs.refused.{Seeing.{Seen, seen_nothing, ends_seen, ends_seen_walk}, Refusing.{Relabelled, relabelled_itself, refusing_row}}
use Rattle.ix_model.proofs.words.Ends.{Ends, Anything, ends_change_caller, ends_bind, ends_then, ends_caller, ends_object, ends_need, ends_pass, ends_there, ends_kept}
use Rattle.ix_model.proofs.told.Unmoved.{CallersOwn, Unmoved, unmoved_itself, kept_change, kept_push, u_affect, loss, u_row}
use Rattle.ix_model.specs.history.Events as op
use Rattle.ix_model.specs.declared.reply.Kind.TheVariants as kind
use Rattle.ix_model.specs.declared.reply.Reply.TheVariants as reply
use Rattle.ix_model.specs.declared.refusal.Refusal.TheVariants as refusal

module _ (f : Frame) (pid : ℕ) where
  pub Moves : Op → Frame → Type 0
  Moves c g = PrivilegesAs f g pid c true

  -- ---- where nothing changes
  stays : (c : Op) (b : Bool) (g : Frame) → ((p : ℕ) (q : Process) → privileges_after f pid c p q ≡ privileges q)
      → ((o : ℕ) (x : Object) → carried_after f pid c o x ≡ carried_by x) → Unmoved f pid b g → Moves c g
  unfolding Moves
  stays c b g processes objects u = record {
    processes = λ p q r is seen. u.processes.same p q r is seen ∙ sym (processes p q);
    children = λ p r is seen. u.processes.fresh p r is seen;
    objects = λ o x y is seen. u.objects.same o x y is seen ∙ sym (objects o x);
    made = λ o y is seen. u.objects.fresh o y is seen;
  }

  -- a frame that differs in the caller's label alone
  unmoved_relabelled : (b : Bool) (g : Frame) → Relabelled pid f g → Unmoved f pid b g
  unmoved_relabelled b g r =
      let u = unmoved_itself f _ b in
      subst (Unmoved f pid b) (sym r.is) (record {
        processes = kept_change _ _ _ _ _ _ (λ p. refl)
            u.processes;
        objects = u.objects;
        lasting = u.lasting;
      })

  unmoved_seen : (s : Categories) (b : Bool) (g : Frame) → Seen pid f s g → Unmoved f pid b g
  unmoved_seen s b g r =
      let u = unmoved_itself f _ b in
      subst (Unmoved f pid b) (sym r.is) (record {
        processes =
            kept_change _ _ _ _ _ _ (λ p. refl) u.processes;
        objects = u.objects;
        lasting =
            u.lasting;
      })

  -- ---- one process changes
  same_number : (p n : ℕ) (A : Type 0) (a b : A) → p ≡ n → (if p == n then a else b) ≡ a
  same_number p n A a b e = rw eq-eqb refl

  other_number : (p n : ℕ) (A : Type 0) (a b : A) → p ≢ n → (if p == n then a else b) ≡ b
  other_number p n A a b e = elim (eqb_tells p n) [
    | inl same ↦ absurd (e same.1)
    | inr apart ↦ rw apart.0 refl
  ]

  module _ (h : Frame) (n : ℕ) (k : Process → Process) (to : Process → Privileges) (u : Unmoved f pid false h) where
    process_moves : ((q was : Process) → privileges was ≡ privileges q → privileges (k was) ≡ to q) → (p : ℕ) (q r : Process) → at f.processes p ≡ Some q
        → at (change h.processes n k) p ≡ Some r → privileges r ≡ (if p == n then to q else privileges q)
    process_moves makes p q r is seen = elim (at_change _ n k p r seen) [
      | inl c ↦ ap privileges c.same ∙ makes q _ (u.processes.same p q c.was is (ap (at h.processes) c.here ∙ c.is_was)) ∙ sym (same_number p n _ _ _ c.here)
      | inr other ↦ u.processes.same p q r is other.1 ∙ sym (other_number p n _ _ _ other.0)
    ]

    process_new : ((was : Process) → at h.processes n ≡ Some was → is_some (at f.processes n) ≡ true) → (p : ℕ) (r : Process) → at f.processes p ≡ None
        → at (change h.processes n k) p ≡ Some r → CallersOwn f pid (privileges r)
    process_new stood p r is seen = elim (at_change _ n k p r seen) [
      | inl c ↦ absurd (true≢false (sym (stood c.was c.is_was) ∙ ap (λ m. is_some (at f.processes m)) (sym c.here) ∙ ap is_some is))
      | inr other ↦ u.processes.fresh p r is other.1
    ]

  -- ---- Fork
  fork_moves : (keep : Keep) → Ends (fork pid keep f) Anything (λ a g. Moves (op.Fork keep) g)
  unfolding fork Moves
  fork_moves keep = search (endings, is_living, forked) depth 60 fits 8000
    where
      forked : (p : Process) (keep : Keep) → at f.processes pid ≡ Some p
          → Moves (op.Fork keep) (record f { processes = f.processes ++ Some (record p { parent = Some pid; fds = kept_fds keep p.fds }) ∷ [] })
      forked p keep is =
          let u = unmoved_itself f _ false in
          stays _ false _ (λ p q. refl) (λ o x. refl) (record {
            processes =
                kept_push _ _ f.processes f.processes _ (omega arith) (ap (option_map privileges) is) u.processes;
            objects = u.objects;
            lasting = u.lasting;
          })

  -- ---- DropLic
  drop_lic_moves : (some : PrivSet) → Ends (drop_lic pid some f) Anything (λ a g. Moves (op.DropLic some) g)
  unfolding drop_lic Moves
  drop_lic_moves some = search (endings, dropped) depth 60 fits 8000
    where
      fewer : Process → Process
      fewer p = record p { cap = without p.cap some; lic = without p.lic some; own = without p.own some }

      sets : Process → Privileges
      sets q = record { cap = without q.cap some; lic = without q.lic some; own = without q.own some }

      dropped : Moves (op.DropLic some) (record f { processes = change f.processes pid fewer })
      dropped =
          let u = unmoved_itself f pid false in
          record {
            processes = process_moves f pid fewer sets u (λ q was same. (λ i. record { cap = without (same i).cap some; lic = without (same i).lic some; own = without (same i).own some }));
            children = process_new f pid fewer sets u (λ was is. ap is_some is);
            objects = u.objects.same;
            made = u.objects.fresh;
          }

  -- ---- GrantLic
  grant_lic_moves : (place target : ℕ) (some : PrivSet) → Ends (grant_lic place pid target some f) Anything (λ a g. Moves (op.GrantLic target some) g)
  unfolding grant_lic Moves
  grant_lic_moves place target some = search (endings, granted) depth 60 fits 8000
    where
      more : Process → Process
      more p = record p { lic = either_of p.lic some }

      sets : Process → Privileges
      sets q = record { cap = q.cap; lic = either_of q.lic some; own = q.own }

      granted : (l : List Rattle.ix_model.specs.declared.audit.AuditLine.AuditLine) → Moves (op.GrantLic target some) (record f { processes = change f.processes target more; log = l })
      granted l =
          let u = unmoved_itself f _ _ in
          record {
            processes = process_moves f _ _ _ u (λ q was same. (λ i. record { cap = (same i).cap; lic = either_of (same i).lic some; own = (same i).own }));
            children = process_new f _ _ sets u (λ was is. ap is_some is);
            objects = u.objects.same;
            made = u.objects.fresh;
          }

  -- ---- Exec
  stood_before : (s : Categories) (h : Frame) → Seen pid f s h → (was : Process) → at h.processes pid ≡ Some was → is_some (at f.processes pid) ≡ true
  stood_before s h r was is = go _ (sym (ap (λ k. at k.processes pid) r.is ∙ at_changed f.processes pid (λ p. record p { label = join p.label s })) ∙ is)
    where
      go : (o : Option Process) → option_map (λ (p : Process). record p { label = join p.label s }) o ≡ Some was → is_some o ≡ true
      go None e = cc
      go (Some p) e = refl

  carried_there : (s : Categories) (g : Frame) (path : PathOf) (o : ℕ) (x : Object) → Seen pid f s g → object_of_path f pid path ≡ Some o
      → at g.objects o ≡ Some x → carried_at f pid path ≡ carried_by x
  carried_there s g path o x r leads is =
      let here = sym (ap (λ h. at h.objects o) r.is) ∙ is in
      rw (leads, here) refl

  -- a path and its object
  ends_object_at : (path : PathOf) (Q : ℕ → Frame → Type 0) → ((o : ℕ) (s : Categories) (g : Frame) → Seen pid f s g → object_of_path f pid path ≡ Some o
      → Q o g) → Ends (object_at pid path f) Anything Q
  unfolding object_at
  ends_object_at path Q next =
      ends_bind _ _ f _ Q (ends_seen_walk _ f _ _ f _ _ (seen_nothing _ f) (λ r h k. tt)
      (λ w g seen leads. ends_there w g _ Q (λ o dir is. next o _ g seen (leads o dir is)) tt tt))

  exec_moves : (path : PathOf) → Ends (exec pid path f) Anything (λ a g. Moves (op.Exec path) g)
  unfolding exec Moves
  exec_moves path =
      let Q : Reply → Frame → Type 0 = λ a g. Moves (op.Exec path) g in
      ends_bind _ _ f Anything Q (ends_object_at path _ (λ o s g seen leads.
      ends_bind _ _ g Anything Q (ends_object o g Anything _ (λ x is.
      ends_then _ _ g Anything Q (ends_need _ _ g Anything _ (λ file.
      ends_then _ _ g Anything Q (ends_seen pid f s x.label g Anything _ seen (λ r h k. tt) (λ h later.
      ends_then _ _ h Anything Q (ends_change_caller pid _ h Anything _ (
      ends_pass _ _ Anything Q (executed x (join s x.label) h later (carried_there s g path o x seen leads is)))))))
      tt)) tt)))
    where
      executed : (x : Object) (s : Categories) (h : Frame) → Seen pid f s h → carried_at f pid path ≡ carried_by x
          → Moves (op.Exec path) (record h { processes = change h.processes pid (λ p. record p { cap = x.cap; own = x.lic }) })
      executed x s h seen carries =
          let u = unmoved_seen s false h seen in
          let k : Process → Process = λ p. record p { cap = x.cap; own = x.lic } in
          let sets : Process → Privileges = λ q. record { cap = (carried_at f pid path).cap; lic = q.lic; own = (carried_at f pid path).lic } in
          record {
            processes = process_moves h pid k sets u (λ q was same. (λ i. record { cap = (sym carries i).cap; lic = (same i).lic; own = (sym carries i).lic }));
            children = process_new h pid k sets u (stood_before s h seen);
            objects = u.objects.same;
            made = u.objects.fresh;
          }

  -- ---- SetPriv
  module _ (h : Frame) (n : ℕ) (k : Object → Object) (to : Carried) (u : Unmoved f pid false h) (makes : (was : Object) → carried_by (k was) ≡ to) where
    object_moves : (o : ℕ) (x y : Object) → at f.objects o ≡ Some x → at (change h.objects n k) o ≡ Some y → carried_by y ≡ (if o == n then to else carried_by x)
    object_moves o x y is seen = elim (at_change _ n k o y seen) [
      | inl c ↦ ap carried_by c.same ∙ makes _ ∙ sym (same_number o n _ to _ c.here)
      | inr other ↦ u.objects.same o x y is other.1 ∙ sym (other_number o n _ to _ other.0)
    ]

    object_new : is_some (at f.objects n) ≡ true → (o : ℕ) (y : Object) → at f.objects o ≡ None → at (change h.objects n k) o ≡ Some y → carried_by y ≡ carries_none
    object_new stood o y is seen = elim (at_change _ n k o y seen) [
      | inl c ↦ absurd (true≢false (sym stood ∙ ap (λ m. is_some (at f.objects m)) (sym c.here) ∙ ap is_some is))
      | inr other ↦ u.objects.fresh o y is other.1
    ]

  set_priv_moves : (place : ℕ) (path : PathOf) (caps lics : PrivSet) → Ends (set_priv place pid path caps lics f) Anything (λ a g. Moves (op.SetPriv path caps lics) g)
  unfolding set_priv Moves
  set_priv_moves place path caps lics =
      let Q : Reply → Frame → Type 0 = λ a g. Moves (op.SetPriv path caps lics) g in
      ends_bind _ _ f Anything Q (ends_object_at path _ (λ o s g seen leads.
      ends_bind _ _ g Anything Q (ends_object o g Anything _ (λ x is.
      ends_then _ _ g Anything Q (ends_need _ _ g Anything _ (λ file.
      ends_then _ _ g Anything Q (ends_exercise pid to_grant g Anything _ (λ r. tt) (
      ends_bind _ _ g Anything Q (ends_caller pid g Anything _ (λ p lives.
      ends_then _ _ g Anything Q (ends_kept (Unmoved f pid false) (affect pid o bottom g) Anything _ ((u_affect f pid false o bottom).led g (unmoved_seen s false g seen)) (λ r h u. tt) (λ u h later.
      ends_then _ _ h Anything Q (ends_change_object o _ h Anything _ (
      ends_then _ _ _ Anything Q (ends_logged _ _ Anything _ (
      ends_pass _ _ Anything Q (set_there o h _ later leads (ap is_some (sym (ap (λ (k : Frame). at k.objects o) seen.is) ∙ is)))))))))) tt))))
      tt)) tt)))
    where
      set_there : (o : ℕ) (h : Frame) (l : List Rattle.ix_model.specs.declared.audit.AuditLine.AuditLine) → Unmoved f pid false h
          → object_of_path f pid path ≡ Some o → is_some (at f.objects o) ≡ true
          → Moves (op.SetPriv path caps lics) (record h { objects = change h.objects o (λ y. record y { cap = caps; lic = lics }); log = l })
      set_there o h l u leads stood =
          let k : Object → Object = λ y. record y { cap = caps; lic = lics } in
          let to : Carried = record { cap = caps; lic = lics } in
          record {
            processes = u.processes.same;
            children = u.processes.fresh;
            objects = λ m x y is seen. object_moves h o k to u (λ was. refl) m x y is seen ∙ sym (ap (λ t. if option_map_or (λ n. m == n) t false then to else carried_by x) leads);
            made = object_new h o k to u (λ was. refl) stood;
          }

  -- ---- the table
  left_moves : (t : LengthChecks) (place : ℕ) (c : Op) (b : Bool) → ((p : ℕ) (q : Process) → privileges_after f pid c p q ≡ privileges q)
      → ((o : ℕ) (x : Object) → carried_after f pid c o x ≡ carried_by x) → loss c ≡ Some b → Ends (row t place pid c f) Anything (λ a g. Moves c g)
  left_moves t place c b processes objects loses =
      ends_kept _ _ _ _ ((u_row f _ b t _ c loses).led f (unmoved_itself f _ b)) (λ r g u. tt) (λ a g. stays c b g processes objects)

  row_moves : (t : LengthChecks) (place : ℕ) (c : Op) → Ends (row t place pid c f) Anything (λ a g. Moves c g)
  unfolding row
  row_moves t place (op.Fork keep) = fork_moves keep
  row_moves t place (op.Exec path) = exec_moves path
  row_moves t place (op.SetPriv path caps lics) = set_priv_moves place path caps lics
  row_moves t place (op.DropLic some) = drop_lic_moves some
  row_moves t place (op.GrantLic target some) = grant_lic_moves place target some
  row_moves t place (op.CloseFd fd) = left_moves t place (op.CloseFd fd) true (λ p q. refl) (λ o x. refl) refl
  row_moves t place (op.UnlinkAt path) = left_moves t place (op.UnlinkAt path) true (λ p q. refl) (λ o x. refl) refl
  row_moves t place (op.RemoveDir path) = left_moves t place (op.RemoveDir path) true (λ p q. refl) (λ o x. refl) refl
  row_moves t place (op.Exit status) = left_moves t place (op.Exit status) true (λ p q. refl) (λ o x. refl) refl
  row_moves t place c = left_moves t place c false (λ p q. refl) (λ o x. refl) refl

-- ---- the decision
-- a refusal leaves all privileges
refused_moves : (f g : Frame) (pid : ℕ) (c : Op) → Relabelled pid f g → PrivilegesAs f g pid c false
refused_moves f g pid c r =
    let u = unmoved_relabelled f _ false g r in
    search

settled_moves : (f : Frame) (pid : ℕ) (c : Op) (o : Outcome Reply) → Ends o (λ r g. Relabelled pid f g) (λ a g. is_answer a ≡ true)
    → Ends o Anything (λ a g. Moves f pid c g) → PrivilegesAs f (settled f o).frame pid c (is_answer (settled f o).reply)
unfolding Ends Moves
settled_moves f pid c (Refuse r g) h k = go _
  where
    go : (b : Bool) → PrivilegesAs f (if b then g else f) pid c false
    go true = refused_moves f g _ c h
    go false = refused_moves f f _ c (relabelled_itself _ f)
settled_moves f pid c (Pass a g) h k = subst (λ b. PrivilegesAs f g pid c b) (sym h) k

decided_moves : (t : LengthChecks) (place pid : ℕ) (c : Op) (f : Frame) → PrivilegesAs f (verdict t place pid c f).frame pid c (is_answer (verdict t place pid c f).reply)
unfolding verdict
decided_moves t place pid c f = go (lives f pid)
  where
    unknown : Decision
    unknown = record { reply = reply.No refusal.NoProcess; frame = f }

    go : (b : Bool) → PrivilegesAs f (if b then settled f (row t place pid c f) else unknown).frame pid c (is_answer (if b then settled f (row t place pid c f) else unknown).reply)
    go true = settled_moves f pid c (row t place pid c f) (refusing_row t place pid c f) (row_moves f pid t place c)
    go false = refused_moves f f pid c (relabelled_itself pid f)

-- ---- the step
-- what the content fills in makes no refusal an answer, and no answer a refusal
answers_read : (w : World) (count : ℕ) (b : Option OpenFile) (a : Reply) (g : Frame) → is_answer (read_answer w count b a g).reply ≡ is_answer a
unfolding read_answer plainly
answers_read w count (Some e) (reply.Bytes k) g = refl
answers_read w count _ _ g = refl

answers_write : (w : World) (new : List ℕ) (b : Option OpenFile) (a : Reply) (g : Frame) → is_answer (write_answer w new b a g).reply ≡ is_answer a
unfolding write_answer plainly
answers_write w new (Some e) (reply.Number k) g = refl
answers_write w new _ _ g = refl

answers_cut : (w : World) (len : ℕ) (b : Option OpenFile) (a : Reply) (g : Frame) → is_answer (cut_answer w len b a g).reply ≡ is_answer a
unfolding cut_answer plainly
answers_cut w len (Some e) reply.Done g = refl
answers_cut w len _ _ g = refl

answers_seek : (w : World) (offset : ℕ) (b : Option OpenFile) (a : Reply) (g : Frame) → is_answer (seek_answer w offset b a g).reply ≡ is_answer a
unfolding seek_answer plainly
answers_seek w offset (Some e) reply.Done g = refl
answers_seek w offset _ _ g = refl

answers_stat : (w : World) (a : Reply) (g : Frame) → is_answer (stat_answer w a g).reply ≡ is_answer a
unfolding stat_answer plainly
answers_stat w (reply.Stat o kind.File size links frozen caps lics) g = refl
answers_stat w _ g = refl

answers_exit : (w : World) (pid status : ℕ) (a : Reply) (g : Frame) → is_answer (exit_answer w pid status a g).reply ≡ is_answer a
unfolding exit_answer plainly
answers_exit w pid status reply.Done g = refl
answers_exit w pid status _ g = refl

answers_wait : (w : World) (a : Reply) (g : Frame) → is_answer (wait_answer w a g).reply ≡ is_answer a
unfolding wait_answer plainly
answers_wait w (reply.Child p status) g = refl
answers_wait w _ g = refl

answers_pex : (w : World) (b : Option OpenFile) (a : Reply) (g : Frame) → is_answer (pex_answer w b a g).reply ≡ is_answer a
unfolding pex_answer plainly
answers_pex w (Some e) a g = refl
answers_pex w None a g = refl

answers_as_decided : (w : World) (place pid : ℕ) (c : Op) → is_answer (step w place pid c).reply ≡ is_answer (verdict (told w pid c) place pid c w.frame).reply
unfolding step answer plainly
answers_as_decided w place pid (op.ReadFd fd count) = answers_read w _ _ _ _
answers_as_decided w place pid (op.WriteFd fd bytes) = answers_write w _ _ _ _
answers_as_decided w place pid (op.CutFd fd len) = answers_cut w _ _ _ _
answers_as_decided w place pid (op.SeekFd fd offset) = answers_seek w _ _ _ _
answers_as_decided w place pid (op.StatAt path) = answers_stat w _ _
answers_as_decided w place pid (op.Exit status) = answers_exit w _ _ _ _
answers_as_decided w place pid op.WaitChild = answers_wait w _ _
answers_as_decided w place pid (op.Pex fd) = answers_pex w _ _ _
answers_as_decided w place pid _ = refl

pub privileges_move : (w : World) (place pid : ℕ) (c : Op) → PrivilegesAs w.frame (step w place pid c).world.frame pid c (is_answer (step w place pid c).reply)
privileges_move w place pid c =
    let decided = decided_moves (told w pid c) place pid c w.frame in
    subst (λ (g : Frame). PrivilegesAs w.frame g pid c (is_answer (step w place pid c).reply)) (sym (step_frame w place pid c))
    (subst (λ (b : Bool). PrivilegesAs w.frame (verdict (told w pid c) place pid c w.frame).frame pid c b) (sym (answers_as_decided w place pid c)) decided)
