-- The log grows by the lines of licensed entries.
use Rattle.std.proofs.Common.{◌≡◌, ℕ, suc, Bool, true, false, not, ◌&&◌, List, [], ◌∷◌, ◌++◌, Option, Some, refl, sym, ap, ◌∙◌, if◌then◌else◌, append-nil, append_assoc, option_map}
use Rattle.std.specs.{Option.option_map_or, List.list_all}
use Rattle.ix_label.specs.{Category.{Categories, join, leq, same, bottom}, Lattice.{same-decides, join-bottom_right}}
use Rattle.ix_model.specs.{world.{Naming.PathOf, Privs.either_of, World.{World, Frame, Object, Process, at, change, living, lives}}, rows.OnLabels.needs_to_set_ceilings}
use Rattle.ix_model.specs.{rows.{Outcomes.{Outcome, Refuse, Pass}, Walks.{walk, walked_to, object_at}, Auditing.audit_line}, history.AuditLog.{line_of_act, lines_added}}
use Rattle.ix_model.{specs.rows.{OnDescriptors.LengthChecks, OnProcesses.end_process, Table.{Decision, row, settled, verdict}, Telling.told}, proofs.words.OpenRows.open_row}
use Rattle.ix_model.{specs.history.{Step.{plainly, answer, step, step_of, run}, Events.{Op, Event}}, proofs.words.Rowwise.{Change, Logging, Words, changes_of, kept_row}}
use Rattle.ix_model.specs.declared.{privs.PrivSet.PrivSet, audit.{Act.Act, AuditLine.AuditLine}, reply.Reply.Reply}
use Rattle.ix_model.specs.rows.Rows.{change_object, change_process, put_object, put_open, put_process, add_process, affect, change_open}
use Rattle.ix_model.specs.history.AuditLog.{object_of_path, label_at, of_process, exercises, is_answer, is_licensed, line_on_object, line_on_process, audit_log}
use Rattle.ix_model.proofs.{tables.Tables.at_changed, words.{Keeps.Holds, RowEnds.endings, Living.is_living, Answered.step_frame}}
use Rattle.ix_model.proofs.refused.Refusing.{Relabelled, Relabels, relabelled_itself, relabelled_observe, refusing_row}
use Rattle.ix_model.proofs.words.Ends.{Ends, Anything, ending, ends_bind, ends_then, ends_pass, ends_frame, ends_caller, ends_there, ends_kept, ends_more}
use Rattle.ix_model.specs.rows.Walks as sought
use Rattle.ix_model.specs.history.Events as op
use Rattle.ix_model.specs.declared.audit.Act.TheVariants as act
use Rattle.ix_model.specs.declared.refusal.Refusal.TheVariants as refusal
use Rattle.ix_model.specs.declared.reply.Reply.TheVariants as reply

-- ---- what an entry adds
-- the lines that a call adds, where it is answered
added : Frame → Frame → ℕ → ℕ → Op → List AuditLine
added f g place pid c = if exercises f pid c then option_map_or (λ l. l ∷ []) (line_of_act f g place pid c) [] else []

record LogAfter (f : Frame) (place pid : ℕ) (c : Op) (g : Frame) : Type 0 where
  is : g.log ≡ f.log ++ added f g place pid c

-- the log grows by a line where a privilege is exercised
line_added : (f g : Frame) (place pid : ℕ) (c : Op) (l : AuditLine) → exercises f pid c ≡ true → line_of_act f g place pid c ≡ Some l → g.log ≡ f.log ++ l ∷ [] → LogAfter f place pid c g
unfolding added
line_added f g place pid c l licensed line is = record { is = is ∙ rw (licensed, line) refl }

no_line : (f g : Frame) (place pid : ℕ) (c : Op) → exercises f pid c ≡ false → g.log ≡ f.log → LogAfter f place pid c g
unfolding added
no_line f g place pid c free is = record { is = is ∙ rw free (sym (append-nil f.log)) }

-- ---- what a path leads to
-- the object of a path, in a frame in which the caller's label alone may have changed
record Sight (pid : ℕ) (path : PathOf) (f : Frame) (o : ℕ) (g : Frame) : Type 0 where
  relabelled : Relabelled pid f g
  target : object_of_path f pid path ≡ Some o

is_target : (f : Frame) (pid o : ℕ) (path : PathOf) (p : Process) (dir : Option ℕ) → living (at f.processes pid) ≡ Some p
    → (walk f.objects p path).outcome ≡ sought.Found o dir → object_of_path f pid path ≡ Some o
unfolding object_of_path
is_target f pid o path p dir lives ends = rw (lives, ends) refl

ends_sight : (pid : ℕ) (path : PathOf) (f : Frame) (Q : ℕ → Frame → Type 0) → ((o : ℕ) (g : Frame) → Sight pid path f o g → Q o g) → Ends (object_at pid path f) Anything Q
unfolding object_at walked_to
ends_sight pid path f Q h =
    ends_bind _ _ f _ Q (ends_bind _ _ f _ _ (ends_caller _ f _ _ (λ p lives.
    ends_bind _ _ f _ _ (ends_frame f _ _ (ends_then _ _ f _ _ (
    ends_kept _ _ _ _ ((relabelled_observe _ f _).led f (relabelled_itself _ f)) (λ r g rel. tt) (λ u g rel.
    ends_pass _ g _ _ (ends_there _ g _ Q (λ o dir is.
    h o g (record { relabelled = rel; target = is_target f _ o _ p _ lives is })) tt tt))))))
    tt))

-- ---- the eight calls
at_target : (f g : Frame) (pid o : ℕ) (path : PathOf) (x : Object) → Sight pid path f o g → at g.objects o ≡ Some x → label_at f (object_of_path f pid path) ≡ x.label
unfolding label_at
at_target f g pid o path x sight is =
    let same = ap (λ h. h.objects) sight.relabelled.is in
    let here = ap (λ t. at t o) (sym same) ∙ is in
    rw (sight.target, here) refl

-- the line of an act on the object of a path
object_line : (f m g : Frame) (place pid o : ℕ) (path : PathOf) (a : Act) (x y : Object) → Sight pid path f o m → at m.objects o ≡ Some x
    → at g.objects o ≡ Some y → line_on_object f g place pid path a ≡ audit_line place pid a o x.label y.label
unfolding label_at
object_line f m g place pid o path a x y sight is after =
    let same = ap (λ h. h.objects) sight.relabelled.is in
    let here = ap (λ t. at t o) (sym same) ∙ is in
    rw (sight.target, here, after) refl

-- and of one on a process
process_line : (get : Process → Categories) (f g : Frame) (place pid target : ℕ) (a : Act) (q r : Process) → at f.processes target ≡ Some q
    → at g.processes target ≡ Some r → line_on_process get f g place pid target a ≡ audit_line place pid a target (get q) (get r)
unfolding of_process
process_line get f g place pid target a q r was is = rw (was, is) refl

-- what stands at a number that was changed
changed : {A : Type 0} (t u : List (Option A)) (n : ℕ) (h : A → A) (x : A) → u ≡ change t n h → at t n ≡ Some x → at u n ≡ Some (h x)
changed t u n h x e is = ap (λ v. at v n) e ∙ at_changed t n h ∙ ap (option_map h) is

same_log : (pid : ℕ) (path : PathOf) (f m : Frame) (o : ℕ) → Sight pid path f o m → m.log ≡ f.log
same_log pid path f m o sight = ap (λ h. h.log) sight.relabelled.is

not_not : (b : Bool) → not (not b) ≡ b
not_not true = refl
not_not false = refl

-- ---- the other calls
abbrev pub log_stays : Change → Bool
log_stays Logging = false
log_stays _ = true

quiet_words : (pid : ℕ) (f : Frame) → Words log_stays pid (λ g. g.log ≡ f.log)
unfolding change_object change_process change_open put_object put_open put_process add_process end_process Holds
quiet_words pid f = record {
  object = λ o h same. record { led = λ g r. r };
  process = λ p h same. record { led = λ g r. r };
  float = λ h same. record { led = λ g r. r };
  entry = λ e x low. record { led = λ g r. r };
  through = λ can e l. record { led = λ g r. r };
  unclaim = λ o end. record { led = λ g r. r };
  relabel = λ can o h same. record { led = λ g r. r };
  claim = λ can o h same. record { led = λ g r. r };
  log = λ can. cc;
  inode = λ can m o k kind is free. record { led = λ g r. r };
  pipe = λ can m o is free. record { led = λ g r. r };
  gone_object = λ can o. record { led = λ g r. r };
  gone_open = λ can e. record { led = λ g r. r };
  fork = λ can p. record { led = λ g r. r };
  end = λ can. record { led = λ g r. r };
  collect = λ can p. record { led = λ g r. r };
}

-- whether a call writes nothing into the log
abbrev logs_nothing : Op → Bool
logs_nothing c = list_all log_stays (changes_of c)

quiet_row : (t : LengthChecks) (place pid : ℕ) (c : Op) (f : Frame) → logs_nothing c ≡ true → Holds (row t place pid c f) (λ g. g.log ≡ f.log)
quiet_row t place pid c f quiet = (kept_row _ _ _ (quiet_words _ f) t _ c quiet).led f refl

quiet_logs : (t : LengthChecks) (place pid : ℕ) (c : Op) (f : Frame) → logs_nothing c ≡ true → exercises f pid c ≡ false → Ends (row t place pid c f) Anything (λ a g. LogAfter f place pid c g)
quiet_logs t place pid c f quiet free =
    ends_kept _ (row t place pid c f) _ _ (quiet_row t _ _ c f quiet) (λ r g same. tt) (λ a g same. no_line f g _ _ c free same)

module _ (f : Frame) (place pid : ℕ) where
  -- SetLabel
  label_line : (m g : Frame) (o : ℕ) (path : PathOf) (now : Categories) (x : Object) → Sight pid path f o m → at m.objects o ≡ Some x
      → not (leq x.label now) ≡ true → g.objects ≡ change m.objects o (λ y. record y { label = now })
      → g.log ≡ m.log ++ audit_line place pid act.DownFile o x.label now ∷ [] → LogAfter f place pid (op.SetLabel path now) g
  unfolding exercises line_of_act
  label_line m g o path now x sight is lowers objects log =
      line_added f g _ _ _ _
      (ap (λ l. not (leq l now)) (at_target f m _ o _ x sight is) ∙ lowers)
      (ap Some (object_line f m g _ _ o _ _ x _ sight is (changed _ _ o _ x objects is)))
      (log ∙ ap (λ t. t ++ audit_line place pid act.DownFile o x.label now ∷ []) (same_log _ _ f m o sight))

  label_quiet : (m g : Frame) (o : ℕ) (path : PathOf) (now : Categories) (x : Object) → Sight pid path f o m → at m.objects o ≡ Some x
      → not (leq x.label now) ≡ false → g.log ≡ m.log → LogAfter f place pid (op.SetLabel path now) g
  unfolding exercises
  label_quiet m g o path now x sight is stays log =
      no_line f g _ _ _ (ap (λ l. not (leq l now)) (at_target f m _ o _ x sight is) ∙ stays) (log
      ∙ same_log _ _ f m o sight)

  -- SetSelf
  self_line : (g : Frame) (now : Categories) (p : Process) → living (at f.processes pid) ≡ Some p → not (leq p.label now) ≡ true
      → g.processes ≡ change f.processes pid (λ q. record q { label = now }) → g.log ≡ f.log ++ audit_line place pid act.DownSelf pid p.label now ∷ []
      → LogAfter f place pid (op.SetSelf now) g
  unfolding exercises line_of_act of_process
  self_line g now p lives lowers processes log =
      let is = is_living _ p lives in
      line_added f g _ _ _ _ (rw is lowers)
      (ap Some (process_line _ f g _ _ _ _ p _ is (changed _ _ _ _ p processes is))) log

  self_quiet : (g : Frame) (now : Categories) (p : Process) → living (at f.processes pid) ≡ Some p → not (leq p.label now) ≡ false → g.log ≡ f.log → LogAfter f place pid (op.SetSelf now) g
  unfolding exercises of_process
  self_quiet g now p lives stays log = no_line f g _ _ (op.SetSelf now) (rw (is_living (at f.processes pid) p lives) stays) log

  -- Thaw
  thaw_line : (m g : Frame) (o : ℕ) (path : PathOf) (x : Object) → Sight pid path f o m → at m.objects o ≡ Some x
      → g.objects ≡ change m.objects o (λ y. record y { frozen = false }) → g.log ≡ m.log ++ audit_line place pid act.ThawFile o x.label x.label ∷ []
      → LogAfter f place pid (op.Thaw path) g
  unfolding exercises line_of_act
  thaw_line m g o path x sight is objects log =
      line_added f g _ _ _ _ refl
      (ap Some (object_line f m g _ _ o _ _ x _ sight is (changed _ _ o _ x objects is)))
      (log ∙ ap (λ t. t ++ audit_line place pid act.ThawFile o x.label x.label ∷ []) (same_log _ _ f m o sight))

  -- ThawSelf
  thaw_self_line : (g : Frame) (p : Process) → living (at f.processes pid) ≡ Some p → g.processes ≡ change f.processes pid (λ q. record q { frozen = false })
      → g.log ≡ f.log ++ audit_line place pid act.ThawSelf pid p.label p.label ∷ [] → LogAfter f place pid op.ThawSelf g
  unfolding exercises line_of_act
  thaw_self_line g p lives processes log =
      let is = is_living _ p lives in
      line_added f g _ _ _ _ refl
      (ap Some (process_line _ f g _ _ _ _ p _ is
      (changed _ _ _ _ p processes is))) log

  -- GrantLic
  grant_line : (g : Frame) (target : ℕ) (set : PrivSet) (q : Process) → living (at f.processes target) ≡ Some q
      → g.processes ≡ change f.processes target (λ p. record p { lic = either_of p.lic set })
      → g.log ≡ f.log ++ record (audit_line place pid act.Grant target q.label q.label) { lic = set } ∷ [] → LogAfter f place pid (op.GrantLic target set) g
  unfolding exercises line_of_act
  grant_line g target set q lives processes log =
      let is : at f.processes target ≡ Some q = is_living (at f.processes target) q lives in
      line_added f g place pid (op.GrantLic target set) _ refl
      (ap (λ (l : AuditLine). Some (record l { lic = set })) (process_line (λ p. p.label) f g place pid target act.Grant q (record q {
        lic =
            either_of q.lic set;
      }) is (changed f.processes g.processes target (λ p. record p { lic = either_of p.lic set }) q processes is))) log

  -- SetCeiling
  ceiling_line : (g : Frame) (target : ℕ) (now : Categories) (q : Process) → living (at f.processes target) ≡ Some q
      → needs_to_set_ceilings pid target q now ≡ true → g.processes ≡ change f.processes target (λ p. record p { ceiling = now })
      → g.log ≡ f.log ++ audit_line place pid act.Ceiling target q.ceiling now ∷ [] → LogAfter f place pid (op.SetCeiling target now) g
  unfolding exercises line_of_act of_process
  ceiling_line g target now q lives needs processes log =
      let is = is_living _ q lives in
      line_added f g _ _ _ _ (rw is needs)
      (ap Some (process_line _ f g _ _ _ _ q _ is
      (changed _ _ _ _ q processes is))) log

  ceiling_quiet : (g : Frame) (target : ℕ) (now : Categories) (q : Process) → living (at f.processes target) ≡ Some q
      → needs_to_set_ceilings pid target q now ≡ false → g.log ≡ f.log → LogAfter f place pid (op.SetCeiling target now) g
  unfolding exercises of_process
  ceiling_quiet g target now q lives free log = no_line f g _ _ (op.SetCeiling target now) (rw (is_living (at f.processes target) q lives) free) log

  -- ReadLog
  read_line : (g : Frame) (index : ℕ) (p : Process) → living (at f.processes pid) ≡ Some p → g.processes ≡ f.processes
      → g.log ≡ f.log ++ audit_line place pid act.ReadLog index p.label p.label ∷ [] → LogAfter f place pid (op.ReadLog index) g
  unfolding exercises line_of_act of_process
  read_line g index p lives processes log =
      let is = is_living _ p lives in
      line_added f g _ _ _ _ refl (rw (processes, is) refl) log

  -- SetPriv
  priv_line : (m g : Frame) (o : ℕ) (path : PathOf) (cap lic : PrivSet) (x : Object) (p : Process) → Sight pid path f o m → at m.objects o ≡ Some x
      → at g.objects o ≡ Some (record x { label = join x.label p.label; cap = cap; lic = lic })
      → g.log ≡ m.log ++ record (audit_line place pid act.SetPriv o x.label (join x.label p.label)) { cap = cap; lic = lic } ∷ []
      → LogAfter f place pid (op.SetPriv path cap lic) g
  unfolding exercises line_of_act
  priv_line m g o path cap lic x p sight is after log =
      line_added f g place pid (op.SetPriv path cap lic) _ refl
      (ap (λ (l : AuditLine). Some (record l { cap = cap; lic = lic })) (object_line f m g place pid o path act.SetPriv x (record x {
        label =
            join x.label p.label;
        cap = cap;
        lic = lic;
      }) sight is after))
      (log ∙ ap (λ t. t ++ record (audit_line place pid act.SetPriv o x.label (join x.label p.label)) { cap = cap; lic = lic } ∷ []) (same_log pid path f m o sight))

  -- what is affected has the joined label
  record Affected (o : ℕ) (m g : Frame) : Type 0 where
    caller : Process
    is_caller : living (at m.processes pid) ≡ Some caller
    object : Object
    is_object : at m.objects o ≡ Some object
    after : at g.objects o ≡ Some (record object { label = join object.label caller.label })
    log : g.log ≡ m.log

  affected_not : (o : ℕ) (m : Frame) (p : Process) (x : Object) → living (at m.processes pid) ≡ Some p → at m.objects o ≡ Some x
      → not (same (join x.label (join p.label bottom)) x.label) ≡ false → Affected o m m
  affected_not o m p x lives is free =
      let far = join x.label (join p.label bottom) in
      let e = sym (ap (join x.label) (join-bottom_right _)) ∙ (same-decides _ _).0 (sym (not_not _) ∙ ap not free) in
      record { caller = p; is_caller = lives; object = x; is_object = is; after = is ∙ ap (λ l. Some (record x { label = l })) (sym e); log = refl }

  affected_yes : (o : ℕ) (m g : Frame) (p : Process) (x : Object) → living (at m.processes pid) ≡ Some p → at m.objects o ≡ Some x
      → g.objects ≡ change m.objects o (λ y. record y { label = join y.label (join p.label bottom) }) → g.log ≡ m.log → Affected o m g
  affected_yes o m g p x lives is objects log = record {
    caller = p;
    is_caller = lives;
    object = x;
    is_object = is;
    after = changed _ _ o _ x objects is ∙ (λ i. Some (record x { label = join x.label (join-bottom_right p.label i) }));
    log = log;
  }

  affected : (o : ℕ) (m : Frame) → Ends (affect pid o bottom m) Anything (λ u g. Affected o m g)
  unfolding affect
  affected o m = search (ending, affected_not, affected_yes) depth 40 fits 8000

  ends_affected : (o : ℕ) (m : Frame) (Q : Unit {0} → Frame → Type 0) → ((g : Frame) → Affected o m g → Q tt g) → Ends (affect pid o bottom m) Anything Q
  ends_affected o m Q h = ends_more (affect pid o bottom m) _ _ Q (affected o m) (λ u g. h g)

  priv_done : (m n g : Frame) (o : ℕ) (path : PathOf) (cap lic : PrivSet) (x : Object) (p : Process) → Sight pid path f o m → at m.objects o ≡ Some x
      → living (at m.processes pid) ≡ Some p → Affected o m n → g.objects ≡ change n.objects o (λ y. record y { cap = cap; lic = lic })
      → g.log ≡ n.log ++ record (audit_line place pid act.SetPriv o x.label (join x.label p.label)) { cap = cap; lic = lic } ∷ []
      → LogAfter f place pid (op.SetPriv path cap lic) g
  priv_done m n g o path cap lic x p sight is lives a objects log =
      let same_object : a.object ≡ x = let h = a.is_object in cc in
      let same_caller : a.caller ≡ p = let h = a.is_caller in cc in
      let stands : at n.objects o ≡ Some (record x { label = join x.label p.label }) = a.after ∙ (λ i. Some (record (same_object i) { label = join (same_object i).label (same_caller i).label })) in
      priv_line m g o path cap lic x p sight is
      (changed n.objects g.objects o (λ y. record y { cap = cap; lic = lic }) (record x { label = join x.label p.label }) objects stands)
      (log ∙ ap (λ t. t ++ record (audit_line place pid act.SetPriv o x.label (join x.label p.label)) { cap = cap; lic = lic } ∷ []) a.log)

  -- ---- the table
  ruleset logging = (
    endings,
    ends_sight,
    ends_affected,
    label_line,
    label_quiet,
    self_line,
    self_quiet,
    thaw_line,
    thaw_self_line,
    grant_line,
    ceiling_line,
    ceiling_quiet,
    read_line,
    priv_done,
  )

  row_logs : (t : LengthChecks) (c : Op) → Ends (row t place pid c f) Anything (λ a g. LogAfter f place pid c g)
  unfolding open_row exercises
  row_logs t (op.SetLabel path now) = search logging depth 80 fits 16000
  row_logs t (op.SetSelf now) = search logging depth 80 fits 16000
  row_logs t (op.Thaw path) = search logging depth 80 fits 16000
  row_logs t op.ThawSelf = search logging depth 80 fits 16000
  row_logs t (op.SetPriv path cap lic) = search logging depth 80 fits 16000
  row_logs t (op.GrantLic target set) = search logging depth 80 fits 16000
  row_logs t (op.SetCeiling target now) = search logging depth 80 fits 16000
  row_logs t (op.ReadLog index) = search logging depth 80 fits 16000
  row_logs t c = quiet_logs t _ _ c f refl refl

-- ---- decisions
-- the lines that a call adds, by its reply
adds : Frame → Frame → ℕ → ℕ → Op → Reply → List AuditLine
adds f g place pid c r = if is_answer r && exercises f pid c then option_map_or (λ l. l ∷ []) (line_of_act f g place pid c) [] else []

adds_none : (f g : Frame) (place pid : ℕ) (c : Op) (r : Reply) → exercises f pid c ≡ false → adds f g place pid c r ≡ []
unfolding adds
adds_none f g place pid c r free = go _
  where
    go : (b : Bool) → (if b && exercises f pid c then option_map_or (λ l. l ∷ []) (line_of_act f g place pid c) [] else []) ≡ []
    go true = rw free refl
    go false = refl

adds_answered : (f g : Frame) (place pid : ℕ) (c : Op) (r : Reply) → is_answer r ≡ true → LogAfter f place pid c g → g.log ≡ f.log ++ adds f g place pid c r
unfolding adds added
adds_answered f g place pid c r is after = after.is ∙ rw is refl

log_kept : (b : Bool) (pid : ℕ) (f g : Frame) → Relabelled pid f g → (if b then g else f).log ≡ f.log ++ []
log_kept true pid f g r = ap (λ h. h.log) r.is ∙ sym (append-nil f.log)
log_kept false pid f g r = sym (append-nil f.log)

settled_log : (place pid : ℕ) (c : Op) (f : Frame) (o : Outcome Reply) → Relabels is_answer pid f o → Ends o Anything (λ a g. LogAfter f place pid c g)
    → (settled f o).frame.log ≡ f.log ++ adds f (settled f o).frame place pid c (settled f o).reply
unfolding Ends adds
settled_log place pid c f (Refuse r g) relabels ends = log_kept _ _ f g relabels
settled_log place pid c f (Pass a g) relabels ends = adds_answered f g _ _ c a relabels ends

decided_log : (t : LengthChecks) (place pid : ℕ) (c : Op) (f : Frame) → (verdict t place pid c f).frame.log ≡ f.log
    ++ adds f (verdict t place pid c f).frame place pid c (verdict t place pid c f).reply
unfolding verdict adds
decided_log t place pid c f = go _
  where
    decision : Bool → Decision
    decision b = if b then settled f (row t place pid c f) else record { reply = reply.No refusal.NoProcess; frame = f }

    go : (b : Bool) → (decision b).frame.log ≡ f.log ++ adds f (decision b).frame place pid c (decision b).reply
    go true = settled_log _ _ c f (row t place pid c f) (refusing_row t _ _ c f) (row_logs f _ pid t c)
    go false = sym (append-nil f.log)

-- ---- steps and runs
-- what the step of a call adds
step_adds : World → ℕ → ℕ → Op → List AuditLine
step_adds w place pid c = adds w.frame (step w place pid c).world.frame place pid c (step w place pid c).reply

plain_log : (w : World) (place pid : ℕ) (c : Op) → (step w place pid c).reply ≡ (verdict (told w pid c) place pid c w.frame).reply
    → (step w place pid c).world.frame.log ≡ w.frame.log ++ step_adds w place pid c
unfolding step_adds
plain_log w place pid c same =
    let frames = step_frame w place pid c in
    ap (λ (g : Frame). g.log) frames
    ∙ decided_log (told w pid c) place pid c w.frame
    ∙ (λ i. w.frame.log ++ adds w.frame (sym frames i) place pid c (sym same i))

-- a call that exercises no privilege adds nothing, whatever it is answered
quiet_log : (w : World) (place pid : ℕ) (c : Op) → exercises w.frame pid c ≡ false → (step w place pid c).world.frame.log ≡ w.frame.log ++ step_adds w place pid c
unfolding step_adds adds
quiet_log w place pid c free =
    ap (λ (g : Frame). g.log) (step_frame w place pid c)
    ∙ decided_log (told w pid c) place pid c w.frame
    ∙ ap (λ t. w.frame.log ++ t) (adds_none w.frame (verdict (told w pid c) place pid c w.frame).frame place pid c
    (verdict (told w pid c) place pid c w.frame).reply free
    ∙ sym (adds_none w.frame (step w place pid c).world.frame place pid c (step w place pid c).reply free))

step_log : (w : World) (place pid : ℕ) (c : Op) → (step w place pid c).world.frame.log ≡ w.frame.log ++ step_adds w place pid c
unfolding step answer plainly exercises
step_log w place pid (op.SetLabel path now) = plain_log w place pid (op.SetLabel path now) refl
step_log w place pid (op.SetSelf now) = plain_log w place pid (op.SetSelf now) refl
step_log w place pid (op.Thaw path) = plain_log w place pid (op.Thaw path) refl
step_log w place pid op.ThawSelf = plain_log w place pid op.ThawSelf refl
step_log w place pid (op.SetPriv path cap lic) = plain_log w place pid (op.SetPriv path cap lic) refl
step_log w place pid (op.GrantLic target set) = plain_log w place pid (op.GrantLic target set) refl
step_log w place pid (op.SetCeiling target now) = plain_log w place pid (op.SetCeiling target now) refl
step_log w place pid (op.ReadLog index) = plain_log w place pid (op.ReadLog index) refl
step_log w place pid c = quiet_log w place pid c refl

entry_log : (w : World) (place : ℕ) (e : Event) → (step_of w place e).world.frame.log ≡ w.frame.log ++ lines_added w place e
unfolding lines_added is_licensed step_adds adds
entry_log w place e = step_log w place e.pid e.op

pub logged_run : (w : World) (place : ℕ) (h : List Event) → (run w place h).frame.log ≡ w.frame.log ++ audit_log w place h
unfolding audit_log
logged_run w place [] = sym (append-nil w.frame.log)
logged_run w place (e ∷ h) =
    logged_run (step_of w place e).world (suc place) h
    ∙ ap (λ t. t ++ audit_log (step_of w place e).world (suc place) h) (entry_log w place e)
    ∙ append_assoc w.frame.log (lines_added w place e) (audit_log (step_of w place e).world (suc place) h)
