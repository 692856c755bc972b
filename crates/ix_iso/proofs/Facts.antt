-- What is known where the rows pass that answer bytes, sizes and statuses: whose labels the caller's is not below.
use Rattle.std.proofs.Common.{◌≡◌, ℕ, true, false, true≢false, ◌&&◌, List, Option, Some, None, refl, sym, ap, ◌∙◌, subst, inl, inr}
use Rattle.std.proofs.lemmas.{Bool.{and_parts, not-false}, List.Quantifiers.position-Some}
use Rattle.ix_label.specs.{Category.{Categories, join, leq}, Lattice.{leq-trans, leq-join_left, leq-join_right}}
use Rattle.ix_model.specs.{world.{Naming.PathOf, World.{Frame, Object, Process, Open, at, put, change, living, is_pipe, is_ended}}, declared.reply.Reply.Reply}
use Rattle.ix_model.specs.rows.{Rows.{change_process, observe}, Walks.{OpenFile, behind, walked_to, object_at}, OnPaths.{stat_at, stat_passed}}
use Rattle.ix_model.specs.rows.{OnDescriptors.{LengthChecks, read_fd, write_fd}, OnProcesses.{is_child, wait_child, wait_passed}}
use Rattle.ix_model.proofs.{tables.Finds.{at_put, at_change}, words.{Living.{is_living, not_ended, lives_as}, Keeps.{Holds, Keeps, keeping}}}
use Rattle.ix_model.proofs.words.{Endings.{ends_put_process, ends_record_of}, Standing.behind_is, Transfers.{ends_looks, ends_affects, ends_read, ends_read_behind, ends_write, ends_floated}}
use Rattle.ix_model.proofs.words.Ends.{Ends, Anything, ends_kept, ends_bind, ends_then, ends_pass, ends_frame, ends_need, ends_some, ends_object}

one_living : (o : Option Process) (p q : Process) → living o ≡ Some p → living o ≡ Some q → p ≡ q
one_living o p q is here = cc (sym is ∙ here)

-- ---- a read
pub record ReadFacts (pid : ℕ) (f : Frame) (e : OpenFile) (g : Frame) : Type 0 where
  pub object : Object
  pub is_object : at f.objects e.entry.object ≡ Some object
  pub process : Process
  pub lives : living (at g.processes pid) ≡ Some process
  pub sees_object : leq object.label process.label ≡ true
  pub sees_entry : leq e.entry.label process.label ≡ true
  pub entry : is_pipe object ≡ false → (y : Open) → at g.opens e.id ≡ Some y → leq process.label y.label ≡ true

-- the open entry with a label joined
joined : (t : List (Option Open)) (e : ℕ) (l : Categories) (y : Open) → at (change t e (λ z. record z { label = join z.label l })) e ≡ Some y
    → (was : Open) × (at t e ≡ Some was) × (leq l y.label ≡ true) × (leq was.label y.label ≡ true)
joined t e l y here = elim (at_change t e _ e y here) [
  | inl c ↦ (
    c.was,
    c.is_was,
    subst (λ z. leq l z.label ≡ true) (sym c.same) (leq-join_right _ l),
    subst (λ z. leq c.was.label z.label ≡ true) (sym c.same) (leq-join_left _ l),
  )
  | inr apart ↦ absurd (apart.0 refl)
]

-- the fact for every entry that is behind the descriptor
abbrev pub ReadKnown : ℕ → ℕ → Frame → Reply → Frame → Type 0
ReadKnown pid fd f r g = (e : OpenFile) → behind f pid fd ≡ Some e → ReadFacts pid f e g

for_each : (b : Option OpenFile) (R : OpenFile → Type 0) (e : OpenFile) → b ≡ Some e → R e → (other : OpenFile) → b ≡ Some other → R other
for_each b R e is r other here = let one : e ≡ other = cc (sym is ∙ here) in subst R one r

pub read_known : (t : LengthChecks) (pid fd count : ℕ) (f : Frame) → Ends (read_fd t pid fd count f) Anything (ReadKnown pid fd f)
read_known t pid fd count f =
    let Q = ReadKnown pid fd f in
    ends_read f _ Q _ t _ fd _ (λ e is x here.
    ends_then _ _ f _ Q (ends_looks _ _ f _ (λ g p objects opens lives sees. ends_read_behind g _ Q _ t _ e x (λ q again.
    let seen = subst (λ z. leq (join x.label e.entry.label) z.label ≡ true) (one_living _ p q lives again) sees in
    let object_seen = leq-trans _ _ _ (leq-join_left _ _) seen in
    let entry_seen = leq-trans _ _ _ (leq-join_right _ _) seen in
    let known : (t : List (Option Open)) → (is_pipe x ≡ false → (y : Open) → at t e.id ≡ Some y → leq q.label y.label ≡ true)
    → (b : OpenFile) → behind f pid fd ≡ Some b → ReadFacts pid f b (record g { opens = t }) =
    λ t entry. for_each _ _ e is
    (search) in
    ends_floated _ Q q x e _ g (λ file. known _ (λ other y there. (joined g.opens e.id _ y there).2))
    (λ pipe. known _ (λ other y there. absurd (true≢false (sym (not-false _ pipe) ∙ other))))))))

-- ---- a write
pub record WriteFacts (pid : ℕ) (f : Frame) (e : OpenFile) (g : Frame) : Type 0 where
  pub object : Object
  pub is_object : at f.objects e.entry.object ≡ Some object
  pub caller : Process
  pub is_caller : living (at f.processes pid) ≡ Some caller
  pub processes : g.processes ≡ f.processes
  pub takes : (x : Object) → at g.objects e.entry.object ≡ Some x → (leq caller.label x.label ≡ true) × (leq e.entry.label x.label ≡ true)
  pub entry : is_pipe object ≡ false → (y : Open) → at g.opens e.id ≡ Some y → (leq caller.label y.label ≡ true) × (leq e.entry.label y.label ≡ true)

abbrev pub WriteKnown : ℕ → ℕ → Frame → Reply → Frame → Type 0
WriteKnown pid fd f r g = (e : OpenFile) → behind f pid fd ≡ Some e → WriteFacts pid f e g

pub write_known : (t : LengthChecks) (pid fd : ℕ) (f : Frame) → Ends (write_fd t pid fd f) Anything (WriteKnown pid fd f)
write_known t pid fd f =
    let Q = WriteKnown pid fd f in
    ends_write f _ Q _ t _ fd (λ e is x here q own.
    ends_then _ _ f _ Q (ends_affects _ _ _ f _ (λ g p lives processes opens takes.
    let takes_own : (y : Object) → at g.objects e.entry.object ≡ Some y → (leq q.label y.label ≡ true) × (leq e.entry.label y.label ≡ true) =
    λ y there. let h = subst (λ z. leq (join z.label e.entry.label) y.label ≡ true) (one_living _ p q lives own) (takes y there) in (
      leq-trans _ _ _ (leq-join_left _ _) h,
      leq-trans _ _ _ (leq-join_right _ _) h,
    ) in
    let known : (t : List (Option Open)) → (is_pipe x ≡ false → (y : Open) → at t e.id ≡ Some y → (leq q.label y.label ≡ true) × (leq e.entry.label y.label ≡ true))
    → (b : OpenFile) → behind f pid fd ≡ Some b → WriteFacts pid f b (record g { opens = t }) =
    λ t entry. for_each _ _ e is
    (search) in
    ends_floated _ Q q x e _ g
    (λ file. known _ (λ other y there.
    let j = joined g.opens e.id q.label y there in
    let h : Some e.entry ≡ Some j.0 = sym (behind_is f pid fd e is) ∙ ap (λ t. at t e.id) (sym opens) ∙ j.1 in
    let entry : e.entry ≡ j.0 = cc in
    (j.2, subst (λ (z : Open). leq z.label y.label ≡ true) (sym entry) j.3)))
    (λ pipe. known _ (λ other y there. absurd (true≢false (sym (not-false _ pipe) ∙ other)))))))

-- ---- a look at a file
-- walks leave the objects and the log as they are
abbrev pub Looking : Frame → Frame → Type 0
Looking f g = (g.objects ≡ f.objects) × (g.log ≡ f.log)

looking_changed : (f : Frame) (p : ℕ) (h : Process → Process) → Keeps (Looking f) (change_process p h)
unfolding change_process Holds
looking_changed f p h = search

looking_observed : (f : Frame) (pid : ℕ) (seen : Categories) → Keeps (Looking f) (observe pid seen)
unfolding observe
looking_observed f pid seen = search (keeping, looking_changed) depth 30

looking_walked : (f : Frame) (pid : ℕ) (path : PathOf) → Keeps (Looking f) (walked_to pid path)
unfolding walked_to
looking_walked f pid path = search (keeping, looking_observed) depth 30

pub looking_found : (f : Frame) (pid : ℕ) (path : PathOf) → Keeps (Looking f) (object_at pid path)
unfolding object_at
looking_found f pid path = search (keeping, looking_walked) depth 30

pub record StatFacts (pid : ℕ) (f : Frame) (r : Reply) (g : Frame) : Type 0 where
  pub number : ℕ
  pub object : Object
  pub is_object : at f.objects number ≡ Some object
  pub links : ℕ
  pub is_reply : r ≡ stat_passed number object links
  pub process : Process
  pub lives : living (at g.processes pid) ≡ Some process
  pub sees : leq object.label process.label ≡ true

pub stat_known : (pid : ℕ) (path : PathOf) (f : Frame) → Ends (stat_at pid path f) Anything (StatFacts pid f)
unfolding stat_at
stat_known pid path f =
    let Q = StatFacts pid f in
    ends_bind _ _ f _ Q (ends_kept _ (object_at _ _ f) _ _ ((looking_found f _ _).led f (refl, refl)) (λ r m kept. tt) (λ o m kept.
    ends_bind _ _ m _ Q (ends_object o m _ _ (λ x here.
    ends_then _ _ m _ Q (ends_looks _ _ m _ (λ g p objects opens lives sees.
    ends_bind _ _ g _ Q (ends_frame g _ _ (ends_pass _ g _ Q (record {
      number = o;
      object = x;
      is_object = ap (λ t. at t o) (sym kept.0)
          ∙ here;
      links = _;
      is_reply = refl;
      process = p;
      lives = lives;
      sees = sees;
    }))))))
    tt)))

-- ---- a wait
pub record WaitFacts (pid : ℕ) (f : Frame) (r : Reply) (g : Frame) : Type 0 where
  pub child : ℕ
  pub process : Process
  pub is_process : at f.processes child ≡ Some process
  pub ended : process.ended ≡ true
  pub is_reply : r ≡ wait_passed child
  pub sees : (p : Process) → living (at g.processes pid) ≡ Some p → leq process.label p.label ≡ true

ended_child : (o : Option Process) (q : Process) → o ≡ Some q → is_ended o ≡ true → q.ended ≡ true
ended_child o q is h = ap is_ended (sym is) ∙ h

still_sees : (t : List (Option Process)) (c pid : ℕ) (a : Categories) (p z : Process) → living (at t pid) ≡ Some p → leq a p.label ≡ true
    → living (at (put t c None) pid) ≡ Some z → leq a z.label ≡ true
still_sees t c pid a p z lives sees now = elim (at_put t c pid None z (is_living _ z now)) [
  | inl gone ↦ let h : ◌≡◌ {A = Option Process} None (Some z) = gone.1 in cc
  | inr other ↦ subst (λ (y : Process). leq a y.label ≡ true) (one_living (at t _) p z lives (lives_as _ z other.1 (not_ended _ z now))) sees
]

pub wait_known : (pid : ℕ) (f : Frame) → Ends (wait_child pid f) Anything (WaitFacts pid f)
unfolding wait_child
wait_known pid f =
    let Q = WaitFacts pid f in
    ends_bind _ _ f _ Q (ends_frame f _ _ (
    ends_then _ _ f _ Q (ends_need _ _ f _ _ (λ some.
    ends_bind _ _ f _ Q (ends_some _ _ f _ _ (λ c first.
    ends_bind _ _ f _ Q (ends_record_of c f _ _ (λ q here.
    ends_then _ _ f _ Q (ends_looks _ _ f _ (λ g p objects opens lives sees.
    ends_then _ _ g _ Q (ends_put_process c _ g _ _ (ends_pass _ _ _ Q (record {
      child = c;
      process = q;
      is_process = here;
      ended = ended_child _ q here (and_parts _ _
          (position-Some (λ z. is_child pid z && is_ended z) f.processes c None first).1).1;
      is_reply = refl;
      sees = λ z now. still_sees _ c _ _ p z lives sees now;
    })))))) tt)) tt)) tt)))
