-- What a read or a write through a descriptor leaves, where it is answered.
use Rattle.std.proofs.{Common.{◌≡◌, ℕ, true, false, true≢false, List, Option, Some, refl, sym, ap, ◌∙◌, subst, inl, inr}, lemmas.Bool.not-false}
use Rattle.ix_label.specs.{Category.{Categories, join, leq}, Lattice.{leq-refl, leq-trans, leq-join_left, leq-join_right, join-least}}
use Rattle.ix_model.specs.{world.World.{Frame, Object, Process, Open, at, change, living, is_pipe}, declared.reply.Reply.Reply}
use Rattle.ix_model.specs.rows.{Walks.{OpenFile, behind}, OnDescriptors.{LengthChecks, read_fd, write_fd}}
use Rattle.ix_model.proofs.{tables.Finds.at_change, words.{Ends.{Ends, Anything, ends_then}, Standing.behind_is}}
use Rattle.ix_model.proofs.words.Transfers.{one_there, ends_looks, ends_affects, ends_read, ends_read_behind, ends_write, ends_floated}

-- ---- the open entry
-- the entry with a label joined
pub record Joined (t : List (Option Open)) (e : ℕ) (l : Categories) (y : Open) : Type 0 where
  pub was : Open
  pub is_was : at t e ≡ Some was
  pub label : y.label ≡ join was.label l

joined : (t : List (Option Open)) (e : ℕ) (l : Categories) (y : Open) → at (change t e (λ z. record z { label = join z.label l })) e ≡ Some y → Joined t e l y
joined t e l y here = elim (at_change t e _ e y here) [
  | inl c ↦ record { was = c.was; is_was = c.is_was; label = ap (λ z. z.label) c.same }
  | inr apart ↦ absurd (apart.0 refl)
]

-- ---- a read
-- the caller's label is at or above the object's and the open entry's, and a file's open entry has taken it in
pub record ReadFacts (pid fd : ℕ) (f g : Frame) : Type 0 where
  pub through : OpenFile
  pub is_behind : behind f pid fd ≡ Some through
  pub object : Object
  pub is_object : at g.objects through.entry.object ≡ Some object
  pub process : Process
  pub lives : living (at g.processes pid) ≡ Some process
  pub sees : leq object.label process.label ≡ true
  pub entry : (y : Open) → at g.opens through.id ≡ Some y → leq y.label process.label ≡ true
  pub taken_in : is_pipe object ≡ false → (y : Open) → at g.opens through.id ≡ Some y → leq process.label y.label ≡ true

-- a file's entry that stood at or below a label which is joined to it
read_entry : (t : List (Option Open)) (e : ℕ) (entry : Open) (l : Categories) (y : Open) → at t e ≡ Some entry → leq entry.label l ≡ true
    → at (change t e (λ z. record z { label = join z.label l })) e ≡ Some y → (leq y.label l ≡ true) × (leq l y.label ≡ true)
read_entry t e entry l y is low here =
    let j = joined t e l y here in
    let low_was = subst (λ z. leq z.label l ≡ true) (one_there _ _ _ is j.is_was) low in (
      subst (λ a. leq a l ≡ true) (sym j.label) (join-least _ l l low_was (leq-refl l)),
      subst (λ a. leq l a ≡ true) (sym j.label) (leq-join_right _ l),
    )

pub read_known : (t : LengthChecks) (pid fd count : ℕ) (f : Frame) → Ends (read_fd t pid fd count f) Anything (λ r g. ReadFacts pid fd f g)
read_known t pid fd count f =
    let Q : Reply → Frame → Type 0 = λ r g. ReadFacts pid fd f g in
    ends_read f Anything Q (λ why. tt) t pid fd count (λ e is x here.
    ends_then _ _ f Anything Q (ends_looks pid _ f _ (λ g p objects opens lives sees. ends_read_behind g Anything Q (λ why. tt) t pid e x (λ q again.
    let seen : leq (join x.label e.entry.label) q.label ≡ true = subst (λ (z : Process). leq (join x.label e.entry.label) z.label ≡ true) (one_there _ p q lives again) sees in
    let object_seen : leq x.label q.label ≡ true = leq-trans x.label (join x.label e.entry.label) q.label (leq-join_left x.label e.entry.label) seen in
    let entry_seen : leq e.entry.label q.label ≡ true = leq-trans e.entry.label (join x.label e.entry.label) q.label (leq-join_right x.label e.entry.label) seen in
    let there : at g.objects e.entry.object ≡ Some x = ap (λ u. at u e.entry.object) objects ∙ here in
    let stood : at g.opens e.id ≡ Some e.entry = ap (λ u. at u e.id) opens ∙ behind_is f pid fd e is in
    let known : (t : List (Option Open)) → ((y : Open) → at t e.id ≡ Some y → leq y.label q.label ≡ true)
    → (is_pipe x ≡ false → (y : Open) → at t e.id ≡ Some y → leq q.label y.label ≡ true) → ReadFacts pid fd f (record g { opens = t }) =
    λ t entry taken_in.
    record { through = e; is_behind = is; object = x; is_object = there; process = q; lives = again; sees = object_seen; entry = entry; taken_in = taken_in } in
    ends_floated Anything Q q x e _ g
    (λ file. known _ (λ y now. (read_entry g.opens e.id e.entry q.label y stood entry_seen now).0) (λ other y now. (read_entry g.opens e.id e.entry q.label y stood entry_seen now).1))
    (λ pipe. known g.opens (λ y now. subst (λ (z : Open). leq z.label q.label ≡ true) (one_there (at g.opens e.id) e.entry y stood now) entry_seen)
    (λ other y now. absurd (true≢false (sym (not-false _ pipe) ∙ other))))))))

-- ---- a write
-- the object's label is at or above the caller's and the open entry's, and a file's open entry has taken the caller's in
pub record WriteFacts (pid fd : ℕ) (f g : Frame) : Type 0 where
  pub through : OpenFile
  pub is_behind : behind f pid fd ≡ Some through
  pub object : Object
  pub is_object : at f.objects through.entry.object ≡ Some object
  pub process : Process
  pub lives : living (at g.processes pid) ≡ Some process
  pub takes : (x : Object) → at g.objects through.entry.object ≡ Some x → leq process.label x.label ≡ true
  pub entry : (x : Object) (y : Open) → at g.objects through.entry.object ≡ Some x → at g.opens through.id ≡ Some y → leq y.label x.label ≡ true
  pub taken_in : is_pipe object ≡ false → (y : Open) → at g.opens through.id ≡ Some y → leq process.label y.label ≡ true

pub write_known : (t : LengthChecks) (pid fd : ℕ) (f : Frame) → Ends (write_fd t pid fd f) Anything (λ r g. WriteFacts pid fd f g)
write_known t pid fd f =
    let Q : Reply → Frame → Type 0 = λ r g. WriteFacts pid fd f g in
    ends_write f _ Q _ t _ fd (λ e is x here q own.
    ends_then _ _ f _ Q (ends_affects _ _ _ f _ (λ g p lives processes opens takes.
    let taken : (y : Object) → at g.objects e.entry.object ≡ Some y → leq (join q.label e.entry.label) y.label ≡ true =
    λ y now. subst (λ z. leq (join z.label e.entry.label) y.label ≡ true) (one_there _ p q lives own) (takes y now) in
    let takes_own : (y : Object) → at g.objects e.entry.object ≡ Some y → leq q.label y.label ≡ true =
    λ y now. leq-trans _ _ _ (leq-join_left _ _) (taken y now) in
    let takes_entry : (y : Object) → at g.objects e.entry.object ≡ Some y → leq e.entry.label y.label ≡ true =
    λ y now. leq-trans _ _ _ (leq-join_right _ _) (taken y now) in
    let lives_on = ap (λ u. living (at u pid)) processes ∙ own in
    let stood = ap (λ u. at u e.id) opens ∙ behind_is f _ fd e is in
    let known : (t : List (Option Open)) → ((z : Object) (y : Open) → at g.objects e.entry.object ≡ Some z → at t e.id ≡ Some y → leq y.label z.label ≡ true)
    → (is_pipe x ≡ false → (y : Open) → at t e.id ≡ Some y → leq q.label y.label ≡ true) → WriteFacts pid fd f (record g { opens = t }) =
    λ t entry taken_in.
    record { through = e; is_behind = is; object = x; is_object = here; process = q; lives = lives_on; takes = takes_own; entry = entry; taken_in = taken_in } in
    ends_floated _ Q q x e _ g
    (λ file. known _
    (λ z y now there.
    let j = joined g.opens e.id q.label y there in
    let entry_low : leq j.was.label z.label ≡ true = subst (λ (v : Open). leq v.label z.label ≡ true) (one_there (at g.opens e.id) e.entry j.was stood j.is_was) (takes_entry z now) in
    subst (λ (a : Categories). leq a z.label ≡ true) (sym j.label) (join-least j.was.label q.label z.label entry_low (takes_own z now)))
    (λ other y there.
    let j = joined g.opens e.id q.label y there in
    subst (λ (a : Categories). leq q.label a ≡ true) (sym j.label) (leq-join_right j.was.label q.label)))
    (λ pipe. known _ (λ z y now there. subst (λ (v : Open). leq v.label z.label ≡ true) (one_there (at g.opens e.id) e.entry y stood there) (takes_entry z now))
    (λ other y there. absurd (true≢false (sym (not-false _ pipe) ∙ other)))))))
