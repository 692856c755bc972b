-- What stands behind a descriptor before and after a step, and which of its labels stay.
use Rattle.std.proofs.Common.{◌≡◌, ◌==◌, ◌&&◌, ℕ, false, true≢false, Option, Some, option_map, refl, sym, ap, ◌∙◌, inl, inr}
use Rattle.std.{specs.Option.option_map_or, proofs.lemmas.Bool.{not-true, eq-eqb, Decides.eqb_tells}}
use Rattle.ix_label.specs.Category.{bottom}
use Rattle.ix_model.{specs.{world.World.{World, Frame, Object, Process, Open, at, living, is_dir}, rows.Walks.{OpenFile, behind, behind_of, entry_at}}, proofs.told.Touching.few_labels}
use Rattle.ix_model.specs.{history.{Step.step_of, AuditLog.{label_at, of_process}, Freshness.closes, Events.Event}, laws.Sound.Sound}
use Rattle.ix_model.proofs.{words.{Living.is_living, Standing.stands}, frames.Claimants.is_behind, sound.{Carried.there_is, Soundly.sound_step}}
use Rattle.ix_fresh.specs.{Touched.{Stays, LabelsStayBut, target, entry_target, is_one, label_of_entry}, Laws.is_closed}
use Rattle.ix_fresh.proofs.{Tables.HasFd, Staying.{SameObject, SameOpen}, Kept.step_kept}

pub turned : (n m : ℕ) → (n == m) ≡ (m == n)
turned n m = elim (eqb_tells n m) [
  | inl same ↦ eq-eqb n m same.1 ∙ sym (eq-eqb m n (sym same.1))
  | inr apart ↦ apart.0 ∙ sym (elim (eqb_tells m n) [
    | inl same ↦ absurd (apart.1 (sym same.1))
    | inr other ↦ other.0
  ])
]

-- the process, the open entry and the object, before and after
pub record Remains (to through : Option ℕ) (b : OpenFile) (f g : Frame) (pid fd : ℕ) : Type 0 where
  pub caller : Process
  pub lived : living (at f.processes pid) ≡ Some caller
  pub process : Process
  pub lives : living (at g.processes pid) ≡ Some process
  pub stood : at f.opens b.id ≡ Some b.entry
  pub entry : Open
  pub stands : at g.opens b.id ≡ Some entry
  pub same_entry : SameOpen through b.id b.entry entry
  pub was : Object
  pub is_was : at f.objects b.entry.object ≡ Some was
  pub no_dir : is_dir was ≡ false
  pub object : Object
  pub is_object : at g.objects b.entry.object ≡ Some object
  pub same_object : SameObject to b.entry.object was object
  pub is_behind : behind g pid fd ≡ Some (record { id = b.id; entry = entry })

seen_behind : (g : Frame) (pid fd d : ℕ) (y : Open) (h : HasFd g.processes pid fd d) → at g.opens d ≡ Some y → behind g pid fd ≡ Some (record { id = d; entry = y })
unfolding behind
seen_behind g pid fd d y h is = ap (λ p. behind_of p g fd) h.lives ∙ ap (entry_at g) h.descriptor ∙ ap (option_map (λ x. let b : OpenFile = search in b)) is

same_place : (x y : Open) → record y { label = bottom } ≡ record x { label = bottom } → y.object ≡ x.object
same_place x y h = ap (λ z. z.object) h

module _ (w : World) (s : Sound w) (place : ℕ) (e : Event) where
  pub remains : (pid fd : ℕ) (b : OpenFile) → behind w.frame pid fd ≡ Some b → is_closed w place e pid fd ≡ false
      → Remains (target w.frame e.pid e.op) (entry_target w.frame e.pid e.op) b w.frame (step_of w place e).world.frame pid fd
  remains pid fd b is kept =
      let f : Frame = w.frame in
      let g : Frame = (step_of w place e).world.frame in
      let k = step_kept w place e.pid e.op in
      let after = (sound_step w place e.pid e.op s).opens in
      let i = is_behind f pid fd b is in
      let has = k.descriptors pid fd b.id i.process i.lives i.descriptor (ap (λ t. t && closes fd e.op (step_of w place e).reply) (turned pid e.pid) ∙ kept) in
      let y = there_is (at g.opens b.id) (after.descriptor pid has.process fd b.id has.lives has.descriptor) in
      let same = k.opens.same b.id b.entry y.0 i.stands y.1 in
      let before = stands f b.id b.entry s.opens i.stands in
      let now = stands g b.id y.0 after y.1 in
      let there : at g.objects b.entry.object ≡ Some now.object = ap (at g.objects) (sym (same_place b.entry y.0 same.plain)) ∙ now.is_object in
      record {
        caller = i.process;
        lived = i.lives;
        process = has.process;
        lives = has.lives;
        stood = i.stands;
        entry = y.0;
        stands = y.1;
        same_entry = same;
        was = before.object;
        is_was = before.is_object;
        no_dir = not-true _ before.no_dir;
        object = now.object;
        is_object = there;
        same_object = k.objects.same b.entry.object before.object now.object before.is_object there;
        is_behind = seen_behind g pid fd b.id y.0 has y.1;
      }

  pub descriptor_stays : (pid fd : ℕ) (b : OpenFile) → behind w.frame pid fd ≡ Some b → is_closed w place e pid fd ≡ false → Stays b w.frame (step_of w place e).world.frame pid fd
  descriptor_stays pid fd b is kept =
      let r = remains pid fd b is kept in
      record {
        entry = record { id = b.id; entry = r.entry };
        is_behind = r.is_behind;
        id = refl;
        on = ap (λ (z : Open). z.object) r.same_entry.plain;
        end = ap (λ (z : Open). z.end) r.same_entry.plain;
        mode = ap (λ (z : Open). z.mode) r.same_entry.plain;
        was = r.was;
        is_was = r.is_was;
        object = r.object;
        is_object = r.is_object;
        kind = ap (λ (z : Object). z.kind) r.same_object.plain;
        fs = ap (λ (z : Object). z.fs) r.same_object.plain;
      }

-- ---- labels
pub process_label : (f : Frame) (pid : ℕ) (p : Process) → living (at f.processes pid) ≡ Some p → of_process (λ q. q.label) bottom f pid ≡ p.label
unfolding of_process
process_label f pid p lives = ap (λ o. option_map_or (λ q. q.label) o bottom) (is_living _ p lives)

pub object_label : (f : Frame) (o : ℕ) (x : Object) → at f.objects o ≡ Some x → label_at f (Some o) ≡ x.label
unfolding label_at
object_label f o x is = ap (λ z. option_map_or (λ y. y.label) z bottom) is

pub entry_label : (f : Frame) (d : ℕ) (y : Open) → at f.opens d ≡ Some y → label_of_entry f (Some d) ≡ y.label
entry_label f d y is = ap (λ z. option_map_or (λ x. x.label) z bottom) is

not_one : (o : Option ℕ) (n : ℕ) → is_one o (Some n) ≡ false → o ≡ Some n → ⊥
not_one o n other is = true≢false (sym (eq-eqb n n refl) ∙ ap (λ z. is_one z (Some n)) (sym is) ∙ other)

module _ (w : World) (s : Sound w) (place : ℕ) (e : Event) where
  pub labels_stay_but : (pid fd : ℕ) (b : OpenFile) → behind w.frame pid fd ≡ Some b → is_closed w place e pid fd ≡ false → LabelsStayBut b w.frame e (step_of w place e).world.frame pid
  labels_stay_but pid fd b is kept =
      let f : Frame = w.frame in
      let g : Frame = (step_of w place e).world.frame in
      let r = remains w s place e pid fd b is kept in
      record {
        process = λ other.
            process_label g pid r.process r.lives
            ∙ (few_labels w place e.pid e.op).processes pid r.caller r.process (turned pid e.pid ∙ other) (is_living _ r.caller r.lived) (is_living _ r.process r.lives)
            ∙ sym (process_label f pid r.caller r.lived);
        object = λ other.
            object_label g b.entry.object r.object r.is_object
            ∙ r.same_object.label r.no_dir (not_one _ b.entry.object other)
            ∙ sym (object_label f b.entry.object r.was r.is_was);
        entry = λ other.
            entry_label g b.id r.entry r.stands
            ∙ r.same_entry.label (not_one _ b.id other)
            ∙ sym (entry_label f b.id b.entry r.stood);
      }

pub descriptors_remain : (w : World) (place : ℕ) (e : Event) (pid fd : ℕ) (b : OpenFile) → Sound w → behind w.frame pid fd ≡ Some b
    → is_closed w place e pid fd ≡ false → Stays b w.frame (step_of w place e).world.frame pid fd
descriptors_remain w place e pid fd b s is kept = descriptor_stays w s place e pid fd b is kept

pub labels_remain : (w : World) (place : ℕ) (e : Event) (pid fd : ℕ) (b : OpenFile) → Sound w → behind w.frame pid fd ≡ Some b
    → is_closed w place e pid fd ≡ false → LabelsStayBut b w.frame e (step_of w place e).world.frame pid
labels_remain w place e pid fd b s is kept = labels_stay_but w s place e pid fd b is kept
