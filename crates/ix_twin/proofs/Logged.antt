-- The log tells what crosses a label.
use Rattle.std.proofs.Common.{◌≡◌, ℕ, Bool, true, false, true≢false, ◌&&◌, [], ◌∷◌, Option, Some, None, is_some, if◌then◌else◌, refl, sym, ap, ◌∙◌, subst, ◌+◌, List, ◌++◌, length}
use Rattle.std.{proofs.{Common.{append-nil, slice_get}, lemmas.Bool.{and_parts, not-true, false_from_ne_true, Decides.same_from_decides}}, specs.Option.option_map_or}
use Rattle.ix_label.specs.{Category.{Categories, bottom, leq}, Lattice.{bottom-leq, leq-trans}}
use Rattle.ix_model.specs.{declared.audit.AuditLine.AuditLine, history.{AuditLog.{label_at, line_of_act, lines_added, object_of_path, of_process, audit_log}, Events.{Op, Event}}}
use Rattle.ix_model.specs.{history.{History.{History, next, with_entry, world_of}, Lowering.Crosses, Step.{step, step_of}}, rows.{Auditing.logged, OnProcesses.end_process}}
use Rattle.ix_model.specs.{rows.{Rows.{change_object, change_process, change_open, put_object, put_open, put_process, add_process}, Telling.told}, world.{Naming.PathOf, World.Frame}}
use Rattle.ix_model.{specs.world.World.{Object, Process, World, at}, proofs.words.{Rowwise.{Change, Logging, Lowering, Words, kept_row}, Runs.world_of-push}}
use Rattle.ix_model.proofs.{told.Logs.logged_run, words.{Answered.step_frame, Keeps.Holds, Lasts.{Lasting, decided, lasting_change, lasting_itself, lasts_decided, lets_nothing_go}}}
use Rattle.ix_iso.proofs.Lowerings.{lowerings_logged}
use Rattle.ix_twin.{specs.{TestLaws.TheLogTellsCrossings, Tests.{falls_below, lets_down, tells_crossing, crosses}}, proofs.Crossing.crosses_decides}
use Rattle.ix_model.specs.history.Events as op
use Rattle.ix_model.specs.history.Lowering as low

-- ---- what crosses has its line
-- a label that isn't at or below L isn't at or below one that is
not_below : (l a b : Categories) → leq a l ≡ false → leq b l ≡ true → leq a b ≡ false
not_below l a b high below = false_from_ne_true _ (λ h. true≢false (sym (leq-trans a b l h below) ∙ high))

module _ (l : Categories) (w : World) (place : ℕ) (e : Event) where
  abbrev g : Frame
  g = (step_of w place e).world.frame

  line_tells : (line : AuditLine) → lines_added w place e ≡ line ∷ [] → tells_crossing l (line ∷ []) ≡ true → tells_crossing l (lines_added w place e) ≡ true
  line_tells line is tells = ap (tells_crossing l) is ∙ tells

  across : (was now : Categories) → leq was l ≡ false → leq now l ≡ true → falls_below l was now ≡ true
  across was now high below = rw (high, below) refl

  crossing_tells : Crosses l w.frame g → tells_crossing l (lines_added w place e) ≡ true
  crossing_tells (low.OfObject o x y before after high below) =
      line_tells _ (lowerings_logged w _ e (low.OfObject o x y before after (not_below l _ _ high below))).added (across _ _ high below)
  crossing_tells (low.OfProcess p x y before after high below) =
      line_tells _ (lowerings_logged w _ e (low.OfProcess p x y before after (not_below l _ _ high below))).added (across _ _ high below)

-- ---- what a line tells of crosses
-- a label that isn't at or below L is of something
object_there : (l : Categories) (f : Frame) (o : Option ℕ) → leq (label_at f o) l ≡ false → (n : ℕ) × (x : Object) × (o ≡ Some n) × (at f.objects n ≡ Some x) × (x.label ≡ label_at f o)
unfolding label_at
object_there l f None high = absurd (true≢false (sym (bottom-leq l) ∙ high))
object_there l f (Some n) high = go _ refl high
  where
    go : (x : Option Object) → at f.objects n ≡ x → leq (option_map_or (λ (y : Object). y.label) x bottom) l ≡ false
        → (m : ℕ) × (z : Object) × (Some n ≡ Some m) × (at f.objects m ≡ Some z) × (z.label ≡ option_map_or (λ (y : Object). y.label) (at f.objects n) bottom)
    go None is high = absurd (true≢false (sym (bottom-leq l) ∙ high))
    go (Some x) is high = (n, x, refl, is, sym (ap (λ y. option_map_or (λ z. z.label) y bottom) is))

process_there : (l : Categories) (f : Frame) (p : ℕ) → leq (of_process (λ q. q.label) bottom f p) l ≡ false → (x : Process) × (at f.processes p ≡ Some x)
    × (x.label ≡ of_process (λ q. q.label) bottom f p)
unfolding of_process
process_there l f p high = go _ refl high
  where
    go : (x : Option Process) → at f.processes p ≡ x → leq (option_map_or (λ (y : Process). y.label) x bottom) l ≡ false
        → (z : Process) × (at f.processes p ≡ Some z) × (z.label ≡ option_map_or (λ (y : Process). y.label) (at f.processes p) bottom)
    go None is high = absurd (true≢false (sym (bottom-leq l) ∙ high))
    go (Some x) is high = (x, is, sym (ap (λ y. option_map_or (λ z. z.label) y bottom) is))

-- what is there
some_is : {A : Type 0} (x : Option A) → is_some x ≡ true → (y : A) × (x ≡ Some y)
some_is (Some y) h = (y, refl)
some_is None h = absurd (true≢false (sym h))

-- a process whose label is set stays, as all others do
sets_labels : Change → Bool
sets_labels Logging = true
sets_labels Lowering = true
sets_labels _ = false

module _ (pid : ℕ) (f : Frame) where
  abbrev ProcessesLast : Frame → Type 0
  ProcessesLast g = Lasting f.processes g.processes

  lasting_words : Words sets_labels pid ProcessesLast
  unfolding sets_labels change_object change_process change_open put_object put_open put_process add_process end_process logged Holds
  lasting_words = record {
    object = λ o h same. record { led = λ g r. r };
    process = λ p h same. record { led = λ g r. lasting_change _ _ p h r };
    float = λ h same. record { led = λ g r. lasting_change _ _ _ h r };
    entry = λ e x low. record { led = λ g r. r };
    through = λ can. cc;
    unclaim = λ o end. record { led = λ g r. r };
    relabel = λ can. cc;
    claim = λ can. cc;
    log = λ can l. record { led = λ g r. r };
    inode = λ can. cc;
    pipe = λ can. cc;
    gone_object = λ can. cc;
    gone_open = λ can. cc;
    fork = λ can. cc;
    end = λ can. cc;
    collect = λ can. cc;
  }

module _ (l : Categories) (w : World) (place pid : ℕ) where
  abbrev after : Op → Frame
  after o = (step w place pid o).world.frame

  objects_last : (o : Op) → lets_nothing_go o ≡ true → Lasting w.frame.objects (after o).objects
  objects_last o lets =
      subst (λ g. Lasting w.frame.objects g.objects) (sym (step_frame w _ _ o)) (lasts_decided _ _ _ o _ lets).objects

  processes_last : (now : Categories) → Lasting w.frame.processes (after (op.SetSelf now)).processes
  unfolding sets_labels
  processes_last now =
      let o = op.SetSelf now in
      subst (λ g. Lasting w.frame.processes g.processes) (sym (step_frame w _ _ o))
      (decided (ProcessesLast pid w.frame) (told w pid o) place pid o w.frame (lasting_itself w.frame.processes)
      ((kept_row _ _ _ (lasting_words pid w.frame) _ _ o refl).led w.frame (lasting_itself _)))

  -- what a line tells, where there is one
  told_by : (b : Bool) (line : AuditLine) → tells_crossing l (if b then line ∷ [] else []) ≡ true → (lets_down line.act && falls_below l line.was line.now) ≡ true
  told_by true line h = h
  told_by false line h = absurd (true≢false (sym h))

  no_line : (b : Bool) → tells_crossing l (if b then [] else []) ≡ true → ⊥
  no_line true h = true≢false (sym h)
  no_line false h = true≢false (sym h)

  fell : (was now : Categories) → falls_below l was now ≡ true → (leq was l ≡ false) × (leq now l ≡ true)
  fell was now h = let both = and_parts _ _ h in (not-true _ both.0, both.1)

  object_crosses : (path : PathOf) (now : Categories)
      → falls_below l (label_at w.frame (object_of_path w.frame pid path)) (label_at (after (op.SetLabel path now)) (object_of_path w.frame pid path)) ≡ true
      → Crosses l w.frame (after (op.SetLabel path now))
  unfolding label_at
  object_crosses path now h =
      let both = fell _ _ h in
      let was = object_there l w.frame _ both.0 in
      let stays = some_is _ ((objects_last _ refl).stays was.0 (ap is_some was.3)) in
      let high = ap (λ a. leq a l) was.4 ∙ both.0 in
      let below = ap (λ a. leq a l) (sym (ap (label_at (after (op.SetLabel path now))) was.2 ∙ ap (λ x. option_map_or (λ y. y.label) x bottom) stays.1)) ∙ both.1 in
      low.OfObject was.0 was.1 stays.0 was.3 stays.1 high below

  process_crosses : (now : Categories) → falls_below l (of_process (λ p. p.label) bottom w.frame pid) (of_process (λ p. p.label) bottom (after (op.SetSelf now)) pid) ≡ true
      → Crosses l w.frame (after (op.SetSelf now))
  unfolding of_process
  process_crosses now h =
      let both = fell _ _ h in
      let was = process_there l w.frame pid both.0 in
      let stays = some_is _ ((processes_last _).stays pid (ap is_some was.1)) in
      let high = ap (λ a. leq a l) was.2 ∙ both.0 in
      let below = ap (λ a. leq a l) (sym (ap (λ x. option_map_or (λ y. y.label) x bottom) stays.1)) ∙ both.1 in
      low.OfProcess pid was.0 stays.0 was.1 stays.1 high below

  -- no other act lets something down
  other_act : (b : Bool) (line : AuditLine) → lets_down line.act ≡ false → tells_crossing l (if b then line ∷ [] else []) ≡ true → ⊥
  other_act b line other h = true≢false (sym (and_parts _ _ (told_by b _ h)).0 ∙ other)

  telling_crosses : (seat line : ℕ) (o : Op) → tells_crossing l (lines_added w place (record { seat = seat; line = line; pid = pid; op = o })) ≡ true → Crosses l w.frame (after o)
  unfolding lines_added line_of_act
  telling_crosses seat line (op.SetLabel path now) h = object_crosses _ _ (told_by _ _ h)
  telling_crosses seat line (op.SetSelf now) h = process_crosses _ (told_by _ _ h)
  telling_crosses seat line (op.Thaw path) h = absurd (other_act _ _ refl h)
  telling_crosses seat line op.ThawSelf h = absurd (other_act _ _ refl h)
  telling_crosses seat line (op.SetPriv path caps lics) h = absurd (other_act _ _ refl h)
  telling_crosses seat line (op.GrantLic target set) h = absurd (other_act _ _ refl h)
  telling_crosses seat line (op.SetCeiling target now) h = absurd (other_act _ _ refl h)
  telling_crosses seat line (op.ReadLog index) h = absurd (other_act _ _ refl h)
  telling_crosses seat line _ h = absurd (no_line _ h)

pub the_log_tells : TheLogTellsCrossings
the_log_tells l w place e =
    same_from_decides _ _ (crosses_decides l _ _)
    (telling_crosses l w _ e.pid e.seat e.line e.op, crossing_tells l w place e)

-- What the log's next line tells of an entry.

-- whether a line tells of something that was let down across a label
abbrev pub tells : Categories → Option AuditLine → Bool
tells l o = option_map_or (λ line. lets_down line.act && falls_below l line.was line.now) o false

behind : (xs ys : List AuditLine) → slice_get (xs ++ ys) (length xs) ≡ slice_get ys 0
behind [] ys = refl
behind (x ∷ xs) ys = behind xs ys

first_tells : (l : Categories) (lines : List AuditLine) → tells_crossing l lines ≡ tells l (slice_get lines 0)
first_tells l [] = refl
first_tells l (line ∷ lines) = refl

entry_logged : (w : World) (place : ℕ) (e : Event) → (step_of w place e).world.frame.log ≡ w.frame.log ++ lines_added w place e
unfolding audit_log
entry_logged w place e = logged_run w place (e ∷ []) ∙ ap (λ x. w.frame.log ++ x) (append-nil _)

pub crossing_told : (l : Categories) (old k : History) (e : Event) (n : ℕ) (o : Option AuditLine) → o ≡ slice_get (world_of k).frame.log n → k ≡ with_entry old e
    → n ≡ length (world_of old).frame.log → tells l o ≡ crosses l (world_of old).frame (next old e).world.frame
crossing_told l old k e n o is made count =
    let w = world_of old in
    let found = is ∙ (λ i. slice_get ((ap (λ h. (world_of h).frame.log) made ∙ ap (λ x. x.frame.log) (world_of-push _ e) ∙ entry_logged w _ e) i) (count i)) ∙ behind w.frame.log _ in
    ap (tells l) found ∙ sym (first_tells l _) ∙ sym (the_log_tells l w (length old.events + 1) e)
