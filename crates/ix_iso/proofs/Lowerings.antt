-- What is lowered is logged: of the two calls that set a label, each that lowers one has its line.
use Rattle.std.proofs.Common.{◌≡◌, ℕ, zero, suc, ◌+◌, Bool, true, false, true≢false, List, [], ◌∷◌, ◌++◌, length, take, Some, if◌then◌else◌, refl, sym, ap}
use Rattle.std.{proofs.Common.{◌∙◌, subst, inl, inr, append-nil, arith}, specs.{Prelude.slice_get, Option.option_map_or}}
use Rattle.std.proofs.{lemmas.{Bool.{not-false, false_from_ne_true}, List.append_cancel_left}, Math.Bool.and-false}
use Rattle.ix_label.specs.{Category.{Categories, leq}, Lattice.leq-trans}
use Rattle.ix_model.{specs.{world.{Naming.PathOf, World.{World, Frame, Object, Process, at, change, living}}, rows.Walks.object_at}, proofs.{sound.Logging.holds_both, told.Logs.logged_run}}
use Rattle.ix_model.specs.{rows.{Auditing.{logged, audit_line}, OnLabels.{set_label, set_self}}, two_runs.TwoRuns.{Low, AgreeAt, Same, Other, Replaced, Written, Exited}}
use Rattle.ix_model.specs.{rows.{OnDescriptors.LengthChecks, Table.row, Telling.told}, history.{Step.{step, step_of, run}, Lowering.Lowered}}
use Rattle.ix_model.{specs.history.{AuditLog.{audit_log, lines_added, is_licensed, exercises, line_of_act}, Events.{Op, Event}}, proofs.words.Ends.{ends_change_object, ends_change_caller}}
use Rattle.ix_model.specs.declared.{audit.AuditLine.AuditLine, refusal.Refusal.Refusal, reply.Reply.Reply}
use Rattle.ix_model.proofs.{tables.Finds.at_change, words.{Living.is_living, Keeps.Holds, Lasts.decided, Rowwise.moved_found}}
use Rattle.ix_model.proofs.words.{RowEnds.{ends_exercise, ends_allowed, ends_movable, ends_logged}, Turns.holds_more, Answered.step_frame}
use Rattle.ix_model.proofs.words.Ends.{Ends, ends_kept, kept_ends, ends_bind, ends_then, ends_pass, ends_need, ends_only_if, ends_caller, ends_object}
use Rattle.ix_iso.{specs.Laws.{line_of_lowering, IsLogged, LowersUnderLog}, proofs.{Facts.{Looking, looking_found}, Rising.{Risen, risen_itself, rising, risen_row}}}
use Rattle.ix_model.specs.history.Lowering as low
use Rattle.ix_model.specs.history.Events as op
use Rattle.ix_model.specs.declared.audit.Act.TheVariants as act
use Rattle.ix_model.specs.declared.refusal.Refusal.TheVariants as refusal
use Rattle.ix_model.specs.declared.reply.Reply.TheVariants as reply

-- what is lowered from one frame to the next has its line at the end of the log
record Tells (place pid : ℕ) (f g : Frame) : Type 0 where
  objects : (o : ℕ) (x y : Object) → at f.objects o ≡ Some x → at g.objects o ≡ Some y → leq x.label y.label ≡ false → g.log ≡ f.log ++ audit_line place pid act.DownFile o x.label y.label ∷ []
  processes : (p : ℕ) (x y : Process) → at f.processes p ≡ Some x → at g.processes p ≡ Some y → leq x.label y.label ≡ false → g.log ≡ f.log ++ audit_line place pid act.DownSelf p x.label y.label ∷ []

module _ (place pid : ℕ) (f : Frame) where
  -- where nothing is lowered
  tells_risen : (g : Frame) → Risen f g.objects g.processes → Tells place pid f g
  tells_risen g r = record {
    objects = λ o x y is here falls. absurd (true≢false (sym (r.objects.rise o x y is here) ∙ falls));
    processes = λ p x y is here falls. absurd (true≢false (sym (r.processes.rise p x y is here) ∙ falls));
  }

  P : Refusal → Frame → Type 0
  P r g = Tells place pid f g

  Q : Reply → Frame → Type 0
  Q a g = Tells place pid f g

  -- ---- an object's label is set
  abbrev relabelled : Frame → ℕ → Categories → List AuditLine → Frame
  relabelled m o now log = record m { objects = change m.objects o (λ y. record y { label = now }); log = log }

  tells_object : (m : Frame) (o : ℕ) (x : Object) (now : Categories) (log : List AuditLine) → Risen f m.objects m.processes → Looking f m
      → at m.objects o ≡ Some x → (leq x.label now ≡ false → log ≡ f.log ++ audit_line place pid act.DownFile o x.label now ∷ [])
      → Tells place pid f (relabelled m o now log)
  tells_object m o x now log r looking here line = record {
    objects = λ n a b is there falls. elim (at_change _ o _ n b there) [
      | inl c ↦
          let stood = ap (λ t. at t n) (sym looking.0) ∙ ap (at _) c.here ∙ here in
          let one : x ≡ a = cc (sym stood ∙ is) in
          let label = ap (λ y. y.label) c.same in
          let was = ap (λ y. y.label) one in
          line (ap (λ l. leq l now) was ∙ ap (leq a.label) (sym label) ∙ falls) ∙ (λ i. f.log ++ audit_line place pid act.DownFile (sym c.here i) (was i) (sym label i) ∷ [])
      | inr other ↦ absurd (true≢false (sym (r.objects.rise n a b is other.1) ∙ falls))
    ];
    processes = λ p a b is there falls. absurd (true≢false (sym (r.processes.rise p a b is there) ∙ falls));
  }

  looks : (path : PathOf) → Holds (object_at pid path f) (λ m. Risen f m.objects m.processes × Looking f m)
  looks path = holds_both _ _ (object_at _ _ f)
      ((moved_found _ _ _ (rising f _) _).led f (risen_itself f)) ((looking_found f _ _).led f (
        refl,
        refl,
      ))

  label_tells : (path : PathOf) (now : Categories) → Ends (set_label place pid path now f) P Q
  unfolding set_label P Q
  label_tells path now =
      ends_bind _ _ f P Q (ends_kept _ (object_at _ _ f) P _ (looks _) (λ why m both. tells_risen m both.0) (λ o m both.
      let r = both.0 in let looking = both.1 in let unchanged = tells_risen m r in
      ends_bind _ _ m P Q (ends_object o m P _ (λ x here.
      ends_then _ _ m P Q (ends_allowed _ _ _ m P _ (λ why. unchanged) (
      ends_then _ _ m P Q (ends_movable x _ m P _ (λ why. unchanged) (
      ends_then _ _ m P Q (ends_change_object o _ m P _ (
      ends_then _ _ _ P Q (ends_only_if _ _ _ P _
      (λ falls. ends_logged _ _ P _ (ends_pass _ _ P Q (tells_object m o x _ _ r looking here
      (λ low. ap (λ log. log ++ audit_line place pid act.DownFile o x.label now ∷ []) looking.1))))
      (λ rises. ends_pass _ _ P Q (tells_object m o x _ _ r looking here (λ falls. absurd (true≢false (sym (not-false _ rises) ∙ falls)))))))))))))
      unchanged)))

  -- ---- the caller's label is set
  tells_process : (p : Process) (now : Categories) (log : List AuditLine) → living (at f.processes pid) ≡ Some p
      → (leq p.label now ≡ false → log ≡ f.log ++ audit_line place pid act.DownSelf pid p.label now ∷ [])
      → Tells place pid f (record f { processes = change f.processes pid (λ q. record q { label = now }); log = log })
  tells_process p now log lives line = record {
    objects = λ o a b is there falls. absurd (true≢false (sym ((risen_itself f).objects.rise o a b is there) ∙ falls));
    processes = λ n a b is there falls. elim (at_change _ _ _ n b there) [
      | inl c ↦
          let one : p ≡ a = cc (sym (is_living _ p lives) ∙ ap (at f.processes) (sym c.here) ∙ is) in
          let label = ap (λ y. y.label) c.same in
          let was = ap (λ y. y.label) one in
          line (ap (λ l. leq l now) was ∙ ap (leq a.label) (sym label) ∙ falls) ∙ (λ i. f.log ++ audit_line place pid act.DownSelf (sym c.here i) (was i) (sym label i) ∷ [])
      | inr other ↦ absurd (true≢false (sym ((risen_itself f).processes.rise n a b is other.1) ∙ falls))
    ];
  }

  self_tells : (now : Categories) → Ends (set_self place pid now f) P Q
  unfolding set_self P Q
  self_tells now =
      let unchanged = tells_risen f (risen_itself f) in
      ends_bind _ _ f P Q (ends_caller _ f P _ (λ p lives.
      let last =
      ends_then _ _ f P Q (ends_change_caller _ _ f P _ (
      ends_then _ _ _ P Q (ends_only_if _ (logged (audit_line place pid act.DownSelf pid p.label now)) _ P _
      (λ falls. ends_logged _ _ P _ (ends_pass _ _ P Q (tells_process p _ _ lives (λ low. refl))))
      (λ rises. ends_pass _ _ P Q (tells_process p _ _ lives (λ falls. absurd (true≢false (sym (not-false _ rises) ∙ falls)))))))) in
      let second =
      ends_then _ _ f P Q (ends_only_if _ _ f P _
      (λ other. ends_then _ _ f P _ (ends_need _ _ f P _ (λ free. ends_need _ _ f P _ (λ low. last) unchanged) unchanged))
      (λ no. last)) in
      ends_then _ _ f P Q (ends_only_if _ _ f P _ (λ falls. ends_exercise _ _ f P _ (λ why. unchanged) second) (λ rises. second)))
      unchanged)

  told_row : (t : LengthChecks) (c : Op) → Holds (row t place pid c f) (Tells place pid f)
  unfolding row P Q
  told_row t (op.SetLabel path now) = kept_ends _ _ (label_tells _ _)
  told_row t (op.SetSelf now) = kept_ends _ _ (self_tells _)
  told_row t c = holds_more _ _ (row t place _ c f) tells_risen (risen_row f _ t place c refl)

tells_step : (w : World) (place pid : ℕ) (c : Op) → Tells place pid w.frame (step w place pid c).world.frame
tells_step w place pid c =
    subst (λ g. Tells place pid w.frame g) (sym (step_frame w _ _ c)) (decided (Tells _ _ _) (told w _ c) place pid c w.frame
    (tells_risen place pid w.frame w.frame (risen_itself _)) (told_row _ _ w.frame (told w _ c) c))

-- ---- the log
-- the log after one entry is the log before it and what the entry adds
one_entry : (w : World) (place : ℕ) (e : Event) → (step_of w place e).world.frame.log ≡ w.frame.log ++ lines_added w place e
unfolding audit_log
one_entry w place e = logged_run w place (e ∷ []) ∙ ap (λ x. w.frame.log ++ x) (append-nil _)

licensed_by : (w : World) (place : ℕ) (e : Event) (line : AuditLine) → lines_added w place e ≡ line ∷ [] → is_licensed w place e ≡ true
unfolding lines_added
licensed_by w place e line h = go _ h
  where
    go : (b : Bool) → (if b then option_map_or (λ l. l ∷ []) (line_of_act w.frame (step_of w place e).world.frame place e.pid e.op) [] else []) ≡ line ∷ [] → b ≡ true
    go true h = refl
    go false h = cc

by_its_line : (w : World) (place : ℕ) (e : Event) (line : AuditLine) → (step_of w place e).world.frame.log ≡ w.frame.log ++ line ∷ [] → IsLogged w place e line
by_its_line w place e line h =
    let added = append_cancel_left w.frame.log _ _ (sym (one_entry w _ e) ∙ h) in
    record { licensed = licensed_by w _ e _ added; added = added; log = h }

pub lowerings_logged : (w : World) (place : ℕ) (e : Event) (lowered : Lowered w.frame (step_of w place e).world.frame) → IsLogged w place e (line_of_lowering place e.pid lowered)
lowerings_logged w place e (low.OfObject o x y is here falls) = by_its_line w _ e _ ((tells_step w _ _ _).objects o x y is here falls)
lowerings_logged w place e (low.OfProcess p x y is here falls) = by_its_line w _ e _ ((tells_step w _ _ _).processes p x y is here falls)

-- ---- the log at the end
-- what stands behind a list stands at its length in what goes on from there
at_seam : {A : Type 0} (xs : List A) (y : A) (zs : List A) → slice_get ((xs ++ y ∷ []) ++ zs) (length xs) ≡ Some y
at_seam [] y zs = refl
at_seam (x ∷ xs) y zs = at_seam xs y zs

-- where the entry behind the first n is this one, and gives the log this line, the line stays where it is
stands_along : (w : World) (place k : ℕ) (events : List Event) (n : ℕ) (e : Event) (line : AuditLine) → k ≡ place + n → slice_get events n ≡ Some e →
    (step_of (run w place (take n events)) k e).world.frame.log ≡ (run w place (take n events)).frame.log ++ line ∷ [] →
    slice_get (run w place events).frame.log (length (run w place (take n events)).frame.log) ≡ Some line
stands_along w place k [] n e line there is log = cc
stands_along w place k (a ∷ events) zero e line there is log =
    let here : place ≡ k = omega (arith, there) in
    let one : a ≡ e = cc in
    let added : (step_of w place a).world.frame.log ≡ w.frame.log ++ line ∷ [] = (λ i. (step_of w (here i) (one i)).world.frame.log) ∙ log in
    let last : (run w place (a ∷ events)).frame.log ≡ (w.frame.log ++ line ∷ []) ++ audit_log (step_of w place a).world (suc place) events =
    logged_run (step_of w place a).world (suc place) events ∙ ap (λ t. t ++ audit_log (step_of w place a).world (suc place) events) added in
    ap (λ t. slice_get t (length w.frame.log)) last ∙ at_seam w.frame.log line (audit_log (step_of w place a).world (suc place) events)
stands_along w place k (a ∷ events) (suc n) e line there is log = stands_along (step_of w place a).world (suc place) k events n e line (omega (arith, there)) is log

pub lowerings_stay : (w : World) (place : ℕ) (events : List Event) → LowersUnderLog w place events
lowerings_stay w place events n e is lowered =
    let logged = lowerings_logged _ _ e lowered in
    record { logged = logged; stands = stands_along w _ _ _ n e _ refl is logged.log }

-- ---- replaced entries
-- a label that isn't at or below L isn't at or below one that is
not_below : (l a b : Categories) → leq a l ≡ false → leq b l ≡ true → leq a b ≡ false
not_below l a b high below = false_from_ne_true _ (λ h. true≢false (sym (leq-trans a b l h below) ∙ high))

-- neither a write nor an exit is licensed
replaced_unlicensed : (w : World) (place seat line pid : ℕ) (o p : Op) → Replaced o p → is_licensed w place (record { seat = seat; line = line; pid = pid; op = o }) ≡ false
unfolding is_licensed exercises
replaced_unlicensed w place seat line pid _ _ Written = and-false _
replaced_unlicensed w place seat line pid _ _ Exited = and-false _

-- so a caller that is low after its entry had nothing replaced
pub low_is_same : (l : Categories) (w : World) (place : ℕ) (e f : Event) → AgreeAt l w.frame e f → Low l w place e → e ≡ f
low_is_same l w place _ _ (Same {e = e}) after = refl
low_is_same l w place _ _ (Other {seat = seat} {line = line} {pid = pid} {a = a} {b = b} high replaced) after =
    let e : Event = record { seat = seat; line = line; pid = pid; op = a } in
    let lowered : Lowered w.frame (step_of w place e).world.frame =
    low.OfProcess pid high.process after.process (is_living _ high.process high.lives) (is_living _ after.process after.lives)
    (not_below l high.process.label after.process.label high.high after.low) in
    absurd (true≢false (sym (lowerings_logged w place e lowered).licensed ∙ replaced_unlicensed w place seat line pid a b replaced))
