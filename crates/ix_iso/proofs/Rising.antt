-- No call but SetLabel and SetSelf lowers a label.
use Rattle.std.{proofs.Common.{◌≡◌, ◌≤◌, ℕ, Bool, true, false, true≢false, List, [], ◌∷◌, ◌++◌, length, Option, Some, None, is_some, option_map, refl, sym}, specs.Option.option_and_then}
use Rattle.std.proofs.Common.{if◌then◌else◌, ap, ◌∙◌, subst, arith, length-set, length-append, inl, inr}
use Rattle.ix_label.specs.{Category.{Categories, leq}, Lattice.{leq-refl, leq-trans}}
use Rattle.ix_model.specs.{world.World.{Frame, Object, Process, at, put, change}, rows.{Auditing.logged, OnProcesses.{remains, end_process}, Table.row, OnDescriptors.LengthChecks}}
use Rattle.ix_model.specs.{rows.Rows.{change_object, change_process, change_open, put_object, put_open, put_process, add_process}, history.Events.Op}
use Rattle.ix_model.proofs.{tables.{Finds.{at_put, at_change, at_push, in_table}, FreeNumbers.{free_inode_is, free_pipe_is}}, words.Keeps.{Holds, Keeps}}
use Rattle.ix_model.proofs.words.{Lasts.{Lasting, lasting_itself, lasting_change, lasting_put}, Turns.holds_more, Rowwise.{Change, Lowering, Making, LettingGo, Moves, moved_row}}
use Rattle.ix_model.specs.history.Events as op

-- ---- tables
-- of what stands in both tables no label is below what it was
pub record LabelsRise {A : Type 0} (label : A → Categories) (t u : List (Option A)) : Type 0 where
  pub rise : (n : ℕ) (x y : A) → at t n ≡ Some x → at u n ≡ Some y → leq (label x) (label y) ≡ true

module _ {A : Type 0} (label : A → Categories) (t : List (Option A)) where
  labels_itself : LabelsRise label t t
  labels_itself = record { rise = λ n x y is here. let one : x ≡ y = cc (sym is ∙ here) in subst (λ z. leq (label x) (label z) ≡ true) one (leq-refl _) }

  labels_change : (u : List (Option A)) (n : ℕ) (h : A → A) → ((x : A) → leq (label x) (label (h x)) ≡ true) → LabelsRise label t u → LabelsRise label t (change u n h)
  labels_change u n h rises r = record {
    rise = λ m x y is here. elim (at_change u n h m y here) [
      | inl c ↦ subst (λ z. leq (label x) (label z) ≡ true) (sym c.same) (leq-trans _ _ _ (r.rise m x c.was is (ap (at u) c.here ∙ c.is_was)) (rises _))
      | inr other ↦ r.rise m x y is other.1
    ];
  }

  labels_gone : (u : List (Option A)) (n : ℕ) → LabelsRise label t u → LabelsRise label t (put u n None)
  labels_gone u n r = record {
    rise = λ m x y is here. elim (at_put u n m _ y here) [
      | inl gone ↦ let h = gone.1 in cc
      | inr other ↦ r.rise m x y is other.1
    ];
  }

  labels_new : (u : List (Option A)) (n : ℕ) (z : A) → at t n ≡ None → LabelsRise label t u → LabelsRise label t (put u n (Some z))
  labels_new u n z free r = record {
    rise = λ m x y is here. elim (at_put u n m _ y here) [
      | inl new ↦ let h = sym free ∙ ap (at t) (sym new.0) ∙ is in cc
      | inr other ↦ r.rise m x y is other.1
    ];
  }

abbrev pub label_of_object : Object → Categories
label_of_object x = x.label

abbrev pub label_of_process : Process → Categories
label_of_process p = p.label

-- what is left of a process has its label
left_label : (o : Option Process) (y : Process) → option_and_then remains o ≡ Some y → (q : Process) × (o ≡ Some q) × (y.label ≡ q.label)
left_label None y h = cc
left_label (Some q) y h = go _ h
  where
    ended : Process
    ended = record q { ended = true }

    go : (b : Bool) → (if b then Some ended else None) ≡ Some y → (p : Process) × (Some q ≡ Some p) × (y.label ≡ p.label)
    go true h = let same : ended ≡ y = cc in (q, refl, ap label_of_process (sym same))
    go false h = cc

-- ---- frames
-- of what stands before and after no label is below what it was
pub record Risen (f : Frame) (t : List (Option Object)) (u : List (Option Process)) : Type 0 where
  pub objects : LabelsRise label_of_object f.objects t
  pub processes : LabelsRise label_of_process f.processes u
  pub grown : length f.processes ≤ length u

pub risen_itself : (f : Frame) → Risen f f.objects f.processes
risen_itself f = record { objects = labels_itself label_of_object f.objects; processes = labels_itself label_of_process f.processes; grown = omega arith }

abbrev pub no_lowering : Change → Bool
no_lowering Lowering = false
no_lowering Making = false
no_lowering _ = true

abbrev pub only_adds : Change → Bool
only_adds Lowering = false
only_adds LettingGo = false
only_adds _ = true

module _ (f : Frame) where
  with_objects : (t u : List (Option Object)) (p : List (Option Process)) → LabelsRise label_of_object f.objects u → Risen f t p → Risen f u p
  with_objects t u p rise r = search

  with_processes : (t : List (Option Object)) (p q : List (Option Process)) → LabelsRise label_of_process f.processes q → length p ≤ length q → Risen f t p → Risen f t q
  with_processes t p q rise long r = record { objects = r.objects; processes = rise; grown = omega (arith, r.grown, long) }

  risen_object : (t : List (Option Object)) (p : List (Option Process)) (o : ℕ) (h : Object → Object) → ((x : Object) → leq x.label (h x).label ≡ true) → Risen f t p → Risen f (change t o h) p
  risen_object t p o h rises r = with_objects t _ p (labels_change _ _ t o h rises r.objects) r

  same_object : (t : List (Option Object)) (p : List (Option Process)) (o : ℕ) (h : Object → Object) → ((x : Object) → (h x).label ≡ x.label) → Risen f t p → Risen f (change t o h) p
  same_object t p o h same r = risen_object t p o h (λ x. subst (λ l. leq x.label l ≡ true) (sym (same x)) (leq-refl _)) r

  risen_process : (t : List (Option Object)) (p : List (Option Process)) (n : ℕ) (h : Process → Process) → ((q : Process) → leq q.label (h q).label ≡ true) → Risen f t p → Risen f t (change p n h)
  risen_process t p n h rises r = with_processes t p _ (labels_change _ _ p n h rises r.processes) (omega (arith, length-set p n (option_map h (at p n)))) r

  same_process : (t : List (Option Object)) (p : List (Option Process)) (n : ℕ) (h : Process → Process) → ((q : Process) → (h q).label ≡ q.label) → Risen f t p → Risen f t (change p n h)
  same_process t p n h same r = risen_process t p n h (λ q. subst (λ l. leq q.label l ≡ true) (sym (same q)) (leq-refl _)) r

  risen_fork : (t : List (Option Object)) (p : List (Option Process)) (q : Process) → Risen f t p → Risen f t (p ++ Some q ∷ [])
  risen_fork t p q r = with_processes t p _ (record {
    rise = λ m x y is here. elim (at_push p q m y here) [
      | inl new ↦
          let low = in_table _ m x is in
          let none : ⊥ = omega (arith, new.0, low, r.grown) in
          absurd none
      | inr old ↦ r.processes.rise m x y is old
    ];
  }) (omega (arith, length-append p (Some q ∷ []))) r

  risen_end : (t : List (Option Object)) (p : List (Option Process)) (n : ℕ) → Risen f t p → Risen f t (put p n (option_and_then remains (at p n)))
  risen_end t p n r = with_processes t p _ (record {
    rise = λ m x y is here. elim (at_put p n m (option_and_then remains (at p n)) y here) [
      | inl left ↦
          let q = left_label (at p n) y left.1 in
          subst (λ (l : Categories). leq x.label l ≡ true) (sym q.2) (r.processes.rise m x q.0 is (ap (at p) left.0 ∙ q.1))
      | inr other ↦ r.processes.rise m x y is other.1
    ];
  }) (omega (arith, length-set p n (option_and_then remains (at p n)))) r

  risen_collect : (t : List (Option Object)) (p : List (Option Process)) (n : ℕ) → Risen f t p → Risen f t (put p n None)
  risen_collect t p n r = with_processes t p _ (labels_gone _ _ p n r.processes) (omega (arith, length-set p n None)) r

  -- ---- where nothing is made
  pub rising : (pid : ℕ) → Moves no_lowering pid (λ g. Risen f g.objects g.processes)
  unfolding change_object change_process change_open put_object put_open put_process add_process end_process logged Holds
  rising pid = record {
    object = λ o h same. record { led = λ g r. same_object _ _ o h (λ x. ap label_of_object (same x)) r };
    process = λ p h same. record { led = λ g r. same_process _ _ p h (λ q. ap label_of_process (same q)) r };
    observed = λ h same rises. record { led = λ g r. risen_process _ _ _ h rises r };
    labelled_self = λ can. cc;
    entry = λ can m e x low is free. search;
    through = λ can e l. search;
    unclaim = λ o end. record { led = λ g r. same_object _ _ o _ (λ x. refl) r };
    affected = λ can o h same rises. record { led = λ g r. risen_object _ _ o h rises r };
    labelled = λ can lowers. cc;
    claim = λ can o h same. record { led = λ g r. same_object _ _ o h (λ x. ap label_of_object (same x)) r };
    log = λ can l. search;
    inode = λ can. cc;
    pipe = λ can. cc;
    gone_object = λ can o. record { led = λ g r. with_objects _ _ _ (labels_gone _ _ g.objects o r.objects) r };
    gone_open = λ can e. search;
    fork = λ can p. record { led = λ g r. risen_fork _ _ p r };
    end = λ can. record { led = λ g r. risen_end _ _ _ r };
    collect = λ can p. record { led = λ g r. risen_collect _ _ p r };
  }

  -- ---- where no object goes
  record Adding (t : List (Option Object)) (p : List (Option Process)) : Type 0 where
    risen : Risen f t p
    lasting : Lasting f.objects t

  was_free : (t : List (Option Object)) (p : List (Option Process)) (o : ℕ) → Adding t p → at t o ≡ None → at f.objects o ≡ None
  was_free t p o r free = go _ refl
    where
      go : (x : Option Object) → at f.objects o ≡ x → x ≡ None
      go None is = refl
      go (Some x) is = absurd (true≢false (sym (r.lasting.stays o (ap is_some is)) ∙ ap is_some free))

  adding_change : (t : List (Option Object)) (p : List (Option Process)) (o : ℕ) (h : Object → Object) → Adding t p → Risen f (change t o h) p → Adding (change t o h) p
  adding_change t p o h r risen = record { risen = risen; lasting = lasting_change _ _ o h r.lasting }

  adding_new : (t : List (Option Object)) (p : List (Option Process)) (o : ℕ) (x : Object) → at f.objects o ≡ None → Adding t p → Adding (put t o (Some x)) p
  adding_new t p o x free r = record { risen = with_objects t _ p (labels_new _ _ t o x free r.risen.objects) r.risen; lasting = lasting_put _ _ o x r.lasting }

  rising_adding : (pid : ℕ) → Moves only_adds pid (λ g. Adding g.objects g.processes)
  unfolding change_object change_process change_open put_object put_open put_process add_process end_process logged Holds
  rising_adding pid = record {
    object = λ o h same. record { led = λ g r. adding_change _ _ o h r (same_object _ _ o h (λ x. ap label_of_object (same x)) r.risen) };
    process = λ p h same. record { led = λ g r. record { risen = same_process _ _ p h (λ q. ap label_of_process (same q)) r.risen; lasting = r.lasting } };
    observed = λ h same rises. record { led = λ g r. record { risen = risen_process _ _ _ h rises r.risen; lasting = r.lasting } };
    labelled_self = λ can. cc;
    entry = λ can m e x low is free. search;
    through = λ can e l. search;
    unclaim = λ o end. record { led = λ g r. adding_change _ _ o _ r (same_object _ _ o _ (λ x. refl) r.risen) };
    affected = λ can o h same rises. record { led = λ g r. adding_change _ _ o h r (risen_object _ _ o h rises r.risen) };
    labelled = λ can lowers. cc;
    claim = λ can o h same. record { led = λ g r. adding_change _ _ o h r (same_object _ _ o h (λ x. ap label_of_object (same x)) r.risen) };
    log = λ can l. search;
    inode = λ can m o k kind is free. record { led = λ g r. adding_new _ _ o _ (was_free _ _ o is (free_inode_is m k o free).free) r };
    pipe = λ can m o is free. record { led = λ g r. adding_new _ _ o _ (was_free _ _ o is (free_pipe_is m o free).free) r };
    gone_object = λ can. cc;
    gone_open = λ can. cc;
    fork = λ can p. record { led = λ g r. record { risen = risen_fork _ _ p r.risen; lasting = r.lasting } };
    end = λ can. record { led = λ g r. record { risen = risen_end _ _ _ r.risen; lasting = r.lasting } };
    collect = λ can p. record { led = λ g r. record { risen = risen_collect _ _ p r.risen; lasting = r.lasting } };
  }

  adding_itself : Adding f.objects f.processes
  adding_itself = record { risen = risen_itself f; lasting = lasting_itself _ }

  made_row : (pid : ℕ) (t : LengthChecks) (place : ℕ) (c : Op) → Keeps (λ g. Adding g.objects g.processes) (row t place pid c) → Holds (row t place pid c f) (λ g. Risen f g.objects g.processes)
  made_row pid t place c keeps = holds_more _ _ (row t _ _ c f) (λ g r. r.risen) (keeps.led f adding_itself)

  -- whether a call sets a label
  abbrev pub sets_labels : Op → Bool
  sets_labels (op.SetLabel path now) = true
  sets_labels (op.SetSelf now) = true
  sets_labels _ = false

  pub risen_row : (pid : ℕ) (t : LengthChecks) (place : ℕ) (c : Op) → sets_labels c ≡ false → Holds (row t place pid c f) (λ g. Risen f g.objects g.processes)
  risen_row pid t place (op.SetLabel path now) h = absurd (true≢false h)
  risen_row pid t place (op.SetSelf now) h = absurd (true≢false h)
  risen_row pid t place (op.CreateAt path) h = made_row _ t _ _ (moved_row _ _ _ (rising_adding _) t _ _ refl)
  risen_row pid t place (op.MakeDir path) h = made_row _ t _ _ (moved_row _ _ _ (rising_adding _) t _ _ refl)
  risen_row pid t place op.MakePipe h = made_row _ t _ _ (moved_row _ _ _ (rising_adding _) t _ _ refl)
  risen_row pid t place c h = (moved_row _ _ _ (rising _) t _ c refl).led f (risen_itself f)
