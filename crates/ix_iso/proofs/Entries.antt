-- What calls do to the labels of open entries: most leave them, reads, writes and seeks raise one, and a new one is at bottom.
use Rattle.std.proofs.Common.{◌≡◌, ℕ, Bool, true, false, true≢false, List, Option, Some, None, is_some, refl, sym, ap, ◌∙◌, subst, inl, inr}
use Rattle.ix_label.specs.{Category.{Categories, bottom, join, leq}, Lattice.{leq-refl, leq-trans, leq-join_left}}
use Rattle.ix_model.specs.{world.World.{Frame, Open, at, put, change}, rows.{Auditing.logged, OnProcesses.end_process, OnDescriptors.LengthChecks}, history.Events.Op}
use Rattle.ix_model.specs.rows.{Rows.{change_object, change_process, change_open, put_object, put_open, put_process, add_process}, Table.{row, verdict}}
use Rattle.ix_model.proofs.{tables.Finds.{at_put, at_change}, words.{Keeps.{Holds, Keeps}, Lasts.{Lasting, lasting_itself, lasting_put, decided}}}
use Rattle.ix_model.proofs.words.{Rowwise.{Change, Moving, Opening, LettingGo, Moves, moved_row}, Turns.holds_more}
use Rattle.ix_model.specs.history.Events as op

-- ---- what is asked of the open entries alone
module _ (can : Change → Bool) (pid : ℕ) (S : List (Option Open) → Type 0) where
  -- what the words on open entries do to it
  record Through : Type 0 where
    entry : can Opening ≡ true → (t u : List (Option Open)) (e : ℕ) (x : Open) → x.label ≡ bottom → S t → at t e ≡ None → S u → S (put u e (Some x))
    through : can Moving ≡ true → (u : List (Option Open)) (e : ℕ) (l : Categories) → S u → S (change u e (λ y. record y { label = join y.label l }))
    gone : can LettingGo ≡ true → (u : List (Option Open)) (e : ℕ) → S u → S (put u e None)

  opens_moves : Through → Moves can pid (λ g. S g.opens)
  unfolding change_object change_process change_open put_object put_open put_process add_process end_process logged Holds
  opens_moves s = record {
    object = λ o h same. search;
    process = λ p h same. search;
    observed = λ h same rises. search;
    labelled_self = λ lowers h same. search;
    entry = λ opens f e x low is free. record { led = λ g r. s.entry opens f.opens g.opens e x low is free r };
    through = λ moves e l. record { led = λ g r. s.through moves g.opens e l r };
    unclaim = λ o end. search;
    affected = λ affects o h same rises. search;
    labelled = λ affects lowers o h same. search;
    claim = λ claims o h same. search;
    log = λ logs l. search;
    inode = λ makes m o k kind is free. search;
    pipe = λ makes m o is free. search;
    gone_object = λ goes o. search;
    gone_open = λ goes e. record { led = λ g r. s.gone goes g.opens e r };
    fork = λ forks p. search;
    end = λ ends. search;
    collect = λ ends p. search;
  }

-- ---- labels
-- of what stands in both tables no label is below what it was
pub record EntriesRise (t u : List (Option Open)) : Type 0 where
  pub rise : (e : ℕ) (x y : Open) → at t e ≡ Some x → at u e ≡ Some y → leq x.label y.label ≡ true

-- of what stands in both tables each label is as it was, and what stands in the second alone is at bottom
pub record EntriesStay (t u : List (Option Open)) : Type 0 where
  pub same : (e : ℕ) (x y : Open) → at t e ≡ Some x → at u e ≡ Some y → y.label ≡ x.label
  pub new : (e : ℕ) (y : Open) → at t e ≡ None → at u e ≡ Some y → y.label ≡ bottom

one_entry : (t : List (Option Open)) (e : ℕ) (x y : Open) → at t e ≡ Some x → at t e ≡ Some y → x ≡ y
one_entry t e x y is here = cc (sym is ∙ here)

rise_itself : (t : List (Option Open)) → EntriesRise t t
rise_itself t = record { rise = λ e x y is here. subst (λ z. leq x.label z.label ≡ true) (one_entry t e x y is here) (leq-refl _) }

stay_itself : (t : List (Option Open)) → EntriesStay t t
stay_itself t = record {
  same = λ e x y is here. ap (λ z. z.label) (sym (one_entry t e x y is here));
  new = λ e y free here. cc (sym free ∙ here);
}

stay_rise : (t u : List (Option Open)) → EntriesStay t u → EntriesRise t u
stay_rise t u r = record { rise = λ e x y is here. subst (λ l. leq x.label l ≡ true) (sym (r.same e x y is here)) (leq-refl _) }

module _ (t : List (Option Open)) where
  rise_through : (u : List (Option Open)) (e : ℕ) (l : Categories) → EntriesRise t u → EntriesRise t (change u e (λ y. record y { label = join y.label l }))
  rise_through u e l r = record {
    rise = λ n x y is here. elim (at_change u e _ n y here) [
      | inl c ↦ subst (λ z. leq x.label z.label ≡ true) (sym c.same) (leq-trans _ _ _
          (r.rise n x c.was is (ap (at u) c.here ∙ c.is_was)) (leq-join_left _ l))
      | inr other ↦ r.rise n x y is other.1
    ];
  }

  rise_gone : (u : List (Option Open)) (e : ℕ) → EntriesRise t u → EntriesRise t (put u e None)
  rise_gone u e r = record {
    rise = λ n x y is here. elim (at_put u e n _ y here) [
      | inl gone ↦ cc (gone.1)
      | inr other ↦ r.rise n x y is other.1
    ];
  }

  stay_gone : (u : List (Option Open)) (e : ℕ) → EntriesStay t u → EntriesStay t (put u e None)
  stay_gone u e r = record {
    same = λ n x y is here. elim (at_put u e n _ y here) [
      | inl gone ↦ cc (gone.1)
      | inr other ↦ r.same n x y is other.1
    ];
    new = λ n y free here. elim (at_put u e n _ y here) [
      | inl gone ↦ cc (gone.1)
      | inr other ↦ r.new n y free other.1
    ];
  }

  -- a number that is free now was free
  was_free : (u : List (Option Open)) (e : ℕ) → Lasting t u → at u e ≡ None → at t e ≡ None
  was_free u e lasting free = go _ refl
    where
      go : (x : Option Open) → at t e ≡ x → x ≡ None
      go None is = refl
      go (Some x) is = absurd (true≢false (sym (lasting.stays e (ap is_some is)) ∙ ap is_some free))

  stay_entry : (u : List (Option Open)) (e : ℕ) (x : Open) → x.label ≡ bottom → at t e ≡ None → EntriesStay t u → EntriesStay t (put u e (Some x))
  stay_entry u e x low free r = record {
    same = λ n y z is here. elim (at_put u e n _ z here) [
      | inl new ↦ cc (sym free ∙ ap (at t) (sym new.0) ∙ is)
      | inr other ↦ r.same n y z is other.1
    ];
    new = λ n z none here. elim (at_put u e n _ z here) [
      | inl new ↦ let h : x ≡ z = cc (new.1) in ap (λ y. y.label) (sym h) ∙ low
      | inr other ↦ r.new n z none other.1
    ];
  }

-- ---- the rows
opens_none : Change → Bool
opens_none Opening = false
opens_none _ = true

still : Change → Bool
still Moving = false
still Opening = false
still _ = true

adds : Change → Bool
adds Moving = false
adds LettingGo = false
adds _ = true

module _ (f : Frame) (pid : ℕ) where
  -- none goes, and labels stay
  record Added (u : List (Option Open)) : Type 0 where
    lasting : Lasting f.opens u
    stay : EntriesStay f.opens u

  added_itself : Added f.opens
  added_itself = record { lasting = lasting_itself _; stay = stay_itself _ }

  raising : Moves opens_none pid (λ g. EntriesRise f.opens g.opens)
  unfolding opens_none
  raising = opens_moves opens_none pid (EntriesRise f.opens) (record {
    entry = λ can. cc;
    through = λ can u e l r. rise_through _ u e l r;
    gone = λ can u e r. rise_gone _ u e r;
  })

  staying : Moves still pid (λ g. EntriesStay f.opens g.opens)
  unfolding still
  staying = opens_moves still pid (EntriesStay f.opens) (record {
    entry = λ can. cc;
    through = λ can. cc;
    gone = λ can u e r. stay_gone _ u e r;
  })

  adding : Moves adds pid (λ g. Added g.opens)
  unfolding adds
  adding = opens_moves adds pid Added (record {
    entry = λ can t u e x low is free r. record {
      lasting = lasting_put _ u e x r.lasting;
      stay = stay_entry _ u e x low (was_free _ t e is.lasting free) r.stay;
    };
    through = λ can. cc;
    gone = λ can. cc;
  })

  added_row : (t : LengthChecks) (place : ℕ) (c : Op) → Keeps (λ g. Added g.opens) (row t place pid c) → Holds (row t place pid c f) (λ g. EntriesStay f.opens g.opens)
  added_row t place c keeps = holds_more _ _ (row t _ _ c f) (λ g r. r.stay) (keeps.led f added_itself)

  risen_row : (t : LengthChecks) (place : ℕ) (c : Op) → Keeps (λ g. Added g.opens) (row t place pid c) → Holds (row t place pid c f) (λ g. EntriesRise f.opens g.opens)
  risen_row t place c keeps = holds_more _ _ (row t _ _ c f) (λ g r. stay_rise _ _ r.stay) (keeps.led f added_itself)

  rise_row : (t : LengthChecks) (place : ℕ) (c : Op) → Holds (row t place pid c f) (λ g. EntriesRise f.opens g.opens)
  unfolding opens_none adds
  rise_row t place (op.OpenAt path mode) = risen_row t _ _ (moved_row _ _ _ adding t _ _ refl)
  rise_row t place op.MakePipe = risen_row t _ _ (moved_row _ _ _ adding t _ _ refl)
  rise_row t place c = (moved_row _ _ _ raising t _ c refl).led f (rise_itself _)

-- whatever is called, no label of an open entry that stays is below what it was
pub entries_rise : (t : LengthChecks) (place pid : ℕ) (c : Op) (f : Frame) → EntriesRise f.opens (verdict t place pid c f).frame.opens
entries_rise t place pid c f = decided (λ g. EntriesRise f.opens g.opens) t place pid c f (rise_itself f.opens) (rise_row f _ t place c)

-- ---- where no open entry's label changes
-- the calls that go by the shape alone: the others read, write, seek or end a process, or needn't be looked at
abbrev pub leaves_labels : Op → Bool
leaves_labels (op.ReadFd fd count) = false
leaves_labels (op.WriteFd fd bytes) = false
leaves_labels (op.SeekFd fd offset) = false
leaves_labels _ = true

module _ (f : Frame) (pid : ℕ) where
  stay_row : (t : LengthChecks) (place : ℕ) (c : Op) → leaves_labels c ≡ true → Holds (row t place pid c f) (λ g. EntriesStay f.opens g.opens)
  unfolding still adds
  stay_row t place (op.ReadFd fd count) h = absurd (true≢false (sym h))
  stay_row t place (op.WriteFd fd bytes) h = absurd (true≢false (sym h))
  stay_row t place (op.SeekFd fd offset) h = absurd (true≢false (sym h))
  stay_row t place (op.CloseFd fd) h = (moved_row _ _ _ (staying f pid) t _ _ refl).led f (stay_itself _)
  stay_row t place (op.UnlinkAt path) h = (moved_row _ _ _ (staying f pid) t _ _ refl).led f (stay_itself _)
  stay_row t place (op.RemoveDir path) h = (moved_row _ _ _ (staying f pid) t _ _ refl).led f (stay_itself _)
  stay_row t place (op.Exit status) h = (moved_row _ _ _ (staying f pid) t _ _ refl).led f (stay_itself _)
  stay_row t place c h = added_row f _ t place c (moved_row _ _ _ (adding f pid) t _ c refl)

pub entries_stay : (t : LengthChecks) (place pid : ℕ) (c : Op) (f : Frame) → leaves_labels c ≡ true → EntriesStay f.opens (verdict t place pid c f).frame.opens
entries_stay t place pid c f h = decided (λ g. EntriesStay f.opens g.opens) t place pid c f (stay_itself f.opens) (stay_row f _ t place c h)
