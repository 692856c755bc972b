-- What each word of a row leaves fits a form, where what it is told fits.
use Rattle.std.proofs.Common.{◌≡◌, ℕ, Bool, true, false, List, [], ◌∷◌, ◌++◌, Option, Some, None, refl, sym, subst, inl, inr}
use Rattle.std.specs.{Prelude.{All, slice_get, if◌then◌else◌}, Option.option_and_then}
use Rattle.std.proofs.lemmas.{List.Elements.{All-push, All-get_or}, Option.{slice_get_within, get_or_from_slice_get}}
use Rattle.ix_label.specs.{declared.form.Form.{Form, TheVariants.{One, Two}}, Category.{Categories, bottom, join}, Forms.Fits, Narrow.{narrow-bottom, narrow-join}}
use Rattle.ix_model.specs.{world.World.{Frame, Object, Process, Open, at, put, change}, rows.{Auditing.logged, OnProcesses.{remains, end_process}}, declared.audit.AuditLine.AuditLine}
use Rattle.ix_model.specs.{rows.Rows.{change_object, change_process, change_open, put_object, put_open, put_process, add_process}, history.Spelled.AuditFits}
use Rattle.ix_model.proofs.{tables.Finds.{at_put, at_change, at_push}, words.Keeps.{Holds, Keeps}}
use Rattle.ix_iso.specs.Forms.{FrameFits}

-- ---- labels
pub fits-bottom : (form : Form) → Fits form bottom
fits-bottom One = narrow-bottom
fits-bottom Two = tt

pub fits-join : (form : Form) (a b : Categories) → Fits form a → Fits form b → Fits form (join a b)
fits-join One a b h k = narrow-join a b h k
fits-join Two a b h k = tt

-- ---- tables
-- P holds of all that stands
abbrev pub AllAt : {A : Type 0} → (A → Type 0) → List (Option A) → Type 0
AllAt {A} P t = (n : ℕ) (x : A) → at t n ≡ Some x → P x

module _ {A : Type 0} (P : A → Type 0) (t : List (Option A)) (all : AllAt P t) where
  pub all_put : (n : ℕ) (x : A) → P x → AllAt P (put t n (Some x))
  all_put n x h m y here = elim (at_put t n m _ y here) [
    | inl new ↦ let same : x ≡ y = cc in subst P same h
    | inr other ↦ all m y other.1
  ]

  pub all_gone : (n : ℕ) → AllAt P (put t n None)
  all_gone n m y here = elim (at_put t n m _ y here) [
    | inl new ↦ let no = new.1 in cc
    | inr other ↦ all m y other.1
  ]

  pub all_changed : (n : ℕ) (h : A → A) → ((x : A) → P x → P (h x)) → AllAt P (change t n h)
  all_changed n h keeps m y here = elim (at_change t n h m y here) [
    | inl c ↦ subst P (sym c.same) (keeps c.was (all n _ c.is_was))
    | inr other ↦ all m y other.1
  ]

  pub all_pushed : (x : A) → P x → AllAt P (t ++ Some x ∷ [])
  all_pushed x h m y here = elim (at_push t x m y here) [
    | inl new ↦ subst P new.1 h
    | inr old ↦ all m y old
  ]

-- what is left of a process
all_left : (P : Process → Type 0) (t : List (Option Process)) (pid : ℕ) → ((q : Process) → P q → P (record q { ended = true })) → AllAt P t → AllAt P (put t pid (option_and_then remains (at t pid)))
all_left P t pid keeps all m y here = elim (at_put t _ m _ y here) [
  | inl new ↦ go _ refl new.1
  | inr other ↦ all m y other.1
]
  where
    stays : (q : Process) (b : Bool) → at t pid ≡ Some q → (if b then Some (record q { ended = true }) else None) ≡ Some y → P y
    stays q true is here = let same : record q { ended = true } ≡ y = cc in subst P same (keeps q (all _ q is))
    stays q false is here = cc

    go : (o : Option Process) → at t pid ≡ o → option_and_then remains o ≡ Some y → P y
    go None is here = cc
    go (Some q) is here = stays q _ is here

-- ---- the words
module _ (form : Form) where
  -- a frame fits with another of its tables, where that fits
  with_objects : (g : Frame) (t : List (Option Object)) → FrameFits form g → AllAt (λ (x : Object). Fits form x.label) t → FrameFits form (record g { objects = t })
  with_objects g t r fit = search

  with_processes : (g : Frame) (t : List (Option Process)) → FrameFits form g → AllAt (λ (q : Process). Fits form q.label) t → AllAt (λ (q : Process). Fits form q.ceiling) t
      → FrameFits form (record g { processes = t })
  with_processes g t r label ceiling = search

  with_opens : (g : Frame) (t : List (Option Open)) → FrameFits form g → AllAt (λ (x : Open). Fits form x.label) t → FrameFits form (record g { opens = t })
  with_opens g t r fit = search

  pub fits_object : (o : ℕ) (h : Object → Object) → ((x : Object) → Fits form x.label → Fits form (h x).label) → Keeps (FrameFits form) (change_object o h)
  unfolding change_object Holds
  fits_object o h keeps = record { led = λ g r. with_objects g _ r (all_changed _ _ r.objects o h keeps) }

  pub fits_process : (p : ℕ) (h : Process → Process) → ((q : Process) → Fits form q.label → Fits form (h q).label)
      → ((q : Process) → Fits form q.ceiling → Fits form (h q).ceiling) → Keeps (FrameFits form) (change_process p h)
  unfolding change_process Holds
  fits_process p h labels ceilings = record {
    led = λ g r. with_processes g _ r (all_changed _ _ r.labels p h labels)
        (all_changed _ _ r.ceilings p h ceilings);
  }

  pub fits_open : (e : ℕ) (h : Open → Open) → ((x : Open) → Fits form x.label → Fits form (h x).label) → Keeps (FrameFits form) (change_open e h)
  unfolding change_open Holds
  fits_open e h keeps = record { led = λ g r. with_opens g _ r (all_changed _ _ r.opens e h keeps) }

  pub fits_new_object : (o : ℕ) (x : Object) → Fits form x.label → Keeps (FrameFits form) (put_object o (Some x))
  unfolding put_object Holds
  fits_new_object o x fits = record { led = λ g r. with_objects g _ r (all_put _ _ r.objects o x fits) }

  pub fits_no_object : (o : ℕ) → Keeps (FrameFits form) (put_object o None)
  unfolding put_object Holds
  fits_no_object o = record { led = λ g r. with_objects g _ r (all_gone _ g.objects r.objects o) }

  pub fits_new_open : (e : ℕ) (x : Open) → Fits form x.label → Keeps (FrameFits form) (put_open e (Some x))
  unfolding put_open Holds
  fits_new_open e x fits = record { led = λ g r. with_opens g _ r (all_put _ _ r.opens e x fits) }

  pub fits_no_open : (e : ℕ) → Keeps (FrameFits form) (put_open e None)
  unfolding put_open Holds
  fits_no_open e = record { led = λ g r. with_opens g _ r (all_gone _ g.opens r.opens e) }

  pub fits_child : (p : Process) → Fits form p.label → Fits form p.ceiling → Keeps (FrameFits form) (add_process p)
  unfolding add_process Holds
  fits_child p label ceiling = record {
    led = λ g r. with_processes g _ r (all_pushed _ g.processes r.labels p label)
        (all_pushed _ g.processes r.ceilings p ceiling);
  }

  pub fits_collected : (p : ℕ) → Keeps (FrameFits form) (put_process p None)
  unfolding put_process Holds
  fits_collected p = record {
    led = λ g r. with_processes g _ r (all_gone _ g.processes r.labels p)
        (all_gone _ g.processes r.ceilings p);
  }

  pub fits_end : (pid : ℕ) → Keeps (FrameFits form) (end_process pid)
  unfolding end_process put_process Holds
  fits_end pid = record {
    led = λ g r. with_processes g _ r (all_left _ _ _ (λ q h. h) r.labels)
        (all_left _ _ _ (λ q h. h) r.ceilings);
  }

  pub fits_logged : (l : AuditLine) → Fits form l.was → Fits form l.now → Keeps (FrameFits form) (logged l)
  unfolding logged Holds
  fits_logged l was now = record {
    led = λ g r. record {
      fss = r.fss;
      objects = r.objects;
      labels = r.labels;
      ceilings = r.ceilings;
      opens = r.opens;
      log = All-push (λ l. AuditFits form l) g.log l r.log (search);
    };
  }

-- what a list has at an index is of what all of it is
pub all_get : {A : Type 0} (P : A → Type 0) (xs : List A) (n : ℕ) (x : A) → All P xs → slice_get xs n ≡ Some x → P x
all_get P xs n x all is = subst P (get_or_from_slice_get xs n x x is) (All-get_or P xs n x (slice_get_within xs n x is) all)
