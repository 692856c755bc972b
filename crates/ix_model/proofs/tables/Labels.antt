-- Labels below their ceilings: what each change of a table leaves.
use Rattle.std.proofs.Common.{◌≡◌, ℕ, true, Option, Some, ◌++◌, [], ◌∷◌, sym, ◌∙◌, subst, inl, inr}
use Rattle.ix_label.specs.Category.{Categories, join, leq}
use Rattle.ix_model.specs.{world.World.{Frame, Object, Process, at, put, change, living, ceiling_of}, laws.Sound.LabelsBelow}
use Rattle.ix_model.proofs.{tables.Finds.{at_put, at_change, at_push}, words.Living.is_living}

abbrev pub object_fits : Frame → Object → Type 0
object_fits f x = leq x.label (ceiling_of f.fss x) ≡ true

abbrev pub process_fits : Process → Type 0
process_fits q = leq q.label q.ceiling ≡ true

module _ (f : Frame) (r : LabelsBelow f) where
  pub labels_object : (o : ℕ) (h : Object → Object) → ((x : Object) → at f.objects o ≡ Some x → object_fits f (h x)) → LabelsBelow (record f { objects = change f.objects o h })
  labels_object o h fits = record {
    processes = r.processes;
    objects = λ n y here. elim (at_change _ o h n y here) [
      | inl c ↦ subst (object_fits f) (sym c.same) (fits _ c.is_was)
      | inr other ↦ r.objects n y other.1
    ];
  }

  pub labels_process : (p : ℕ) (h : Process → Process) → ((q : Process) → at f.processes p ≡ Some q → process_fits (h q)) → LabelsBelow (record f { processes = change f.processes p h })
  labels_process p h fits = record {
    objects = r.objects;
    processes = λ n y here. elim (at_change _ p h n y here) [
      | inl c ↦ subst process_fits (sym c.same) (fits _ c.is_was)
      | inr other ↦ r.processes n y other.1
    ];
  }

  pub labels_put_object : (o : ℕ) (x : Option Object) → ((y : Object) → x ≡ Some y → object_fits f y) → LabelsBelow (record f { objects = put f.objects o x })
  labels_put_object o x fits = record {
    processes = r.processes;
    objects = λ n y here. elim (at_put _ o n x y here) [
      | inl new ↦ fits y new.1
      | inr other ↦ r.objects n y other.1
    ];
  }

  pub labels_put_process : (p : ℕ) (x : Option Process) → ((y : Process) → x ≡ Some y → process_fits y) → LabelsBelow (record f { processes = put f.processes p x })
  labels_put_process p x fits = record {
    objects = r.objects;
    processes = λ n y here. elim (at_put _ p n x y here) [
      | inl new ↦ fits y new.1
      | inr other ↦ r.processes n y other.1
    ];
  }

  pub labels_add_process : (q : Process) → process_fits q → LabelsBelow (record f { processes = f.processes ++ Some q ∷ [] })
  labels_add_process q fits = record {
    objects = r.objects;
    processes = λ n y here. elim (at_push _ q n y here) [
      | inl new ↦ subst process_fits new.1 fits
      | inr old ↦ r.processes n y old
    ];
  }

-- ---- a label that is joined
pub labels_observed : (g : Frame) (pid : ℕ) (seen : Categories) (p : Process) → living (at g.processes pid) ≡ Some p → leq (join p.label seen) p.ceiling ≡ true
    → LabelsBelow g → LabelsBelow (record g { processes = change g.processes pid (λ q. record q { label = join q.label seen }) })
labels_observed g pid seen p is low r = labels_process g r pid _ (λ q here.
    let e = sym (is_living _ p is) ∙ here in
    let same : p ≡ q = cc in
    subst (λ x. leq (join x.label seen) x.ceiling ≡ true) same low)

pub labels_affected : (g : Frame) (o : ℕ) (l : Categories) (x : Object) → at g.objects o ≡ Some x → leq (join x.label l) (ceiling_of g.fss x) ≡ true
    → LabelsBelow g → LabelsBelow (record g { objects = change g.objects o (λ y. record y { label = join y.label l }) })
labels_affected g o l x is low r = labels_object g r o _ (λ y here.
    let e = sym is ∙ here in
    let same : x ≡ y = cc in
    subst (λ z. leq (join z.label l) (ceiling_of g.fss z) ≡ true) same low)
