-- The labels of a script's lines fit its form, and so do those of its config.
use Rattle.std.{proofs.{Common.{◌≡◌, ℕ, List, [], ◌∷◌, Some, None, arith}, lemmas.List.Elements.{All-nil, All-cons, All-tail, All-append}}, specs.{Prelude.All, List.flat_map}}
use Rattle.ix_label.specs.{declared.form.Form.{Form, TheVariants.{One, Two}}, Forms.{Fits, all_of}, Narrow.narrow-all_of}
use Rattle.ix_model.specs.{history.Spelled.ConfigFits, declared.config.{FsSpec.FsSpec, ObjSpec.ObjSpec, ProcSpec.ProcSpec}}
use Rattle.ix_script.specs.lines.Before.{form_by, form_told, fs_told, fss_told, default_fs, or_default, proc_told, procs_of, object_told, objects_of}
use Rattle.ix_script.specs.{lines.{Fits.LineFits, Said.line_of, Faults.line_fault}, scripts.Scripts.{config_of, script_of}, declared.line.Line.Line}
use Rattle.ix_script.proofs.lines.{Fitting.line_fits, EachLine.{Along, along}}
use Rattle.ix_script.specs.declared.line.Line.TheVariants as line

-- what is told by things of which P holds
all_told : {A B : Type 0} (P : A → Type 0) (Q : B → Type 0) (f : A → List B) → ((x : A) → P x → All Q (f x)) → (xs : List A) → All P xs → All Q (flat_map f xs)
all_told P Q f each [] all = All-nil Q
all_told P Q f each (x ∷ xs) all = All-append Q _ _ (each x (all 0 x (omega arith))) (all_told P Q f each xs (All-tail P x xs all))

one : {A : Type 0} (P : A → Type 0) (x : A) → P x → All P (x ∷ [])
one P x h = All-cons P x [] h (All-nil P)

all_fits : (form : Form) → Fits form (all_of form)
all_fits One = narrow-all_of
all_fits Two = tt

module _ (form : Form) where
  abbrev InForm : Line → Type 0
  InForm l = LineFits form l

  fs_fits : (l : Line) → InForm l → All (λ (s : FsSpec). Fits form s.ceiling) (fs_told l)
  fs_fits (line.Fs name ceiling blocks inodes) h = one (λ s. Fits form s.ceiling) _ h
  fs_fits _ h = All-nil (λ s. Fits form s.ceiling)

  label_fits : (l : Line) → InForm l → All (λ (p : ProcSpec). Fits form p.label) (proc_told l)
  label_fits (line.Proc name label ceiling cap lic) h = one (λ p. Fits form p.label) _ h.0
  label_fits _ h = All-nil (λ p. Fits form p.label)

  ceiling_fits : (l : Line) → InForm l → All (λ (p : ProcSpec). Fits form p.ceiling) (proc_told l)
  ceiling_fits (line.Proc name label ceiling cap lic) h = one (λ p. Fits form p.ceiling) _ h.1
  ceiling_fits _ h = All-nil (λ p. Fits form p.ceiling)

  object_fits : (l : Line) → InForm l → All (λ (x : ObjSpec). Fits form x.label) (object_told l)
  object_fits (line.Dir path label frozen) h = one (λ x. Fits form x.label) _ h
  object_fits (line.File path label frozen cap lic bytes) h = one (λ x. Fits form x.label) _ h
  object_fits _ h = All-nil (λ x. Fits form x.label)

  told_fit : (fss : List FsSpec) → All (λ (s : FsSpec). Fits form s.ceiling) fss → All (λ (s : FsSpec). Fits form s.ceiling) (or_default form fss)
  unfolding default_fs
  told_fit [] h = one (λ s. Fits form s.ceiling) (default_fs form) (all_fits form)
  told_fit (fs ∷ fss) h = h

pub config_fits : (lines : List Line) → All (λ (l : Line). LineFits (form_told lines) l) lines → ConfigFits (form_told lines) (config_of lines)
unfolding config_of fss_told procs_of objects_of
config_fits lines h =
    let form = form_told lines in
    record {
      fss = told_fit _ (fss_told lines) (all_told _ (λ s. Fits form s.ceiling) _ (fs_fits _) _ h);
      labels = all_told _ (λ p. Fits form p.label) _ (label_fits _) _ h;
      ceilings = all_told _ (λ p. Fits form p.ceiling) _ (ceiling_fits _) _ h;
      objects = all_told _ (λ x. Fits form x.label) _ (object_fits _) _ h;
    }

-- ---- the lines of a script
abbrev HereFits : List Line → Line → Type 0
HereFits before l = LineFits (form_told before) l

here_fits : (before : List Line) (text : List ℕ) (l : Line) → line_of (form_told before) text ≡ Some l → line_fault before text ≡ None → HereFits before l
here_fits before text l means sound = line_fits _ _ l means

later_fit : (b : Line) (before lines : List Line) → Along HereFits (b ∷ before) lines → All (λ (l : Line). LineFits (form_by b) l) lines
later_fit b before [] h = All-nil (λ l. LineFits (form_by b) l)
later_fit b before (l ∷ lines) h = All-cons (λ l. LineFits (form_by b) l) l lines h.0 (later_fit b _ lines h.1)

-- a line that tells a form has no label
first_fit : (l : Line) → LineFits One l → LineFits (form_by l) l
first_fit (line.Version form) h = tt
first_fit _ h = h

all_fit : (lines : List Line) → Along HereFits [] lines → All (λ (l : Line). LineFits (form_told lines) l) lines
all_fit [] h = All-nil (λ l. LineFits One l)
all_fit (l ∷ lines) h = All-cons (λ x. LineFits (form_by l) x) l lines (first_fit l h.0) (later_fit l [] _ h.1)

pub lines_fit : (bytes : List ℕ) (lines : List Line) → script_of bytes ≡ Some lines → All (λ (l : Line). LineFits (form_told lines) l) lines
lines_fit bytes lines h = all_fit _ (along _ here_fits _ _ h)
