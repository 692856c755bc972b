-- A config stays valid with one line more.
use Rattle.std.proofs.Common.{◌≡◌, ℕ, ◌+◌, ◌-◌, ◌<◌, ◌≤◌, nat_le, nat_eq, Bool, true, false, not, ◌&&◌, ◌||◌, List, [], ◌∷◌, ◌++◌, length, map, take, Some, sym}
use Rattle.std.{proofs.Common.{None, refl, ap, ◌∙◌, subst, arith, append_assoc, length-append, inl, inr}, specs.List.{list_any, list_all, flat_map}}
use Rattle.std.proofs.lemmas.{Bool.{le-leb, cases_eq, eq-eqb, ne_eqb, Decides.nat_tests}, List.{append-nil, map-append, Folds.{list_all-append, list_any-append}}}
use Rattle.ix_label.specs.{Category.leq, declared.form.Form.{Form, TheVariants.One}}
use Rattle.ix_model.specs.{world.{World.fs_at, Naming.same_bytes}, declared.config.{FsSpec.FsSpec, Limits.Limits, ProcSpec.ProcSpec, ObjSpec.ObjSpec}}
use Rattle.ix_model.specs.opening.Valid.{is_within, all_differ, fs_fits, fss_fit, limits_fit, procs_fit, fs_of, is_taken, has_directory, has_room, object_fits}
use Rattle.ix_model.specs.opening.Valid.{is_well_formed, objects_fit, is_valid}
use Rattle.ix_script.specs.lines.Before.{form_by, form_told, fs_told, fss_told, or_default, fss_of, default_fs, is_known, with_limit, limits_after, limits_of}
use Rattle.ix_script.specs.{lines.Before.{default_limits, proc_told, proc_name_told, procs_of, proc_names, object_told, objects_of}, declared.line.{What.What, Line.Line}}
use Rattle.ix_script.specs.{lines.{Kinds.bounds_of, Said.line_of, Faults.{said_fault, line_fault}}, scripts.{Need.need, Scripts.config_of}}
use Rattle.ix_text.proofs.Tests.{both, join_tests}
use Rattle.ix_script.proofs.lines.{Follows.{Follows, follows}, Ordered.{neither, no_objects, no_procs, earlier}, Sound.{Sound, sound}}
use Rattle.ix_script.proofs.reader.{Pushed.{fss_push, limits_push, procs_push, objects_push}, Validity.{Parts, parts_of, valid_by}}
use Rattle.ix_script.proofs.reader.Keeping.{After, same_form, same_fss, later_fss, same_objects}
use Rattle.ix_script.specs.declared.line.What.TheVariants as what
use Rattle.ix_script.specs.declared.line.Line.TheVariants as line

not_false : (b : Bool) → not b ≡ false → b ≡ true
not_false true h = refl
not_false false h = cc

not_true : (b : Bool) → not b ≡ true → b ≡ false
not_true true h = cc
not_true false h = refl

all_push : {A : Type 0} (test : A → Bool) (xs : List A) (x : A) → list_all test xs ≡ true → test x ≡ true → list_all test (xs ++ x ∷ []) ≡ true
all_push test xs x h k = list_all-append test xs _ ∙ join_tests _ _ h (join_tests _ _ k refl)

-- ---- file systems
eq_swap : (m n : ℕ) → nat_eq m n ≡ nat_eq n m
eq_swap m n = elim (cases_eq m n) [
  | inl e ↦ eq-eqb m n e ∙ sym (eq-eqb n m (sym e))
  | inr ne ↦ ne_eqb m n ne ∙ sym (ne_eqb n m (λ e. ne (sym e)))
]

same_swap : (a b : List ℕ) → same_bytes a b ≡ same_bytes b a
same_swap [] [] = refl
same_swap [] (y ∷ b) = refl
same_swap (x ∷ a) [] = refl
same_swap (x ∷ a) (y ∷ b) = λ i. eq_swap x y i && same_swap a b i

or_false : (b : Bool) → (b || false) ≡ b
or_false true = refl
or_false false = refl

differ_push : (names : List (List ℕ)) (name : List ℕ) → all_differ names ≡ true → is_known name names ≡ false → all_differ (names ++ name ∷ []) ≡ true
differ_push [] name h new = refl
differ_push (x ∷ names) name h new =
    let parts = both (not _) (all_differ names) h in
    let others = neither _ _ new in
    let apart = same_swap x _ ∙ others.0 in
    let before = not_true _ parts.0 in
    let one : list_any (same_bytes x) (names ++ name ∷ []) ≡ false = list_any-append (same_bytes x) names (name ∷ []) ∙ rw (before, apart) refl in
    rw one (differ_push names name parts.1 others.1)

first_fits : (fs : FsSpec) → fs_fits fs ≡ true → fss_fit (fs ∷ []) ≡ true
unfolding fss_fit
first_fits fs h = rw h refl

fss_push_fit : (fss : List FsSpec) (fs : FsSpec) → fss_fit fss ≡ true → fs_fits fs ≡ true → length fss < 16 → is_known fs.name (map (λ s. s.name) fss) ≡ false → fss_fit (fss ++ fs ∷ []) ≡ true
unfolding fss_fit
fss_push_fit fss fs h fit few new =
    let one = both (is_within 1 16 (length fss) && list_all fs_fits fss) (all_differ (map (λ s. s.name) fss)) h in
    let two = both (is_within 1 16 (length fss)) (list_all fs_fits fss) one.0 in
    let long = length-append fss (fs ∷ []) in
    let within : is_within 1 16 (length (fss ++ fs ∷ [])) ≡ true = join_tests _ _ (le-leb 1 (length (fss ++ fs ∷ [])) (omega arith)) (le-leb (length (fss ++ fs ∷ [])) 16 (omega arith)) in
    let names : all_differ (map (λ s. s.name) (fss ++ fs ∷ [])) ≡ true = ap all_differ (map-append (λ (s : FsSpec). s.name) fss (fs ∷ [])) ∙ differ_push (map (λ s. s.name) fss) fs.name one.1 new in
    join_tests _ _ (join_tests _ _ within (all_push fs_fits fss fs two.1 fit)) names

told_fit : (form : Form) (told : List FsSpec) (fs : FsSpec) → fss_fit (or_default form told) ≡ true → fs_fits fs ≡ true → length told < 16
    → is_known fs.name (map (λ s. s.name) told) ≡ false → fss_fit (or_default form (told ++ fs ∷ [])) ≡ true
told_fit form [] fs h fit few new = first_fits fs fit
told_fit form (t ∷ told) fs h fit few new = fss_push_fit _ fs h fit few new

-- ---- limits
limit_fits : (l : Limits) (w : What) (n : ℕ) → limits_fit l ≡ true → is_within (bounds_of w).0 (bounds_of w).1 n ≡ true → limits_fit (with_limit l w n) ≡ true
unfolding limits_fit
limit_fits l w n h s =
    let a = both (is_within 1 1024 l.procs && is_within 1 4096 l.opens && nat_le l.pipes 1024 && is_within 16 65536 l.names) (nat_le l.log 65536) h in
    let b = both (is_within 1 1024 l.procs && is_within 1 4096 l.opens && nat_le l.pipes 1024) (is_within 16 65536 l.names) a.0 in
    let c = both (is_within 1 1024 l.procs && is_within 1 4096 l.opens) (nat_le l.pipes 1024) b.0 in
    let d = both (is_within 1 1024 l.procs) (is_within 1 4096 l.opens) c.0 in
    elim w as (λ v. is_within (bounds_of v).0 (bounds_of v).1 n ≡ true → limits_fit (with_limit l v n) ≡ true) [
      | what.Procs ↦ λ k. join_tests _ _ (join_tests _ _ (join_tests _ _ (join_tests _ _ k d.1) c.1) b.1) a.1
      | what.Opens ↦ λ k. join_tests _ _ (join_tests _ _ (join_tests _ _ (join_tests _ _ d.0 k) c.1) b.1) a.1
      | what.Pipes ↦ λ k. join_tests _ _ (join_tests _ _ (join_tests _ _ (join_tests _ _ d.0 d.1) (both (nat_le 0 n) (nat_le n 1024) k).1) b.1) a.1
      | what.Names ↦ λ k. join_tests _ _ (join_tests _ _ (join_tests _ _ (join_tests _ _ d.0 d.1) c.1) k) a.1
      | what.Log ↦ λ k. join_tests _ _ (join_tests _ _ (join_tests _ _ (join_tests _ _ d.0 d.1) c.1) b.1) (both (nat_le 0 n) (nat_le n 65536) k).1
    ] s

-- ---- processes
one_each : (x : Line) → length (proc_told x) ≡ length (proc_name_told x)
one_each (line.Proc name label ceiling cap lic) = refl
one_each _ = refl

as_many : (lines : List Line) → length (flat_map proc_told lines) ≡ length (flat_map proc_name_told lines)
as_many [] = refl
as_many (x ∷ lines) = length-append _ _ ∙ (λ i. one_each x i + as_many lines i) ∙ sym (length-append _ _)

named_each : (lines : List Line) → length (procs_of lines) ≡ length (proc_names lines)
unfolding procs_of proc_names
named_each lines = as_many lines

no_procs_fit : (l : Limits) → procs_fit l [] ≡ true
unfolding procs_fit
no_procs_fit l = join_tests _ _ (le-leb 0 l.procs (omega arith)) refl

procs_push_fit : (l : Limits) (ps : List ProcSpec) (p : ProcSpec) → procs_fit l ps ≡ true → leq p.label p.ceiling ≡ true → length ps < l.procs → procs_fit l (ps ++ p ∷ []) ≡ true
unfolding procs_fit
procs_push_fit l ps p h below few =
    let parts = both (nat_le _ l.procs) (list_all (λ p. leq p.label p.ceiling) ps) h in
    join_tests _ _ (le-leb _ l.procs (omega (arith, length-append ps (p ∷ [])))) (all_push _ ps p parts.1 below)

below_is_less : (m n : ℕ) → nat_le m n ≡ false → n < m
below_is_less m n h = grind (arith, nat_tests)

-- ---- objects
and_true : (b : Bool) → (b && true) ≡ b
and_true true = refl
and_true false = refl

fit_push : (fss : List FsSpec) (l : Limits) (before os : List ObjSpec) (o : ObjSpec) → objects_fit fss l before os ≡ true
    → object_fits fss l (before ++ os) o ≡ true → objects_fit fss l before (os ++ o ∷ []) ≡ true
fit_push fss l before [] o h k = rw and_true (subst (λ xs. object_fits fss l xs o ≡ true) (append-nil before) k)
fit_push fss l before (x ∷ os) o h k =
    let p = both (object_fits _ l before x) (objects_fit fss l (before ++ x ∷ []) os) h in
    join_tests _ _ p.0 (fit_push _ l _ os o p.1 (subst (λ xs. object_fits fss l xs o ≡ true) (sym (append_assoc before (x ∷ []) os)) k))

object_fit : (fss : List FsSpec) (l : Limits) (os : List ObjSpec) (o : ObjSpec) → is_well_formed o ≡ true → not (leq o.label (fs_at fss (fs_of fss o.path.names)).ceiling) ≡ false
    → (is_taken fss os o.path.names || not (has_directory fss os (take (length o.path.names - 1) o.path.names))) ≡ false → not (has_room fss l os o) ≡ false → object_fits fss l os o ≡ true
unfolding object_fits
object_fit fss l os o formed above misfit crowd =
    let tree = neither _ (not _) misfit in
    join_tests _ _ (join_tests _ _ (join_tests _ _ (join_tests _ _ formed (not_false _ above)) (rw tree.0 refl)) (not_false _ tree.1)) (not_false _ crowd)

-- ---- the whole
parts_same : (before after : List Line) → fss_of after ≡ fss_of before → limits_of after ≡ limits_of before → procs_of after ≡ procs_of before
    → objects_of after ≡ objects_of before → Parts before → Parts after
parts_same before after f l p o was =
    record {
      fss = ap fss_fit f ∙ was.fss;
      limits = ap limits_fit l ∙ was.limits;
      procs = (λ i. procs_fit (l i) (p i)) ∙ was.procs;
      objects = (λ i. objects_fit (f i) (l i) [] (o i)) ∙ was.objects;
    }

same_procs : (before : List Line) (x : Line) → proc_told x ≡ [] → procs_of (After before x) ≡ procs_of before
same_procs before x h = procs_push _ x ∙ ap (λ more. procs_of before ++ more) h ∙ append-nil _

object_next : (before : List Line) (x : Line) (o : ObjSpec) → fs_told x ≡ [] → form_by x ≡ One → limits_after (limits_of before) x ≡ limits_of before → proc_told x ≡ [] → object_told x ≡ o ∷ []
    → object_fits (fss_of before) (limits_of before) (objects_of before) o ≡ true → Parts before → Parts (After before x)
object_next before x o f v l p told fit was =
    let fs = same_fss _ x f v in
    let limits = limits_push _ x ∙ l in
    let objects = objects_push _ x ∙ ap (λ more. objects_of before ++ more) told in
    record {
      fss = ap fss_fit fs ∙ was.fss;
      limits = ap limits_fit limits ∙ was.limits;
      procs = (λ i. procs_fit (limits i) (same_procs before x p i)) ∙ was.procs;
      objects = (λ i. objects_fit (fs i) (limits i) [] (objects i)) ∙ fit_push _ _ [] _ o was.objects fit;
    }

-- the file system that is there where none is told
default_fits : (form : Form) → fss_fit (default_fs form ∷ []) ≡ true
unfolding fss_fit default_fs
default_fits form = refl

parts_version : (before : List Line) (form : Form) → Parts before → Parts (After before (line.Version form))
unfolding fss_told objects_of
parts_version [] form was =
    let x = line.Version form in
    let limits = limits_push [] x in
    record {
      fss = default_fits _;
      limits = ap limits_fit limits ∙ was.limits;
      procs = (λ i. procs_fit (limits i) (same_procs [] x refl i)) ∙ was.procs;
      objects = refl;
    }
parts_version (y ∷ before) form was =
    let x = line.Version form in
    parts_same _ _ (later_fss y before x refl) (limits_push _ x) (same_procs _ x refl) (same_objects (y ∷ before) x refl) was

parts_next : (before : List Line) (x : Line) → Parts before → Follows before x → Sound before x → Parts (After before x)
parts_next before (line.Limit w n) was f s =
    let x = line.Limit w n in
    let fs = same_fss _ x refl refl in
    let limits = limits_push _ x in
    let procs = same_procs _ x refl ∙ no_procs _ (earlier before f.order) in
    let objects = same_objects _ x refl ∙ no_objects _ (earlier before f.order) in
    record {
      fss = ap fss_fit fs ∙ was.fss;
      limits = ap limits_fit limits ∙ limit_fits _ w n was.limits s;
      procs = (λ i. procs_fit (limits i) (procs i)) ∙ no_procs_fit _;
      objects = λ i. objects_fit (fs i) (limits i) [] (objects i);
    }
parts_next before (line.Fs name ceiling blocks inodes) was f s =
    let x = line.Fs name ceiling blocks inodes in
    let fs : fss_of (After before x) ≡ or_default (form_told before) (fss_told before ++ fs_told x) = λ i. or_default (same_form before x refl i) (fss_push before x i) in
    let limits = limits_push _ x in
    let objects = same_objects _ x refl ∙ no_objects _ f.order in
    record {
      fss = ap fss_fit fs ∙ told_fit _ _ _ was.fss s.fits (below_is_less 16 _ f.many) s.new;
      limits = ap limits_fit limits ∙ was.limits;
      procs = (λ i. procs_fit (limits i) (same_procs before x refl i)) ∙ was.procs;
      objects = λ i. objects_fit (fs i) (limits i) [] (objects i);
    }
parts_next before (line.Proc name label ceiling cap lic) was f s =
    let x = line.Proc name label ceiling cap lic in
    let fs = same_fss _ x refl refl in
    let limits = limits_push _ x in
    let few = below_is_less _ _ f.exceeds_limits in
    record {
      fss = ap fss_fit fs ∙ was.fss;
      limits = ap limits_fit limits ∙ was.limits;
      procs = (λ i. procs_fit (limits i) (procs_push before x i)) ∙ procs_push_fit _ _ (record {
        label = label;
        ceiling = ceiling;
        cap = cap;
        lic = lic;
      }) was.procs (not_false _ f.above) (omega (arith, named_each before));
      objects = (λ i. objects_fit (fs i) (limits i) [] (same_objects before x refl i)) ∙ was.objects;
    }
parts_next before (line.Dir path label frozen) was f s = object_next _ _ _ refl refl refl refl refl
    (object_fit _ _ _ _ (join_tests _ _ (join_tests _ _ s refl) refl) f.above f.is_misplaced f.exceeds_limits) was
parts_next before (line.File path label frozen cap lic bytes) was f s = object_next _ _ _ refl refl refl refl refl (object_fit _ _ _ _
    (join_tests _ _ (join_tests _ _ s.place s.few) refl) f.above f.is_misplaced f.exceeds_limits) was
parts_next before (line.Version form) was f s = parts_version _ _ was
parts_next before x was f s = parts_same _ _ (same_fss _ x refl refl) (limits_push _ x) (same_procs _ x refl) (same_objects _ x refl) was

pub valid_none : is_valid (config_of []) ≡ true
unfolding is_valid config_of fss_fit limits_fit procs_fit fss_told default_fs limits_of default_limits procs_of objects_of need
valid_none = refl

pub valid_next : (before : List Line) (text : List ℕ) (l : Line) → is_valid (config_of before) ≡ true → line_fault before text ≡ None
    → line_of (form_told before) text ≡ Some l → said_fault before l ≡ None → need (before ++ l ∷ []) ≤ 870400000
    → is_valid (config_of (before ++ l ∷ [])) ≡ true
valid_next before text l h f m fits few = valid_by _ (parts_next _ l (parts_of _ h) (follows _ l fits) (sound _ _ _ l f m)) few
