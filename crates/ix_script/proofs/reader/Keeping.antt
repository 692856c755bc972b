-- What is kept of the header holds with one line more.
use Rattle.std.proofs.Common.{◌≡◌, ℕ, suc, ◌+◌, ◌<◌, ◌≤◌, ◌==◌, nat_le, nat_lt, Bool, true, false, ◌||◌, not, cond, List, [], ◌∷◌, ◌++◌, length, max, refl, sym}
use Rattle.std.proofs.Common.{slice_index, ap, ◌∙◌, subst, arith, length-append, inl, inr}
use Rattle.std.{specs.List.{flat_map, list_all}, proofs.lemmas.{Bool.{cases_eq, eq-eqb, ne_eqb, leb-true, Decides.nat_tests}, List.append-nil}}
use Rattle.ix_model.specs.{world.{World.fs_at, Naming.PathOf}, rows.Telling.blocks_for, opening.Valid.{fs_fits, fs_of, lying_on, blocks_taken, has_room}}
use Rattle.ix_model.specs.declared.{config.{FsSpec.FsSpec, Limits.Limits, ObjSpec.ObjSpec}, privs.PrivSet.PrivSet}
use Rattle.ix_label.specs.{declared.form.Form.{Form, TheVariants.One}, Category.Categories}
use Rattle.ix_text.{specs.Bytes.is_empty, proofs.Tests.both}
use Rattle.ix_script.specs.lines.Before.{form_by, form_told, fs_told, or_default, fss_told, fss_of, what_told, limits_after, limits_of, proc_name_told, group}
use Rattle.ix_script.{specs.lines.Before.{proc_names, object_told, objects_of, is_policy}, proofs.lines.Ordered.{no_objects, latest_push}}
use Rattle.ix_script.specs.reader.{Indexed.{AreNames, AreSites}, Told.{HeaderTold, MakesMore, NamesMore, TakenOne, Takes, fss_after}}
use Rattle.ix_script.specs.declared.{header.{Header.Header, Taken.Taken}, index.{Names.Names, Tree.Tree}, line.{What.What, Line.Line}}
use Rattle.ix_script.proofs.lines.{Follows.Follows, Lying.{fs_within, few_inodes, few_blocks, count_here, count_else, blocks_here, blocks_else}}
use Rattle.ix_script.proofs.reader.Pushed.{fss_push, whats_push, limits_push, proc_names_push, objects_push, policy_push}
use Rattle.ix_script.specs.declared.line.Line.TheVariants as line

-- ---- file systems
pub some_fs : (form : Form) (fss : List FsSpec) → 0 < length (or_default form fss)
some_fs form [] = omega arith
some_fs form (fs ∷ fss) = omega arith

pub told_is : (form : Form) (told : List FsSpec) → 0 < length told → or_default form told ≡ told
told_is form [] h = absurd (omega arith)
told_is form (fs ∷ told) h = refl

pub told_few : (form : Form) (fss : List FsSpec) → length (or_default form fss) ≤ 16 → length fss ≤ 16
told_few form [] h = omega arith
told_few form (fs ∷ fss) h = h

-- the first line
first_one : (form : Form) (fss more : List FsSpec) → length more ≤ 1 → fss_after true 0 fss form more ≡ or_default form more
first_one form fss [] h = refl
first_one form fss (fs ∷ []) h = refl
first_one form fss (fs ∷ f ∷ more) h = absurd (omega arith)

-- a later one
one_more : (form by : Form) (told : List FsSpec) (more : List FsSpec) → length more ≤ 1 → fss_after false (length told) (or_default form told) by more ≡ or_default form (told ++ more)
one_more form by told [] h = ap (or_default form) (sym (append-nil told))
one_more form by [] (fs ∷ []) h = refl
one_more form by (t ∷ told) (fs ∷ []) h = rw (ne_eqb (suc (length told)) 0 (λ e. let k = e in absurd (omega arith))) refl
one_more form by told (fs ∷ f ∷ more) h = absurd (omega arith)

one_told : (x : Line) → length (fs_told x) ≤ 1
one_told (line.Fs name ceiling blocks inodes) = omega arith
one_told _ = omega arith

fss_kept : (first : Bool) (n : ℕ) (old new : List FsSpec) (before : List Line) (x : Line) → first ≡ is_empty before → n ≡ length (fss_told before)
    → old ≡ fss_of before → new ≡ fss_after first n old (form_by x) (fs_told x) → new ≡ or_default (form_told (before ++ x ∷ [])) (fss_told before ++ fs_told x)
unfolding fss_told
fss_kept first n old new [] x hf hn ho h = h ∙ (λ i. fss_after (hf i) (hn i) old (form_by x) (fs_told x)) ∙ first_one _ old _ (one_told x)
fss_kept first n old new (y ∷ before) x hf hn ho h = h ∙ (λ i. fss_after (hf i) (hn i) (ho i) (form_by x) (fs_told x)) ∙ one_more _ (form_by x) _ _ (one_told x)

room_for_fs : (before : List Line) (x : Line) → Follows before x → length (fss_told before) ≤ 16 → length (fss_told before) + length (fs_told x) ≤ 16
room_for_fs before (line.Fs name ceiling blocks inodes) f few =
    let many = f.many in
    grind (arith, nat_tests)
room_for_fs before _ f few = omega arith

few_after : (form : Form) (fss : List FsSpec) → length fss ≤ 16 → length (or_default form fss) ≤ 16
few_after form [] h = omega arith
few_after form (fs ∷ fss) h = h

-- ---- what objects take
pub record Counted (fss : List FsSpec) (os : List ObjSpec) (taken : Taken) : Type 0 where
  pub counts : (k : ℕ) → k < 16 → slice_index taken.counts k ≡ length (lying_on fss k os)
  pub blocks : (k : ℕ) → k < 16 → slice_index taken.blocks k ≡ blocks_taken fss k os

not_false : (b : Bool) → not b ≡ false → b ≡ true
not_false true h = refl
not_false false h = cc

counted_one : (fss : List FsSpec) (limits : Limits) (os : List ObjSpec) (o : ObjSpec) (old new : Taken) → 0 < length fss → length fss ≤ 16
    → list_all fs_fits fss ≡ true → has_room fss limits os o ≡ true
    → Counted fss os old → TakenOne fss o.path.names (length o.bytes) old new → Counted fss (os ++ o ∷ []) new
counted_one fss limits os o old new some few fit room was taken =
    let here = fs_of fss o.path.names in
    let low : here < 16 = let k : here < length fss = fs_within _ _ some in omega arith in
    let parts = both (nat_le _ limits.names) (nat_le _ _) (both _ _ room).0 in
    let inode = leb-true _ _ parts.1 in
    let block : blocks_taken fss here os + blocks_for (length o.bytes) ≤ (fs_at fss here).blocks = leb-true _ _ (both _ _ room).1 in
    let counts : (j : ℕ) → slice_index new.counts j ≡ cond (j == here) (slice_index old.counts here + 1) (slice_index old.counts j) =
    taken.counts (omega (arith, was.counts here low, few_inodes fss here fit)) in
    let blocks : (j : ℕ) → slice_index new.blocks j ≡ cond (j == here) (slice_index old.blocks here + blocks_for (length o.bytes)) (slice_index old.blocks j) =
    taken.blocks (omega (arith, was.blocks here low, few_blocks fss here fit)) in
    record {
      counts = λ k h. counts k ∙ elim (cases_eq k here) [
        | inl e ↦ rw (eq-eqb k here e) (ap (λ n. n + 1) (was.counts here low) ∙ sym (count_here fss os o k e ∙ ap (λ j. length (lying_on fss j os) + 1) e))
        | inr ne ↦ rw (ne_eqb k here ne) (was.counts k h ∙ sym (count_else fss os o k ne))
      ];
      blocks = λ k h. blocks k ∙ elim (cases_eq k here) [
        | inl e ↦ rw (eq-eqb k here e) (ap (λ n. n + blocks_for (length o.bytes)) (was.blocks here low)
            ∙ sym (blocks_here fss os o k e ∙ ap (λ j. blocks_taken fss j os + blocks_for (length o.bytes)) e))
        | inr ne ↦ rw (ne_eqb k here ne) (was.blocks k h ∙ sym (blocks_else fss os o k ne))
      ];
    }

nothing_lies : (fss : List FsSpec) (taken : Taken) (gss : List FsSpec) → Counted fss [] taken → Counted gss [] taken
nothing_lies fss taken gss was = record { counts = was.counts; blocks = was.blocks }

-- where a line tells no object and no file system
counted_same : (fss : List FsSpec) (os : List ObjSpec) (old new : Taken) (gss : List FsSpec) (ps : List ObjSpec) → Counted fss os old → new ≡ old → gss ≡ fss → ps ≡ os → Counted gss ps new
counted_same fss os old new gss ps was e f g =
    subst (λ t. Counted gss ps t) (sym e) (subst (λ qs. Counted gss qs old) (sym g) (subst (λ hs. Counted hs os old) (sym f) was))

abbrev pub After : List Line → Line → List Line
After before x = before ++ x ∷ []

-- a line that tells no form, and a line that isn't the first
pub same_form : (before : List Line) (x : Line) → form_by x ≡ One → form_told (After before x) ≡ form_told before
same_form [] x h = h
same_form (y ∷ before) x h = refl

same_told : (before : List Line) (x : Line) → fs_told x ≡ [] → fss_told (After before x) ≡ fss_told before
same_told before x h = fss_push _ x ∙ ap (λ more. fss_told before ++ more) h ∙ append-nil _

pub same_fss : (before : List Line) (x : Line) → fs_told x ≡ [] → form_by x ≡ One → fss_of (After before x) ≡ fss_of before
same_fss before x h one = λ i. or_default (same_form before x one i) (same_told before x h i)

pub later_fss : (y : Line) (before : List Line) (x : Line) → fs_told x ≡ [] → fss_of (After (y ∷ before) x) ≡ fss_of (y ∷ before)
later_fss y before x h = ap (or_default (form_by y)) (same_told _ x h)

pub same_objects : (before : List Line) (x : Line) → object_told x ≡ [] → objects_of (After before x) ≡ objects_of before
same_objects before x h = objects_push _ x ∙ ap (λ more. objects_of before ++ more) h ∙ append-nil _

counted_object : (before : List Line) (x : Line) (o : ObjSpec) (old new : Taken) → 0 < length (fss_of before) → length (fss_of before) ≤ 16
    → list_all fs_fits (fss_of before) ≡ true → fs_told x ≡ [] → form_by x ≡ One → object_told x ≡ o ∷ []
    → not (has_room (fss_of before) (limits_of before) (objects_of before) o) ≡ false → Counted (fss_of before) (objects_of before) old
    → TakenOne (fss_of before) o.path.names (length o.bytes) old new → Counted (fss_of (After before x)) (objects_of (After before x)) new
counted_object before x o old new some few fit no_fs no_form told room was taken =
    let one = counted_one _ (limits_of before) _ o _ _ some few fit (not_false _ room) was taken in
    counted_same _ _ _ _ _ _ one refl (same_fss _ x no_fs no_form) (objects_push _ x ∙ ap (λ more. objects_of before ++ more) told)

counted_version : (before : List Line) (form : Form) (old new : Taken) → Counted (fss_of before) (objects_of before) old → new ≡ old
    → Counted (fss_of (After before (line.Version form))) (objects_of (After before (line.Version form))) new
unfolding objects_of
counted_version [] form old new was e =
    let x = line.Version form in
    counted_same _ [] _ _ _ _ (nothing_lies _ _ _ was) e refl (same_objects [] x refl)
counted_version (y ∷ before) form old new was e =
    let x = line.Version form in
    counted_same _ _ _ _ _ _ was e (later_fss y _ x refl) (same_objects (y ∷ before) x refl)

counted_next : (before : List Line) (x : Line) (old new : Taken) → 0 < length (fss_of before) → length (fss_of before) ≤ 16 → list_all fs_fits (fss_of before) ≡ true → Follows before x
    → Counted (fss_of before) (objects_of before) old → Takes (fss_of before) (object_told x) old new → Counted (fss_of (After before x)) (objects_of (After before x)) new
counted_next before (line.Dir path label frozen) old new some few fit f was takes = counted_object _ _ _ _ _ some few fit refl refl refl f.exceeds_limits was takes
counted_next before (line.File path label frozen cap lic bytes) old new some few fit f was takes =
    counted_object _ _ _ _ _ some few fit refl refl refl f.exceeds_limits was takes
counted_next before (line.Fs name ceiling blocks inodes) old new some few fit f was takes =
    let x = line.Fs name ceiling blocks inodes in
    let none = no_objects _ f.order in
    let nothing = subst (λ os. Counted (fss_of before) os old) none was in
    counted_same _ [] _ _ _ _ (nothing_lies _ _ _ nothing) takes refl (same_objects _ x refl ∙ none)
counted_next before (line.Version form) old new some few fit f was takes = counted_version _ _ _ _ was takes
counted_next before x old new some few fit f was takes = counted_same _ _ _ _ _ _ was takes (same_fss _ x refl refl) (same_objects _ x refl)

-- ---- no line tells more than one object, or one name
few_told : {A : Type 0} (f : Line → List A) → ((x : Line) → length (f x) ≤ 1) → (lines : List Line) → length (flat_map f lines) ≤ length lines
few_told f one [] = omega arith
few_told f one (x ∷ lines) = omega (arith, length-append (f x) (flat_map f lines), one x, few_told f one lines)

one_object : (x : Line) → length (object_told x) ≤ 1
one_object (line.Dir path label frozen) = omega arith
one_object (line.File path label frozen cap lic bytes) = omega arith
one_object _ = omega arith

one_name : (x : Line) → length (proc_name_told x) ≤ 1
one_name (line.Proc name label ceiling cap lic) = omega arith
one_name _ = omega arith

pub few_objects : (lines : List Line) → length (objects_of lines) ≤ length lines
unfolding objects_of
few_objects lines = few_told _ one_object _

pub few_names : (lines : List Line) → length (proc_names lines) ≤ length lines
unfolding proc_names
few_names lines = few_told _ one_name _

-- ---- what tells nothing
pub no_names : (procs : Names) → NamesMore [] procs procs
no_names procs = record { names = λ names told. subst (λ ns. AreNames procs ns) (sym (append-nil names)) told; count = omega arith }

pub nothing_made : (made : Tree) → MakesMore [] made made
nothing_made made = record { sites = λ objects told. subst (λ os. AreSites made.index os) (sym (append-nil objects)) told; count = omega arith }

pub record Quiet (x : Line) : Type 0 where
  pub fss : fs_told x ≡ []
  pub whats : what_told x ≡ []
  pub procs : proc_name_told x ≡ []
  pub made : object_told x ≡ []
  pub policy : is_policy x ≡ false

pub quiet : (x : Line) → ((what : What) (n : ℕ) → x ≡ line.Limit what n → ⊥) →
    ((name : List ℕ) (ceiling : Categories) (blocks inodes : ℕ) → x ≡ line.Fs name ceiling blocks inodes → ⊥) →
    ((name : List ℕ) (label ceiling : Categories) (cap lic : PrivSet) → x ≡ line.Proc name label ceiling cap lic → ⊥)
    → ((path : PathOf) (label : Categories) (frozen : Bool) → x ≡ line.Dir path label frozen → ⊥) →
    ((path : PathOf) (label : Categories) (frozen : Bool) (cap lic : PrivSet) (bytes : List ℕ) → x ≡ line.File path label frozen cap lic bytes
    → ⊥) → ((text : List ℕ) → x ≡ line.Policy text → ⊥) → Quiet x
quiet (line.Limit what n) a b c d e f = absurd (a what n refl)
quiet (line.Fs name ceiling blocks inodes) a b c d e f = absurd (b name ceiling blocks inodes refl)
quiet (line.Proc name label ceiling cap lic) a b c d e f = absurd (c _ _ _ cap lic refl)
quiet (line.Dir path label frozen) a b c d e f = absurd (d path label frozen refl)
quiet (line.File path label frozen cap lic bytes) a b c d e f = absurd (e path label frozen cap lic bytes refl)
quiet (line.Policy text) a b c d e f = absurd (f text refl)
quiet _ a b c d e f = record { fss = refl; whats = refl; procs = refl; made = refl; policy = refl }

-- ---- the whole
pub header_next : (h n : Header) (first : Bool) (before : List Line) (x : Line) → first ≡ is_empty before → HeaderTold h before → list_all fs_fits (fss_of before) ≡ true → Follows before x
    → n.told ≡ h.told + length (fs_told x) → n.fss ≡ fss_after first h.told h.fss (form_by x) (fs_told x) → n.limits ≡ limits_after h.limits x
    → n.whats ≡ h.whats ++ what_told x → NamesMore (proc_name_told x) h.procs n.procs
    → MakesMore (object_told x) h.made n.made → Takes h.fss (object_told x) h.taken n.taken → n.latest ≡ max h.latest (group x) → n.policy ≡ (h.policy || is_policy x) → HeaderTold n (After before x)
header_next h n first before x is_first was fit f told fss limits whats procs made takes latest policy =
    let told_is = told_few _ _ (subst (λ fs. length fs ≤ 16) was.fss was.few) in
    let fss_is = fss_kept _ _ _ _ _ x is_first was.told was.fss fss ∙ ap (or_default (form_told (After before x))) (sym (fss_push _ x)) in
    let count = ap length (fss_push _ x) ∙ length-append _ _ in
    let few = few_after _ _ (omega (arith, room_for_fs before x f told_is)) in
    let counted =
    counted_next _ x _ _ (some_fs _ _) (subst (λ fs. length fs ≤ 16) was.fss was.few) fit f
    (record { counts = was.counts; blocks = was.blocks }) (subst (λ fs. Takes fs (object_told x) h.taken n.taken) was.fss takes) in
    record {
      told = told ∙ ap (λ k. k + length (fs_told x)) was.told ∙ sym count;
      fss = fss_is;
      few = subst (λ fs. length fs ≤ 16) (sym fss_is) few;
      limits = limits ∙ ap (λ l. limits_after l x) was.limits ∙ sym (limits_push _ x);
      whats = whats ∙ ap (λ ws. ws ++ what_told x) was.whats ∙ sym (whats_push _ x);
      procs = subst (λ names. AreNames n.procs names) (sym (proc_names_push _ x)) (procs.names _ was.procs);
      proc_count = procs.count ∙ ap (λ k. k + length (proc_name_told x)) was.proc_count ∙ sym (ap length (proc_names_push _ x) ∙ length-append _ _);
      made = subst (λ os. AreSites n.made.index os) (sym (objects_push _ x)) (made.sites _ was.made);
      objects = made.count ∙ ap (λ k. k + length (object_told x)) was.objects ∙ sym (ap length (objects_push _ x) ∙ length-append _ _);
      counts = counted.counts;
      blocks = counted.blocks;
      latest = λ g. latest_push g _ _ x (was.latest g) ∙ ap (nat_lt g) (sym latest);
      policy = policy ∙ ap (λ p. p || is_policy x) was.policy ∙ sym (policy_push _ x);
    }
