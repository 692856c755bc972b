-- What holds of a line that breaks no rule.
use Rattle.std.proofs.Common.{◌≡◌, ℕ, nat_le, Bool, true, false, ◌&&◌, not, cond, List, [], ◌∷◌, length, map, drop, Option, if◌then◌else◌, Some, None, refl, ap}
use Rattle.std.{proofs.{Common.{option_map, sym, ◌∙◌, subst, arith, inl, inr}, lemmas.{Bool.{le-leb, not-true}, Option.same_Some}}, specs.Option.{option_or, option_map_or}}
use Rattle.ix_label.specs.Category.{Categories}
use Rattle.ix_model.{specs.{declared.privs.PrivSet.PrivSet, world.{Naming.PathOf, Texts.names_in}, opening.Valid.is_within}, proofs.texts.Joining.some_piece}
use Rattle.ix_script.specs.{lines.{Before.{is_known, fss_told, phase_lanes}, Kinds.{bounds_of, bounds}, Rules.is_given_twice}, texts.Payloads.{◌>>=◌, payload_of}}
use Rattle.ix_script.specs.texts.{Cutting.{words_of, word_at, is_skipped, is_policy_line, policy_text}, Words.{number_of, path_in, path_of, made_path_of, what_of, state_of}}
use Rattle.ix_script.specs.declared.{form.{Form.Form, Plain.Plain, OnPath.OnPath, OnFd.OnFd, Counted.Counted}, line.{FdWord.FdWord, What.What, Line.Line}}
use Rattle.ix_text.{specs.{Bytes.is_empty, Names.name_of, Privs.privs_of, Labels.label_in}, proofs.Tests.bool_cases}
use Rattle.ix_script.specs.lines.Said.{both, payload_within, said, said_by_words, line_of, plain_line, path_line, fd_line, counted_line}
use Rattle.ix_script.specs.lines.Faults.{names_fault, form_fault, command_fault, first_line_fault, body_fault, line_fault}
use Rattle.ix_script.proofs.lines.{Follows.passes, Deciding.{first_version, version_said, not_ix}}
use Rattle.ix_label.specs.declared.form.Form as spelled
use Rattle.ix_script.specs.declared.form.Form.TheVariants as form
use Rattle.ix_script.specs.declared.form.Plain.TheVariants as plain
use Rattle.ix_script.specs.declared.form.OnPath.TheVariants as on_path
use Rattle.ix_script.specs.declared.form.OnFd.TheVariants as on_fd
use Rattle.ix_script.specs.declared.form.Counted.TheVariants as counted
use Rattle.ix_script.specs.declared.line.Line.TheVariants as line
use Rattle.ix_text.proofs.Tests as names

-- numbers are within their bounds, a file system's name is new, and an object has an absolute path with a name, and few bytes
abbrev pub HasPlace : PathOf → Type 0
HasPlace path = (path.absolute && nat_le 1 (length path.names)) ≡ true

pub record SoundFs (before : List Line) (name : List ℕ) (blocks inodes : ℕ) : Type 0 where
  pub fits : (is_within 1 65536 blocks && is_within 1 65536 inodes) ≡ true
  pub new : is_known name (map (λ s. s.name) (fss_told before)) ≡ false

pub record SoundFile (path : PathOf) (bytes : List ℕ) : Type 0 where
  pub place : HasPlace path
  pub few : nat_le (length bytes) 1048576 ≡ true

abbrev pub Sound : List Line → Line → Type 0
Sound before (line.Limit w n) = is_within (bounds_of w).0 (bounds_of w).1 n ≡ true
Sound before (line.Fs name ceiling blocks inodes) = SoundFs before name blocks inodes
Sound before (line.Dir path label frozen) = HasPlace path
Sound before (line.Lane name) = is_known name (phase_lanes before) ≡ false
Sound before (line.File path label frozen cap lic bytes) = SoundFile path bytes
Sound before _ = Unit

-- ---- taking readings apart
pub record Both {A B : Type 0} (a : Option A) (b : Option B) (x : A × B) : Type 0 where
  pub first : a ≡ Some x.0
  pub second : b ≡ Some x.1

apart : {A B : Type 0} (a : Option A) (b : Option B) (x : A × B) → both a b ≡ Some x → Both a b x
apart None b x h = cc
apart (Some y) None x h = cc
apart (Some y) (Some z) x h = let e : (y, z) ≡ x = cc in record { first = ap (λ p. Some p.0) e; second = ap (λ p. Some p.1) e }

made_by : {X : Type 0} (g : X → Line) (before : List Line) (m : Option X) (l : Line) → ((x : X) → m ≡ Some x → Sound before (g x)) → option_map g m ≡ Some l → Sound before l
made_by g before None l right h = cc
made_by g before (Some x) l right h = let e : g x ≡ l = cc in subst (λ k. Sound before k) e (right x refl)

chosen : {A : Type 0} (b : Bool) (x y : A) → cond b (Some x) None ≡ Some y → (b ≡ true) × (x ≡ y)
chosen true x y h = (refl, cc)
chosen false x y h = cc

within : (low high n : ℕ) (word : List ℕ) → number_of low high word ≡ Some n → is_within low high n ≡ true
unfolding number_of
within low high n word h =
    let p = chosen _ _ n h in
    subst (λ k. is_within low high k ≡ true) p.1 (names.both _ _ p.0).1

bounds_are : (word : List ℕ) (w : What) → what_of word ≡ Some w → bounds word ≡ bounds_of w
unfolding bounds
bounds_are word w h = rw h refl

named : (word name : List ℕ) → name_of word ≡ Some name → word ≡ name
unfolding name_of
named word name h = (chosen _ _ _ h).1

-- ---- paths
some_names : (text : List ℕ) → is_empty text ≡ false → nat_le 1 (length (names_in text)) ≡ true
some_names [] h = cc
some_names (b ∷ text) h = let k = some_piece (b ∷ text) in rw k.2 (le-leb 1 _ (omega arith))

made_place : (word : List ℕ) (path : PathOf) → made_path_of word ≡ Some path → HasPlace path
unfolding made_path_of path_of
made_place word path h =
    let one = taken _ _ _ h in
    let start = names.both _ (not (is_empty (drop 1 word))) one.0 in
    let two = chosen _ _ _ one.1 in
    let place : HasPlace (path_in word) = rw start.0 (some_names (drop 1 word) (not-true (is_empty (drop 1 word)) start.1)) in
    subst HasPlace two.1 place
  where
    taken : (b : Bool) (o : Option PathOf) (y : PathOf) → cond b o None ≡ Some y → (b ≡ true) × (o ≡ Some y)
    taken true o y h = (refl, h)
    taken false o y h = cc

-- ---- what each form says is sound
plain_sound : (before : List Line) (c : Plain) (proc : List ℕ) → Sound before (plain_line c proc)
plain_sound before plain.Wait proc = tt
plain_sound before plain.Self_ proc = tt
plain_sound before plain.Freezeself proc = tt
plain_sound before plain.Thawself proc = tt

path_sound : (before : List Line) (c : OnPath) (proc : List ℕ) (path : PathOf) → Sound before (path_line c proc path)
path_sound before on_path.Create proc path = tt
path_sound before on_path.Mkdir proc path = tt
path_sound before on_path.Unlink proc path = tt
path_sound before on_path.Rmdir proc path = tt
path_sound before on_path.Chdir proc path = tt
path_sound before on_path.Stat proc path = tt
path_sound before on_path.Exec proc path = tt
path_sound before on_path.Labelof proc path = tt
path_sound before on_path.Freeze proc path = tt
path_sound before on_path.Thaw proc path = tt

fd_sound : (before : List Line) (c : OnFd) (proc : List ℕ) (fd : FdWord) → Sound before (fd_line c proc fd)
fd_sound before on_fd.Close proc fd = tt
fd_sound before on_fd.Pex proc fd = tt
fd_sound before on_fd.Unpex proc fd = tt
fd_sound before on_fd.Priv proc fd = tt

counted_sound : (before : List Line) (c : Counted) (proc : List ℕ) (fd : FdWord) (n : ℕ) → Sound before (counted_line c proc fd n)
counted_sound before counted.Read proc fd n = tt
counted_sound before counted.Cut proc fd n = tt
counted_sound before counted.Seek proc fd n = tt

limit_sound : (before : List Line) (words : List (List ℕ)) (x : What × ℕ)
    → both (what_of (word_at words 1)) (number_of (bounds (word_at words 1)).0 (bounds (word_at words 1)).1 (word_at words 2)) ≡ Some x
    → Sound before (line.Limit x.0 x.1)
limit_sound before words x h =
    let p = apart _ _ x h in
    let low = within _ _ _ _ p.second in
    subst (λ b. is_within b.0 b.1 x.1 ≡ true) (bounds_are _ _ p.first) low

fs_sound : (labels : spelled.Form) (before : List Line) (words : List (List ℕ)) (x : List ℕ × (Categories × (ℕ × ℕ))) → is_known (word_at words 1) (map (λ s. s.name) (fss_told before)) ≡ false
    → both (name_of (word_at words 1))
    (both (label_in labels (word_at words 2)) (both (number_of 1 65536 (word_at words 3)) (number_of 1 65536 (word_at words 4)))) ≡ Some x
    → Sound before (line.Fs x.0 x.1.0 x.1.1.0 x.1.1.1)
fs_sound labels before words x new h =
    let a = apart _ _ x h in
    let b = apart _ _ x.1 a.second in
    let c = apart _ _ x.1.1 b.second in
    record {
      fits = names.join_tests _ _ (within 1 _ _ _ c.first) (within 1 _ _ _ c.second);
      new = subst (λ n. is_known n (map (λ s. s.name) (fss_told before)) ≡ false) (named _ _ a.first) new;
    }

payload_few : (most : ℕ) (word bytes : List ℕ) (m : Option (List ℕ)) → (m >>= λ found. if nat_le (length found) most then Some found else None) ≡ Some bytes → nat_le (length bytes) most ≡ true
payload_few most word bytes None h = cc
payload_few most word bytes (Some found) h =
    let p = chosen _ found _ h in
    subst (λ f. nat_le (length f) most ≡ true) p.1 p.0

file_sound : (labels : spelled.Form) (before : List Line) (words : List (List ℕ)) (x : PathOf × (Categories × (Bool × (PrivSet × (PrivSet × List ℕ)))))
    → both (made_path_of (word_at words 1)) (both (label_in labels (word_at words 2))
    (both (state_of (word_at words 3)) (both (privs_of (word_at words 4)) (both (privs_of (word_at words 5)) (payload_within 1048576 (word_at words 6))))))
    ≡ Some x → Sound before (line.File x.0 x.1.0 x.1.1.0 x.1.1.1.0 x.1.1.1.1.0 x.1.1.1.1.1)
file_sound labels before words x h =
    let a = apart _ _ x h in
    let b = apart _ _ x.1 a.second in
    let c = apart _ _ x.1.1 b.second in
    let d = apart _ _ x.1.1.1 c.second in
    let e = apart _ _ x.1.1.1.1 d.second in
    record { place = made_place _ _ a.first; few = payload_few _ (word_at words 6) _ (payload_of (word_at words 6)) e.second }

sound_form : (labels : spelled.Form) (before : List Line) (f : Form) (words : List (List ℕ)) (l : Line) → is_given_twice before f words ≡ false → said labels f words ≡ Some l → Sound before l
sound_form labels before form.Limit words l new h = made_by _ _ _ l (λ x e. limit_sound before words x e) h
sound_form labels before form.Fs words l new h = made_by _ _ _ l (λ x e. fs_sound labels _ words x new e) h
sound_form labels before form.Proc words l new h = made_by _ _ _ l (λ x e. tt) h
sound_form labels before form.Dir words l new h = made_by _ _ _ l (λ x e. made_place _ _ (apart _ _ x e).first) h
sound_form labels before form.File words l new h = made_by _ _ _ l (λ x e. file_sound labels before words x e) h
sound_form labels before form.Phase words l new h = let e : line.Phase ≡ l = cc in subst (λ k. Sound before k) e tt
sound_form labels before form.Lane words l new h = made_by _ _ _ l (λ x e. subst (λ n. is_known n (phase_lanes before) ≡ false) (named _ x e) new) h
sound_form labels before (form.Plain c) words l new h = made_by _ _ _ l (λ x e. plain_sound _ c x) h
sound_form labels before (form.OnPath c) words l new h = made_by _ _ _ l (λ x e. path_sound _ c _ _) h
sound_form labels before (form.OnFd c) words l new h = made_by _ _ _ l (λ x e. fd_sound _ c _ _) h
sound_form labels before (form.Counted c) words l new h = made_by _ _ _ l (λ x e. counted_sound _ c _ _ _) h
sound_form labels before form.Open words l new h = made_by _ _ _ l (λ x e. tt) h
sound_form labels before form.Write words l new h = made_by _ _ _ l (λ x e. tt) h
sound_form labels before form.Dup words l new h = made_by _ _ _ l (λ x e. tt) h
sound_form labels before form.Pipe words l new h = made_by _ _ _ l (λ x e. tt) h
sound_form labels before form.Link words l new h = made_by _ _ _ l (λ x e. tt) h
sound_form labels before form.List words l new h = made_by _ _ _ l (λ x e. tt) h
sound_form labels before form.Copy words l new h = made_by _ _ _ l (λ x e. tt) h
sound_form labels before form.Setlabel words l new h = made_by _ _ _ l (λ x e. tt) h
sound_form labels before form.Setpriv words l new h = made_by _ _ _ l (λ x e. tt) h
sound_form labels before form.Fork words l new h = made_by _ _ _ l (λ x e. tt) h
sound_form labels before form.Exit words l new h = made_by _ _ _ l (λ x e. tt) h
sound_form labels before form.Setself words l new h = made_by _ _ _ l (λ x e. tt) h
sound_form labels before form.Droplic words l new h = made_by _ _ _ l (λ x e. tt) h
sound_form labels before form.Grant words l new h = made_by _ _ _ l (λ x e. tt) h
sound_form labels before form.Ceiling words l new h = made_by _ _ _ l (λ x e. tt) h
sound_form labels before form.Readlog words l new h = made_by _ _ _ l (λ x e. tt) h
sound_form labels before form.Login words l new h = made_by _ _ _ l (λ x e. tt) h

-- ---- the rules that were passed
neither : {A : Type 0} (a b : Option A) → option_or a b ≡ None → (a ≡ None) × (b ≡ None)
neither None b h = (refl, h)
neither (Some x) b h = cc

new_names : (before : List Line) (f : Form) (words : List (List ℕ)) → form_fault before f words ≡ None → is_given_twice before f words ≡ false
unfolding form_fault names_fault
new_names before f words h =
    let one = neither _ _ h in
    let two = neither _ _ one.1 in
    let three = neither _ _ two.1 in
    (passes _ 20 _ three.0).0

sound_words : (labels : spelled.Form) (before : List Line) (words : List (List ℕ)) (o : Option Form) (l : Line)
    → option_map_or (λ f. form_fault before f words) o (Some 7) ≡ None → (o >>= λ f. said labels f words) ≡ Some l → Sound before l
sound_words labels before words None l h m = cc
sound_words labels before words (Some f) l h m = sound_form _ _ f _ l (new_names _ f _ h) m

-- ---- a line that breaks no rule
first_sound : (labels : spelled.Form) (text : List ℕ) (l : Line) → first_line_fault text ≡ None → line_of labels text ≡ Some l → Sound [] l
first_sound labels text l h m =
    let v = first_version _ h in
    subst (λ x. Sound [] x) (same_Some _ l (sym (version_said _ _ _ v.1) ∙ m)) tt

later_sound : (labels : spelled.Form) (before : List Line) (text : List ℕ) (l : Line) → is_empty before ≡ false → body_fault before text ≡ None → line_of labels text ≡ Some l → Sound before l
unfolding body_fault line_of command_fault
later_sound labels before text l some h m = elim (bool_cases (is_skipped text)) [
  | inl t ↦ let k : Some line.Skipped ≡ Some l = rw t at m in let same : line.Skipped ≡ l = cc in subst (λ (x : Line). Sound before x) same tt
  | inr f ↦ elim (bool_cases (is_policy_line text)) [
    | inl p ↦ let k : Some (line.Policy (policy_text text)) ≡ Some l = rw (f, p) at m in let same : line.Policy (policy_text text) ≡ l = cc in subst (λ x. Sound before x) same tt
    | inr q ↦
        let g : command_fault before (words_of text) ≡ None = rw (some, f, q) at h in
        let k : said_by_words labels (words_of text) ≡ Some l = rw (f, q, not_ix before text g) at m in
        sound_words _ _ _ _ l (neither _ _ g).1 k
  ]
]

by_start : (labels : spelled.Form) (before : List Line) (text : List ℕ) (l : Line) → body_fault before text ≡ None → line_of labels text ≡ Some l → Sound before l
unfolding body_fault
by_start labels [] text l h m = first_sound _ _ l h m
by_start labels (b ∷ before) text l h m = later_sound _ _ _ l refl h m

pub sound : (labels : spelled.Form) (before : List Line) (text : List ℕ) (l : Line) → line_fault before text ≡ None → line_of labels text ≡ Some l → Sound before l
unfolding line_fault
sound labels before text l h m = by_start _ _ _ l (neither _ _ h).1 m
