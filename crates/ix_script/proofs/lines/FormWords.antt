-- The words that are read are those of the line that they say, but for a payload.
use Rattle.std.proofs.Common.{◌≡◌, ℕ, zero, suc, ◌+◌, ◌≤◌, Bool, true, false, ◌&&◌, ◌||◌, ◌==◌, nat_le, cond, List, [], ◌∷◌, ◌++◌, length, Option, Some, None}
use Rattle.std.{proofs.Common.{◌⊎◌, inl, inr, refl, sym, ap, ◌∙◌, option_map, drop, arith}, specs.{Prelude.codes, Fmt.decimal, Cmp.Lexicographic.same_text}}
use Rattle.std.proofs.lemmas.{Bool.{or_cases, eqb-true, le-leb, lt-leb}, Option.same_Some}
use Rattle.ix_model.specs.world.Naming.{PathOf, same_bytes}
use Rattle.ix_label.specs.declared.form.Form.{Form}
use Rattle.ix_script.specs.{texts.{Cutting.word_at, Words.what_of, Spellings.{path_text, fd_text, as_name, as_names}}, lines.{Kinds.{bounds, bounds_of}, Forms.has_right_count}}
use Rattle.ix_script.specs.{scripts.Canonical.line_words, declared.{line.{Line.Line, What.What, FdWord.FdWord}, form.{Plain.Plain, OnPath.OnPath, OnFd.OnFd, Counted.Counted}}}
use Rattle.ix_text.{specs.Names.name_of, proofs.Tests.both as both_true}
use Rattle.ix_script.specs.lines.Said.{both, name_after, two_names_after, plain_line, path_line, fd_line, counted_line, said}
use Rattle.ix_script.proofs.{reader.Told.{mapped, paired}, lines.FirstWords.{form_word, plain_word, on_path_word, on_fd_word, counted_word}}
use Rattle.ix_script.proofs.back.OneSpelling.{name_spelled, label_spelled, number_spelled, privs_spelled, path_spelled, made_path_spelled, mode_spelled}
use Rattle.ix_script.proofs.back.OneSpelling.{state_spelled, what_spelled, fd_spelled, keep_spelled}
use Rattle.ix_script.specs.declared.form.Form as script
use Rattle.ix_script.specs.declared.line.Line.TheVariants as line
use Rattle.ix_script.specs.declared.line.What.TheVariants as what
use Rattle.ix_script.specs.declared.form.Form.TheVariants as form
use Rattle.ix_script.specs.declared.form.Plain.TheVariants as plain
use Rattle.ix_script.specs.declared.form.OnPath.TheVariants as on_path
use Rattle.ix_script.specs.declared.form.OnFd.TheVariants as on_fd
use Rattle.ix_script.specs.declared.form.Counted.TheVariants as counted

-- ---- the words of a line, one by one
-- so many words from that place on
abbrev pub words_from : ℕ → ℕ → List (List ℕ) → List (List ℕ)
words_from i zero words = []
words_from i (suc n) words = word_at words i ∷ words_from (suc i) n words

pub same : {x y : List ℕ} {xs ys : List (List ℕ)} → x ≡ y → xs ≡ ys → x ∷ xs ≡ y ∷ ys
same {x} {y} {xs} {ys} e f = ap (λ z. z ∷ xs) e ∙ ap (λ zs. y ∷ zs) f

behind_one : (i n : ℕ) (word : List ℕ) (words : List (List ℕ)) → words_from (suc i) n (word ∷ words) ≡ words_from i n words
behind_one i zero word words = refl
behind_one i (suc n) word words = same refl (behind_one (suc i) n word words)

-- the first words, and the others
in_two : (n : ℕ) (words : List (List ℕ)) → n ≤ length words → words_from 0 n words ++ drop n words ≡ words
in_two zero words h = refl
in_two (suc n) [] h = absurd (omega (arith, h))
in_two (suc n) (word ∷ words) h = same refl (ap (λ ws. ws ++ drop n words) (behind_one 0 n word words) ∙ in_two n words (omega (arith, h)))

-- so many words are all behind a place
all_behind : (i n : ℕ) (words : List (List ℕ)) → length words ≡ i + n → words_from i n words ≡ drop i words
all_behind zero zero [] h = refl
all_behind zero zero (word ∷ words) h = absurd (omega (arith, h))
all_behind zero (suc n) [] h = absurd (omega (arith, h))
all_behind zero (suc n) (word ∷ words) h = same refl (behind_one 0 n word words ∙ all_behind 0 n words (omega (arith, h)))
all_behind (suc i) n [] h = absurd (omega (arith, h))
all_behind (suc i) n (word ∷ words) h = behind_one i n word words ∙ all_behind i n words (omega (arith, h))

pub exactly : (n : ℕ) (words : List (List ℕ)) → length words ≡ n → words_from 0 n words ≡ words
exactly n words h = all_behind 0 n words (omega (arith, h))

pub of_3 : {A B C : Type 0} (mk : A → B → C → Line) (a : Option A) (b : Option B) (c : Option C) (l : Line)
    → option_map (λ (x : A × (B × C)). mk x.0 x.1.0 x.1.1) (both a (both b c)) ≡ Some l → (a1 : A) × (b1 : B) × (c1 : C) × (a ≡ Some a1) × (b ≡ Some b1)
    × (c ≡ Some c1) × (mk a1 b1 c1 ≡ l)
of_3 {A} {B} {C} mk a b c l h =
    let m = mapped (λ (x : A × (B × C)). mk x.0 x.1.0 x.1.1) (both a (both b c)) l h in
    let p0 = paired a (both b c) m.0 m.1 in
    let p1 = paired b c m.0.1 p0.1 in
    (m.0.0, m.0.1.0, m.0.1.1, p0.0, p1.0, p1.1, m.2)

pub of_6 : {A B C D E G : Type 0} (mk : A → B → C → D → E → G → Line) (a : Option A) (b : Option B) (c : Option C) (d : Option D) (e : Option E) (g : Option G)
    (l : Line) → option_map (λ (x : A × (B × (C × (D × (E × G))))). mk x.0 x.1.0 x.1.1.0 x.1.1.1.0 x.1.1.1.1.0 x.1.1.1.1.1)
    (both a (both b (both c (both d (both e g))))) ≡ Some l → (a1 : A) × (b1 : B) × (c1 : C) × (d1 : D) × (e1 : E) × (g1 : G) × (a ≡ Some a1) × (b ≡ Some b1)
    × (c ≡ Some c1) × (d ≡ Some d1) × (e ≡ Some e1) × (g ≡ Some g1) × (mk a1 b1 c1 d1 e1 g1 ≡ l)
of_6 {A} {B} {C} {D} {E} {G} mk a b c d e g l h =
    let m = mapped (λ (x : A × (B × (C × (D × (E × G))))). mk x.0 x.1.0 x.1.1.0 x.1.1.1.0 x.1.1.1.1.0 x.1.1.1.1.1) (both a (both b (both c (both d (both e g))))) l h in
    let p0 = paired a (both b (both c (both d (both e g)))) m.0 m.1 in
    let p1 = paired b (both c (both d (both e g))) m.0.1 p0.1 in
    let p2 = paired c (both d (both e g)) m.0.1.1 p1.1 in
    let p3 = paired d (both e g) m.0.1.1.1 p2.1 in
    let p4 = paired e g m.0.1.1.1.1 p3.1 in
    (m.0.0, m.0.1.0, m.0.1.1.0, m.0.1.1.1.0, m.0.1.1.1.1.0, m.0.1.1.1.1.1, p0.0, p1.0, p2.0, p3.0, p4.0, p4.1, m.2)

-- what is read from words and spelled again is those words
and : {A B : Type 0} {a : Option A} {b : Option B} {spell : A → List ℕ} {others : B → List (List ℕ)} {word : List ℕ} {words : List (List ℕ)}
    → ((x : A) → a ≡ Some x → spell x ≡ word) → ((y : B) → b ≡ Some y → others y ≡ words) → (p : A × B) → both a b ≡ Some p → spell p.0 ∷ others p.1 ≡ word ∷ words
and {a = a} {b = b} one more p h = let q = paired a b p h in same (one p.0 q.0) (more p.1 q.1)

last : {A : Type 0} {a : Option A} {spell : A → List ℕ} {word : List ℕ} → ((x : A) → a ≡ Some x → spell x ≡ word) → (x : A) → a ≡ Some x → spell x ∷ [] ≡ word ∷ []
last one x h = same (one x h) refl

-- ---- how many words
-- no names may stand after `as`
pub no_tail : (a : Bool) → (a || false) ≡ true → a ≡ true
no_tail true h = refl
no_tail false h = h

-- what stands after `as`, where there is something: so many words are read by `o`, and spelled so
module _ {A : Type 0} (n k : ℕ) (words : List (List ℕ)) (o : Option A) (spell : Option A → List (List ℕ)) where
  after_as : ((length words == n) || (length words == n + suc k && same_bytes (word_at words n) (codes "as"))) ≡ true → spell None ≡ []
      → ((x : A) → o ≡ Some x → spell (Some x) ≡ codes "as" ∷ words_from (n + 1) k words)
      → (n ≤ length words) × ((x : Option A) → cond (nat_le (length words) n) (Some None) (option_map (λ y. Some y) o) ≡ Some x → spell x ≡ drop n words)
  after_as count none some = elim (or_cases (length words == n) (length words == n + suc k && same_bytes (word_at words n) (codes "as")) count) [
    | inl c ↦
        let e : length words ≡ n = eqb-true (length words) n c in (
          omega (arith, e),
          λ x h. ap spell (sym (same_Some None x (ap (λ b. cond b (Some None) (option_map (λ y. Some y) o)) (sym (le-leb (length words) n (omega (arith, e)))) ∙ h)))
              ∙ none ∙ all_behind n 0 words (omega (arith, e)),
        )
    | inr c ↦
        let p = both_true (length words == n + suc k) (same_bytes (word_at words n) (codes "as")) c in
        let e : length words ≡ n + suc k = eqb-true (length words) (n + suc k) p.0 in (
          omega (arith, e),
          λ x h.
              let m = mapped (λ y. Some y) o x (ap (λ b. cond b (Some None) (option_map (λ y. Some y) o)) (sym (lt-leb (length words) n (omega (arith, e)))) ∙ h) in
              ap spell (sym m.2) ∙ some m.0 m.1 ∙ same (sym (same_text (word_at words n) (codes "as") (sym p.1))) (ap (λ i. words_from i k words) (omega arith)) ∙ all_behind n (suc k) words e,
        )
  ]

-- the name after `as`, where there is one
one_name : (n : ℕ) (words : List (List ℕ)) → ((length words == n) || (length words == n + 2 && same_bytes (word_at words n) (codes "as"))) ≡ true
    → (n ≤ length words) × ((named : Option (List ℕ)) → name_after n words ≡ Some named → as_name named ≡ drop n words)
one_name n words count = after_as n 1 words (name_of (word_at words (n + 1))) as_name count refl (λ x h. same refl (last (name_spelled (word_at words (n + 1))) x h))

-- the two names after `as`, where there are some
two_names : (n : ℕ) (words : List (List ℕ)) → ((length words == n) || (length words == n + 3 && same_bytes (word_at words n) (codes "as"))) ≡ true
    → (n ≤ length words) × ((named : Option (List ℕ × List ℕ)) → two_names_after n words ≡ Some named → as_names named ≡ drop n words)
two_names n words count = after_as n 2 words (both (name_of (word_at words (n + 1))) (name_of (word_at words (n + 2)))) as_names count refl
    (λ x h. same refl (and (name_spelled (word_at words (n + 1))) (last (λ y e. name_spelled (word_at words (n + 2)) y e ∙ ap (word_at words) (omega arith))) x h))

-- a WHAT's bounds are small
few_of : (w : What) → (bounds_of w).1 ≤ 4294967295
few_of what.Procs = omega arith
few_of what.Opens = omega arith
few_of what.Pipes = omega arith
few_of what.Names = omega arith
few_of what.Log = omega arith

few : (word : List ℕ) (o : Option What) → what_of word ≡ o → (bounds word).1 ≤ 4294967295
unfolding bounds
few word None h = rw h (omega arith)
few word (Some w) h = rw h (few_of w)

-- ---- each form
module _ (labels : Form) where
  plain_line_words : (c : Plain) (x : List ℕ) → line_words labels (plain_line c x) ≡ plain_word c ∷ x ∷ []
  unfolding line_words
  plain_line_words plain.Wait x = refl
  plain_line_words plain.Self_ x = refl
  plain_line_words plain.Freezeself x = refl
  plain_line_words plain.Thawself x = refl

  path_line_words : (c : OnPath) (x : List ℕ) (p : PathOf) → line_words labels (path_line c x p) ≡ on_path_word c ∷ x ∷ path_text p ∷ []
  unfolding line_words
  path_line_words on_path.Create x p = refl
  path_line_words on_path.Mkdir x p = refl
  path_line_words on_path.Unlink x p = refl
  path_line_words on_path.Rmdir x p = refl
  path_line_words on_path.Chdir x p = refl
  path_line_words on_path.Stat x p = refl
  path_line_words on_path.Exec x p = refl
  path_line_words on_path.Labelof x p = refl
  path_line_words on_path.Freeze x p = refl
  path_line_words on_path.Thaw x p = refl

  fd_line_words : (c : OnFd) (x : List ℕ) (f : FdWord) → line_words labels (fd_line c x f) ≡ on_fd_word c ∷ x ∷ fd_text f ∷ []
  unfolding line_words
  fd_line_words on_fd.Close x f = refl
  fd_line_words on_fd.Pex x f = refl
  fd_line_words on_fd.Unpex x f = refl
  fd_line_words on_fd.Priv x f = refl

  counted_line_words : (c : Counted) (x : List ℕ) (f : FdWord) (n : ℕ) → line_words labels (counted_line c x f n) ≡ counted_word c ∷ x ∷ fd_text f ∷ decimal n ∷ []
  unfolding line_words
  counted_line_words counted.Read x f n = refl
  counted_line_words counted.Cut x f n = refl
  counted_line_words counted.Seek x f n = refl

  module _ (words : List (List ℕ)) (l : Line) where
    -- the line's words are the first, and those that what was read spells
    spelled : {A : Type 0} (mk : A → Line) {o : Option A} {spell : A → List (List ℕ)} {first : List ℕ} {rest : List (List ℕ)} → ((x : A) → o ≡ Some x → spell x ≡ rest)
        → ((x : A) → line_words labels (mk x) ≡ first ∷ spell x) → option_map mk o ≡ Some l → line_words labels l ≡ first ∷ rest
    spelled mk {o = o} back are h = let m = mapped mk o l h in ap (line_words labels) (sym m.2) ∙ are m.0 ∙ same refl (back m.0 m.1)

    -- of a form with so many words behind the first, and of one that may go on with `as`
    fixed : (n : ℕ) {first : List ℕ} → first ≡ word_at words 0 → ((length words == suc n) || false) ≡ true → line_words labels l ≡ first ∷ words_from 1 n words
        → line_words labels l ≡ words
    fixed n first count is = is ∙ same first refl ∙ exactly (suc n) words (eqb-true (length words) (suc n) (no_tail (length words == suc n) count))

    open_end : (n : ℕ) {first : List ℕ} → first ≡ word_at words 0 → suc n ≤ length words → line_words labels l ≡ first ∷ (words_from 1 n words ++ drop (suc n) words)
        → line_words labels l ≡ words
    open_end n first many is = is ∙ same first refl ∙ in_two (suc n) words many

    -- the words of a line are those that it was read from, where it has no payload
    pub words_again : (f : script.Form) → form_word f ≡ word_at words 0 → has_right_count f words ≡ true → said labels f words ≡ Some l
        → (f ≡ form.Write) ⊎ (f ≡ form.File) ⊎ (line_words labels l ≡ words)
    unfolding line_words
    words_again form.Write first count h = inl refl
    words_again form.File first count h = inr (inl refl)
    words_again form.Limit first count h = let w = word_at words 1 in
        inr (inr (fixed 2 first count (spelled _ (and (what_spelled w) (last (λ n. number_spelled (bounds w).0 (bounds w).1 _ n (few w (what_of w) refl)))) (λ x. refl) h)))
    words_again form.Fs first count h = inr (inr (fixed 4 first count (spelled _ (and (name_spelled _)
        (and (label_spelled labels _) (and (λ n. number_spelled 1 65536 _ n (omega arith)) (last (λ n. number_spelled 1 65536 _ n (omega arith)))))) (λ x. refl)
        h)))
    words_again form.Proc first count h = inr (inr (fixed 5 first count
        (spelled _ (and (name_spelled _) (and (label_spelled labels _) (and (label_spelled labels _) (and (privs_spelled _) (last (privs_spelled _))))))
        (λ x. refl) h)))
    words_again form.Dir first count h = inr (inr (fixed 3 first count (spelled _ (and (made_path_spelled _) (and (label_spelled labels _) (last (state_spelled _)))) (λ x. refl) h)))
    words_again form.Phase first count h = inr (inr (fixed 0 first count (ap (line_words labels) (sym (same_Some line.Phase l h)))))
    words_again form.Lane first count h = inr (inr (fixed 1 first count (spelled _ (last (name_spelled _)) (λ x. refl) h)))
    words_again form.Open first count h = let t = one_name 4 words count in
        inr (inr (open_end 3 first t.0 (spelled _ (and (name_spelled _) (and (path_spelled _) (and (mode_spelled _) t.1))) (λ x. refl) h)))
    words_again form.Dup first count h = let t = one_name 3 words count in inr (inr (open_end 2 first t.0 (spelled _ (and (name_spelled _) (and (fd_spelled _) t.1)) (λ x. refl) h)))
    words_again form.Pipe first count h = let t = two_names 2 words count in inr (inr (open_end 1 first t.0 (spelled _ (and (name_spelled _) t.1) (λ x. refl) h)))
    words_again form.Link first count h = inr (inr (fixed 3 first count (spelled _ (and (name_spelled _) (and (path_spelled _) (last (path_spelled _)))) (λ x. refl) h)))
    words_again form.List first count h =
        inr (inr (fixed 3 first count (spelled _ (and (name_spelled _) (and (path_spelled _) (last (λ n. number_spelled 0 4294967295 _ n (omega arith)))))
        (λ x. refl) h)))
    words_again form.Copy first count h = inr (inr (fixed 4 first count
        (spelled _ (and (name_spelled _) (and (fd_spelled _) (and (fd_spelled _) (last (λ n. number_spelled 0 4294967295 _ n (omega arith)))))) (λ x. refl) h)))
    words_again form.Setlabel first count h = inr (inr (fixed 3 first count (spelled _ (and (name_spelled _) (and (path_spelled _) (last (label_spelled labels _)))) (λ x. refl) h)))
    words_again form.Setpriv first count h = inr (inr (fixed 4 first count (spelled _ (and (name_spelled _) (and (path_spelled _) (and (privs_spelled _) (last (privs_spelled _))))) (λ x. refl) h)))
    words_again form.Fork first count h = let t = one_name 3 words count in inr (inr (open_end 2 first t.0 (spelled _ (and (name_spelled _) (and (keep_spelled _) t.1)) (λ x. refl) h)))
    words_again form.Exit first count h = inr (inr (fixed 2 first count (spelled _ (and (name_spelled _) (last (λ n. number_spelled 0 255 _ n (omega arith)))) (λ x. refl) h)))
    words_again form.Setself first count h = inr (inr (fixed 2 first count (spelled _ (and (name_spelled _) (last (label_spelled labels _))) (λ x. refl) h)))
    words_again form.Droplic first count h = inr (inr (fixed 2 first count (spelled _ (and (name_spelled _) (last (privs_spelled _))) (λ x. refl) h)))
    words_again form.Grant first count h = inr (inr (fixed 3 first count (spelled _ (and (name_spelled _) (and (name_spelled _) (last (privs_spelled _)))) (λ x. refl) h)))
    words_again form.Ceiling first count h = inr (inr (fixed 3 first count (spelled _ (and (name_spelled _) (and (name_spelled _) (last (label_spelled labels _)))) (λ x. refl) h)))
    words_again form.Readlog first count h = inr (inr (fixed 2 first count (spelled _ (and (name_spelled _) (last (λ n. number_spelled 0 4294967295 _ n (omega arith)))) (λ x. refl) h)))
    words_again form.Login first count h = let t = one_name 4 words count in
        inr (inr (open_end 3 first t.0 (spelled _ (and (name_spelled _) (and (fd_spelled _) (and (fd_spelled _) t.1))) (λ x. refl) h)))
    words_again (form.Plain c) first count h = inr (inr (fixed 1 first count (spelled _ (last (name_spelled _)) (plain_line_words c) h)))
    words_again (form.OnPath c) first count h = inr (inr (fixed 2 first count (spelled _ (and (name_spelled _) (last (path_spelled _))) (λ x. path_line_words c x.0 x.1) h)))
    words_again (form.OnFd c) first count h = inr (inr (fixed 2 first count (spelled _ (and (name_spelled _) (last (fd_spelled _))) (λ x. fd_line_words c x.0 x.1) h)))
    words_again (form.Counted c) first count h =
        inr (inr (fixed 3 first count (spelled _ (and (name_spelled _) (and (fd_spelled _) (last (λ n. number_spelled 0 4294967295 _ n (omega arith)))))
        (λ x. counted_line_words c x.0 x.1.0 x.1.1) h)))
