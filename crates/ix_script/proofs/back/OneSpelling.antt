-- A word that is read has one spelling: that of what was read.
use Rattle.std.proofs.Common.{◌≡◌, ℕ, ◌+◌, ◌^◌, ◌<◌, ◌≤◌, Bool, true, false, not, ◌&&◌, ◌||◌, ◌==◌, nat_le, cond, List, [], ◌∷◌, ◌++◌, length, get_or, map, inl}
use Rattle.std.proofs.{Common.{drop, Option, Some, None, inr, refl, sym, ap, ◌∙◌, option_map, IsSome, subst, arith}, lemmas.Str.Parse.{IsDigitsTest, IsNumeralModel, numerals_by_fold}}
use Rattle.std.specs.{Prelude.codes, List.{list_all, flat_map}, Fmt.decimal, Cmp.Lexicographic.same_text}
use Rattle.std.proofs.lemmas.{Bool.{cases_Bool, leb-true, le-leb, eqb-true, false≢true, not-true}, Fmt.decimal-digits_value}
use Rattle.std.proofs.lemmas.{List.Folds.{list_all-append, list_all-map}, Option.{cond_some, none-some}}
use Rattle.ix_label.specs.{declared.form.Form.Form, Forms.greatest, Category.Categories, Spelling.spelling}
use Rattle.ix_model.specs.{world.{Naming.{PathOf, same_bytes}, Texts.{with_front, between_slashes, names_in}}, declared.{call.Mode.Mode, privs.PrivSet.PrivSet}}
use Rattle.ix_model.proofs.texts.Joining.{some_piece}
use Rattle.ix_text.{specs.{Bytes.{begins, is_empty, is_digit, begins_with}, Labels.{label_in, labels_below, is_spelled}, Names.name_of}, proofs.Tests.{both, join_tests}}
use Rattle.ix_text.specs.{Spellings.{letters, joined, letter_in, privs_text, mode_text, state_text}, Privs.{bits_from, privs_of}}
use Rattle.ix_script.specs.texts.Words.{is_numeral, value, value_from, number_of, path_in, path_of, made_path_of, mode_of, state_of, what_of, fd_of, keep_of}
use Rattle.ix_script.specs.{lines.Before.what_text, texts.Spellings.{path_text, fd_text, keep_text}, declared.line.{What.What, FdWord.FdWord, KeepWord.KeepWord}}
use Rattle.ix_script.proofs.reader.Told.{mapped, chosen, either, found}
use Rattle.ix_model.specs.declared.call.Mode.TheVariants as mode
use Rattle.ix_script.specs.declared.line.What.TheVariants as what
use Rattle.ix_script.specs.declared.line.FdWord.TheVariants as fd
use Rattle.ix_script.specs.declared.line.KeepWord.TheVariants as keep

-- ---- names and labels
pub name_spelled : (word name : List ℕ) → name_of word ≡ Some name → name ≡ word
unfolding name_of
name_spelled word name h = sym (cond_some _ word name h).1

pub label_spelled : (form : Form) (word : List ℕ) (s : Categories) → label_in form word ≡ Some s → spelling form s ≡ word
unfolding label_in
label_spelled form word s h = same_text _ _ (sym (found (is_spelled form word) (labels_below (greatest form + 1)) s h))

-- ---- numbers
digits_test : IsDigitsTest (λ ds. list_all is_digit ds ≡ true)
digits_test = record {
  empty = refl;
  parts = λ c cs h. let p = both (is_digit c) (list_all is_digit cs) h in
      let q = both (nat_le 48 c) (nat_le c 57) p.0 in
      ((leb-true 48 c q.0, leb-true c 57 q.1), p.1);
  more = λ c cs r h. join_tests _ _ (join_tests _ _ (le-leb 48 c r.0) (le-leb c 57 r.1)) h;
}

pub numerals : IsNumeralModel (λ ds. list_all is_digit ds ≡ true) (value_from 0)
numerals = numerals_by_fold _ digits_test value_from (record { empty = λ n. refl; more = λ n c cs r. refl })

some_digits : (word : List ℕ) → begins_with is_digit word ≡ true → 0 < length word
some_digits [] h = absurd (false≢true h)
some_digits (b ∷ word) h = omega arith

one_zero : (word : List ℕ) → (length word == 1 || not (begins 48 word)) ≡ true → get_or word 0 0 ≡ 48 → length word ≡ 1
one_zero [] h e = omega arith
one_zero (b ∷ word) h e = elim (cases_Bool _) [
  | inl one ↦ eqb-true _ 1 one
  | inr more ↦ absurd (false≢true (sym (rw (more, e) refl) ∙ h))
]

pub decimal_of_value : (word : List ℕ) → is_numeral word ≡ true → value word < 2 ^ 64 → decimal (value word) ≡ word
unfolding is_numeral value
decimal_of_value word h small =
    let p = both (begins_with is_digit word && list_all is_digit word) (length word == 1 || not (begins 48 word)) h in
    let q = both (begins_with is_digit word) (list_all is_digit word) p.0 in
    decimal-digits_value numerals word q.1 (some_digits _ q.0) (one_zero _ p.1) small

pub number_spelled : (low high : ℕ) (word : List ℕ) (n : ℕ) → high ≤ 4294967295 → number_of low high word ≡ Some n → decimal n ≡ word
unfolding number_of
number_spelled low high word n few h =
    let p = cond_some _ _ n h in
    let q = both (is_numeral word) (nat_le low _ && nat_le _ high) p.0 in
    let r = both (nat_le low _) (nat_le _ high) q.1 in
    let le = leb-true _ high r.1 in
    let small : value word < 2 ^ 64 = omega arith in
    ap decimal (sym p.1) ∙ decimal_of_value _ q.0 small

-- ---- sets
-- a word with one letter more at its front
abbrev with_letter : ℕ → List ℕ × ℕ → List ℕ × ℕ
with_letter letter p = (letter ∷ p.0, p.1)

-- each word of these letters, and its bits with those that are there
abbrev readings : ℕ → List (ℕ × ℕ) → List (List ℕ × ℕ)
readings bits [] = ([], bits) ∷ []
readings bits ((letter, bit) ∷ more) = map (with_letter letter) (readings (bits + bit) more) ++ readings bits more

pub begun : (letter : ℕ) (word : List ℕ) → begins letter word ≡ true → word ≡ letter ∷ drop 1 word
begun letter [] h = absurd (false≢true h)
begun letter (b ∷ word) h = ap (λ c. c ∷ word) (eqb-true b letter h)

pub empty_word : (word : List ℕ) → is_empty word ≡ true → word ≡ []
empty_word [] h = refl
empty_word (b ∷ word) h = absurd (false≢true h)

-- what holds of each of them holds of a word that is read
one_reading : (test : List ℕ → ℕ → Bool) (start : ℕ) (ls : List (ℕ × ℕ)) (word : List ℕ) (bits : ℕ) → bits_from start ls word ≡ Some bits
    → list_all (λ (p : List ℕ × ℕ). test p.0 p.1) (readings start ls) ≡ true → test word bits ≡ true
one_reading test start [] word bits h all =
    let p = cond_some _ start bits h in
    let q = both (test [] _) true all in
    let e = empty_word _ p.0 in
    cc (q.0, p.1, e)
one_reading test start ((letter, bit) ∷ more) word bits h all =
    let step = with_letter letter in
    let passes = λ (p : List ℕ × ℕ). test _ _ in
    let halves = both (list_all passes _) (list_all passes _) (sym (list_all-append passes _ _) ∙ all) in
    elim (either (begins letter word) (bits_from (start + bit) more (drop 1 word)) (bits_from start more word) bits h) [
      | inl p ↦
          let t : test (letter ∷ drop 1 word) bits ≡ true =
          one_reading (λ w n. test (letter ∷ w) n) (start + bit) more (drop 1 word) bits p.1 (sym (list_all-map passes step (readings (start + bit) more))
          ∙ halves.0) in
          ap (λ w. test w bits) (begun letter word p.0) ∙ t
      | inr p ↦ one_reading test start more word bits p.1 halves.1
    ]

-- a word without letters, or the letters of its bits
is_so : List ℕ → ℕ → Bool
is_so word bits = is_empty word || (not (bits == 0) && same_bytes (flat_map (letter_in (record { 0 = bits })) letters) word)

all_so : list_all (λ (p : List ℕ × ℕ). is_so p.0 p.1) (readings 0 letters) ≡ true
unfolding is_so
all_so = refl

letters_spelled : (word : List ℕ) (bits : ℕ) → is_empty word ≡ false → bits_from 0 letters word ≡ Some bits → privs_text (record { 0 = bits }) ≡ word
unfolding is_so privs_text
letters_spelled word bits some h =
    let t = one_reading is_so 0 letters word _ h all_so in
    let u =
    ap (λ b. b || (not (bits == 0) && same_bytes (flat_map (letter_in (record { 0 = bits })) letters) word)) (sym some) ∙ t in
    let p = both (not (bits == 0)) (same_bytes (flat_map (letter_in (record { 0 = bits })) letters) word) u in
    let n = not-true (bits == 0) p.0 in
    ap (λ b. cond b (codes "-") (flat_map (letter_in (record { 0 = bits })) letters)) n ∙ same_text _ _ (sym p.1)

pub privs_spelled : (word : List ℕ) (set : PrivSet) → privs_of word ≡ Some set → privs_text set ≡ word
unfolding privs_of privs_text
privs_spelled word set h = elim (chosen _ _ (cond (is_empty word) None (option_map (λ bits. record { 0 = bits }) (bits_from 0 letters word))) set h) [
  | inl p ↦ let e : set.0 ≡ 0 = ap (λ (s : PrivSet). s.0) (sym p.1) in rw e (sym (same_text word (codes "-") (sym p.0)))
  | inr k ↦ elim (either (is_empty word) None (option_map (λ bits. record { 0 = bits }) (bits_from 0 letters word)) set k) [
    | inl p ↦ absurd (none-some set p.1)
    | inr p ↦
        let m = mapped (λ (bits : ℕ). let s : PrivSet = record { 0 = bits } in s) (bits_from 0 letters word) set p.1 in
        subst (λ (s : PrivSet). privs_text s ≡ word) m.2 (letters_spelled word m.0 p.0 m.1)
  ]
]

pub joined_front : (byte b : ℕ) (texts : List (List ℕ)) → joined byte (with_front b texts) ≡ b ∷ joined byte texts
joined_front byte b [] = refl
joined_front byte b (text ∷ texts) = refl

slashes_joined : (text : List ℕ) → joined 47 (between_slashes text) ≡ text
unfolding between_slashes
slashes_joined [] = refl
slashes_joined (b ∷ text) = elim (cases_Bool (b == 47)) [
  | inl e ↦
      let k = some_piece text in
      let same = slashes_joined _ in
      rw (e, k.2) (ap (λ c. c ∷ joined 47 (k.0 ∷ k.1)) (sym (eqb-true b 47 e)) ∙ ap (λ t. b ∷ t) (ap (joined 47) (sym k.2) ∙ same))
  | inr e ↦ rw e (joined_front 47 b _ ∙ ap (λ t. b ∷ t) (slashes_joined _))
]

names_joined : (text : List ℕ) → joined 47 (names_in text) ≡ text
names_joined [] = refl
names_joined (b ∷ text) = slashes_joined _

pub in_spelled : (word : List ℕ) → path_text (path_in word) ≡ word
unfolding path_text
in_spelled word = elim (cases_Bool (begins 47 word)) [
  | inl e ↦ rw e (ap (λ t. 47 ∷ t) (names_joined (drop 1 word)) ∙ sym (begun 47 word e))
  | inr e ↦ rw e (names_joined _)
]

pub path_spelled : (word : List ℕ) (path : PathOf) → path_of word ≡ Some path → path_text path ≡ word
unfolding path_of
path_spelled word path h = ap path_text (sym (cond_some _ _ path h).1) ∙ in_spelled _

pub made_path_spelled : (word : List ℕ) (path : PathOf) → made_path_of word ≡ Some path → path_text path ≡ word
unfolding made_path_of
made_path_spelled word path h = elim (either (begins 47 word && not _) _ _ _ h) [
  | inl p ↦ path_spelled word path p.1
  | inr p ↦ absurd (none-some path p.1)
]

-- its text spells an absolute path with a name again
pub made_again : (word : List ℕ) (path : PathOf) → made_path_of word ≡ Some path → made_path_of (path_text path) ≡ Some path
made_again word path h = rw (made_path_spelled word path h) h

made_where : (b : Bool) (o : Option PathOf) → IsSome (cond b o None) → IsSome o × (cond b o None ≡ o)
made_where true o h = (h, refl)
made_where false o h = cc

-- it is the path that its word spells
pub made_from : (word : List ℕ) → IsSome (made_path_of word) → IsSome (path_of word) × (made_path_of word ≡ path_of word)
unfolding made_path_of
made_from word h = made_where _ _ h

-- ---- words of a few spellings
-- a word that is one of several: it is this one, or one of the others
pub choose : {A : Type 0} (spell : A → List ℕ) (word text : List ℕ) (x : A) (others : Option A) → text ≡ spell x → ((y : A) → others ≡ Some y → spell y ≡ word)
    → (y : A) → cond (same_bytes word text) (Some x) others ≡ Some y → spell y ≡ word
choose spell word text x others is more y h = elim (chosen _ x others y h) [
  | inl p ↦ ap spell (sym p.1) ∙ sym is ∙ sym (same_text word text (sym p.0))
  | inr k ↦ more y k
]

pub no_more : {A : Type 0} (spell : A → List ℕ) (word : List ℕ) → (y : A) → None ≡ Some y → spell y ≡ word
no_more spell word y h = absurd (none-some y h)

pub mode_spelled : (word : List ℕ) (m : Mode) → mode_of word ≡ Some m → mode_text m ≡ word
unfolding mode_of
mode_spelled word = choose _ _ _ mode.Read _ refl (choose _ _ _ mode.Write _ refl (choose _ _ _ mode.Both _ refl (no_more _ _)))

pub state_spelled : (word : List ℕ) (frozen : Bool) → state_of word ≡ Some frozen → state_text frozen ≡ word
unfolding state_of
state_spelled word = choose _ _ _ false _ refl (choose _ _ _ true _ refl (no_more _ _))

pub what_spelled : (word : List ℕ) (w : What) → what_of word ≡ Some w → what_text w ≡ word
unfolding what_of
what_spelled word = choose _ _ _ what.Procs _ refl (choose _ _ _ what.Opens _ refl
    (choose _ _ _ what.Pipes _ refl (choose _ _ _ what.Names _ refl (choose _ _ _ what.Log _ refl (no_more _ _)))))

-- ---- descriptors
pub fd_spelled : (word : List ℕ) (f : FdWord) → fd_of word ≡ Some f → fd_text f ≡ word
unfolding fd_of
fd_spelled word f h = elim (either (begins_with _ word) _ _ f h) [
  | inl p ↦
      let m = mapped (λ n. fd.Number n) (number_of 0 255 word) f p.1 in
      ap fd_text (sym m.2) ∙ number_spelled 0 255 word m.0 (omega arith) m.1
  | inr p ↦
      let m = mapped (λ name. fd.Named name) (name_of word) f p.1 in
      ap fd_text (sym m.2) ∙ name_spelled word m.0 m.1
]

one_kept : (word : List ℕ) (k : KeepWord) → option_map (λ one. keep.One one) (fd_of word) ≡ Some k → keep_text k ≡ word
one_kept word k h =
    let m = mapped _ _ k h in
    ap keep_text (sym m.2) ∙ fd_spelled _ _ m.1

pub keep_spelled : (word : List ℕ) (k : KeepWord) → keep_of word ≡ Some k → keep_text k ≡ word
unfolding keep_of
keep_spelled word = choose _ _ _ keep.All _ refl (choose _ _ _ keep.Nothing _ refl (one_kept _))
