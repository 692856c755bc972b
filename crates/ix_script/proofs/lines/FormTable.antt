-- The table of the words that begin lines, looked through one by one.
use Rattle.std.proofs.Common.{◌≡◌, ℕ, zero, suc, ◌+◌, ◌<◌, ◌≤◌, ◌==◌, Bool, true, false, not, List, [], ◌∷◌, length, map, take, get_or, Some, None}
use Rattle.std.{proofs.Common.{Bor, inl, inr, refl, sym, ap, ◌∙◌, subst, add-one, arith}, specs.{List.{list_all, slice_index_or, range_with_len}, Cmp.Lexicographic.same_text}}
use Rattle.std.proofs.lemmas.{List.{take_all, FromFn.get_or-range_with_len, Folds.list_all_at}, Bool.{cases_Bool, eqb-false, false≢true, not-true}}
use Rattle.ix_model.specs.world.Naming.{same_bytes}
use Rattle.ix_script.specs.{declared.form.Form.Form, lines.Forms.form_of, reader.Placing.letter}
use Rattle.ix_text.proofs.Tests.{both}

-- each word is its form's
abbrev pub AreRight : List (Bor (List ℕ) × Form) → Type 0
AreRight [] = Unit
AreRight (e ∷ forms) = (form_of e.0.now ≡ Some e.1) × AreRight forms

-- none of them is the word
abbrev pub AreNot : List ℕ → List (Bor (List ℕ) × Form) → Type 0
AreNot word [] = Unit
AreNot word (e ∷ forms) = (same_bytes word e.0.now ≡ false) × AreNot word forms

-- the first letters of its words
abbrev letters : List (Bor (List ℕ) × Form) → List ℕ
letters forms = map (λ e. letter e.0.now) forms

abbrev differs : ℕ → ℕ → Bool
differs n k = not (k == n)

-- words of other letters are none of a word
pub of_others : (word : List ℕ) (forms : List (Bor (List ℕ) × Form)) (i : ℕ) → list_all (differs (letter word)) (take i (letters forms)) ≡ true → AreNot word (take i forms)
of_others word forms zero h = tt
of_others word [] (suc i) h = tt
of_others word (e ∷ forms) (suc i) h =
    let p = both (differs (letter word) (letter e.0.now)) (list_all (differs (letter word)) (take i _)) h in
    let other = eqb-false (letter e.0.now) (letter word) (not-true _ p.0) in (
      elim (cases_Bool _) [
        | inl same ↦ absurd (other (ap letter (sym (same_text _ _ (sym same)))))
        | inr differ ↦ differ
      ],
      of_others word _ i p.1,
    )

-- the letters of all words, in the order of the table
abbrev all_letters : List ℕ
all_letters = 3 ∷ 3 ∷ 3 ∷ 3 ∷ 3 ∷ 3 ∷ 4 ∷ 4 ∷ 4 ∷ 5 ∷ 5 ∷ 6 ∷ 6 ∷ 6 ∷ 6 ∷ 6 ∷ 7 ∷ 12 ∷ 12 ∷ 12 ∷ 12 ∷ 12 ∷ 12 ∷ 13 ∷ 15 ∷ 16 ∷ 16 ∷ 16 ∷ 16 ∷ 16 ∷ 18 ∷ 18 ∷ 18
    ∷ 19 ∷ 19 ∷ 19 ∷ 19 ∷ 19 ∷ 19 ∷ 20 ∷ 20 ∷ 21 ∷ 21 ∷ 23 ∷ 23 ∷ []

-- where the words of a letter begin; where there are none, where the table ends
abbrev begins : List ℕ
begins = 45 ∷ 45 ∷ 45 ∷ 0 ∷ 6 ∷ 9 ∷ 11 ∷ 16 ∷ 45 ∷ 45 ∷ 45 ∷ 45 ∷ 17 ∷ 23 ∷ 45 ∷ 24 ∷ 25 ∷ 45 ∷ 30 ∷ 33 ∷ 39 ∷ 41 ∷ 45 ∷ 43 ∷ 45 ∷ 45 ∷ 45 ∷ 45 ∷ 45 ∷ 45 ∷ 45 ∷ 45 ∷ []

-- before it, all have another
abbrev begins_right : ℕ → Bool
begins_right n = list_all (differs n) (take (get_or begins n 0) all_letters)

all_begin_right : list_all begins_right (range_with_len 0 32) ≡ true
all_begin_right = refl

pub low_letter : (word : List ℕ) → letter word < 32
low_letter [] = omega arith
low_letter (b ∷ word) = omega arith

pub before : (word : List ℕ) → list_all (differs (letter word)) (take (get_or begins (letter word) 0) all_letters) ≡ true
before word =
    let n = letter word in
    let at : get_or (range_with_len 0 32) n 0 ≡ n = get_or-range_with_len 0 32 n 0 (low_letter word) ∙ omega arith in
    elim (cases_Bool (begins_right n)) [
      | inl e ↦ e
      | inr e ↦ absurd (false≢true (sym (list_all_at begins_right (range_with_len 0 32) n 0 (low_letter word) (ap begins_right at ∙ e)) ∙ all_begin_right))
    ]

-- all of a table is right, no other word has a form, and the first so many entries aren't the word's
pub record Looking (word : List ℕ) (forms : List (Bor (List ℕ) × Form)) (i : ℕ) : Type 0 where
  pub right : AreRight forms
  pub none : AreNot word forms → form_of word ≡ None
  pub so_far : AreNot word (take i forms)

right_at : (forms : List (Bor (List ℕ) × Form)) (i : ℕ) (d : Bor (List ℕ) × Form) → AreRight forms → i < length forms
    → form_of (slice_index_or forms i d).0.now ≡ Some (slice_index_or forms i d).1
right_at [] i d right low = absurd (omega arith)
right_at (e ∷ forms) zero d right low = right.0
right_at (e ∷ forms) (suc i) d right low = right_at forms i d right.1 (omega arith)

pub found : (word : List ℕ) (forms : List (Bor (List ℕ) × Form)) (i : ℕ) (d : Bor (List ℕ) × Form) → Looking word forms i → i < length forms
    → same_bytes word (slice_index_or forms i d).0.now ≡ true → Some (slice_index_or forms i d).1 ≡ form_of word
found word forms i d l low same = sym (right_at _ i d l.right low) ∙ ap form_of (sym (same_text _ _ (sym same)))

one_more : (word : List ℕ) (forms : List (Bor (List ℕ) × Form)) (i : ℕ) (d : Bor (List ℕ) × Form) → AreNot word (take i forms) → i < length forms
    → same_bytes word (slice_index_or forms i d).0.now ≡ false → AreNot word (take (suc i) forms)
one_more word [] i d k low other = absurd (omega arith)
one_more word (e ∷ forms) zero d k low other = (other, tt)
one_more word (e ∷ forms) (suc i) d k low other = (k.0, one_more _ forms i d k.1 (omega arith) other)

pub goes_on : (word : List ℕ) (forms : List (Bor (List ℕ) × Form)) (i : ℕ) (d : Bor (List ℕ) × Form) → Looking word forms i → i < length forms
    → same_bytes word (slice_index_or forms i d).0.now ≡ false → Looking word forms (i + 1)
goes_on word forms i d l low other = record { right = l.right; none = l.none; so_far = rw add-one (one_more _ _ i d l.so_far low other) }

pub not_any : (word : List ℕ) (forms : List (Bor (List ℕ) × Form)) (i : ℕ) → Looking word forms i → length forms ≤ i → None ≡ form_of word
not_any word forms i l high = sym (l.none (subst (AreNot word) (take_all i forms high) l.so_far))
