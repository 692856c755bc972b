-- The items of a label, written one after the other.
use Rattle.std.proofs.Common.{◌≡◌, ℕ, ◌+◌, ◌<◌, ◌≤◌, false, List, [], ◌++◌, length, take, drop, refl, sym, ap, ◌∙◌, arith, append_assoc, length-append, inl}
use Rattle.std.proofs.Common.{inr}
use Rattle.std.proofs.lemmas.{Bool.{cases_lt, ne_eqb}, List.{append-nil, take_all, take_at, take-append-drop}}
use Rattle.ix_label.specs.{Category.{Categories, has}, Spelling.{item, items, runs}, Scanning.{IsFirstFrom, RunsTo, comma_after}}
use Rattle.ix_label.proofs.Texts.{comma_after_none, comma_after_some, item_some}
use Rattle.ix_label.proofs.Walk.{IsSpelledBelow, IsSpelledBelow-none, IsSpelledBelow-more, IsSpelledBelow-all}
use Rattle.ix_text.specs.Items.{separator}

-- after the old text stands what a label's runs below a place are written as
pub record IsTold (s : Categories) (from : ℕ) (old new : List ℕ) : Type 0 where
  pub out : List ℕ
  pub text : new ≡ old ++ out
  pub spelled : IsSpelledBelow s from out
  pub none : from ≡ 0 → out ≡ []
  pub some : 0 < from → 0 < length out

pub none_told : (s : Categories) (old : List ℕ) → IsTold s 0 old old
none_told s old = record {
  out = [];
  text = sym (append-nil old);
  spelled = IsSpelledBelow-none s;
  none = λ e. refl;
  some = λ h. absurd (omega arith);
}

separated : (s : Categories) (from : ℕ) (old new : List ℕ) (t : IsTold s from old new) → comma_after t.out ≡ t.out ++ separator from
separated s from old new t = elim (cases_lt 0 from) [
  | inl some ↦ rw (ne_eqb from 0 (λ e. omega arith)) (comma_after_some t.out (t.some some))
  | inr none ↦
      let e : from ≡ 0 = omega arith in
      rw (e, t.none e) comma_after_none
]

-- one run more
pub more_told : (s : Categories) (from first last : ℕ) (old mid new : List ℕ) → IsTold s from old mid → IsFirstFrom s from first → RunsTo s first last
    → new ≡ mid ++ (separator from ++ item (first, last)) → IsTold s (last + 1) old new
more_told s from first last old mid new t next run text = record {
  out = comma_after t.out ++ item (first, last);
  text = text ∙ ap (λ m. m ++ (separator from ++ item (first, last))) t.text
      ∙ append_assoc old t.out (separator from ++ item (first, last))
      ∙ ap (λ m. old ++ m) (sym (append_assoc t.out (separator from) (item (first, last))) ∙ ap (λ m. m ++ item (first, last)) (sym (separated s from old mid t)));
  spelled = IsSpelledBelow-more s from first last t.out t.spelled next run;
  none = λ e. absurd (omega arith);
  some = λ h. omega (arith, length-append (comma_after t.out) (item (first, last)), item_some (first, last));
}

-- nothing stands at or above the place
pub all_told : (s : Categories) (from : ℕ) (old new : List ℕ) → IsTold s from old new → ((q : ℕ) → from ≤ q → has s q ≡ false) → new ≡ old ++ items (runs s)
all_told s from old new t none = t.text ∙ ap (λ m. old ++ m) (IsSpelledBelow-all s from t.out t.spelled none)

-- ---- what stood there stays
pub stays_twice : (o m n : List ℕ) → take (length o) m ≡ o → take (length m) n ≡ m → take (length o) n ≡ o
stays_twice o m n h k =
    let mid : o ++ drop (length o) m ≡ m = ap (λ x. x ++ drop (length o) m) (sym h) ∙ take-append-drop (length o) m in
    let whole : m ++ drop (length m) n ≡ n = ap (λ x. x ++ drop (length m) n) (sym k) ∙ take-append-drop (length m) n in
    let all : o ++ (drop (length o) m ++ drop (length m) n) ≡ n = sym (append_assoc o (drop (length o) m) (drop (length m) n)) ∙ ap (λ x. x ++ drop (length m) n) mid ∙ whole in
    ap (take (length o)) (sym all) ∙ take_at o (drop (length o) m ++ drop (length m) n) (length o) refl

pub stays_whole : (o : List ℕ) → take (length o) o ≡ o
stays_whole o = take_all (length o) o (omega arith)
