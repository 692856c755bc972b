-- The one label of a spelling is found among all labels.
use Rattle.std.proofs.Common.{◌≡◌, ◌≢◌, ℕ, zero, suc, ◌+◌, ◌<◌, Bool, true, false, not, ◌&&◌, ◌||◌, ◌==◌, List, [], ◌∷◌, ◌++◌, map, find, cond, Option, Some}
use Rattle.std.proofs.Common.{None, ◌⊎◌, inl, inr, refl, sym, ap, ◌∙◌, subst, arith}
use Rattle.std.specs.FinSet as set
use Rattle.std.{specs.{FinSet.contains-remove, Cmp.{nat_cmp_total, unsigned_tied, Lexicographic.same_text}}, proofs.lemmas.Bool.{eq-eqb, ne_eqb, cases_eq}}
use Rattle.ix_label.{specs.declared.form.Form.Form, specs.Forms.{greatest, Fits, IsWithin}, specs.Category.{Categories, has, bottom, with}}
use Rattle.ix_label.{specs.Members.{same_members, has-bottom, has-with}, specs.Spelling.spelling, proofs.Fitting.within-fits}
use Rattle.ix_model.{specs.world.Naming.same_bytes, proofs.tables.Alike.bytes_itself}
use Rattle.ix_text.{specs.Labels.{labels_below, is_spelled, label_in}, proofs.Tests.{both, bool_cases}}

-- ---- every label is there
abbrev Among : Categories → List Categories → Type 0
Among s [] = ⊥
Among s (l ∷ ls) = (l ≡ s) ⊎ Among s ls

among_left : (s : Categories) (xs ys : List Categories) → Among s xs → Among s (xs ++ ys)
among_left s [] ys h = absurd h
among_left s (x ∷ xs) ys (inl e) = inl e
among_left s (x ∷ xs) ys (inr h) = inr (among_left s xs ys h)

among_right : (s : Categories) (xs ys : List Categories) → Among s ys → Among s (xs ++ ys)
among_right s [] ys h = h
among_right s (x ∷ xs) ys h = inr (among_right s xs ys h)

among_map : (n : ℕ) (s : Categories) (xs : List Categories) → Among s xs → Among (with s n) (map (λ l. with l n) xs)
among_map n s [] h = absurd h
among_map n s (x ∷ xs) (inl e) = inl (ap (λ l. with l n) e)
among_map n s (x ∷ xs) (inr h) = inr (among_map n s xs h)

-- without one category, and with it again
without : Categories → ℕ → Categories
without s n = set.remove s n

has-without : (s : Categories) (n q : ℕ) → has (without s n) q ≡ (not (q == n) && has s q)
unfolding has without
has-without s n q = contains-remove nat_cmp_total s n q ∙ (λ i. not (unsigned_tied q n i) && set.contains s q)

again : (s : Categories) (n q : ℕ) → has s n ≡ true → ((q == n) || (not (q == n) && has s q)) ≡ has s q
again s n q h = elim (cases_eq q n) [
  | inl e ↦ rw (eq-eqb q n e) (sym (ap (has s) e ∙ h))
  | inr ne ↦ rw (ne_eqb q n ne) refl
]

with_again : (s : Categories) (n : ℕ) → has s n ≡ true → with (without s n) n ≡ s
with_again s n h = same_members (with (without s n) n) s (λ q. has-with (without s n) n q ∙ ap (λ b. (q == n) || b) (has-without s n q) ∙ again s n q h)

-- what is below n + 1 and isn't n is below n
lower : (q n : ℕ) → q < suc n → q ≢ n → q < n
lower q n h ne = omega arith

pub all_there : (n : ℕ) (s : Categories) → ((q : ℕ) → has s q ≡ true → q < n) → Among s (labels_below n)
unfolding labels_below
all_there zero s low = inl (same_members bottom s (λ q. has-bottom q ∙ elim (bool_cases (has s q)) [
  | inl h ↦ let k : q < 0 = low q h in absurd (omega arith)
  | inr h ↦ sym h
]))
all_there (suc n) s low = elim (bool_cases (has s n)) [
  | inl h ↦
      let rest : (q : ℕ) → has (without s n) q ≡ true → q < n = λ q k.
      let p : (not (q == n) ≡ true) × (has s q ≡ true) = both (not (q == n)) (has s q) (sym (has-without s n q) ∙ k) in
      lower q n (low q p.1) (λ e. let t : (q == n) ≡ true = eq-eqb q n e in cc (ap not t, p.0)) in
      subst (λ l. Among l (labels_below n ++ map (λ l. with l n) (labels_below n))) (with_again s n h)
      (among_right (with (without s n) n) (labels_below n) (map (λ l. with l n) (labels_below n)) (among_map n (without s n) (labels_below n) (all_there n (without s n) rest)))
  | inr h ↦
      let rest : (q : ℕ) → has s q ≡ true → q < n = λ q k. lower q n (low q k) (λ e. let t : has s q ≡ has s n = ap (has s) e in cc) in
      among_left s (labels_below n) (map (λ l. with l n) (labels_below n)) (all_there n s rest)
]

-- ---- and nothing else
among_split : (s : Categories) (xs ys : List Categories) → Among s (xs ++ ys) → Among s xs ⊎ Among s ys
among_split s [] ys h = inr h
among_split s (x ∷ xs) ys (inl e) = inl (inl e)
among_split s (x ∷ xs) ys (inr h) = elim (among_split s xs ys h) [ inl k ↦ inl (inr k) | inr k ↦ inr k ]

among_mapped : (n : ℕ) (s : Categories) (xs : List Categories) → Among s (map (λ l. with l n) xs) → (l : Categories) × Among l xs × (with l n ≡ s)
among_mapped n s [] h = absurd h
among_mapped n s (x ∷ xs) (inl e) = (x, inl refl, e)
among_mapped n s (x ∷ xs) (inr h) = let p = among_mapped n s xs h in (p.0, inr p.1, p.2)

one_higher : (l : Categories) (n q : ℕ) → ((r : ℕ) → has l r ≡ true → r < n) → has (with l n) q ≡ true → q < suc n
one_higher l n q low h = elim (cases_eq q n) [
  | inl e ↦ omega arith
  | inr ne ↦
      let old : has l q ≡ true = ap (λ b. b || has l q) (sym (ne_eqb q n ne)) ∙ sym (has-with l n q) ∙ h in
      let k : q < n = low q old in
      omega arith
]

below : (n : ℕ) (s : Categories) → Among s (labels_below n) → (q : ℕ) → has s q ≡ true → q < n
unfolding labels_below
below zero s (inl e) q h = let none : has s q ≡ false = ap (λ l. has l q) (sym e) ∙ has-bottom q in cc
below zero s (inr k) q h = absurd k
below (suc n) s k q h = elim (among_split s (labels_below n) (map (λ l. with l n) (labels_below n)) k) [
  | inl a ↦ let low : q < n = below n s a q h in omega arith
  | inr a ↦
      let p = among_mapped n s (labels_below n) a in
      one_higher p.0 n q (below n p.0 p.1) (ap (λ l. has l q) p.2 ∙ h)
]

-- ---- the one that is found
find_one : (test : Categories → Bool) (s : Categories) (ls : List Categories) → Among s ls → test s ≡ true → ((l : Categories) → Among l ls → test l ≡ true → l ≡ s) → find test ls ≡ Some s
find_one test s [] h is only = absurd h
find_one test s (l ∷ ls) h is only = elim (bool_cases (test l)) [
  | inl t ↦ rw t (ap (λ (x : Categories). Some x) (only l (inl refl) t))
  | inr f ↦ rw f (elim h [
    | inl e ↦ let t : test l ≡ test s = ap test e in cc
    | inr k ↦ find_one test s ls k is (λ m a. only m (inr a))
  ])
]

find_none : (test : Categories → Bool) (ls : List Categories) → ((l : Categories) → Among l ls → test l ≡ true → ⊥) → find test ls ≡ None
find_none test [] none = refl
find_none test (l ∷ ls) none = elim (bool_cases (test l)) [
  | inl t ↦ absurd (none l (inl refl) t)
  | inr f ↦ rw f (find_none test ls (λ m a. none m (inr a)))
]

-- the label of a spelling that no other has
pub label_found : (form : Form) (word : List ℕ) (s : Categories) → IsWithin form s → spelling form s ≡ word
    → ((l : Categories) → IsWithin form l → spelling form l ≡ word → l ≡ s) → label_in form word ≡ Some s
unfolding label_in
label_found form word s small is only =
    find_one (is_spelled form word) s (labels_below (greatest form + 1)) (all_there (greatest form + 1) s (λ q one. omega (arith, small.below q one)))
    (ap (λ t. same_bytes t word) is ∙ bytes_itself word)
    (λ l a t. only l (record { below = λ q one. omega (arith, below (greatest form + 1) l a q one) }) (same_text (spelling form l) word (sym t)))

-- a word that spells no label
pub label_missing : (form : Form) (word : List ℕ) → ((l : Categories) → IsWithin form l → spelling form l ≡ word → ⊥) → label_in form word ≡ None
unfolding label_in
label_missing form word none =
    find_none (is_spelled form word) (labels_below (greatest form + 1))
    (λ l a t. none l (record { below = λ q one. omega (arith, below (greatest form + 1) l a q one) }) (same_text (spelling form l) word (sym t)))

-- what is found is among those that are looked through
found_among : (test : Categories → Bool) (s : Categories) (ls : List Categories) → find test ls ≡ Some s → Among s ls
found_among test s [] h = cc
found_among test s (l ∷ ls) h = elim (bool_cases (test l)) [
  | inl t ↦ let found : ◌≡◌ {A = Option Categories} (Some l) (Some s) = ap (λ b. cond b (Some l) (find test ls)) (sym t) ∙ h in inl (cc)
  | inr f ↦ inr (found_among test s ls (ap (λ b. cond b (Some l) (find test ls)) (sym f) ∙ h))
]

-- the label that a word spells in a form is within it
pub label_within : (form : Form) (word : List ℕ) (s : Categories) → label_in form word ≡ Some s → IsWithin form s
unfolding label_in
label_within form word s h =
    record { below = λ q one. omega (arith, below (greatest form + 1) s (found_among (is_spelled form word) s (labels_below (greatest form + 1)) h) q one) }

-- and so the form has a text for it
pub label_fits : (form : Form) (word : List ℕ) (s : Categories) → label_in form word ≡ Some s → Fits form s
label_fits form word s h = within-fits form s (label_within form word s h)
