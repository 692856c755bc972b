-- The walk over a label's runs: what it has written of the categories below a place.
use Rattle.std.proofs.Common.{◌≡◌, ℕ, ◌+◌, ◌*◌, ◌<◌, ◌≤◌, ◌==◌, nat_le, nat_lt, Bool, true, false, true≢false, ◌&&◌, ◌||◌, List, [], ◌++◌, length, refl, sym, ◌∙◌, subst, arith, inl, inr}
use Rattle.std.proofs.{lemmas.Bool.{cases_lt, cases_order, ltb-true, and_parts, lt-ltb, le-ltb, le-leb, lt-leb, eq-eqb, ne_eqb}, Math.Bool.{or-false, or-true, and-true, and-false}}
use Rattle.ix_label.specs.{Category.{Categories, has, bottom, with, meet, all_below}, Spelling.{item, items, runs}, Scanning.{IsFirstFrom, RunsTo, comma_after, left_from}}
use Rattle.ix_label.specs.Members.{same_members, has-bottom, has-with, has-meet, has-all_below, has-all_below_past}
use Rattle.ix_label.proofs.{Runs.{AddsRun, runs-AddsRun, runs-bottom}, Texts.{items-push, items_none, length-more}}

-- the categories of a label that are below a place
pub below : Categories → ℕ → Categories
below s n = meet s (all_below n)

has-below : (s : Categories) (n q : ℕ) → has (below s n) q ≡ (has s q && nat_lt q n)
unfolding below
has-below s n q = has-meet s _ q ∙ elim (cases_lt q n) [
  | inl low ↦ rw (has-all_below, lt-ltb) refl
  | inr high ↦ rw (has-all_below_past, le-ltb) refl
]

-- below everything there is nothing, and below a label's end the label
below-none : (s : Categories) → below s 0 ≡ bottom
below-none s = same_members _ _ (λ q. has-below s 0 q ∙ rw (le-ltb q 0 (omega arith)) (and-false _) ∙ sym (has-bottom q))

below-all : (s : Categories) (n : ℕ) → ((q : ℕ) → n ≤ q → has s q ≡ false) → below s n ≡ s
below-all s n none = same_members _ _ (λ q. has-below s n q ∙ elim (cases_lt q n) [
  | inl low ↦ rw lt-ltb (and-true _)
  | inr high ↦ rw none refl
])

-- the runs below a place are written, and none of them goes on at it
pub record IsSpelledBelow (s : Categories) (from : ℕ) (out : List ℕ) : Type 0 where
  pub text : out ≡ items (runs (below s from))
  pub room : length out ≤ 4 * from
  pub within : from ≤ 512
  pub apart : 0 < from → has s from ≡ false

pub IsSpelledBelow-none : (s : Categories) → IsSpelledBelow s 0 []
IsSpelledBelow-none s = record {
  text = rw (below-none, runs-bottom, items_none) refl;
  room = omega arith;
  within = omega arith;
  apart = λ h. absurd (omega arith);
}

run_apart : (s : Categories) (from first q : ℕ) → (0 < from → has s from ≡ false) → IsFirstFrom s from first → has (below s from) q ≡ true → q + 1 < first
run_apart s from first q apart next one =
    let parts = and_parts _ _ (sym (has-below s _ q) ∙ one) in
    let low = ltb-true q from parts.1 in
    let start : from ≤ first = next.start in
    elim (cases_order (q + 1) first) [
      | inl e ↦
          let same : from ≡ first = omega arith in
          let P : ℕ → Type 0 = λ k. has s k ≡ true in
          absurd (true≢false (sym (subst P (sym same) next.found) ∙ apart (omega arith)))
      | inr (inl lt) ↦ lt
      | inr (inr gt) ↦ absurd (omega arith)
    ]

run_members : (s : Categories) (from first last q : ℕ) → IsFirstFrom s from first → RunsTo s first last
    → (has s q && nat_lt q (last + 1)) ≡ ((has s q && nat_lt q from) || (nat_le first q && nat_le q last))
run_members s from first last q next run =
    let start : from ≤ first = next.start in
    let order : first ≤ last = run.order in
    elim (cases_lt q from) [
      | inl low ↦ rw (lt-ltb q (last + 1) (omega arith), lt-ltb q from low, lt-leb first q (omega arith), and-true (has s q), or-false) refl
      | inr high ↦ elim (cases_lt q first) [
        | inl between ↦ rw (next.skipped q high between, lt-leb first q between) refl
        | inr inside ↦ elim (cases_lt last q) [
          | inl past ↦ rw (le-ltb q (last + 1) (omega arith), le-ltb q from high, le-leb first q inside, lt-leb q last past, and-false (has s q)) refl
          | inr here ↦ rw (run.inside q inside here, lt-ltb q (last + 1) (omega arith), le-ltb q from high, le-leb first q inside, le-leb q last here) refl
        ]
      ]
    ]

adds_run : (s : Categories) (from first last : ℕ) → (0 < from → has s from ≡ false) → IsFirstFrom s from first → RunsTo s first last → AddsRun (below s from) (below s (last + 1)) first last
adds_run s from first last apart next run =
    let order = run.order in
    let small = run.small in
    record {
      order = order;
      small = small;
      apart = λ q one. run_apart s _ _ q apart next one;
      members = λ q. has-below s _ q ∙ run_members s _ _ _ q next run ∙ (λ i. sym (has-below s from q) i || (nat_le first q && nat_le q last));
    }

pub IsSpelledBelow-more : (s : Categories) (from first last : ℕ) (out : List ℕ) → IsSpelledBelow s from out → IsFirstFrom s from first → RunsTo s first last
    → IsSpelledBelow s (last + 1) (comma_after out ++ item (first, last))
IsSpelledBelow-more s from first last out h next run = record {
  text = rw (runs-AddsRun _ _ first last (adds_run s _ _ _ h.apart next run), items-push, h.text) refl;
  room = length-more _ _ _ _ h.room next.start run.order run.small;
  within = let small = run.small in omega arith;
  apart = λ some. run.end;
}

pub IsSpelledBelow-all : (s : Categories) (from : ℕ) (out : List ℕ) → IsSpelledBelow s from out → ((q : ℕ) → from ≤ q → has s q ≡ false) → out ≡ items (runs s)
IsSpelledBelow-all s from out h none = rw below-all at h.text

-- fewer are left after a run
pub left-falls : (s : Categories) (from first last : ℕ) → IsFirstFrom s from first → RunsTo s first last → left_from (last + 1) < left_from from
unfolding left_from
left-falls s from first last next run =
    let start = next.start in
    let order = run.order in
    let small = run.small in
    omega arith

-- ---- a run, category by category

test_more : (a c q : ℕ) (h : Bool) → a ≤ c → ((q == c) || (h || (nat_le a q && nat_lt q c))) ≡ (h || (nat_le a q && nat_lt q (c + 1)))
test_more a c q h le = elim (cases_order q c) [
  | inl e ↦ let up : a ≤ q = omega arith in rw (eq-eqb q c e, le-leb a q up, lt-ltb q (c + 1) (omega arith)) (sym (or-true h))
  | inr (inl lt) ↦ rw (ne_eqb q c (λ e. omega arith), lt-ltb q c lt, lt-ltb q (c + 1) (omega arith)) refl
  | inr (inr gt) ↦ rw (ne_eqb q c (λ e. omega arith), le-ltb q c (omega arith), le-ltb q (c + 1) (omega arith)) refl
]

pub run_grows : (s l : Categories) (a c : ℕ) → a ≤ c → ((q : ℕ) → has l q ≡ (has s q || (nat_le a q && nat_lt q c))) → (q : ℕ) → has (with l c) q ≡ (has s q || (nat_le a q && nat_lt q (c + 1)))
run_grows s l a c le h q = rw (has-with, h) (test_more a c q _ le)

lt_is_le : (q b : ℕ) → nat_lt q (b + 1) ≡ nat_le q b
lt_is_le q b = elim (cases_lt b q) [
  | inl past ↦ rw (le-ltb q (b + 1) (omega arith), lt-leb) refl
  | inr here ↦ rw (lt-ltb q (b + 1) (omega arith), le-leb) refl
]

pub run_ends : (s l : Categories) (a b c : ℕ) → a ≤ c → c ≡ b → ((q : ℕ) → has l q ≡ (has s q || (nat_le a q && nat_lt q c))) → (q : ℕ) → has (with l b) q ≡ (has s q || (nat_le a q && nat_le q b))
run_ends s l a b c le e h q =
    let grown = run_grows s l a b (omega arith) (rw e at h) q in
    grown ∙ (λ i. has s q || (nat_le a q && lt_is_le q b i))
