-- What is counted of processes, as they and the tables change.
use Rattle.std.proofs.Common.{◌≡◌, ◌+◌, ◌-◌, ◌*◌, ◌<◌, ◌≤◌, ◌==◌, ℕ, suc, cond, Bool, true, false, true≢false, List, [], ◌∷◌, Option, Some, None, ap, if◌then◌else◌}
use Rattle.std.proofs.Common.{map, sum, set, get_or, take, length, count_by, refl, sym, ◌∙◌, arith, inl, inr, length-set, is_some, option_map, zero-add}
use Rattle.std.{specs.List.{range_with_len, sum_by}, proofs.lemmas.{Bool.{cases_lt, Decides.eqb_tells}, List.{ext_get_or, get_or-set_same, get_or-set_other, get_or_past}}}
use Rattle.std.proofs.lemmas.List.FromFn.{get_or-map-range_with_len, length-map-range_with_len}
use Rattle.std.proofs.lemmas.List.Sums.{sum-map, sum_by-set, sum_by-cons, count_by-le-length, count_by_more_yes, count_by_more_no}
use Rattle.ix_label.specs.Category.{Categories}
use Rattle.ix_model.specs.{world.{World.{Process, Object, at, put, change, living}, Owners.is_at}, rows.OnPaths.is_home}
use Rattle.ix_model.proofs.{tables.{Finds.in_table, Tables.map_changed}, words.Living.{is_living, not_ended}}
use Rattle.ix_tables.specs.Parts.{Parts, named_by, owners_of, homes_of}
use Rattle.ix_fcalls.specs.Counted.{IsCounted}

-- ---- a change that the counts don't see
pub count_changed : (P : Option Process → Bool) (h : Process → Process) → ((x : Process) → P (Some (h x)) ≡ P (Some x)) → (ps : List (Option Process)) (pid : ℕ)
    → count_by P (change ps pid h) ≡ count_by P ps
count_changed P h same ps pid =
    let w : Option Process → ℕ = λ x. cond _ 1 0 in
    sym (sum-map w (change ps pid h)) ∙ ap sum (map_changed w h (λ x. ap (λ b. cond b 1 0) (same x)) ps pid) ∙ sum-map w ps

pub owners_kept_by : (h : Process → Process) → ((e : ℕ) (x : Process) → named_by e (Some (h x)) ≡ named_by e (Some x))
    → (n : ℕ) (ps : List (Option Process)) (pid : ℕ) → owners_of n (change ps pid h) ≡ owners_of n ps
owners_kept_by h named n ps pid i = map (λ e. sum (map_changed (named_by e) h (named e) ps pid i)) (range_with_len 0 n)

module _ (h : Process → Process) (named : (e : ℕ) (x : Process) → named_by e (Some (h x)) ≡ named_by e (Some x)) (home : (o : ℕ) (x : Process) → is_home o (Some (h x)) ≡ is_home o (Some x)) where
  pub homes_kept : (n : ℕ) (ps : List (Option Process)) (pid : ℕ) → homes_of n (change ps pid h) ≡ homes_of n ps
  homes_kept n ps pid i = map (λ o. count_changed (is_home o) h (home o) ps pid i) (range_with_len 0 n)

  pub counted_kept : (t : Parts) (ps : List (Option Process)) (pid : ℕ) → IsCounted t ps → IsCounted t (change ps pid h)
  counted_kept t ps pid c = record { owners = c.owners ∙ sym (owners_kept_by h named _ ps _); homes = c.homes ∙ sym (homes_kept _ ps _) }

-- another label of the caller
pub counted_relabelled : (t : Parts) (ps qs : List (Option Process)) (pid : ℕ) (l : Categories) → qs ≡ change ps pid (λ q. record q { label = l }) → IsCounted t ps → IsCounted t qs
counted_relabelled t ps qs pid l is c = rw is (counted_kept _ (λ e x. refl) (λ o x. refl) t ps pid c)

-- tables of the same lengths, with the same counts
pub counted_same : (t u : Parts) (ps : List (Option Process)) → u.owners ≡ t.owners → u.homes ≡ t.homes → length u.opens ≡ length t.opens
    → length u.objects ≡ length t.objects → IsCounted t ps → IsCounted u ps
counted_same t u ps owners homes opens objects c = record { owners = owners ∙ c.owners ∙ (λ i. owners_of (sym opens i) ps); homes = homes ∙ c.homes ∙ (λ i. homes_of (sym objects i) ps) }

pub counted_changed : (t : Parts) (ps : List (Option Process)) (n : ℕ) (h : Object → Object) → IsCounted t ps → IsCounted (record t { objects = change t.objects n h }) ps
counted_changed t ps n h c = counted_same t _ ps refl refl refl (length-set t.objects n _) c

-- ---- one count of many
abbrev pub one : Bool → ℕ
one b = cond b 1 0

pub itself : (n : ℕ) → (n == n) ≡ true
itself n = elim (eqb_tells n n) [ inl s ↦ s.0 | inr s ↦ absurd (s.1 refl) ]

-- counts that are right at each number
pub counts_are : (xs : List ℕ) (g : ℕ → ℕ) (n : ℕ) → length xs ≡ n → ((e : ℕ) → e < n → get_or xs e 0 ≡ g e) → xs ≡ map g (range_with_len 0 n)
counts_are xs g n long each = ext_get_or 0 xs _ (long ∙ sym (length-map-range_with_len g 0 n)) (λ i within.
    let low : i < n = omega (arith, within, long) in
    each i low ∙ sym (get_or-map-range_with_len g 0 n i i 0 low (zero-add i)))

-- one more at a number, and one fewer
pub one_more : (xs : List ℕ) (n e : ℕ) → n < length xs → get_or (set xs n (get_or xs n 0 + 1)) e 0 ≡ get_or xs e 0 + one (n == e)
one_more xs n e low = elim (eqb_tells n e) [
  | inl s ↦ rw (s.0, ← s.1) (get_or-set_same xs n _ 0 low)
  | inr s ↦ rw s.0 (get_or-set_other xs n e _ 0 (λ h. s.1 (sym h)) ∙ omega arith)
]

pub one_less : (xs : List ℕ) (n e : ℕ) → n < length xs → 0 < get_or xs n 0 → get_or (set xs n (get_or xs n 0 - 1)) e 0 + one (n == e) ≡ get_or xs e 0
one_less xs n e low some = elim (eqb_tells n e) [
  | inl s ↦ rw (s.0, ← s.1) (omega (arith, some, get_or-set_same xs n (get_or xs n 0 - 1) 0 low))
  | inr s ↦ rw s.0 (omega (arith, get_or-set_other xs n e (get_or xs n 0 - 1) 0 (λ h. s.1 (sym h))))
]

module _ (t : Parts) (ps : List (Option Process)) (c : IsCounted t ps) where
  pub owners_long : length t.owners ≡ length t.opens
  owners_long = ap length c.owners ∙ length-map-range_with_len (λ e. sum (map _ ps)) 0 _

  pub owners_at : (e : ℕ) → e < length t.opens → get_or t.owners e 0 ≡ sum (map (named_by e) ps)
  owners_at e low = ap (λ xs. get_or xs e 0) c.owners ∙ get_or-map-range_with_len (λ e. sum (map _ ps)) 0 _ e e 0 low (zero-add e)

  pub homes_long : length t.homes ≡ length t.objects
  homes_long = ap length c.homes ∙ length-map-range_with_len (λ o. count_by _ ps) 0 _

  pub homes_at : (o : ℕ) → o < length t.objects → get_or t.homes o 0 ≡ count_by (is_home o) ps
  homes_at o low = ap (λ xs. get_or xs o 0) c.homes ∙ get_or-map-range_with_len (λ o. count_by _ ps) 0 _ o o 0 low (zero-add o)

-- ---- few are counted
-- a process has at most 32 descriptors on an entry
pub owners_few : (e : ℕ) (ps : List (Option Process)) → ((p : ℕ) (q : Process) → at ps p ≡ Some q → length q.fds ≡ 32) → sum (map (named_by e) ps) ≤ 32 * count_by is_some ps
owners_few e ps long = omega (arith, sum-map (named_by e) ps, go ps long)
  where
    head : (p : Option Process) → ((q : Process) → p ≡ Some q → length q.fds ≡ 32) → named_by e p ≤ 32 * one (is_some p)
    head None long = omega arith
    head (Some q) long = by_end _
      where
        by_end : (b : Bool) → (if b then 0 else count_by (is_at e) q.fds) ≤ 32 * 1
        by_end true = omega arith
        by_end false = omega (arith, count_by-le-length (is_at e) q.fds, long q refl)

    go : (ps : List (Option Process)) → ((p : ℕ) (q : Process) → at ps p ≡ Some q → length q.fds ≡ 32) → sum_by (named_by e) ps ≤ 32 * count_by is_some ps
    go [] long = omega arith
    go (p ∷ ps) long = omega (arith, sum_by-cons (named_by e) p ps, sum_by-cons (λ (x : Option Process). cond {A = ℕ} (is_some x) 1 0) p ps, head p (long 0), go ps (λ n. long (suc n)))

-- a process has one home
pub homes_few : (o : ℕ) (ps : List (Option Process)) → count_by (is_home o) ps ≤ count_by is_some ps
homes_few o [] = omega arith
homes_few o (p ∷ ps) = omega (
  arith,
  sum_by-cons (λ (x : Option Process). cond {A = ℕ} (is_home o x) 1 0) p ps,
  sum_by-cons (λ (x : Option Process). cond {A = ℕ} (is_some x) 1 0) p ps,
  head p,
  homes_few o ps,
)
  where
    head : (p : Option Process) → one (is_home o p) ≤ one (is_some p)
    head None = omega arith
    head (Some q) = by_test _
      where
        by_test : (b : Bool) → one b ≤ 1
        by_test true = omega arith
        by_test false = omega arith

-- ---- a process in the place of one
pub total_put : (f : Option Process → ℕ) (ps : List (Option Process)) (pid : ℕ) (p : Process) (h : Process → Process) → at ps pid ≡ Some p
    → sum (map f (change ps pid h)) + f (Some p) ≡ sum (map f ps) + f (Some (h p))
total_put f ps pid p h is =
    let table = ap (λ o. set ps pid (option_map h o)) is in
    rw table (omega (arith, sum-map f (set ps pid (Some (h p))), sum-map f ps, sum_by-set f ps pid (Some (h p)) None (in_table ps pid p is), ap f is))

-- ---- descriptors
count_put : (e : ℕ) (fds : List (Option ℕ)) (fd : ℕ) (d : Option ℕ) → fd < length fds → count_by (is_at e) (put fds fd d) + one (is_at e (at fds fd)) ≡ count_by (is_at e) fds + one (is_at e d)
count_put e fds fd d low = sum_by-set (λ x. cond _ 1 0) fds fd d None low

-- a descriptor of a living process is another
module _ (ps : List (Option Process)) (pid : ℕ) (p : Process) (is : living (at ps pid) ≡ Some p) (fd : ℕ) (d : Option ℕ) (low : fd < length p.fds) where
  pub owners_put : (e : ℕ) → sum (map (named_by e) (change ps pid (λ q. record q { fds = put q.fds fd d }))) + one (is_at e (at p.fds fd)) ≡ sum (map (named_by e) ps) + one (is_at e d)
  owners_put e =
      let lives = not_ended _ p is in
      let whole = total_put (named_by e) ps pid p (λ q. record q { fds = put q.fds fd d }) (is_living (at ps pid) p is) in
      let old : named_by e (Some p) ≡ count_by (is_at e) p.fds = ap (λ b. if b then 0 else count_by (is_at e) p.fds) lives in
      let new : named_by e (Some (record p { fds = put p.fds fd d })) ≡ count_by (is_at e) (put p.fds fd d) = ap (λ b. if b then 0 else count_by (is_at e) (put p.fds fd d)) lives in
      omega (arith, whole, old, new, count_put e p.fds fd d low)

-- where an entry stands there is a number
pub stands_within : {A : Type 0} (t : List (Option A)) (n : ℕ) → is_some (at t n) ≡ true → n < length t
stands_within t n there = elim (cases_lt n _) [ inl low ↦ low | inr past ↦ absurd (true≢false (sym there ∙ ap is_some (get_or_past t n None past))) ]

-- one descriptor more of those that are gone through
pub count_more : (e : ℕ) (fds : List (Option ℕ)) (i : ℕ) → i < length fds → count_by (is_at e) (take (i + 1) fds) ≡ count_by (is_at e) (take i fds) + one (is_at e (at fds i))
count_more e fds i low = go _ refl
  where
    go : (b : Bool) → is_at e (at fds i) ≡ b → count_by (is_at e) (take (i + 1) fds) ≡ count_by (is_at e) (take i fds) + one b
    go true h = count_by_more_yes _ fds i None low h
    go false h = omega (arith, count_by_more_no (is_at e) fds i None low h)

pub ruleset counting = (counted_relabelled, counted_changed)
