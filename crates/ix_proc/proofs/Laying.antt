-- A change of the slots or the records is a change of what is laid out by pid, and that of the tables.
use Rattle.std.{proofs.Common.{◌≡◌, ◌≢◌, ◌<◌, ◌+◌, ◌==◌, ℕ, Bool, true, false, List, [], ◌∷◌, ◌++◌, map, length, length-append, count_by, cond, Option, Some, ap}, specs.List.remove}
use Rattle.std.proofs.Common.{None, is_some, refl, sym, ◌∙◌, subst, arith, inl, inr, get_or, set}
use Rattle.std.proofs.lemmas.{List.{map-set, map-append, length-set, get_or_past, same_lists, get_or-set_same, get_or-set_other}, Bool.cases_lt}
use Rattle.std.proofs.lemmas.{List.{Edits.length-remove, Sums.{sum_by-set, sum_by_push, sum_by-cons}}, Bool.Decides.{eqb_tells, nat_tests}}
use Rattle.std.proofs.{lemmas.List.FromFn.{get_or-map-range_with_len, length-map-range_with_len, map-range_with_len_more}, Math.ListN.get_or-map}
use Rattle.ix_model.specs.world.World.{Process, at}
use Rattle.ix_proc.specs.{Table.{with_process, no_processes}, declared.slot.{Slot.Slot, Record.Record}}
use Rattle.ix_proc.specs.Slots.{pid_in, record_at, process_of, process_in, status_in, table_of, lookup, led, found, laid, Below, AreSlots, Finds}
use Rattle.ix_proc.proofs.Looking.{lookup_below, lookup_at, lookup_remove, lookup_push, rises_remove, below_remove, rises_push, below_push}

-- ---- what is laid out
pub length_laid : (t : List Slot) (rs : List Record) (n : ℕ) → length (laid t rs n) ≡ n
unfolding laid
length_laid t rs n = length-map-range_with_len _ 0 n

pub at_laid : (t : List Slot) (rs : List Record) (n q : ℕ) → Below n t → at (laid t rs n) q ≡ found t rs q
unfolding laid
at_laid t rs n q h = elim (cases_lt q n) [
  | inl low ↦ get_or-map-range_with_len _ 0 n q q None low (omega arith)
  | inr past ↦ get_or_past _ q None (omega (arith, length_laid t rs n)) ∙ sym (ap (led rs) (lookup_below t n q h past))
]

-- one pid more or other
pub laid_put : (new old : List Slot) (ss rs : List Record) (n p : ℕ) (x : Option Record) → p < n → ((q : ℕ) → found new ss q ≡ cond (p == q) x (found old rs q))
    → laid new ss n ≡ set (laid old rs n) p x
unfolding laid
laid_put new old ss rs n p x low seen = same_lists _ _ (length_laid _ ss n ∙ sym (length-set _ p x ∙ length_laid _ rs n)) (λ q d h.
    let inside : q < n = omega (arith, h, length_laid new ss n) in
    get_or-map-range_with_len _ 0 n q q d inside (omega arith) ∙ seen q ∙ elim (eqb_tells p q) [
      | inl e ↦ rw (e.0, ← e.1) (sym (get_or-set_same _ p x d (omega (arith, low, length_laid old rs n))))
      | inr e ↦ rw e.0 (sym (get_or-set_other _ p q x d (λ s. e.1 (sym s)) ∙ get_or-map-range_with_len _ 0 n q q d inside (omega arith)))
    ])

pub laid_push : (t new : List Slot) (rs ss : List Record) (n : ℕ) (x : Record) → found new ss n ≡ Some x → ((q : ℕ) → q < n → found new ss q ≡ found t rs q)
    → laid new ss (n + 1) ≡ laid t rs n ++ Some x ∷ []
unfolding laid
laid_push t new rs ss n x last before =
    let front = same_lists _ _ (length_laid _ ss n ∙ sym (length_laid t rs n)) (λ q d inside.
    let less : q < n = omega (arith, inside, length_laid new ss n) in
    get_or-map-range_with_len _ 0 n q q d less (omega arith) ∙ before q less ∙ sym (get_or-map-range_with_len _ 0 n q q d less (omega arith))) in
    map-range_with_len_more _ 0 n n (omega arith) ∙ rw (last, front) refl

-- ---- the tables
module _ (limit : ℕ) where
  pub at_processes : (rs : List (Option Record)) (q : ℕ) → at (table_of rs limit).processes q ≡ process_in (at rs q)
  at_processes rs q = get_or-map process_in rs q None

  pub at_statuses : (rs : List (Option Record)) (q : ℕ) → get_or (table_of rs limit).statuses q 0 ≡ status_in (at rs q)
  at_statuses rs q = get_or-map status_in rs q None

  pub tables_set : (rs : List (Option Record)) (p : ℕ) (x : Option Record) → table_of (set rs p x) limit ≡ record {
    processes = set (table_of rs limit).processes p (process_in x);
    statuses = set (table_of rs limit).statuses p (status_in x);
    limit = limit;
  }
  tables_set rs p x = rw (map-set, map-set) refl

  pub tables_pushed : (rs : List (Option Record)) (x : Record) → status_in (Some x) ≡ 0 → table_of (rs ++ Some x ∷ []) limit ≡ with_process (process_of x) (table_of rs limit)
  tables_pushed rs x none = rw (map-append, map-append, none) refl

one_record : Option Record → ℕ
one_record s = cond (is_some s) 1 0

one_process : Option Process → ℕ
one_process s = cond (is_some s) 1 0

pub count_processes : (xs : List (Option Record)) → count_by is_some (map process_in xs) ≡ count_by is_some xs
unfolding one_record one_process
count_processes [] = refl
count_processes (None ∷ xs) = sum_by-cons one_process None (map process_in xs) ∙ ap (λ n. 0 + n) (count_processes xs) ∙ sym (sum_by-cons one_record None xs)
count_processes (Some s ∷ xs) = sum_by-cons one_process (Some (process_of s)) (map process_in xs) ∙ ap (λ n. 1 + n) (count_processes xs) ∙ sym (sum_by-cons one_record (Some s) xs)

-- ---- each change
-- a slot after all, and its record
module _ (t : List Slot) (rs : List Record) (n : ℕ) (are : AreSlots t rs n) (x : Slot) (r : Record) (is : pid_in x ≡ n) (low : x.link < length rs)
    (fresh : (p : ℕ) (s : Slot) → lookup t p ≡ Some s → s.link ≢ x.link) (bears : r.who.pid.0 ≡ n) where
  low_pids : Below (pid_in x) t
  low_pids = subst (λ m. Below m t) (sym is) are.below

  after : (q : ℕ) → lookup (t ++ x ∷ []) q ≡ cond (pid_in x == q) (Some x) (lookup t q)
  after q = lookup_push t x low_pids q

  other : (o : Option Slot) → ((s : Slot) → o ≡ Some s → s.link ≢ x.link) → led (set rs x.link r) o ≡ led rs o
  other None h = refl
  other (Some s) h = ap Some (get_or-set_other rs x.link s.link r _ (h s refl))

  last : found (t ++ x ∷ []) (set rs x.link r) n ≡ Some r
  last = let here : lookup (t ++ x ∷ []) n ≡ Some x = grind (arith, nat_tests, after n) in ap (led (set rs x.link r)) here ∙ ap Some (get_or-set_same rs x.link r _ low)

  before : (q : ℕ) → q < n → found (t ++ x ∷ []) (set rs x.link r) q ≡ found t rs q
  before q less = let there : lookup (t ++ x ∷ []) q ≡ lookup t q = grind (arith, nat_tests, after q) in ap (led (set rs x.link r)) there ∙ other _ (λ s e. fresh q s e)

  pub laid_pushed : laid (t ++ x ∷ []) (set rs x.link r) (n + 1) ≡ laid t rs n ++ Some r ∷ []
  laid_pushed = laid_push t _ rs _ n r last before

  -- a slot is the new one or one of the old
  which : (P : ℕ → Slot → Type 0) → P n x → ((p : ℕ) (s : Slot) → lookup t p ≡ Some s → P p s) → (p : ℕ) (s : Slot) → lookup (t ++ x ∷ []) p ≡ Some s → P p s
  which P new old p s e = elim (eqb_tells (pid_in x) p) [
    | inl h ↦ (let first : Some x ≡ Some s = sym (after p ∙ rw h.0 refl) ∙ e in let same : x ≡ s = cc in subst (λ (m : ℕ). P m s) (sym is ∙ h.1) (subst (P n) same new))
    | inr h ↦ old p s (sym (after p ∙ rw h.0 refl) ∙ e)
  ]

  pub are_pushed : AreSlots (t ++ x ∷ []) (set rs x.link r) (n + 1)
  are_pushed = record {
    rises = rises_push t x are.rises low_pids;
    below = below_push t n x are.below (omega (arith, is));
    counted = rw laid_pushed (omega (arith, are.counted, length-append t (x ∷ []), sum_by_push (λ (s : Option Record). cond {A = ℕ} (is_some s) 1 0) (laid t rs n) (Some r)));
    inside = λ p s e. omega (arith, length-set rs x.link r, which (λ p s. s.link < length rs) low are.inside p s e);
    named = which _ (ap (λ y. y.who.pid.0) (get_or-set_same rs x.link r _ low)
        ∙ bears) (λ p s e. ap (λ y. y.who.pid.0) (get_or-set_other rs x.link s.link r _ (fresh p s e)) ∙ are.named p s e);
    differ = λ p q s u e f.
        which _ (which (λ q u. x.link ≡ u.link → n ≡ q) (λ _. refl) (λ q u f same. absurd (fresh q u f (sym same))) q u f)
        (λ p s e. which (λ q u. s.link ≡ u.link → p ≡ q) (λ same. absurd (fresh p s e same)) (λ q u f same. are.differ p q s u e f same) q u f)
        p s e;
  }

-- a record in its place, and a slot that goes
module _ (t : List Slot) (rs : List Record) (n : ℕ) (are : AreSlots t rs n) where
  pub below_next : (p : ℕ) (s : Slot) → lookup t p ≡ Some s → p < n
  below_next p s is = elim (cases_lt p n) [ inl low ↦ low | inr past ↦ absurd (let none = lookup_below t n p are.below past in cc (none, is)) ]

  module _ (p : ℕ) (s : Slot) (is : lookup t p ≡ Some s) where
    pub record_of : at (laid t rs n) p ≡ Some (record_at rs s.link)
    record_of = at_laid t rs n p are.below ∙ ap (led rs) is

    counted_put : (x : Option Record) → count_by is_some (set (laid t rs n) p x) + 1 ≡ count_by is_some (laid t rs n) + cond {A = ℕ} (is_some x) 1 0
    counted_put x =
        let whole = sum_by-set (λ (o : Option Record). cond {A = ℕ} (is_some o) 1 0) (laid t rs n) p x None (omega (arith, below_next p s is, length_laid t rs n)) in
        rw record_of at whole

    pub seen_set : (r : Record) (q : ℕ) → found t (set rs s.link r) q ≡ cond (p == q) (Some r) (found t rs q)
    seen_set r q = elim (eqb_tells p q) [
      | inl e ↦ rw e.0 (ap (led (set rs s.link r)) (ap (lookup t) (sym e.1) ∙ is) ∙ ap Some (get_or-set_same rs s.link r _ (are.inside p s is)))
      | inr e ↦ rw e.0 (other _ (λ u f same. e.1 (sym (are.differ q p u s f is same))))
    ]
      where
        other : (o : Option Slot) → ((u : Slot) → o ≡ Some u → u.link ≢ s.link) → led (set rs s.link r) o ≡ led rs o
        other None h = refl
        other (Some u) h = ap Some (get_or-set_other rs s.link u.link r _ (h u refl))

    pub laid_set : (r : Record) → laid t (set rs s.link r) n ≡ set (laid t rs n) p (Some r)
    laid_set r = laid_put t t _ rs n p _ (below_next p s is) (seen_set r)

    pub are_set : (r : Record) → r.who.pid.0 ≡ p → AreSlots t (set rs s.link r) n
    are_set r bears = record {
      rises = are.rises;
      below = are.below;
      counted = rw (laid_set) (omega (arith, are.counted, counted_put (Some r)));
      inside = λ q u e. omega (arith, length-set rs s.link r, are.inside q u e);
      named = λ q u e. elim (eqb_tells p q) [
        | inl f ↦ (let same = sym e ∙ ap (lookup t) (sym f.1) ∙ is in let equal : u.link ≡ s.link = cc in
            ap (λ l. (record_at (set rs s.link r) l).who.pid.0) equal ∙ ap (λ y. y.who.pid.0) (get_or-set_same rs s.link r _ (are.inside p s is)) ∙ bears ∙ f.1)
        | inr f ↦ ap (λ y. y.who.pid.0) (get_or-set_other rs s.link u.link r _ (λ same. f.1 (sym (are.differ q p u s e is same)))) ∙ are.named q u e
      ];
      differ = are.differ;
    }

  module _ (k p : ℕ) (d : Slot) (there : Finds (Some k) t p) where
    pub found_slot : lookup t p ≡ Some (get_or t k d)
    found_slot = rw (← there.1 d) (lookup_at t k d are.rises there.0)

    pub gone : (q : ℕ) → lookup (remove t k) q ≡ cond (p == q) None (lookup t q)
    gone q = lookup_remove t k p d are.rises there.0 (there.1 d) q

    pub still : (q : ℕ) (s : Slot) → lookup (remove t k) q ≡ Some s → lookup t q ≡ Some s
    still q s e = elim (eqb_tells p q) [
      | inl h ↦ absurd (let none : lookup (remove t k) q ≡ None = gone q ∙ rw h.0 refl in cc (none, e))
      | inr h ↦ sym (gone q ∙ rw h.0 refl) ∙ e
    ]

    pub laid_remove : laid (remove t k) rs n ≡ set (laid t rs n) p None
    laid_remove = laid_put _ t rs rs n p _ (below_next p _ found_slot) (λ q. ap (led rs) (gone q) ∙ go _ _)
      where
        go : (b : Bool) (o : Option Slot) → led rs (cond b None o) ≡ cond b None (led rs o)
        go true o = refl
        go false o = refl

    pub are_removed : AreSlots (remove t k) rs n
    are_removed = record {
      rises = rises_remove t k are.rises;
      below = below_remove t k n are.below;
      counted = rw laid_remove (omega (arith, length-remove t k there.0, are.counted, counted_put p (get_or t k d) found_slot None));
      inside = λ q s e. are.inside q s (still q s e);
      named = λ q s e. are.named q s (still q s e);
      differ = λ a b s u e f. are.differ a b s u (still a s e) (still b u f);
    }

-- before there is any
pub are_none : (t : List Slot) (rs : List Record) → t ≡ [] → AreSlots t rs 1
unfolding laid
are_none t rs empty = rw empty (record { rises = tt; below = tt; counted = refl; inside = λ p s e. absurd (cc e); named = λ p s e. absurd (cc e); differ = λ p q s u e f. absurd (cc e) })

pub no_tables : (t : List Slot) (rs : List Record) (l : ℕ) → t ≡ [] → table_of (laid t rs 1) l ≡ no_processes l
unfolding laid
no_tables t rs l empty = rw empty refl
