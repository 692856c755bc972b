-- The last run that begins at or before a number, in runs that ascend: what a run more and one fewer make of it.
use Rattle.std.proofs.Common.{◌≡◌, ◌≤◌, ◌<◌, ◌==◌, nat_le, nat_lt, ℕ, suc, Bool, true, false, not, ◌&&◌, cond, List, [], ◌∷◌, ◌++◌, if◌then◌else◌, refl, sym, ap, ◌∙◌, subst, arith}
use Rattle.std.proofs.{Common.{true≢false, ◌⊎◌, inl, inr}, lemmas.Bool.{eq-eqb, eqb-true, le-leb, leb-false, leb-true, lt-leb, ltb-false, ltb-true, Decides.eqb_tells}}
use Rattle.std.specs.{BTreeMap.insert_entry, List.{filter, AllByRecursion, Sorted.IsStrictlySortedBy}, Map.{keys_of, remove_entry}, Ordering.{match_ordering, nat_cmp, is_eq, is_le, is_lt}}
use Rattle.std.specs.declared.cmp.Ordering.TheVariants.{Less, Equal, Greater}
use Rattle.ix_flow.specs.{Sides.{Begins, NoneBegins, last_source, source_in}, declared.source.Source.Source}

-- ---- three ways
data Ways (a b : ℕ) : Type 0 where
  Below : nat_cmp a b ≡ Less → a < b → Ways a b
  Same : nat_cmp a b ≡ Equal → a ≡ b → Ways a b
  Above : nat_cmp a b ≡ Greater → b < a → Ways a b

apart : (m n : ℕ) → n ≤ m → (m ≡ n → ⊥) → n < m
apart m n least other = omega (arith, least, other)

ways : (a b : ℕ) → Ways a b
ways a b = go _ _ refl refl
  where
    go : (x y : Bool) → nat_lt a b ≡ x → (a == b) ≡ y → Ways a b
    go true y low is = Below (ap (λ t. cond t Less (cond (a == b) Equal Greater)) low) (ltb-true a b low)
    go false true low is = Same (ap (λ t. cond t Less (cond (a == b) Equal Greater)) low ∙ ap (λ t. cond t Equal Greater) is) (eqb-true a b is)
    go false false low is = Above (ap (λ t. cond t Less (cond (a == b) Equal Greater)) low ∙ ap (λ t. cond t Equal Greater) is)
        (let other : a ≡ b → ⊥ = λ h. absurd (true≢false (sym (eq-eqb a b h) ∙ is)) in apart a b (ltb-false a b low) other)

less_equal : Less ≡ Equal → ⊥
less_equal h = true≢false (ap is_lt h)

less_greater : Less ≡ Greater → ⊥
less_greater h = true≢false (ap is_lt h)

-- at or below, or above
side_of : (a b : ℕ) → (a ≤ b) ⊎ (b < a)
side_of a b = go (nat_le a b) refl
  where
    go : (x : Bool) → nat_le a b ≡ x → (a ≤ b) ⊎ (b < a)
    go true is = inl (leb-true a b is)
    go false is = inr (leb-false a b is)

-- ---- runs that ascend from a number on
pub Ascends : ℕ → List (ℕ × Source) → Type 0
Ascends m [] = Unit
Ascends m (e ∷ es) = (m ≤ e.0) × Ascends (suc e.0) es

rest_ascends : (k : ℕ) (es : List (ℕ × Source)) → AllByRecursion (λ q. nat_cmp k q ≡ Less) (keys_of es) → IsStrictlySortedBy nat_cmp (keys_of es) → Ascends (suc k) es
unfolding IsStrictlySortedBy Ascends
rest_ascends k [] above sorted = tt
rest_ascends k (e ∷ es) above sorted = (is_above k _ above.0, rest_ascends _ es sorted.0 sorted.1)
  where
    is_above : (a b : ℕ) → nat_cmp a b ≡ Less → suc a ≤ b
    is_above a b h = elim (ways a b) [
      | Below is low ↦ omega (arith, low)
      | Same is same ↦ absurd (less_equal (sym h ∙ is))
      | Above is high ↦ absurd (less_greater (sym h ∙ is))
    ]

pub ascends : (es : List (ℕ × Source)) → IsStrictlySortedBy nat_cmp (keys_of es) → Ascends 0 es
unfolding IsStrictlySortedBy Ascends
ascends [] sorted = tt
ascends (e ∷ es) sorted = (omega arith, rest_ascends _ es sorted.0 sorted.1)

-- ---- whether a run begins at or before a number
at_or_before : (b : Bool) (x d : Source) → b ≡ true → (if b then x else d) ≡ x
at_or_before true x d h = refl
at_or_before false x d h = absurd (true≢false (sym h))

later : (b : Bool) (x d : Source) → b ≡ false → (if b then x else d) ≡ d
later true x d h = absurd (true≢false h)
later false x d h = refl

begun : (k n : ℕ) (x d : Source) → k ≤ n → (if nat_le k n then x else d) ≡ x
begun k n x d low = at_or_before _ x d (le-leb k n low)

not_begun : (k n : ℕ) (x d : Source) → n < k → (if nat_le k n then x else d) ≡ d
not_begun k n x d high = later _ x d (lt-leb k n high)

-- no run begins at or before a number below the first
none_at : (m n : ℕ) (d : Source) (es : List (ℕ × Source)) → Ascends m es → n < m → last_source d es n ≡ d
unfolding Ascends
none_at m n d [] up low = refl
none_at m n d (e ∷ es) up low = ap (λ x. last_source x es n) (not_begun _ n _ d (omega (arith, low, up.0))) ∙ none_at _ n d es up.1 (omega (arith, low, up.0))

-- ---- the runs behind a number
pub after : ℕ → List (ℕ × Source) → List (ℕ × Source)
after k [] = []
after k (e ∷ es) = if nat_le e.0 k then after k es else e ∷ es

after_nil : (k : ℕ) → after k [] ≡ []
unfolding after
after_nil k = refl

after_begun : (k : ℕ) (e : ℕ × Source) (es : List (ℕ × Source)) → e.0 ≤ k → after k (e ∷ es) ≡ after k es
unfolding after
after_begun k e es low = go _ (le-leb e.0 k low)
  where
    go : (b : Bool) → b ≡ true → (if b then after k es else e ∷ es) ≡ after k es
    go true h = refl
    go false h = absurd (true≢false (sym h))

after_not_begun : (k : ℕ) (e : ℕ × Source) (es : List (ℕ × Source)) → k < e.0 → after k (e ∷ es) ≡ e ∷ es
unfolding after
after_not_begun k e es high = go _ (lt-leb e.0 k high)
  where
    go : (b : Bool) → b ≡ false → (if b then after k es else e ∷ es) ≡ e ∷ es
    go true h = absurd (true≢false h)
    go false h = refl

after_all : (k : ℕ) (es : List (ℕ × Source)) → Ascends (suc k) es → after k es ≡ es
unfolding Ascends
after_all k [] up = after_nil k
after_all k (e ∷ es) up = after_not_begun k e es (omega (arith, up.0))

-- from a number on, it goes on from the source there
pub goes_on : (m k n : ℕ) (d : Source) (es : List (ℕ × Source)) → Ascends m es → k ≤ n → last_source d es n ≡ last_source (last_source d es k) (after k es) n
unfolding Ascends
goes_on m k n d [] up low = sym (ap (λ xs. last_source d xs n) (after_nil k))
goes_on m k n d (e ∷ es) up low = elim (side_of _ k) [
  | inl begins ↦
      ap (λ x. last_source x es n) (begun _ n _ d (omega (arith, begins, low)))
      ∙ goes_on _ k n _ es up.1 low
      ∙ sym (ap (λ x. last_source (last_source x es k) (after k (e ∷ es)) n) (begun _ k _ d begins) ∙ ap (λ xs. last_source (last_source e.1 es k) xs n) (after_begun k e es begins))
  | inr waits ↦
      sym (ap (λ x. last_source x (after k (e ∷ es)) n) (ap (λ x. last_source x es k) (not_begun _ k _ d waits) ∙ none_at _ k d es up.1 (omega (arith, waits)))
      ∙ ap (λ xs. last_source d xs n) (after_not_begun k e es waits))
]

-- ---- a run more
insert_below : (e : ℕ × Source) (es : List (ℕ × Source)) (k : ℕ) (v : Source) → nat_cmp k e.0 ≡ Less → insert_entry nat_cmp (e ∷ es) k v ≡ (k, v) ∷ e ∷ es
insert_below e es k v is = ap (λ c. match_ordering c ((k, v) ∷ e ∷ es) ((e.0, v) ∷ es) (e ∷ insert_entry nat_cmp es k v)) is

insert_same : (e : ℕ × Source) (es : List (ℕ × Source)) (k : ℕ) (v : Source) → nat_cmp k e.0 ≡ Equal → insert_entry nat_cmp (e ∷ es) k v ≡ (e.0, v) ∷ es
insert_same e es k v is = ap (λ c. match_ordering c ((k, v) ∷ e ∷ es) ((e.0, v) ∷ es) (e ∷ insert_entry nat_cmp es k v)) is

insert_above : (e : ℕ × Source) (es : List (ℕ × Source)) (k : ℕ) (v : Source) → nat_cmp k e.0 ≡ Greater → insert_entry nat_cmp (e ∷ es) k v ≡ e ∷ insert_entry nat_cmp es k v
insert_above e es k v is = ap (λ c. match_ordering c ((k, v) ∷ e ∷ es) ((e.0, v) ∷ es) (e ∷ insert_entry nat_cmp es k v)) is

pub insert_from : (m k n : ℕ) (v d : Source) (es : List (ℕ × Source)) → Ascends m es → k ≤ n → last_source d (insert_entry nat_cmp es k v) n ≡ last_source v (after k es) n
unfolding Ascends
insert_from m k n v d [] up low = begun k n v d low ∙ sym (ap (λ xs. last_source v xs n) (after_nil k))
insert_from m k n v d (e ∷ es) up low = elim (ways k _) [
  | Below is below ↦
      ap (λ xs. last_source d xs n) (insert_below e es k v is)
      ∙ ap (λ x. last_source x (e ∷ es) n) (begun k n v d low)
      ∙ sym (ap (λ xs. last_source v xs n) (after_not_begun k e es below))
  | Same is same ↦
      ap (λ xs. last_source d xs n) (insert_same e es k v is)
      ∙ ap (λ x. last_source x es n) (begun _ n v d (omega (arith, low, same)))
      ∙ sym (ap (λ xs. last_source v xs n) (after_begun k e es (omega (arith, same)) ∙ after_all k es (subst (λ j. Ascends (suc j) es) (sym same) up.1)))
  | Above is above ↦
      ap (λ xs. last_source d xs n) (insert_above e es k v is)
      ∙ insert_from (suc e.0) k n v _ es up.1 low
      ∙ sym (ap (λ xs. last_source v xs n) (after_begun k e es (omega (arith, above))))
]

pub insert_before : (k n : ℕ) (v d : Source) (es : List (ℕ × Source)) → n < k → last_source d (insert_entry nat_cmp es k v) n ≡ last_source d es n
insert_before k n v d [] high = not_begun k n v d high
insert_before k n v d (e ∷ es) high = elim (ways k _) [
  | Below is below ↦ ap (λ xs. last_source d xs n) (insert_below e es k v is) ∙ ap (λ x. last_source x (e ∷ es) n) (not_begun k n v d high)
  | Same is same ↦ ap (λ xs. last_source d xs n) (insert_same e es k v is) ∙ ap (λ x. last_source x es n)
      (not_begun _ n v d (omega (arith, high, same)) ∙ sym (not_begun _ n _ d (omega (arith, high, same))))
  | Above is above ↦ ap (λ xs. last_source d xs n) (insert_above e es k v is) ∙ insert_before k n v (if nat_le e.0 n then e.1 else d) es high
]

-- a run that begins where its source was already changes nothing
pub split_same : (k : ℕ) (v : Source) (es : List (ℕ × Source)) → Ascends 0 es → v ≡ source_in es k → (n : ℕ) → source_in (insert_entry nat_cmp es k v) n ≡ source_in es n
split_same k v es up is n = elim (side_of k n) [
  | inl low ↦ insert_from 0 k n v _ es up low ∙ ap (λ x. last_source x (after k es) n) is ∙ sym (goes_on 0 k n _ es up low)
  | inr high ↦ insert_before k n v _ es high
]

-- ---- what a look along the runs finds
-- the source of the last of some runs
unfoldable pub last_or : Source → List (ℕ × Source) → Source
last_or d [] = d
last_or d (e ∷ es) = last_or e.1 es

pub last_behind : (d : Source) (es : List (ℕ × Source)) (e : ℕ × Source) → last_or d (es ++ e ∷ []) ≡ e.1
unfolding last_or
last_behind d [] e = refl
last_behind d (x ∷ es) e = last_behind _ es e

-- whether a map's look from one number to another takes a run
abbrev pub looked : ℕ → ℕ → ℕ × Source → Bool
looked low high e = is_le (nat_cmp low e.0) && not (is_lt (nat_cmp high e.0))

no_lower : (a b : ℕ) → b < a → a ≡ 0 → ⊥
no_lower a b high is = omega (arith, high, is)

upto : (a b : ℕ) → not (is_lt (nat_cmp a b)) ≡ nat_le b a
upto a b = elim (ways a b) [
  | Below less below ↦ ap (λ o. not (is_lt o)) less ∙ sym (lt-leb b a below)
  | Same same here ↦ ap (λ o. not (is_lt o)) same ∙ sym (le-leb b a (omega (arith, here)))
  | Above more above ↦ ap (λ o. not (is_lt o)) more ∙ sym (le-leb b a (omega (arith, above)))
]

looked_is : (low high : ℕ) (e : ℕ × Source) → low ≡ 0 → looked low high e ≡ nat_le e.0 high
looked_is low high e is = elim (ways _ _) [
  | Below less below ↦ ap (λ o. is_le o && not (is_lt (nat_cmp high e.0))) less ∙ upto _ _
  | Same same here ↦ ap (λ o. is_le o && not (is_lt (nat_cmp high e.0))) same ∙ upto _ _
  | Above more above ↦ absurd (no_lower _ _ above is)
]

taken_or : (d : Source) (e : ℕ × Source) (es : List (ℕ × Source)) (b c : Bool) → c ≡ b → last_or (if b then e.1 else d) es ≡ last_or d (cond c (e ∷ es) es)
unfolding last_or
taken_or d e es true true h = refl
taken_or d e es false false h = refl
taken_or d e es true false h = absurd (true≢false (sym h))
taken_or d e es false true h = absurd (true≢false h)

pub last_looked : (low high n : ℕ) (d : Source) (es : List (ℕ × Source)) → low ≡ 0 → high ≡ n → last_source d es n ≡ last_or d (filter (looked low high) es)
unfolding last_or
last_looked low high n d [] zero_is is = refl
last_looked low high n d (e ∷ es) zero_is is = last_looked _ _ n (if nat_le e.0 n then e.1 else d) es zero_is is
    ∙ taken_or d e _ _ _ (looked_is _ _ e zero_is ∙ ap (nat_le e.0) is)

-- ---- where a run begins
between_none : (a k t : ℕ) → a ≤ k → k < t → a ≡ t → ⊥
between_none a k t early low here = omega (arith, early, low, here)

past : (a from next to : ℕ) → next ≤ suc from → from < a → (next ≤ a → a < to → ⊥) → to ≤ a
past a from next to begun late none = elim (side_of to a) [
  | inl far ↦ far
  | inr near ↦ absurd (none (omega (arith, begun, late)) near)
]

pub begins_same : (t n : ℕ) (es : List (ℕ × Source)) (d x : Source) → Begins t es → t ≤ n → last_source d es n ≡ last_source x es n
begins_same t n [] d x none low = absurd none
begins_same t n (e ∷ es) d x (inl here) low = ap (λ y. last_source y es n) (begun _ n _ d (omega (arith, here, low)) ∙ sym (begun _ n _ x (omega (arith, here, low))))
begins_same t n (e ∷ es) d x (inr there) low = begins_same t n es _ _ there low

later_begins : (t k : ℕ) (e : ℕ × Source) (es : List (ℕ × Source)) → Begins t (e ∷ es) → e.0 ≤ k → k < t → Begins t es
later_begins t k e es (inl here) early low = absurd (between_none _ k t early low here)
later_begins t k e es (inr there) early low = there

begins_after : (t k : ℕ) (es : List (ℕ × Source)) → Begins t es → k < t → Begins t (after k es)
begins_after t k [] none low = absurd none
begins_after t k (e ∷ es) begins low = elim (side_of _ k) [
  | inl early ↦ subst (Begins t) (sym (after_begun k e es early)) (begins_after t k es (later_begins t k e es begins early low) low)
  | inr late ↦ subst (Begins t) (sym (after_not_begun k e es late)) begins
]

-- a run that begins further on leaves all from there on as it was
pub insert_behind : (k t n : ℕ) (v : Source) (es : List (ℕ × Source)) → Ascends 0 es → Begins t es → k < t → t ≤ n → source_in (insert_entry nat_cmp es k v) n ≡ source_in es n
insert_behind k t n v es up begins low high =
    insert_from 0 k n v _ es up (omega (arith, low, high))
    ∙ begins_same t n _ v _ (begins_after t k es begins low) high
    ∙ sym (goes_on 0 k n _ es up (omega (arith, low, high)))

-- where none begins behind a number and before another, the source stays
pub none_same : (from next to n : ℕ) (d : Source) (es : List (ℕ × Source)) → next ≤ suc from → NoneBegins next to es → from ≤ n → n < to → last_source d es n ≡ last_source d es from
none_same from next to n d [] near none low high = refl
none_same from next to n d (e ∷ es) near none low high = elim (side_of _ _) [
  | inl early ↦
      ap (λ x. last_source x es n) (begun _ n _ d (omega (arith, early, low))) ∙ none_same _ _ to n e.1 es near none.1 low high
      ∙ sym (ap (λ x. last_source x es from) (begun _ _ _ d early))
  | inr late ↦
      ap (λ x. last_source x es n) (not_begun _ n _ d (omega (arith, past _ _ _ to near late none.0, high))) ∙ none_same _ _ to n d es near none.1 low high
      ∙ sym (ap (λ x. last_source x es from) (not_begun _ _ _ d late))
]

none_after : (m from to n : ℕ) (v : Source) (es : List (ℕ × Source)) → Ascends m es → NoneBegins from to es → from ≤ n → n < to → last_source v (after from es) n ≡ v
unfolding Ascends
none_after m from to n v [] up none low high = ap (λ xs. last_source v xs n) (after_nil _)
none_after m from to n v (e ∷ es) up none low high = elim (side_of _ _) [
  | inl early ↦ ap (λ xs. last_source v xs n) (after_begun _ e es early) ∙ none_after _ _ to n v es up.1 none.1 low high
  | inr late ↦
      let far = past _ _ _ to (omega arith) late none.0 in
      ap (λ xs. last_source v xs n) (after_not_begun _ e es late) ∙ ap (λ x. last_source x es n) (not_begun _ n _ v (omega (arith, far, high)))
      ∙ none_at _ n v es up.1 (omega (arith, far, high))
]

-- and what begins at it goes as far
pub insert_there : (from to n : ℕ) (v : Source) (es : List (ℕ × Source)) → Ascends 0 es → NoneBegins from to es → from ≤ n → n < to → source_in (insert_entry nat_cmp es from v) n ≡ v
insert_there from to n v es up none low high = insert_from 0 _ n v _ es up low ∙ none_after 0 _ to n v es up none low high

-- ---- a run fewer
-- the map's test for a key
abbrev pub is_key : ℕ → ℕ → Bool
is_key q k = is_eq (nat_cmp q k)

not_same : (a b : ℕ) → a < b → a ≡ b → ⊥
not_same a b low is = omega (arith, low, is)

remove_hit : (q : ℕ) (e : ℕ × Source) (es : List (ℕ × Source)) → q ≡ e.0 → remove_entry (is_key q) (e ∷ es) ≡ es
remove_hit q e es is = elim (ways q _) [
  | Below less below ↦ absurd (not_same q _ below is)
  | Same same here ↦ ap (λ o. cond (is_eq o) es (e ∷ remove_entry (is_key q) es)) same
  | Above more above ↦ absurd (not_same _ q above (sym is))
]

remove_miss : (q : ℕ) (e : ℕ × Source) (es : List (ℕ × Source)) → (q ≡ e.0 → ⊥) → remove_entry (is_key q) (e ∷ es) ≡ e ∷ remove_entry (is_key q) es
remove_miss q e es other = elim (ways q e.0) [
  | Below less below ↦ ap (λ o. cond (is_eq o) es (e ∷ remove_entry (is_key q) es)) less
  | Same same here ↦ absurd (other here)
  | Above more above ↦ ap (λ o. cond (is_eq o) es (e ∷ remove_entry (is_key q) es)) more
]

remove_none : (m q : ℕ) (es : List (ℕ × Source)) → Ascends m es → q < m → remove_entry (is_key q) es ≡ es
unfolding Ascends
remove_none m q [] up low = refl
remove_none m q (e ∷ es) up low = remove_miss q e es (λ is. omega (arith, is, low, up.0)) ∙ ap (λ xs. e ∷ xs) (remove_none _ q es up.1 (omega (arith, low, up.0)))

pub remove_before : (q n : ℕ) (d : Source) (es : List (ℕ × Source)) → n < q → last_source d (remove_entry (is_key q) es) n ≡ last_source d es n
remove_before q n d [] low = refl
remove_before q n d (e ∷ es) low = elim (eqb_tells q e.0) [
  | inl here ↦ ap (λ xs. last_source d xs n) (remove_hit q e es here.1) ∙ sym (ap (λ x. last_source x es n) (not_begun _ n _ d (omega (arith, low, here.1))))
  | inr other ↦ ap (λ xs. last_source d xs n) (remove_miss q e es other.1) ∙ remove_before q n (if nat_le e.0 n then e.1 else d) es low
]

kept_begins : (q t : ℕ) (e : ℕ × Source) (es : List (ℕ × Source)) → Begins t (e ∷ es) → (Begins t es → Begins t (remove_entry (is_key q) es)) → Begins t (e ∷ remove_entry (is_key q) es)
kept_begins q t e es (inl here) keeps = inl here
kept_begins q t e es (inr there) keeps = inr (keeps there)

-- those that begin further on begin still
pub remove_begins : (q t : ℕ) (es : List (ℕ × Source)) → q < t → Begins t es → Begins t (remove_entry (is_key q) es)
remove_begins q t [] low none = absurd none
remove_begins q t (e ∷ es) low begins = elim (eqb_tells q e.0) [
  | inl here ↦ subst (Begins t) (sym (remove_hit q e es here.1)) (later_begins t q e es begins (omega (arith, here.1)) low)
  | inr other ↦ subst (Begins t) (sym (remove_miss q e es other.1)) (kept_begins q t e es begins (remove_begins q t es low))
]

-- and from there on all is as it was
pub remove_behind : (m q t n : ℕ) (d : Source) (es : List (ℕ × Source)) → Ascends m es → Begins t es → q < t → t ≤ n → last_source d (remove_entry (is_key q) es) n ≡ last_source d es n
unfolding Ascends
remove_behind m q t n d [] up none low high = absurd none
remove_behind m q t n d (e ∷ es) up begins low high = elim (eqb_tells q e.0) [
  | inl here ↦ ap (λ xs. last_source d xs n) (remove_hit q e es here.1) ∙ begins_same t n es d _ (later_begins t q e es begins (omega (arith, here.1)) low) high
  | inr other ↦ ap (λ xs. last_source d xs n) (remove_miss q e es other.1) ∙ elim begins [
    | inl first ↦ ap (λ xs. last_source (if nat_le e.0 n then e.1 else d) xs n) (remove_none _ q es up.1 (omega (arith, first, low)))
    | inr there ↦ remove_behind (suc e.0) q t n _ es up.1 there low high
  ]
]

-- ---- looks for runs that begin in between
-- whether a map's look from one number on and before another takes a run
abbrev pub inside : ℕ → ℕ → ℕ × Source → Bool
inside from to e = is_le (nat_cmp from e.0) && not (is_le (nat_cmp to e.0))

is_inside : (from to : ℕ) (e : ℕ × Source) → from ≤ e.0 → e.0 < to → inside from to e ≡ true
is_inside from to e low high = elim (ways to e.0) [
  | Below less below ↦ absurd (omega (arith, high, below))
  | Same same here ↦ absurd (omega (arith, high, here))
  | Above more above ↦ elim (ways _ e.0) [
    | Below less below ↦ (λ i. is_le (less i) && not (is_le (more i)))
    | Same same here ↦ (λ i. is_le (same i) && not (is_le (more i)))
    | Above more2 above2 ↦ absurd (omega (arith, low, above2))
  ]
]

taken_none : (b : Bool) (e : ℕ × Source) (es : List (ℕ × Source)) → cond b (e ∷ es) es ≡ [] → (b ≡ false) × (es ≡ [])
taken_none true e es h = cc
taken_none false e es h = (refl, h)

pub none_begins : (from to : ℕ) (es : List (ℕ × Source)) → filter (inside from to) es ≡ [] → NoneBegins from to es
none_begins from to [] none = tt
none_begins from to (e ∷ es) none =
    let parts = taken_none _ e _ none in
    ((λ low high. true≢false (sym (is_inside _ to e low high) ∙ parts.0)), none_begins _ to es parts.1)

first_taken : (b : Bool) (e x : ℕ × Source) (es rest : List (ℕ × Source)) → cond b (e ∷ es) es ≡ x ∷ rest → ((b ≡ true) × (e ≡ x)) ⊎ ((b ≡ false) × (es ≡ x ∷ rest))
first_taken true e x es rest h = inl (refl, cc)
first_taken false e x es rest h = inr (refl, h)

none_below : (from n m : ℕ) (es : List (ℕ × Source)) → Ascends m es → n ≤ m → NoneBegins from n es
unfolding Ascends
none_below from n m [] up low = tt
none_below from n m (e ∷ es) up low = ((λ begun near. omega (arith, up.0, low, near)), none_below _ n _ es up.1 (omega (arith, up.0, low)))

-- before the first that such a look finds none begins
pub first_begins : (m from to n : ℕ) (v : Source) (es rest : List (ℕ × Source)) → Ascends m es → n < to → filter (inside from to) es ≡ (n, v) ∷ rest → NoneBegins from n es
unfolding Ascends
first_begins m from to n v [] rest up high found = tt
first_begins m from to n v (e ∷ es) rest up high found = elim (first_taken _ e _ (filter (inside from to) es) rest found) [
  | inl here ↦
      let is : e.0 ≡ n = ap (λ (x : ℕ × Source). x.0) here.1 in
      ((λ begun near. omega (arith, is, near)), none_below from n (suc e.0) es up.1 (omega (arith, is)))
  | inr later ↦
      ((λ begun near. true≢false (sym (is_inside from to e begun (omega (arith, near, high))) ∙ later.0)), first_begins (suc e.0) from to n v es rest up.1 high later.1)
]

-- the run that is put in begins where it is put
pub insert_begins : (k : ℕ) (v : Source) (es : List (ℕ × Source)) → Begins k (insert_entry nat_cmp es k v)
insert_begins k v [] = inl refl
insert_begins k v (e ∷ es) = elim (ways k _) [
  | Below is below ↦ subst (Begins k) (sym (insert_below e es k v is)) (inl refl)
  | Same is same ↦ subst (Begins k) (sym (insert_same e es k v is)) (inl (sym same))
  | Above is above ↦ subst (Begins k) (sym (insert_above e es k v is)) (inr (insert_begins k v es))
]

pub early : (n from number : ℕ) → n < from → from ≤ number → n < number
early n from number low high = omega (arith, low, high)

pub not_both : (n to end : ℕ) → n < end → to ≤ n → (to < end → ⊥) → ⊥
not_both n to end low high none = none (omega (arith, low, high))
