-- What each call leaves and answers, over the fields.
use Rattle.std.proofs.Common.{◌≡◌, ℕ, zero, suc, ◌+◌, ◌-◌, ◌<◌, ◌≤◌, ◌^◌, cond, List, [], ◌∷◌, ◌++◌, length, set, get_or, Option, Some, None, refl, sym, ap}
use Rattle.std.{proofs.Common.{◌∙◌, subst, arith, inl, inr, slice_get, append-nil, nat_lt, add-one}, specs.{List.{last_or, Contains}, Vec.{with_items, with_item}}}
use Rattle.std.proofs.lemmas.{Bool.cases_lt, List.{with_items_is, get_or_past}, Option.{same_Some, get_or_from_slice_get}}
use Rattle.ix_links.specs.{declared.{link.{Link.Link, Ends.Ends}, links.Links.TheInside.Inside}, Whole.IsPool, Standing.{head_or, Runs, IsChain, Hold, links_view, IsSound}}
use Rattle.ix_links.specs.Linking.{loose, link_at, Within, unlinked_items, unlinked_ends, inserted_items, inserted_ends}
use Rattle.ix_links.specs.Chains.{Chains, lists, times, total, without, pushed_front, pushed_back, front_moved, back_moved, removed, before}
use Rattle.ix_links.proofs.Running.{Among, times-append, times_skip, link_between, link_in_chain, length-unlinked, length-inserted, head-among, last-among}
use Rattle.ix_links.proofs.Listing.{part-le-total, chain_at, held_within, split, times_contained, shows, sound, some_free, hold_pushed, hold_removed}

pub Within_from : (items : List Link) (o : Option ℕ) → ((j : ℕ) → o ≡ Some j → j < length items) → Within items o
Within_from items None h = tt
Within_from items (Some i) h = h i refl

-- the ends of a list are items
among_within : (s : Inside) (us : List Link) (o : Option ℕ) (xs : List ℕ) → IsSound s → length us ≡ length s.items.items → Among o xs
    → ((j : ℕ) → times j xs ≤ total (times j) (lists (links_view s))) → Within us o
among_within s us o xs h len among part = Within_from us o (λ j e. rw len (held_within _ _ _ j h.hold (omega (arith, among j e, part j))))

part_of_chains : (s : Inside) (k j : ℕ) → k < length (links_view s).chains → times j (get_or (links_view s).chains k []) ≤ total (times j) (lists (links_view s))
part_of_chains s k j l = omega (arith, part-le-total (times j) (links_view s).chains k l)

pub the_chain : (s : Inside) (k : ℕ) (e : Ends) → IsSound s → k < length (links_view s).chains → e ≡ get_or s.chains.items k e → IsChain s.items.items e (get_or (links_view s).chains k [])
the_chain s k e h l is = subst (λ d. IsChain s.items.items d (get_or (links_view s).chains k [])) (sym is) (chain_at _ _ _ k e h.hold.chains.1 l)

pub first_within : (s : Inside) (us : List Link) (k : ℕ) (e : Ends) → IsSound s → length us ≡ length s.items.items → k < length (links_view s).chains
    → e ≡ get_or s.chains.items k e → Within us e.first
first_within s us k e h len l is = rw (the_chain s k e h l is).first (among_within s us _ _ h len (head-among _) (λ j. part_of_chains s k j l))

pub last_within : (s : Inside) (us : List Link) (k : ℕ) (e : Ends) → IsSound s → length us ≡ length s.items.items → k < length (links_view s).chains → e ≡ get_or s.chains.items k e → Within us e.last
last_within s us k e h len l is = rw (the_chain s k e h l is).last (among_within s us _ _ h len (last-among _) (λ j. part_of_chains s k j l))

pub unused_within : (s : Inside) (us : List Link) → IsSound s → length us ≡ length s.items.items → Within us s.unused.first
unused_within s us h len = rw h.hold.chains.0.first (among_within s us _ _ h len (head-among _) (λ j. omega arith))

-- the fields after a change of one chain and the free list
abbrev pub changed : Inside → List Link → ℕ → Ends → Ends → ℕ → Inside
changed s ws k e u n = record { items = with_items s.items ws; chains = with_item s.chains k e; unused = u; free = n }

pub record Leaves (s : Inside) (v : Chains) : Type 0 where
  pub shown : links_view s ≡ v
  pub whole : IsSound s

closes : (s : Inside) (ws : List Link) (k : ℕ) (e u : Ends) (n : ℕ) (v : Chains) → IsSound s → length ws ≡ length s.items.items
    → Hold ws (u ∷ set s.chains.items k e) (lists v) → n ≡ length v.free → Leaves (changed s ws k e u n) v
closes s ws k e u n v h len hold counted =
    let is : (with_items s.items ws).items ≡ ws = with_items_is s.items ws (len ∙ sym s.items.ok.0) in
    let held : Hold (with_items s.items ws).items (u ∷ set s.chains.items k e) (lists v) = subst (λ zs. Hold zs (u ∷ set s.chains.items k e) (lists v)) (sym is) hold in
    record {
      shown = shows (changed s ws k e u n) v held;
      whole = sound (changed s ws k e u n) v held counted (omega (arith, ap length is, h.few));
    }

-- what stands in the lists after a push
abbrev pub put_in : ℕ → List ℕ → List ℕ → Chains → Chains
put_in k zs rest v = record { chains = set v.chains k zs; free = rest }

abbrev pub linked : Option ℕ → Option ℕ → Link
linked p q = record { previous = p; next = q }

pub closes_pushed : (s : Inside) (k i : ℕ) (e e' u : Ends) (os us ws : List Link) (l : Link) (rest xs ys : List ℕ) → IsSound s → (links_view s).free ≡ i ∷ rest
    → k < length (links_view s).chains → get_or (links_view s).chains k [] ≡ xs ++ ys
    → e ≡ get_or s.chains.items k e → l ≡ link_between xs ys → os ≡ s.items.items → us ≡ unlinked_items os (link_at os i)
    → u ≡ unlinked_ends s.unused (link_at os i) → ws ≡ inserted_items us i l → e' ≡ inserted_ends e i l
    → Leaves (changed s ws k e' u (s.free - 1)) (put_in k (xs ++ i ∷ ys) rest (links_view s))
closes_pushed s k i e e' u os us ws l rest xs ys h free within is slot link old unlinked ends inserted ends' =
    let items =
    inserted ∙ ap (λ n. inserted_items us i n) link ∙ ap (λ zs. inserted_items zs i (link_between xs ys)) (unlinked
    ∙ ap (λ zs. unlinked_items zs (link_at zs i)) old) in
    let left = ends ∙ ap (λ zs. unlinked_ends s.unused (link_at zs i)) old in
    let right = ends' ∙ ap (λ n. inserted_ends e i n) link ∙ ap (λ d. inserted_ends d i (link_between xs ys)) slot in
    let held = hold_pushed s k i e _ xs ys h free within is in
    let one = subst (λ zs. Hold zs (unlinked_ends s.unused (link_at s.items.items i)
    ∷ set s.chains.items k (inserted_ends (get_or s.chains.items k e) i (link_between xs ys))) (rest ∷ set (links_view s).chains k (xs ++ i ∷ ys)))
    (sym items) held in
    let two = subst (λ d. Hold ws (d ∷ set s.chains.items k (inserted_ends (get_or s.chains.items k e) i (link_between xs ys))) (rest ∷ set (links_view s).chains k (xs ++ i ∷ ys))) (sym left) one in
    let three = subst (λ d. Hold ws (u ∷ set s.chains.items k d) (rest ∷ set (links_view s).chains k (xs ++ i ∷ ys))) (sym right) two in
    closes s ws k e' u _ _ h
    (ap length items ∙ length-inserted (unlinked_items s.items.items (link_at s.items.items i)) i (link_between xs ys) ∙ length-unlinked _ (link_at s.items.items i))
    three (omega (arith, h.counted, ap length free))

pub closes_front : (s : Inside) (k i : ℕ) (e e' u : Ends) (os us ws : List Link) → IsSound s → s.unused.first ≡ Some i → k < length (links_view s).chains
    → e ≡ get_or s.chains.items k e → os ≡ s.items.items → us ≡ unlinked_items os (link_at os i) → u ≡ unlinked_ends s.unused (link_at os i)
    → ws ≡ inserted_items us i (linked None e.first) → e' ≡ inserted_ends e i (linked None e.first)
    → Leaves (changed s ws k e' u (s.free - 1)) (pushed_front k (links_view s))
closes_front s k i e e' u os us ws h some within slot old unlinked ends inserted ends' =
    let rest = some_free s i h some in
    let chain = get_or (links_view s).chains k [] in
    let link : linked None e.first ≡ link_between [] chain = ap (λ q. linked None q) (the_chain s k e h within slot).first in
    let done = closes_pushed s k i e e' u os us ws (linked None e.first) rest.0 [] chain h rest.1 within refl slot link old unlinked ends inserted ends' in
    let shown : pushed_front k (links_view s) ≡ put_in k (i ∷ chain) rest.0 (links_view s) = ap (λ zs. front_moved k zs (links_view s).chains) rest.1 in
    subst (λ v. Leaves (changed s ws k e' u (s.free - 1)) v) (sym shown) done

pub closes_back : (s : Inside) (k i : ℕ) (e e' u : Ends) (os us ws : List Link) → IsSound s → s.unused.first ≡ Some i → k < length (links_view s).chains
    → e ≡ get_or s.chains.items k e → os ≡ s.items.items → us ≡ unlinked_items os (link_at os i) → u ≡ unlinked_ends s.unused (link_at os i)
    → ws ≡ inserted_items us i (linked e.last None) → e' ≡ inserted_ends e i (linked e.last None)
    → Leaves (changed s ws k e' u (s.free - 1)) (pushed_back k (links_view s))
closes_back s k i e e' u os us ws h some within slot old unlinked ends inserted ends' =
    let rest = some_free s i h some in
    let chain = get_or (links_view s).chains k [] in
    let link : linked e.last None ≡ link_between chain [] = ap (λ q. linked q None) (the_chain s k e h within slot).last in
    let done = closes_pushed s k i e e' u os us ws (linked e.last None) rest.0 chain [] h rest.1 within (sym (append-nil chain)) slot link old unlinked ends inserted ends' in
    let shown : pushed_back k (links_view s) ≡ put_in k (chain ++ i ∷ []) rest.0 (links_view s) = ap (λ zs. back_moved k zs (links_view s).chains) rest.1 in
    subst (λ v. Leaves (changed s ws k e' u (s.free - 1)) v) (sym shown) done

-- an index in a chain
pub held_at : (s : Inside) (k i : ℕ) → Contains (get_or (links_view s).chains k []) i → 0 < times i (get_or (links_view s).chains k [])
held_at s k i h = times_contained i _ _ i h.1 h.2

abbrev pub Parts : Inside → ℕ → ℕ → Type 0
Parts s k i = (xs : List ℕ) × (ys : List ℕ) × (get_or (links_view s).chains k [] ≡ xs ++ i ∷ ys) × (without i (get_or (links_view s).chains k []) ≡ xs ++ ys)

pub parts : (s : Inside) (k i : ℕ) → Contains (get_or (links_view s).chains k []) i → Parts s k i
parts s k i h = split i _ (held_at s k i h)

pub item_within : (s : Inside) (k i : ℕ) → IsSound s → k < length (links_view s).chains → Contains (get_or (links_view s).chains k []) i → i < length s.items.items
item_within s k i h l held = held_within _ _ _ i h.hold (omega (arith, held_at s k i held, part_of_chains s k i l))

no_ends : Ends
no_ends = record { first = None; last = None }

pub link_of_item : (s : Inside) (k i : ℕ) (p : Parts s k i) → IsSound s → k < length (links_view s).chains → link_at s.items.items i ≡ link_between p.0 p.1
link_of_item s k i p h l =
    let chain = chain_at _ _ _ k no_ends h.hold.chains.1 l in
    get_or_from_slice_get _ i _ loose (link_in_chain _ _ i _ _ (subst (λ zs. IsChain s.items.items (get_or s.chains.items k no_ends) zs) p.2 chain))

pub previous_within : (s : Inside) (k i : ℕ) → IsSound s → k < length (links_view s).chains → Contains (get_or (links_view s).chains k []) i → Within s.items.items (link_at s.items.items i).previous
previous_within s k i h l held =
    let p = parts s k i held in
    rw (link_of_item s k i p h l) (among_within s s.items.items _ p.0 h refl (last-among p.0) (λ j. omega (arith, part_of_chains s k j l, ap (times j) p.2, times-append j p.0 (i ∷ p.1))))

pub next_within : (s : Inside) (k i : ℕ) → IsSound s → k < length (links_view s).chains → Contains (get_or (links_view s).chains k []) i → Within s.items.items (link_at s.items.items i).next
next_within s k i h l held =
    let p = parts s k i held in
    rw (link_of_item s k i p h l) (among_within s _ _ _ h refl (head-among _) (λ j. omega (
      arith,
      part_of_chains s k j l,
      ap (times j) p.2,
      times-append j p.0 (i ∷ p.1),
      times_skip j i p.1,
    )))

pub room_for_one : (s : Inside) (k i : ℕ) → IsSound s → k < length (links_view s).chains → Contains (get_or (links_view s).chains k []) i → s.free + 1 < 2 ^ 32
room_for_one s k i h l held = omega (arith, h.counted, h.few, h.hold.all, held.1, part-le-total length (links_view s).chains k l)

pub closes_removed : (s : Inside) (k i : ℕ) (e e' u : Ends) (os us ws : List Link) → IsSound s → k < length (links_view s).chains → Contains (get_or (links_view s).chains k []) i
    → e ≡ get_or s.chains.items k e → os ≡ s.items.items → us ≡ unlinked_items os (link_at os i) → e' ≡ unlinked_ends e (link_at os i)
    → ws ≡ inserted_items us i (linked None s.unused.first) → u ≡ inserted_ends s.unused i (linked None s.unused.first)
    → Leaves (changed s ws k e' u (s.free + 1)) (removed k i (links_view s))
closes_removed s k i e e' u os us ws h within held slot old unlinked ends' inserted ends =
    let p = parts s k i held in
    let free = (links_view s).free in
    let here = ap (λ zs. link_at zs i) old ∙ link_of_item s k i p h within in
    let link = ap (λ q. linked None q) h.hold.chains.0.first in
    let items =
    inserted ∙ ap (λ n. inserted_items us i n) link ∙ ap (λ zs. inserted_items zs i (link_between [] free)) (unlinked ∙ ap (λ n. unlinked_items os n) here
    ∙ ap (λ zs. unlinked_items zs (link_between p.0 p.1)) old) in
    let left = ends ∙ ap (λ n. inserted_ends s.unused i n) link in
    let right = ends' ∙ ap (λ n. unlinked_ends e n) here ∙ ap (λ d. unlinked_ends d (link_between p.0 p.1)) slot in
    let hold = hold_removed s k i e _ _ h within p.2 in
    let one = subst (λ zs. Hold zs (inserted_ends s.unused i (link_between [] free)
    ∷ set s.chains.items k (unlinked_ends (get_or s.chains.items k e) (link_between p.0 p.1))) ((i ∷ free) ∷ set (links_view s).chains k (p.0 ++ p.1)))
    (sym items) hold in
    let two = subst (λ d. Hold ws (d ∷ set s.chains.items k (unlinked_ends (get_or s.chains.items k e) (link_between p.0 p.1))) ((i ∷ free)
    ∷ set (links_view s).chains k (p.0 ++ p.1))) (sym left) one in
    let three = subst (λ d. Hold ws (u ∷ set s.chains.items k d) ((i ∷ free) ∷ set (links_view s).chains k (p.0 ++ p.1))) (sym right) two in
    let four = subst (λ zs. Hold ws (u ∷ set s.chains.items k e') ((i ∷ free) ∷ set (links_view s).chains k zs)) (sym p.3) three in
    closes s ws k e' u _ _ h
    (ap length items ∙ length-inserted (unlinked_items s.items.items (link_between p.0 p.1)) i (link_between [] free) ∙ length-unlinked _ (link_between p.0 p.1))
    four (omega (arith, h.counted))

-- what stands at an item
head-is : (xs : List ℕ) → head_or xs None ≡ slice_get xs 0
head-is [] = refl
head-is (x ∷ xs) = refl

pub first_is : (s : Inside) (k : ℕ) (e : Ends) → IsSound s → k < length (links_view s).chains → e ≡ get_or s.chains.items k e → e.first ≡ slice_get (get_or (links_view s).chains k []) 0
first_is s k e h l is = (the_chain s k e h l is).first ∙ head-is _

pub last_is : (s : Inside) (k : ℕ) (e : Ends) → IsSound s → k < length (links_view s).chains → e ≡ get_or s.chains.items k e → e.last ≡ last_or None (get_or (links_view s).chains k [])
last_is s k e h l is = (the_chain s k e h l is).last

abbrev before_or : Option ℕ → List ℕ → ℕ → Option ℕ
before_or p xs zero = p
before_or p xs (suc n) = slice_get xs n

before_or-cons : (p : Option ℕ) (x : ℕ) (xs : List ℕ) (n : ℕ) → before_or (Some x) xs n ≡ before_or p (x ∷ xs) (suc n)
before_or-cons p x xs zero = refl
before_or-cons p x xs (suc n) = refl

before_or-none : (xs : List ℕ) (n : ℕ) → before_or None xs n ≡ before xs n
before_or-none xs zero = refl
before_or-none xs (suc n) = refl

runs_at : (items : List Link) (p : Option ℕ) (xs : List ℕ) (n i : ℕ) → Runs items p xs None → slice_get xs n ≡ Some i → slice_get items i ≡ Some (linked (before_or p xs n) (slice_get xs (suc n)))
runs_at items p [] n i r e = cc
runs_at items p (x ∷ xs) zero i r e =
    let same = same_Some x i e in
    ap (slice_get items) (sym same) ∙ r.0 ∙ ap (λ q. Some (linked p q)) (head-is xs)
runs_at items p (x ∷ xs) (suc n) i r e = runs_at items (Some x) xs n i r.1 e ∙ ap (λ q. Some (linked q (slice_get xs (suc n)))) (before_or-cons p x xs n)

found : (s : Inside) (i n : ℕ) (l : Link) (xs : List ℕ) → Runs s.items.items None xs None → l ≡ get_or s.items.items i l → slice_get xs n ≡ Some i
    → l ≡ linked (before_or None xs n) (slice_get xs (suc n))
found s i n l xs r is e = is ∙ get_or_from_slice_get _ i _ l (runs_at _ _ xs n i r e)

chain_runs : (s : Inside) (k i n : ℕ) → IsSound s → slice_get (get_or (links_view s).chains k []) n ≡ Some i → Runs s.items.items None (get_or (links_view s).chains k []) None
chain_runs s k i n h e = elim (cases_lt k _) [
  | inl low ↦ (chain_at _ _ _ k no_ends h.hold.chains.1 low).runs
  | inr past ↦ subst (λ zs. Runs s.items.items None zs None) (sym (get_or_past _ k [] past)) tt
]

pub next_in_chain : (s : Inside) (k i n : ℕ) (l : Link) → IsSound s → l ≡ get_or s.items.items i l → slice_get (get_or (links_view s).chains k []) n ≡ Some i
    → l.next ≡ slice_get (get_or (links_view s).chains k []) (n + 1)
next_in_chain s k i n l h is e = rw add-one (ap (λ m. m.next) (found s i n l _ (chain_runs s k i n h e) is e))

pub next_in_free : (s : Inside) (i n : ℕ) (l : Link) → IsSound s → l ≡ get_or s.items.items i l → slice_get (links_view s).free n ≡ Some i → l.next ≡ slice_get (links_view s).free (n + 1)
next_in_free s i n l h is e = rw add-one (ap (λ m. m.next) (found s i n l _ h.hold.chains.0.runs is e))

pub previous_in_chain : (s : Inside) (k i n : ℕ) (l : Link) → IsSound s → l ≡ get_or s.items.items i l
    → slice_get (get_or (links_view s).chains k []) n ≡ Some i → l.previous ≡ before (get_or (links_view s).chains k []) n
previous_in_chain s k i n l h is e = ap (λ m. m.previous) (found s i n l _ (chain_runs s k i n h e) is e) ∙ before_or-none _ n

pub previous_in_free : (s : Inside) (i n : ℕ) (l : Link) → IsSound s → l ≡ get_or s.items.items i l → slice_get (links_view s).free n ≡ Some i → l.previous ≡ before (links_view s).free n
previous_in_free s i n l h is e = ap (λ m. m.previous) (found s i n l _ h.hold.chains.0.runs is e) ∙ before_or-none _ n

-- the law of a pool
pub is_pool : (s : Inside) → IsSound s → IsPool (links_view s)
is_pool s h = record { once = λ i. h.hold.once i ∙ ap (λ n. cond (nat_lt i n) 1 0) (sym h.hold.all); few = omega (arith, h.hold.all, h.few) }
