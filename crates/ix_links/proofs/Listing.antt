-- All chains together: an index moved from one list to another, and the lists that the fields show.
use Rattle.std.proofs.Common.{◌≡◌, ◌≢◌, ℕ, zero, suc, ◌+◌, ◌<◌, ◌≤◌, ◌^◌, cond, List, [], ◌∷◌, ◌++◌, length, set, get_or, map, Option, Some, None, refl, sym}
use Rattle.std.proofs.Common.{ap, ◌∙◌, subst, arith, inl, inr, length-set, length-append, nat_lt}
use Rattle.std.proofs.lemmas.{Bool.{cases_eq, Decides.{nat_tests, eqb_tells}}, List.get_or-set_other, Option.{same_Some, get_or_from_slice_get}}
use Rattle.ix_links.specs.{declared.{link.{Link.Link, Ends.Ends}, links.Links.TheInside.Inside}, Chains.{Chains, lists, times, total, without}}
use Rattle.ix_links.specs.Linking.{loose, link_at, unlinked_items, unlinked_ends, inserted_items, inserted_ends}
use Rattle.ix_links.specs.Standing.{walk, head_or, Runs, IsChain, AreChains, Hold, links_view, IsSound}
use Rattle.ix_links.proofs.Running.{Kept, times-append, times_here, times_skip, times_other, runs_kept, link_between, chain-inserted, chain-unlinked}
use Rattle.ix_links.proofs.Running.{link_in_chain, kept-inserted, kept-unlinked, length-unlinked, length-inserted}

-- the lists one behind the other
abbrev pub joined : List (List ℕ) → List ℕ
joined [] = []
joined (xs ∷ xss) = xs ++ joined xss

times-joined : (j : ℕ) (xss : List (List ℕ)) → times j (joined xss) ≡ total (times j) xss
times-joined j [] = refl
times-joined j (xs ∷ xss) = omega (arith, times-append j xs (joined xss), times-joined j xss)

pub total-set : (f : List ℕ → ℕ) (xss : List (List ℕ)) (k : ℕ) (ys : List ℕ) → k < length xss → total f (set xss k ys) + f (get_or xss k []) ≡ total f xss + f ys
total-set f [] k ys h = absurd (omega arith)
total-set f (xs ∷ xss) zero ys h = omega arith
total-set f (xs ∷ xss) (suc k) ys h = omega (arith, total-set f xss k ys (omega arith))

pub part-le-total : (f : List ℕ → ℕ) (xss : List (List ℕ)) (k : ℕ) → k < length xss → f (get_or xss k []) ≤ total f xss
part-le-total f [] k h = absurd (omega arith)
part-le-total f (xs ∷ xss) zero h = omega arith
part-le-total f (xs ∷ xss) (suc k) h = omega (arith, part-le-total f xss k (omega arith))

pub chains-length : (items : List Link) (es : List Ends) (xss : List (List ℕ)) → AreChains items es xss → length es ≡ length xss
chains-length items [] [] h = refl
chains-length items [] (xs ∷ xss) h = absurd h
chains-length items (e ∷ es) [] h = absurd h
chains-length items (e ∷ es) (xs ∷ xss) h = ap suc (chains-length _ es _ h.1)

pub chain_at : (items : List Link) (es : List Ends) (xss : List (List ℕ)) (k : ℕ) (d : Ends) → AreChains items es xss → k < length xss → IsChain items (get_or es k d) (get_or xss k [])
chain_at items [] [] k d h l = absurd (omega arith)
chain_at items [] (xs ∷ xss) k d h l = absurd h
chain_at items (e ∷ es) [] k d h l = absurd h
chain_at items (e ∷ es) (xs ∷ xss) zero d h l = h.0
chain_at items (e ∷ es) (xs ∷ xss) (suc k) d h l = chain_at _ es _ k d h.1 (omega arith)

chain_kept : (items items' : List Link) (e : Ends) (xs : List ℕ) → Kept items items' xs → IsChain items e xs → IsChain items' e xs
chain_kept items items' e xs k h = record { runs = runs_kept _ _ _ xs _ k h.runs; first = h.first; last = h.last }

chains_kept : (items items' : List Link) (es : List Ends) (xss : List (List ℕ)) → Kept items items' (joined xss) → AreChains items es xss → AreChains items' es xss
chains_kept items items' [] [] k h = tt
chains_kept items items' [] (xs ∷ xss) k h = absurd h
chains_kept items items' (e ∷ es) [] k h = absurd h
chains_kept items items' (e ∷ es) (xs ∷ xss) k h = (
  chain_kept _ _ e xs (λ j m. k j (omega (arith, times-append j xs (joined xss)))) h.0,
  chains_kept _ _ es _ (λ j m. k j (omega (arith, times-append j xs (joined xss)))) h.1,
)

-- one chain is another, and the others stay
chains_set : (items items' : List Link) (es : List Ends) (xss : List (List ℕ)) (k : ℕ) (e : Ends) (ys : List ℕ) → AreChains items es xss → k < length xss
    → IsChain items' e ys → Kept items items' (joined (set xss k [])) → AreChains items' (set es k e) (set xss k ys)
chains_set items items' [] [] k e ys h l new kept = absurd (omega arith)
chains_set items items' [] (xs ∷ xss) k e ys h l new kept = absurd h
chains_set items items' (d ∷ es) [] k e ys h l new kept = absurd h
chains_set items items' (d ∷ es) (xs ∷ xss) zero e ys h l new kept = (new, chains_kept _ _ es _ kept h.1)
chains_set items items' (d ∷ es) (xs ∷ xss) (suc k) e ys h l new kept = (
  chain_kept _ _ d xs (λ j m. kept j (omega (arith, times-append j xs (joined (set xss k []))))) h.0,
  chains_set _ _ es _ k e ys h.1 (omega arith) new (λ j m. kept j (omega (arith, times-append j xs (joined (set xss k []))))),
)

-- how often an index stands beside a list of all of them
beside : (j : ℕ) (xss : List (List ℕ)) (k : ℕ) → k < length xss → times j (joined (set xss k [])) + times j (get_or xss k []) ≡ total (times j) xss
beside j xss k h = omega (arith, times-joined j (set xss k []), total-set (times j) xss k [] h)

pub chains-unlinked : (items : List Link) (es : List Ends) (xss : List (List ℕ)) (k i : ℕ) (d : Ends) (xs ys : List ℕ) → AreChains items es xss → k < length xss
    → get_or xss k [] ≡ xs ++ i ∷ ys → ((j : ℕ) → total (times j) xss ≤ 1)
    → AreChains (unlinked_items items (link_between xs ys)) (set es k (unlinked_ends (get_or es k d) (link_between xs ys))) (set xss k (xs ++ ys))
chains-unlinked items es xss k i d xs ys h l is once =
    let here = subst (λ zs. IsChain items (get_or es k d) zs) is (chain_at _ es _ k d h l) in
    let one : (j : ℕ) → times j (xs ++ i ∷ ys) + times j (joined (set xss k [])) ≤ 1 = λ j. omega (arith, once j, beside j xss k l, ap (times j) is) in
    chains_set _ _ es _ k _ _ h l (chain-unlinked _ _ i xs ys here (λ j. omega (arith, one j))) (kept-unlinked _ i xs ys _ one)

pub chains-inserted : (items : List Link) (es : List Ends) (xss : List (List ℕ)) (k i : ℕ) (d : Ends) (xs ys : List ℕ) → AreChains items es xss → k < length xss
    → get_or xss k [] ≡ xs ++ ys → ((j : ℕ) → total (times j) xss ≤ 1) → total (times i) xss ≡ 0 → i < length items
    → AreChains (inserted_items items i (link_between xs ys)) (set es k (inserted_ends (get_or es k d) i (link_between xs ys))) (set xss k (xs ++ i ∷ ys))
chains-inserted items es xss k i d xs ys h l is once none within =
    let here = subst (λ zs. IsChain items (get_or es k d) zs) is (chain_at _ es _ k d h l) in
    let alone : times i (joined (set xss k [])) + times i (xs ++ ys) ≡ 0 = omega (arith, none, beside i xss k l, ap (times i) is) in
    let one : (j : ℕ) → times j (xs ++ i ∷ ys) + times j (joined (set xss k [])) ≤ 1 = λ j. elim (cases_eq j i) [
      | inl same ↦ rw same (omega (arith, alone, times-append i xs ys, times-append i xs (i ∷ ys), times_here i ys))
      | inr other ↦ omega (arith, once j, beside j xss k l, ap (times j) is, times-append j xs ys, times-append j xs (i ∷ ys), times_other j i ys other)
    ] in
    chains_set _ _ es _ k _ _ h l
    (chain-inserted _ _ i xs ys here (λ j. omega (arith, once j, beside j xss k l, ap (times j) is)) (omega (arith, times-append i xs ys))
    (omega (arith, times-append i xs ys)) within) (kept-inserted _ i xs ys _ one)

-- what two changed lists do to a sum
total-set-set : (f : List ℕ → ℕ) (xss : List (List ℕ)) (k m : ℕ) (ys zs : List ℕ) → k < length xss → m < length xss → m ≢ k
    → total f (set (set xss k ys) m zs) + f (get_or xss k []) + f (get_or xss m []) ≡ total f xss + f ys + f zs
total-set-set f xss k m ys zs l h ne =
    omega (arith, total-set f xss k ys l, total-set f (set xss k ys) m zs (omega (arith, length-set xss k ys)), ap f (get_or-set_other xss k m ys [] ne))

pub once_at_most : (items : List Link) (es : List Ends) (xss : List (List ℕ)) → Hold items es xss → (j : ℕ) → total (times j) xss ≤ 1
once_at_most items es xss h j = let e = h.once j in grind (arith, nat_tests)

pub held_within : (items : List Link) (es : List Ends) (xss : List (List ℕ)) (j : ℕ) → Hold items es xss → 0 < total (times j) xss → j < length items
held_within items es xss j h m = let e = h.once j in grind (arith, nat_tests)

-- an index moved from one list to another
pub hold_moved : (items : List Link) (es : List Ends) (xss : List (List ℕ)) (k m i : ℕ) (d d' : Ends) (xs ys ps qs : List ℕ) → Hold items es xss
    → k < length xss → m < length xss → m ≢ k → get_or xss k [] ≡ xs ++ i ∷ ys → get_or xss m [] ≡ ps ++ qs
    → Hold (inserted_items (unlinked_items items (link_between xs ys)) i (link_between ps qs))
    (set (set es k (unlinked_ends (get_or es k d) (link_between xs ys))) m (inserted_ends (get_or es m d') i (link_between ps qs)))
    (set (set xss k (xs ++ ys)) m (ps ++ i ∷ qs))
hold_moved items es xss k m i d d' xs ys ps qs h l n ne from to =
    let mid = chains-unlinked _ es _ k i d xs ys h.chains l from (once_at_most _ es _ h) in
    let mid_times : (j : ℕ) → total (times j) (set xss k (xs ++ ys)) + times j (xs ++ i ∷ ys) ≡ total (times j) xss + times j (xs ++ ys) =
    λ j. omega (arith, total-set (times j) xss k (xs ++ ys) l, ap (times j) from) in
    let mid_once : (j : ℕ) → total (times j) (set xss k (xs ++ ys)) ≤ 1 = λ j. omega (
      arith,
      mid_times j,
      once_at_most items es xss h j,
      times-append j xs ys,
      times-append j xs (i ∷ ys),
      times_skip j i ys,
    ) in
    let mid_none : total (times i) (set xss k (xs ++ ys)) ≡ 0 = omega (arith, mid_times i, once_at_most items es xss h i, times-append i xs ys, times-append i xs (i ∷ ys), times_here i ys) in
    let held : 0 < total (times i) xss = omega (arith, part-le-total (times i) xss k l, ap (times i) from, times-append i xs (i ∷ ys), times_here i ys) in
    let within : i < length items = held_within _ es _ i h held in
    let len : length (unlinked_items items (link_between xs ys)) ≡ length items = length-unlinked _ _ in
    let len' : length (inserted_items (unlinked_items items (link_between xs ys)) i (link_between ps qs)) ≡ length items =
    length-inserted _ i _ ∙ len in
    let ends : get_or (set es k (unlinked_ends (get_or es k d) (link_between xs ys))) m d' ≡ get_or es m d' = get_or-set_other es k m _ d' ne in
    let chains = chains-inserted _ _ _ m i d' ps qs mid (omega (arith, length-set xss k (xs ++ ys)))
    (get_or-set_other xss k m (xs ++ ys) [] ne ∙ to) mid_once mid_none (omega arith) in
    record {
      chains = subst (λ e. AreChains (inserted_items (unlinked_items items (link_between xs ys)) i (link_between ps qs))
          (set (set es k (unlinked_ends (get_or es k d) (link_between xs ys))) m (inserted_ends e i (link_between ps qs)))
          (set (set xss k (xs ++ ys)) m (ps ++ i ∷ qs))) ends chains;
      once = λ j.
          (let sum : total (times j) (set (set xss k (xs ++ ys)) m (ps ++ i ∷ qs)) ≡ total (times j) xss =
          omega (
            arith,
            total-set-set (times j) xss k m (xs ++ ys) (ps ++ i ∷ qs) l n ne,
            ap (times j) from,
            ap (times j) to,
            times-append j xs ys,
            times-append j xs (i ∷ ys),
            times-append j ps qs,
            times-append j ps (i ∷ qs),
          ) in
          sum ∙ h.once j ∙ ap (λ z. cond (nat_lt j z) 1 0) (sym len'));
      all = omega (
        arith,
        h.all,
        len',
        total-set-set length xss k m (xs ++ ys) (ps ++ i ∷ qs) l n ne,
        ap length from,
        ap length to,
        length-append xs ys,
        length-append xs (i ∷ ys),
        length-append ps qs,
        length-append ps (i ∷ qs),
      );
    }

-- an index of a list stands between two parts of it
pub split : (i : ℕ) (zs : List ℕ) → 0 < times i zs → (xs : List ℕ) × (ys : List ℕ) × (zs ≡ xs ++ i ∷ ys) × (without i zs ≡ xs ++ ys)
split i [] h = absurd (omega arith)
split i (z ∷ zs) h = elim (eqb_tells z i) [
  | inl (t, same) ↦ ([], zs, ap (λ x. x ∷ zs) same, ap (λ b. cond b zs (z ∷ without i zs)) t)
  | inr (t, other) ↦
      let rest = split i zs (omega (arith, times_other i z zs (λ e. other (sym e)))) in
      (z ∷ rest.0, rest.1, ap (λ xs. z ∷ xs) rest.2, ap (λ b. cond b zs (z ∷ without i zs)) t ∙ ap (λ xs. z ∷ xs) rest.3)
]

pub times_contained : (i : ℕ) (zs : List ℕ) (k d : ℕ) → k < length zs → get_or zs k d ≡ i → 0 < times i zs
times_contained i [] k d l e = absurd (omega arith)
times_contained i (z ∷ zs) zero d l e = rw e (omega (arith, times_here i zs))
times_contained i (z ∷ zs) (suc k) d l e = omega (arith, times_contained i zs k d (omega arith) e, times_skip i z zs)

-- the lists that the fields show
walk_runs : (items : List Link) (n : ℕ) (p : Option ℕ) (xs : List ℕ) → length xs ≤ n → Runs items p xs None → walk items n (head_or xs None) ≡ xs
walk_runs items zero p [] l r = refl
walk_runs items (suc n) p [] l r = refl
walk_runs items zero p (x ∷ xs) l r = absurd (omega arith)
walk_runs items (suc n) p (x ∷ xs) l r =
    let next = ap (λ k. k.next) (get_or_from_slice_get items x _ loose r.0) in
    ap (λ ys. x ∷ ys) (ap (walk items n) next ∙ walk_runs _ n _ xs (omega arith) r.1)

walked : (items : List Link) (n : ℕ) (es : List Ends) (xss : List (List ℕ)) → AreChains items es xss → total length xss ≤ n → map (λ (e : Ends). walk items n e.first) es ≡ xss
walked items n [] [] h l = refl
walked items n [] (xs ∷ xss) h l = absurd h
walked items n (e ∷ es) [] h l = absurd h
walked items n (e ∷ es) (xs ∷ xss) h l =
    let here = ap (walk items n) h.0.first ∙ walk_runs _ n _ xs (omega arith) h.0.runs in
    let rest = walked _ n es _ h.1 (omega arith) in
    cc

pub shows : (s : Inside) (v : Chains) → Hold s.items.items (s.unused ∷ s.chains.items) (lists v) → links_view s ≡ v
shows s v h =
    let n = length s.items.items in
    let all = walked s.items.items n (s.unused ∷ s.chains.items) (lists v) h.chains (omega (arith, h.all)) in
    let free : walk s.items.items n s.unused.first ≡ v.free = cc in
    let chains : map (λ (e : Ends). walk s.items.items n e.first) s.chains.items ≡ v.chains = cc in
    λ i. record { chains = chains i; free = free i }

pub sound : (s : Inside) (v : Chains) → Hold s.items.items (s.unused ∷ s.chains.items) (lists v) → s.free ≡ length v.free → length s.items.items < 2 ^ 32 → IsSound s
sound s v h counted few =
    let e = sym (shows s v h) in
    record { hold = subst (λ w. Hold s.items.items (s.unused ∷ s.chains.items) (lists w)) e h; counted = subst (λ w. s.free ≡ length w.free) e counted; few = few }

-- the first of the free list, and its link
pub free_first : (s : Inside) → IsSound s → s.unused.first ≡ head_or (links_view s).free None
free_first s h = h.hold.chains.0.first

free_split : (i : ℕ) (zs : List ℕ) → Some i ≡ head_or zs None → (rest : List ℕ) × (zs ≡ i ∷ rest)
free_split i [] e = cc
free_split i (z ∷ zs) e = (zs, ap (λ x. x ∷ zs) (sym (same_Some i z e)))

pub some_free : (s : Inside) (i : ℕ) → IsSound s → s.unused.first ≡ Some i → (rest : List ℕ) × ((links_view s).free ≡ i ∷ rest)
some_free s i h e = free_split i _ (sym e ∙ free_first s h)

pub link_of_free : (s : Inside) (i : ℕ) (rest : List ℕ) → IsSound s → (links_view s).free ≡ i ∷ rest → link_at s.items.items i ≡ link_between [] rest
link_of_free s i rest h e = get_or_from_slice_get _ i _ loose (link_in_chain _ _ i [] _ (subst (λ zs. IsChain s.items.items s.unused zs) e h.hold.chains.0))

-- the first free index moved into a chain
pub hold_pushed : (s : Inside) (k i : ℕ) (d : Ends) (rest xs ys : List ℕ) → IsSound s → (links_view s).free ≡ i ∷ rest → k < length (links_view s).chains → get_or (links_view s).chains k [] ≡ xs ++ ys
    → Hold (inserted_items (unlinked_items s.items.items (link_at s.items.items i)) i (link_between xs ys)) (unlinked_ends s.unused (link_at s.items.items i)
    ∷ set s.chains.items k (inserted_ends (get_or s.chains.items k d) i (link_between xs ys))) (rest ∷ set (links_view s).chains k (xs ++ i ∷ ys))
hold_pushed s k i d rest xs ys h free l is =
    let moved = hold_moved s.items.items (s.unused ∷ s.chains.items) (lists (links_view s)) 0 (suc k) i s.unused d [] rest xs ys h.hold (omega arith) (omega arith) (λ e. cc) free is in
    subst (λ n. Hold (inserted_items (unlinked_items s.items.items n) i (link_between xs ys)) (unlinked_ends s.unused n
    ∷ set s.chains.items k (inserted_ends (get_or s.chains.items k d) i (link_between xs ys))) (rest ∷ set (links_view s).chains k (xs ++ i ∷ ys)))
    (sym (link_of_free s i _ h free)) moved

-- an index moved from a chain to the front of the free list
pub hold_removed : (s : Inside) (k i : ℕ) (d : Ends) (xs ys : List ℕ) → IsSound s → k < length (links_view s).chains → get_or (links_view s).chains k [] ≡ xs ++ i ∷ ys
    → Hold (inserted_items (unlinked_items s.items.items (link_between xs ys)) i (link_between [] (links_view s).free))
    (inserted_ends s.unused i (link_between [] (links_view s).free) ∷ set s.chains.items k (unlinked_ends (get_or s.chains.items k d) (link_between xs ys)))
    ((i ∷ (links_view s).free) ∷ set (links_view s).chains k (xs ++ ys))
hold_removed s k i d xs ys h l is = hold_moved s.items.items (s.unused ∷ s.chains.items) (lists (links_view s)) (suc k) 0 i d s.unused xs ys []
    (links_view s).free h.hold (omega arith) (omega arith) (λ e. cc) is refl
