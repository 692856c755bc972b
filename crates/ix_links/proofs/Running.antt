-- Single chains: how a change of links changes them.
use Rattle.std.proofs.Common.{◌≡◌, ◌≢◌, ℕ, zero, suc, ◌+◌, ◌<◌, ◌≤◌, List, [], ◌∷◌, ◌++◌, length, set, Option, Some, None, refl, sym, ap, ◌∙◌, subst, arith, slice_get, length-set}
use Rattle.std.{specs.List.last_or, proofs.lemmas.{Bool.Decides.nat_tests, Option.{same_Some, slice_get_within, get_or_from_slice_get}}}
use Rattle.ix_links.specs.{declared.link.{Link.Link, Ends.Ends}, Chains.times, Standing.{head_or, Runs, IsChain}}
use Rattle.ix_links.specs.Linking.{loose, next_set, previous_set, first_set, last_set, unlinked_items, unlinked_ends, inserted_items, inserted_ends}

-- no index stands twice in the list
abbrev pub Once : List ℕ → Type 0
Once xs = (j : ℕ) → times j xs ≤ 1

-- an index that is none, or not in the list
abbrev pub Away : Option ℕ → List ℕ → Type 0
Away o xs = (j : ℕ) → o ≡ Some j → times j xs ≡ 0

-- an index that is none, or in the list
abbrev pub Among : Option ℕ → List ℕ → Type 0
Among o xs = (j : ℕ) → o ≡ Some j → 0 < times j xs

-- the items of the list are as they were
abbrev pub Kept : List Link → List Link → List ℕ → Type 0
Kept items items' xs = (j : ℕ) → 0 < times j xs → slice_get items' j ≡ slice_get items j

pub times-append : (j : ℕ) (xs ys : List ℕ) → times j (xs ++ ys) ≡ times j xs + times j ys
times-append j [] ys = omega arith
times-append j (x ∷ xs) ys = omega (arith, times-append j xs ys)

pub times_here : (x : ℕ) (xs : List ℕ) → times x (x ∷ xs) ≡ 1 + times x xs
times_here x xs = grind (arith, nat_tests)

pub times_skip : (j x : ℕ) (xs : List ℕ) → times j xs ≤ times j (x ∷ xs)
times_skip j x xs = omega arith

pub times_other : (j x : ℕ) (xs : List ℕ) → j ≢ x → times j (x ∷ xs) ≡ times j xs
times_other j x xs ne = grind (arith, nat_tests)

pub slice_get-set_other : {A : Type 0} → (xs : List A) (i j : ℕ) (x : A) → j ≢ i → slice_get (set xs i x) j ≡ slice_get xs j
slice_get-set_other [] i j x ne = refl
slice_get-set_other (y ∷ ys) zero zero x ne = absurd (ne refl)
slice_get-set_other (y ∷ ys) zero (suc j) x ne = refl
slice_get-set_other (y ∷ ys) (suc i) zero x ne = refl
slice_get-set_other (y ∷ ys) (suc i) (suc j) x ne = slice_get-set_other ys i j x (λ e. ne (ap suc e))

pub slice_get-set_same : {A : Type 0} → (xs : List A) (i : ℕ) (x : A) → i < length xs → slice_get (set xs i x) i ≡ Some x
slice_get-set_same [] i x h = absurd (omega arith)
slice_get-set_same (y ∷ ys) zero x h = refl
slice_get-set_same (y ∷ ys) (suc i) x h = slice_get-set_same ys i x (omega arith)

-- the ends of a list are in it
pub head-among : (xs : List ℕ) → Among (head_or xs None) xs
head-among [] j e = cc
head-among (x ∷ xs) j e = let same = same_Some x j e in omega (arith, subst (λ k. times k (x ∷ xs) ≡ 1 + times k xs) same (times_here x xs))

pub last-among-cons : (x : ℕ) (xs : List ℕ) → Among (last_or (Some x) xs) (x ∷ xs)
last-among-cons x [] j e = let same = same_Some x j e in omega (arith, subst (λ k. times k (x ∷ []) ≡ 1 + times k []) same (times_here x []))
last-among-cons x (y ∷ ys) j e = omega (arith, last-among-cons y ys j e)

pub last-among : (xs : List ℕ) → Among (last_or None xs) xs
last-among [] j e = cc
last-among (x ∷ xs) j e = last-among-cons x xs j e

pub last-append : (p : Option ℕ) (xs ys : List ℕ) → last_or p (xs ++ ys) ≡ last_or (last_or p xs) ys
last-append p [] ys = refl
last-append p (x ∷ xs) ys = last-append _ xs ys

pub head-append : (xs ys : List ℕ) (q : Option ℕ) → head_or (xs ++ ys) q ≡ head_or xs (head_or ys q)
head-append [] ys q = refl
head-append (x ∷ xs) ys q = refl

-- a chain in two parts
pub runs-left : (items : List Link) (p : Option ℕ) (xs ys : List ℕ) (q : Option ℕ) → Runs items p (xs ++ ys) q → Runs items p xs (head_or ys q)
runs-left items p [] ys q r = tt
runs-left items p (x ∷ xs) ys q r = (subst (λ h. slice_get items x ≡ Some (record { previous = p; next = h })) (head-append xs ys q) r.0, runs-left items (Some x) xs ys q r.1)

pub runs-right : (items : List Link) (p : Option ℕ) (xs ys : List ℕ) (q : Option ℕ) → Runs items p (xs ++ ys) q → Runs items (last_or p xs) ys q
runs-right items p [] ys q r = r
runs-right items p (x ∷ xs) ys q r = runs-right items (Some x) xs ys q r.1

pub runs_join : (items : List Link) (p : Option ℕ) (xs ys : List ℕ) (q : Option ℕ) → Runs items p xs (head_or ys q) → Runs items (last_or p xs) ys q → Runs items p (xs ++ ys) q
runs_join items p [] ys q a b = b
runs_join items p (x ∷ xs) ys q a b = (subst (λ h. slice_get items x ≡ Some (record { previous = p; next = h })) (sym (head-append xs ys q)) a.0, runs_join items (Some x) xs ys q a.1 b)

-- a chain stays where its items stay
pub runs_kept : (items items' : List Link) (p : Option ℕ) (xs : List ℕ) (q : Option ℕ) → Kept items items' xs → Runs items p xs q → Runs items' p xs q
runs_kept items items' p [] q k r = tt
runs_kept items items' p (x ∷ xs) q k r = (k x (omega (arith, times_here x xs)) ∙ r.0, runs_kept items items' (Some x) xs q (λ j h. k j (omega arith)) r.1)

pub kept-set : (items : List Link) (i : ℕ) (l : Link) (xs : List ℕ) → times i xs ≡ 0 → Kept items (set items i l) xs
kept-set items i l xs none j h = slice_get-set_other _ i j l (λ e. absurd (omega (arith, subst (λ k. times k xs ≡ 0) (sym e) none)))

pub kept-next_set : (items : List Link) (o q : Option ℕ) (xs : List ℕ) → Away o xs → Kept items (next_set items o q) xs
kept-next_set items None q xs away = λ j h. refl
kept-next_set items (Some i) q xs away = kept-set _ i _ xs (away i refl)

pub kept-previous_set : (items : List Link) (o q : Option ℕ) (xs : List ℕ) → Away o xs → Kept items (previous_set items o q) xs
kept-previous_set items None q xs away = λ j h. refl
kept-previous_set items (Some i) q xs away = kept-set _ i _ xs (away i refl)

pub kept_twice : (a b c : List Link) (xs : List ℕ) → Kept a b xs → Kept b c xs → Kept a c xs
kept_twice a b c xs h k = λ j m. k j m ∙ h j m

-- a link with another neighbour
abbrev with_next : Link → Option ℕ → Link
with_next l q = record { previous = l.previous; next = q }

abbrev with_previous : Link → Option ℕ → Link
with_previous l p = record { previous = p; next = l.next }

-- another follower of the last item of a chain
runs-next_set-cons : (items : List Link) (p : Option ℕ) (x : ℕ) (xs : List ℕ) (q r : Option ℕ) → Once (x ∷ xs) → Runs items p (x ∷ xs) q → Runs (next_set items (last_or (Some x) xs) r) p (x ∷ xs) r
runs-next_set-cons items p x [] q r once h =
    let within = slice_get_within items x _ h.0 in
    let was = get_or_from_slice_get items x _ loose h.0 in
    (slice_get-set_same _ x _ within ∙ ap (λ l. Some (with_next l r)) was, tt)
runs-next_set-cons items p x (y ∷ ys) q r once h =
    let alone : times x (y ∷ ys) ≡ 0 = omega (arith, once x, times_here x (y ∷ ys)) in
    let rest = runs-next_set-cons _ _ y ys q r (λ j. omega (arith, once j)) h.1 in
    let here =
    kept-next_set _ _ r (x ∷ [])
    (λ j e. let among = last-among-cons y ys j e in times_other j x [] (λ same. absurd (omega (arith, subst (λ k. times k (y ∷ ys) ≡ 0) (sym same) alone)))) in
    (here x (omega (arith, times_here x [])) ∙ h.0, rest)

pub runs-next_set : (items : List Link) (xs : List ℕ) (q r : Option ℕ) → Once xs → Runs items None xs q → Runs (next_set items (last_or None xs) r) None xs r
runs-next_set items [] q r once h = tt
runs-next_set items (x ∷ xs) q r once h = runs-next_set-cons _ _ x xs q r once h

-- another item before the first item of a chain
pub runs-previous_set : (items : List Link) (p r : Option ℕ) (xs : List ℕ) → Once xs → Runs items p xs None → Runs (previous_set items (head_or xs None) r) r xs None
runs-previous_set items p r [] once h = tt
runs-previous_set items p r (x ∷ xs) once h =
    let within = slice_get_within items x _ h.0 in
    let was = get_or_from_slice_get items x _ loose h.0 in
    let alone : times x xs ≡ 0 = omega (arith, once x, times_here x xs) in (
      slice_get-set_same _ x _ within ∙ ap (λ l. Some (with_previous l r)) was,
      runs_kept _ _ _ xs _ (kept-set _ x _ xs alone) h.1,
    )

pub length-next_set : (items : List Link) (o q : Option ℕ) → length (next_set items o q) ≡ length items
length-next_set items None q = refl
length-next_set items (Some i) q = length-set items i _

pub length-previous_set : (items : List Link) (o q : Option ℕ) → length (previous_set items o q) ≡ length items
length-previous_set items None q = refl
length-previous_set items (Some i) q = length-set items i _

pub length-unlinked : (items : List Link) (l : Link) → length (unlinked_items items l) ≡ length items
length-unlinked items l = length-previous_set (next_set items l.previous l.next) l.next l.previous ∙ length-next_set _ l.previous l.next

pub length-inserted : (items : List Link) (i : ℕ) (l : Link) → length (inserted_items items i l) ≡ length items
length-inserted items i l = length-previous_set (next_set (set items i l) l.previous (Some i)) l.next (Some i) ∙ length-next_set _ l.previous (Some i) ∙ length-set items i l

-- the ends of the parts of a list in which each index stands once
away-left : (xs ys : List ℕ) → Once (xs ++ ys) → Away (head_or ys None) xs
away-left xs ys once j e = omega (arith, once j, times-append j xs ys, head-among ys j e)

away-right : (xs ys : List ℕ) → Once (xs ++ ys) → Away (last_or None xs) ys
away-right xs ys once j e = omega (arith, once j, times-append j xs ys, last-among xs j e)

once-left : (xs ys : List ℕ) → Once (xs ++ ys) → Once xs
once-left xs ys once j = omega (arith, once j, times-append j xs ys)

once-right : (xs ys : List ℕ) → Once (xs ++ ys) → Once ys
once-right xs ys once j = omega (arith, once j, times-append j xs ys)

-- the link of an item between two parts
abbrev pub link_between : List ℕ → List ℕ → Link
link_between xs ys = record { previous = last_or None xs; next = head_or ys None }

-- an item that is not in a list stands apart from one of its ends
apart : (o : Option ℕ) (i : ℕ) (xs : List ℕ) → Among o xs → times i xs ≡ 0 → Away o (i ∷ [])
apart o i xs among none j e = times_other j i [] (λ same. absurd (omega (arith, among j e, subst (λ k. times k xs ≡ 0) (sym same) none)))

last_some : (x : ℕ) (xs : List ℕ) → (z : ℕ) × (last_or (Some x) xs ≡ Some z)
last_some x [] = (x, refl)
last_some x (y ∷ ys) = last_some y ys

first_set-some : (e : Ends) (o q : Option ℕ) (z : ℕ) → o ≡ Some z → first_set e o q ≡ e
first_set-some e o q z h = rw h refl

-- the ends of a chain with one item more
first-inserted : (e : Ends) (i : ℕ) (xs ys : List ℕ) → e.first ≡ head_or (xs ++ ys) None → (first_set e (last_or None xs) (Some i)).first ≡ head_or (xs ++ i ∷ ys) None
first-inserted e i [] ys h = refl
first-inserted e i (x ∷ xs) ys h = let z = last_some x xs in ap (λ d. d.first) (first_set-some e _ _ _ z.1) ∙ h

last_set-first : (e : Ends) (o q : Option ℕ) → (last_set e o q).first ≡ e.first
last_set-first e None q = refl
last_set-first e (Some i) q = refl

first_set-last : (e : Ends) (o q : Option ℕ) → (first_set e o q).last ≡ e.last
first_set-last e None q = refl
first_set-last e (Some i) q = refl

last-inserted : (e : Ends) (i : ℕ) (xs ys : List ℕ) → e.last ≡ last_or None (xs ++ ys) → (last_set e (head_or ys None) (Some i)).last ≡ last_or None (xs ++ i ∷ ys)
last-inserted e i xs [] h = sym (last-append _ xs _)
last-inserted e i xs (y ∷ ys) h = h ∙ last-append _ xs _ ∙ sym (last-append _ xs _)

-- the ends of a chain with one item less
first-unlinked : (e : Ends) (i : ℕ) (xs ys : List ℕ) → e.first ≡ head_or (xs ++ i ∷ ys) None → (first_set e (last_or None xs) (head_or ys None)).first ≡ head_or (xs ++ ys) None
first-unlinked e i [] ys h = refl
first-unlinked e i (x ∷ xs) ys h = let z = last_some x xs in ap (λ d. d.first) (first_set-some e _ _ _ z.1) ∙ h

last-unlinked : (e : Ends) (i : ℕ) (xs ys : List ℕ) → e.last ≡ last_or None (xs ++ i ∷ ys) → (last_set e (head_or ys None) (last_or None xs)).last ≡ last_or None (xs ++ ys)
last-unlinked e i xs [] h = sym (last-append _ xs [])
last-unlinked e i xs (y ∷ ys) h = h ∙ last-append _ xs _ ∙ sym (last-append _ xs _)

-- an item put between two parts of a chain
pub chain-inserted : (items : List Link) (e : Ends) (i : ℕ) (xs ys : List ℕ) → IsChain items e (xs ++ ys) → Once (xs ++ ys) → times i xs ≡ 0 → times i ys ≡ 0
    → i < length items → IsChain (inserted_items items i (link_between xs ys)) (inserted_ends e i (link_between xs ys)) (xs ++ i ∷ ys)
chain-inserted items e i xs ys h once left right within =
    let l = link_between xs ys in
    let a = set items i l in
    let b = next_set a l.previous (Some i) in
    let c = previous_set b l.next (Some i) in
    let xs_a = runs_kept _ a _ xs _ (kept-set _ i l xs left) (runs-left _ _ xs ys _ h.runs) in
    let ys_a = runs_kept _ a _ ys _ (kept-set _ i l ys right) (runs-right _ _ xs ys _ h.runs) in
    let at_a = slice_get-set_same _ i l within in
    let xs_b = runs-next_set a xs _ _ (once-left xs ys once) xs_a in
    let ys_b = runs_kept a b _ ys _ (kept-next_set a _ _ ys (away-right xs ys once)) ys_a in
    let at_b : slice_get b i ≡ Some l = kept-next_set a l.previous (Some i) (i ∷ []) (apart _ i xs (last-among xs) left) i (omega (arith, times_here i [])) ∙ at_a in
    let xs_c = runs_kept b c _ xs _ (kept-previous_set b _ _ xs (away-left xs ys once)) xs_b in
    let ys_c = runs-previous_set b _ _ ys (once-right xs ys once) ys_b in
    let at_c : slice_get c i ≡ Some l = kept-previous_set b l.next (Some i) (i ∷ []) (apart _ i ys (head-among ys) right) i (omega (arith, times_here i [])) ∙ at_b in
    record {
      runs = runs_join c _ xs _ _ xs_c (at_c, ys_c);
      first = last_set-first _ _ _ ∙ first-inserted e i xs ys h.first;
      last = last-inserted _ i xs ys (first_set-last e _ _ ∙ h.last);
    }

-- an item of a chain has the link between the parts on both sides
pub link_in_chain : (items : List Link) (e : Ends) (i : ℕ) (xs ys : List ℕ) → IsChain items e (xs ++ i ∷ ys) → slice_get items i ≡ Some (link_between xs ys)
link_in_chain items e i xs ys h = (runs-right _ _ xs _ _ h.runs).0

-- an item taken out of a chain
pub chain-unlinked : (items : List Link) (e : Ends) (i : ℕ) (xs ys : List ℕ) → IsChain items e (xs ++ i ∷ ys) → Once (xs ++ i ∷ ys)
    → IsChain (unlinked_items items (link_between xs ys)) (unlinked_ends e (link_between xs ys)) (xs ++ ys)
chain-unlinked items e i xs ys h once =
    let l = link_between xs ys in
    let b = next_set items l.previous l.next in
    let c = previous_set b l.next l.previous in
    let less : Once (xs ++ ys) = λ j. omega (arith, once j, times-append j xs (i ∷ ys), times-append j xs ys, times_skip j i ys) in
    let xs_a = runs-left _ _ xs _ _ h.runs in
    let ys_a = (runs-right _ _ xs _ _ h.runs).1 in
    let xs_b = runs-next_set _ xs _ _ (once-left xs ys less) xs_a in
    let ys_b = runs_kept _ b _ ys _ (kept-next_set _ _ _ ys (away-right xs ys less)) ys_a in
    let xs_c = runs_kept b c _ xs _ (kept-previous_set b _ _ xs (away-left xs ys less)) xs_b in
    let ys_c = runs-previous_set b _ _ ys (once-right xs ys less) ys_b in
    record {
      runs = runs_join c _ xs ys _ xs_c ys_c;
      first = last_set-first _ _ _ ∙ first-unlinked e i xs ys h.first;
      last = last-unlinked _ i xs ys (first_set-last e _ _ ∙ h.last);
    }

-- the items of another list stay
pub kept-inserted : (items : List Link) (i : ℕ) (xs ys zs : List ℕ) → ((j : ℕ) → times j (xs ++ i ∷ ys) + times j zs ≤ 1) → Kept items (inserted_items items i (link_between xs ys)) zs
kept-inserted items i xs ys zs one =
    let l = link_between xs ys in
    let a = set items i l in
    let b = next_set a l.previous (Some i) in
    let c = previous_set b l.next (Some i) in
    let none : times i zs ≡ 0 = omega (arith, one i, times-append i xs (i ∷ ys), times_here i ys) in
    kept_twice _ a c zs (kept-set _ i l zs none) (kept_twice a b c zs
    (kept-next_set a _ _ zs (λ j e. omega (arith, one j, times-append j xs (i ∷ ys), last-among xs j e)))
    (kept-previous_set b _ _ zs (λ j e. omega (arith, one j, times-append j xs (i ∷ ys), times_skip j i ys, head-among ys j e))))

pub kept-unlinked : (items : List Link) (i : ℕ) (xs ys zs : List ℕ) → ((j : ℕ) → times j (xs ++ i ∷ ys) + times j zs ≤ 1) → Kept items (unlinked_items items (link_between xs ys)) zs
kept-unlinked items i xs ys zs one =
    let l = link_between xs ys in
    let b = next_set items l.previous l.next in
    kept_twice _ b _ zs (kept-next_set _ _ _ zs (λ j e. omega (arith, one j, times-append j xs (i ∷ ys), last-among xs j e)))
    (kept-previous_set b _ _ zs (λ j e. omega (arith, one j, times-append j xs (i ∷ ys), times_skip j i ys, head-among ys j e)))
