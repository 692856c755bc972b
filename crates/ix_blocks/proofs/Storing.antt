-- Bytes laid over others.
use Rattle.std.proofs.Common.{◌≡◌, ℕ, ◌+◌, ◌≤◌, List, [], ◌++◌, length, take, drop, sym, ap, ◌∙◌, arith, append_assoc, length-append, length-take, length-drop, zero-add, zero, suc}
use Rattle.std.proofs.Common.{◌*◌, ◌<◌, ◌∷◌, set, map, get_or, Some, refl, subst, slice_get, ◌-◌, ◌/◌, ◌%◌, replicate, Option, None, append-nil, length-set, inl, inr, ◌^◌, min}
use Rattle.std.proofs.{Math.Seq.{take-append-add, drop-append-add, take-add}, lemmas.{Bool.{cases_eq, Decides.nat_tests}, List.{take-append-le, drop-append-le, length-take-le}}}
use Rattle.std.proofs.lemmas.List.{take-append-drop, drop-drop, get_or-set_other, get_or-set_same, map-set, take_at, get_or_at, set-get_or, set-set, drop_at, length-replicate}
use Rattle.std.{proofs.lemmas.Option.{same_Some, slice_get-get_or}, specs.List.{last_or, Contains}}
use Rattle.ix_blocks.specs.{Files.laid_over, Stored.{flat, flats, AreRows, held_in}, Wholes.{laid_in, Wholes, whole_of, blocks_added, blocks_dropped}}
use Rattle.ix_links.specs.{Chains.{times, total, Chains, lists, pool, chain_of, without, pushed_back, back_moved, removed, before}, Whole.IsPool}
use Rattle.ix_links.proofs.{Held.{held_below, at_most_once, free_below, pool-pushed_back, pool-removed}, Listing.part-le-total, Running.{times_here, times_skip, times-append}}

-- over the first of two parts
pub laid_over-left : (place : ℕ) (xs u v : List ℕ) → place + length xs ≤ length u → laid_over place xs (u ++ v) ≡ laid_over place xs u ++ v
laid_over-left place xs u v h = ap (λ t. t ++ (xs ++ drop (place + length xs) (u ++ v))) (take-append-le place u v (omega arith))
    ∙ ap (λ t. take place u ++ (xs ++ t)) (drop-append-le _ u v h) ∙ ap (λ t. take place u ++ t) (sym (append_assoc xs (drop _ u) v))
    ∙ sym (append_assoc (take _ u) (xs ++ drop _ u) v)

-- over the second of two parts
pub laid_over-right : (place n : ℕ) (xs u v : List ℕ) → n ≡ length u + place → laid_over n xs (u ++ v) ≡ u ++ laid_over place xs v
laid_over-right place n xs u v h = ap (λ k. take k (u ++ v) ++ (xs ++ drop (n + length xs) (u ++ v))) h
    ∙ ap (λ k. take (length u + place) (u ++ v) ++ (xs ++ drop k (u ++ v))) (omega arith)
    ∙ ap (λ t. t ++ (xs ++ drop (length u + (place + length xs)) (u ++ v))) (take-append-add u v place)
    ∙ ap (λ t. (u ++ take place v) ++ (xs ++ t)) (drop-append-add u v (place + length xs)) ∙ append_assoc u _ _

-- they keep the length
pub length-laid_over : (place : ℕ) (xs w : List ℕ) → place + length xs ≤ length w → length (laid_over place xs w) ≡ length w
length-laid_over place xs w fits =
    omega (arith, length-append (take place w) (xs ++ drop (place + length xs) w), length-append xs (drop (place + length xs) w), length-take place w, length-drop (place + length xs) w)

-- one piece behind the other
pub laid_over_twice : (place : ℕ) (xs ys w : List ℕ) → place ≤ length w → laid_over (place + length xs) ys (laid_over place xs w) ≡ laid_over place (xs ++ ys) w
laid_over_twice place xs ys w h =
    let front = length-take-le place w h in
    laid_over-right (length xs) (place + length xs) ys (take _ w) (xs ++ drop _ w) (omega arith) ∙ ap (λ t. take place w ++ t)
    (laid_over-right 0 (length xs) ys xs (drop (place + length xs) w) (omega arith) ∙ ap (λ k. xs ++ (ys ++ drop k (drop (place + length xs) w))) (zero-add _)
    ∙ ap (λ t. xs ++ (ys ++ t)) (drop-drop _ _ w) ∙ sym (append_assoc xs ys _) ∙ ap (λ k. (xs ++ ys) ++ drop k w) (omega (arith, length-append xs ys)))

-- no bytes
pub laid_over_none : (place : ℕ) (w : List ℕ) → laid_over place [] w ≡ w
laid_over_none place w = ap (λ k. take place w ++ drop k w) (omega arith) ∙ take-append-drop place w

-- The blocks of a chain, one behind the other.
pub flat-append : (blocks : List (List ℕ)) (a b : List ℕ) → flat blocks (a ++ b) ≡ flat blocks a ++ flat blocks b
flat-append blocks [] b = refl
flat-append blocks (x ∷ a) b = ap (λ t. get_or blocks x [] ++ t) (flat-append _ a b) ∙ sym (append_assoc (get_or blocks x []) (flat blocks a) (flat blocks b))

-- a block that isn't in a chain
pub flat-set : (blocks : List (List ℕ)) (b : ℕ) (x : List ℕ) (c : List ℕ) → times b c ≡ 0 → flat (set blocks b x) c ≡ flat blocks c
flat-set blocks b x [] h = refl
flat-set blocks b x (y ∷ c) h =
    let here : get_or (set blocks b x) y [] ≡ get_or blocks y [] = get_or-set_other blocks b y x [] (λ e. absurd (omega (arith, subst (λ z. times z (y ∷ c) ≡ 1 + times z c) e (times_here y c)))) in
    let rest : flat (set blocks b x) c ≡ flat blocks c = flat-set _ b x c (omega (arith, times_skip b y c)) in
    cc

pub flats-set : (blocks : List (List ℕ)) (b : ℕ) (x : List ℕ) (cs : List (List ℕ)) → total (times b) cs ≡ 0 → map (λ c. flat (set blocks b x) c) cs ≡ map (λ c. flat blocks c) cs
flats-set blocks b x [] h = refl
flats-set blocks b x (c ∷ cs) h =
    let here : flat (set blocks b x) c ≡ flat blocks c = flat-set _ b x c (omega arith) in
    let rest : map (λ c. flat (set blocks b x) c) cs ≡ map (λ c. flat blocks c) cs = flats-set _ b x cs (omega arith) in
    cc

pub length-flat : (blocks : List (List ℕ)) (c : List ℕ) → ((b : ℕ) → 0 < times b c → length (get_or blocks b []) ≡ 512) → length (flat blocks c) ≡ 512 * length c
length-flat blocks [] h = refl
length-flat blocks (b ∷ c) h = omega (
  arith,
  length-append (get_or blocks b []) (flat blocks c),
  h b (omega (arith, times_here b c)),
  length-flat blocks c (λ j m. h j (omega (arith, times_skip j b c))),
)

-- a chain in two parts at a place
pub split_at : (xs : List ℕ) (q i : ℕ) → slice_get xs q ≡ Some i → (a : List ℕ) × (b : List ℕ) × (xs ≡ a ++ i ∷ b) × (length a ≡ q)
split_at [] q i e = cc
split_at (x ∷ xs) zero i e = ([], xs, ap (λ y. y ∷ xs) (same_Some x i e), refl)
split_at (x ∷ xs) (suc q) i e = let p = split_at xs q i e in (x ∷ p.0, p.1, ap (λ ys. x ∷ ys) p.2, ap suc p.3)

-- bytes laid over a block of a chain
pub flat-laid_over : (blocks : List (List ℕ)) (a b : List ℕ) (i o n : ℕ) (xs : List ℕ) → times i a ≡ 0 → times i b ≡ 0 → i < length blocks
    → o + length xs ≤ length (get_or blocks i []) → n ≡ length (flat blocks a) + o
    → flat (set blocks i (laid_over o xs (get_or blocks i []))) (a ++ i ∷ b) ≡ laid_over n xs (flat blocks (a ++ i ∷ b))
flat-laid_over blocks a b i o n xs before behind within fits at =
    let x = laid_over o xs (get_or blocks i []) in
    flat-append _ a _ ∙ ap (λ t. t ++ (get_or (set blocks i x) i [] ++ flat (set blocks i x) b)) (flat-set _ i x a before)
    ∙ ap (λ t. flat blocks a ++ (t ++ flat (set blocks i x) b)) (get_or-set_same blocks i x [] within)
    ∙ ap (λ t. flat blocks a ++ (x ++ t)) (flat-set _ i x b behind) ∙ sym (ap (laid_over n xs) (flat-append _ a _) ∙ laid_over-right o n xs _ _ at
    ∙ ap (λ t. flat blocks a ++ t) (laid_over-left o xs _ _ fits))

-- What becomes of chains and their bytes as blocks come, go and change.
pub flats-at : (blocks : List (List ℕ)) (cs : List (List ℕ)) (k : ℕ) → get_or (flats blocks cs) k [] ≡ flat blocks (get_or cs k [])
flats-at blocks [] k = refl
flats-at blocks (c ∷ cs) zero = refl
flats-at blocks (c ∷ cs) (suc k) = flats-at _ cs k

pub flats-length : (blocks : List (List ℕ)) (cs : List (List ℕ)) → length (flats blocks cs) ≡ length cs
flats-length blocks [] = refl
flats-length blocks (c ∷ cs) = ap suc (flats-length _ cs)

-- one chain of other bytes, and the others as they were
flats-one : (blocks : List (List ℕ)) (b : ℕ) (x c ws : List ℕ) (cs : List (List ℕ)) (k : ℕ) → k < length cs → total (times b) (set cs k []) ≡ 0
    → flat (set blocks b x) c ≡ ws → flats (set blocks b x) (set cs k c) ≡ set (flats blocks cs) k ws
flats-one blocks b x c ws [] k l none is = absurd (omega arith)
flats-one blocks b x c ws (d ∷ cs) zero l none is =
    let rest : flats (set blocks b x) cs ≡ flats blocks cs = flats-set _ b x cs (omega (arith, none)) in
    cc
flats-one blocks b x c ws (d ∷ cs) (suc k) l none is =
    let here : flat (set blocks b x) d ≡ flat blocks d = flat-set _ b x d (omega arith) in
    let rest : flats (set blocks b x) (set cs k c) ≡ set (flats blocks cs) k ws = flats-one _ b x c ws cs k (omega arith) (omega arith) is in
    cc

-- how often an index stands in the other chains
beside : (i : ℕ) (cs : List (List ℕ)) (k : ℕ) → k < length cs → total (times i) (set cs k []) + times i (get_or cs k []) ≡ total (times i) cs
beside i [] k l = absurd (omega arith)
beside i (c ∷ cs) zero l = omega arith
beside i (c ∷ cs) (suc k) l = omega (arith, beside i cs k (omega arith))

-- a free block at the end of a chain
pub added : (blocks : List (List ℕ)) (v : Chains) (f b : ℕ) (rest z : List ℕ) → IsPool v → v.free ≡ b ∷ rest → f < length v.chains → b < length blocks
    → flats (set blocks b z) (pushed_back f v).chains ≡ set (flats blocks v.chains) f (get_or (flats blocks v.chains) f [] ++ z)
added blocks v f b rest z law free l within =
    let once : total (times b) v.chains ≡ 0 = omega (arith, at_most_once v b law, ap (times b) free, times_here b rest) in
    let chain = chain_of f v in
    let bytes =
    flat-append (set blocks b z) chain (b ∷ [])
    ∙ ap (λ t. t ++ (get_or (set blocks b z) b [] ++ [])) (flat-set blocks b z _ (omega (arith, once, beside b v.chains f l)) ∙ sym (flats-at blocks _ f))
    ∙ ap (λ t. get_or (flats blocks v.chains) f [] ++ t) (append-nil _ ∙ get_or-set_same blocks b z [] within) in
    ap (λ zs. flats (set blocks b z) (back_moved f zs v.chains).chains) free ∙ flats-one _ b z _ _ _ f l (omega (arith, once, beside b v.chains f l)) bytes

-- no block in any chain
pub flats-none : (blocks : List (List ℕ)) (n : ℕ) → flats blocks (replicate n []) ≡ replicate n []
flats-none blocks zero = refl
flats-none blocks (suc n) = ap (λ ws. [] ∷ ws) (flats-none _ n)

-- the first one of a list, and what stands behind it
pub first_parts : (xs : List ℕ) (i : ℕ) → slice_get xs 0 ≡ Some i → (rest : List ℕ) × (xs ≡ i ∷ rest)
first_parts [] i e = cc
first_parts (x ∷ xs) i e = (xs, ap (λ y. y ∷ xs) (same_Some x i e))

-- a list with no last one is empty
not_none : (x : ℕ) (xs : List ℕ) → last_or (Some x) xs ≡ None → ⊥
not_none x [] e = cc
not_none x (y ∷ xs) e = not_none y xs e

last_some : (xs : List ℕ) (i : ℕ) → last_or None xs ≡ Some i → 0 < length xs
last_some [] i e = cc
last_some (x ∷ xs) i e = omega arith

-- the last index of a list, and what stands before it
last_parts : (xs : List ℕ) (p : Option ℕ) (i : ℕ) → last_or p xs ≡ Some i → 0 < length xs → (a : List ℕ) × (xs ≡ a ++ i ∷ [])
last_parts [] p i e some = absurd (omega arith)
last_parts (x ∷ []) p i e some = ([], ap (λ y. y ∷ []) (same_Some x i e))
last_parts (x ∷ (y ∷ xs)) p i e some = let q = last_parts _ (Some x) i e (omega arith) in (x ∷ q.0, ap (λ ys. x ∷ ys) q.1)

pub none_last : (xs : List ℕ) → last_or None xs ≡ None → xs ≡ []
none_last [] e = refl
none_last (x ∷ xs) e = absurd (not_none x xs e)

-- the last one stands in the list
pub last_held : (xs : List ℕ) (i : ℕ) → last_or None xs ≡ Some i → Contains xs i
last_held xs i e =
    let p = last_parts xs _ i e (last_some xs i e) in
    subst (λ ys. Contains ys i) (sym p.1) (length p.0, omega (arith, length-append p.0 (i ∷ [])), get_or_at p.0 i [] i _ refl)

-- a list without its last one, which stands there once
without-last : (a : List ℕ) (i : ℕ) → times i a ≡ 0 → without i (a ++ i ∷ []) ≡ a
without-last [] i none = grind (arith, nat_tests)
without-last (x ∷ a) i none =
    let rest = without-last a i (omega (arith, times_skip i x a)) in
    grind (arith, nat_tests)

-- the last block of a chain given back
pub dropped : (blocks : List (List ℕ)) (v : Chains) (f b : ℕ) → IsPool v → f < length v.chains → last_or None (chain_of f v) ≡ Some b → length (get_or blocks b []) ≡ 512
    → flats blocks (removed f b v).chains ≡ set (flats blocks v.chains) f (take (length (get_or (flats blocks v.chains) f []) - 512) (get_or (flats blocks v.chains) f []))
dropped blocks v f b law l last sized =
    let p = last_parts _ _ b last (last_some _ b last) in
    let w = get_or _ f [] in
    let row = get_or blocks b [] in
    let whole = flats-at _ _ f ∙ ap (flat blocks) p.1 ∙ flat-append blocks p.0 (b ∷ []) ∙ ap (λ t. flat blocks p.0 ++ t) (append-nil row) in
    let front : length w - 512 ≡ length (flat blocks p.0) = omega (arith, ap length whole, length-append (flat blocks p.0) row, sized) in
    let bytes =
    ap (flat blocks) (ap (without b) p.1 ∙ without-last _ b (omega (arith, at_most_once v b law, part-le-total (times b) v.chains f l, ap (times b) p.1, times-append b p.0 (b ∷ []), times_here b [])))
    ∙ sym (ap (λ n. take n w) front ∙ ap (take _) whole ∙ take_at _ row _ refl) in
    map-set _ v.chains f _ ∙ ap (set _ f) bytes

-- an index in a part of a chain is one of the pool
pub below_part : (v : Chains) (f j : ℕ) (a b : List ℕ) → IsPool v → f < length v.chains → chain_of f v ≡ a ++ b → 0 < times j a → j < pool v
below_part v f j a b law l is some =
    let once = law.once j in
    let here : 0 < total (times j) (lists v) = omega (arith, part-le-total (times j) v.chains f l, ap (times j) is, times-append j a b) in
    grind (arith, nat_tests)

-- and so is the last one of a chain
pub last_below : (v : Chains) (f b : ℕ) → IsPool v → f < length v.chains → last_or None (chain_of f v) ≡ Some b → b < pool v
last_below v f b law l last =
    let p = last_parts (chain_of f v) None b last (last_some (chain_of f v) b last) in
    below_part v f b (chain_of f v) [] law l (sym (append-nil (chain_of f v))) (omega (arith, ap (times b) p.1, times-append b p.0 (b ∷ []), times_here b []))

-- bytes laid over a block of a chain
pub laid : (blocks : List (List ℕ)) (v : Chains) (f b place : ℕ) (xs : List ℕ) → IsPool v → length blocks ≡ pool v
    → ((j : ℕ) → j < length blocks → length (get_or blocks j []) ≡ 512) → f < length v.chains → slice_get (chain_of f v) (place / 512) ≡ Some b
    → place % 512 + length xs ≤ 512
    → flats (set blocks b (laid_over (place % 512) xs (get_or blocks b []))) v.chains ≡ set (flats blocks v.chains) f (laid_over place xs (get_or (flats blocks v.chains) f []))
laid blocks v f b place xs law each sized l at fits =
    let p = split_at _ _ b at in
    let within : b < length blocks = omega (arith, each, held_below v f (place / 512) b law at) in
    let some = ap (times b) p.2 ∙ times-append b _ _ ∙ ap (λ n. times b p.0 + n) (times_here b _) in
    let most : times b (chain_of f v) + total (times b) (set v.chains f []) ≤ 1 = omega (arith, at_most_once v b law, beside b v.chains f l) in
    let x = laid_over (place % 512) xs (get_or blocks b []) in
    let bytes =
    ap (λ c. flat (set blocks b x) c) p.2
    ∙ flat-laid_over _ _ _ b _ _ xs (omega (arith, some, most)) (omega (arith, some, most)) within (omega (arith, sized b within)) (omega (
      arith,
      length-flat _ _ (λ j m. sized j (omega (arith, each, below_part v f j p.0 (b ∷ p.1) law l p.2 m))) ∙ ap (λ n. 512 * n) p.3,
    ))
    ∙ ap (λ c. laid_over place xs (flat blocks c)) (sym p.2) ∙ ap (laid_over place xs) (sym (flats-at _ _ f)) in
    ap (λ cs. flats (set blocks b x) cs) (sym (set-get_or v.chains f [])) ∙ flats-one _ b x _ _ _ f l (omega (arith, some, most)) bytes

-- Bytes of a file, block after block.

-- where a piece ends before all bytes, it ends with its block
pub next_block : (place done size n : ℕ) → size ≡ min (512 - (place + done) % 512) (n - done) → done + size < n → (place + (done + size)) / 512 ≡ (place + done) / 512 + 1
next_block place done size n is less = omega (arith, is, less)

-- a piece more at the front of a list, where the first ones stand already
pub filled_step : (out old ws piece : List ℕ) (done size k : ℕ) → out ≡ take done ws ++ drop done old → k ≡ size → done + size ≤ length ws
    → take done ws ++ piece ≡ take (done + size) ws → take done out ++ (piece ++ drop k (drop done out)) ≡ take (done + size) ws ++ drop (done + size) old
filled_step out old ws piece done size k is same there step =
    let front = length-take-le done ws (omega (arith, there)) in
    ap (λ t. t ++ (piece ++ drop k (drop done out))) (ap (take _) is ∙ take_at _ _ done front)
    ∙ ap (λ t. take done ws ++ (piece ++ drop k t)) (ap (drop done) is ∙ drop_at _ _ done front)
    ∙ ap (λ n. take done ws ++ (piece ++ drop n (drop done old))) same ∙ ap (λ t. take done ws ++ (piece ++ t)) (drop-drop size done old)
    ∙ sym (append_assoc _ piece _) ∙ ap (λ t. t ++ drop (done + size) old) step

pub length-filled : (n : ℕ) (ws old : List ℕ) → n ≤ length ws → n ≤ length old → length (take n ws ++ drop n old) ≡ length old
length-filled n ws old there less = omega (arith, length-append (take n ws) (drop n old), length-take n ws, length-drop n old)

-- the rest of a list past the end of it
pub none_after : {A : Type 0} (xs : List A) (n : ℕ) → slice_get xs n ≡ None → slice_get xs (n + 1) ≡ None
none_after [] n e = refl
none_after (x ∷ xs) zero e = absurd (cc e)
none_after (x ∷ xs) (suc n) e = ap (slice_get (x ∷ xs)) (let e : suc n + 1 ≡ suc (n + 1) = omega arith in e) ∙ none_after xs n e

-- the last of a list stands at its last place
pub last_at : (xs : List ℕ) → 0 < length xs → last_or None xs ≡ slice_get xs (length xs - 1)
last_at [] some = absurd (omega (arith, some))
last_at (x ∷ []) some = refl
last_at (x ∷ y ∷ xs) some =
    let place : length (x ∷ y ∷ xs) - 1 ≡ suc (length (y ∷ xs) - 1) = omega arith in
    last_at (y ∷ xs) (omega arith) ∙ ap (slice_get (x ∷ y ∷ xs)) (sym place)

-- what stands before a place counted from the end
pub before_at : (xs : List ℕ) (n : ℕ) → n + 1 < length xs → before xs (length xs - 1 - n) ≡ slice_get xs (length xs - 1 - (n + 1))
before_at xs n more = ap (before xs) (let e : length xs - 1 - n ≡ suc (length xs - 1 - (n + 1)) = omega (arith, more) in e)

-- a place of a list isn't empty
pub none_there : (xs : List ℕ) (n : ℕ) → n < length xs → slice_get xs n ≡ None → ⊥
none_there xs n there none =
    let some = slice_get-get_or xs n 0 there in
    cc

-- another block of that size
pub rows_set : (v : Chains) (ds : List (List ℕ)) → AreRows v ds → (b : ℕ) (x : List ℕ) → length x ≡ 512 → AreRows v (set ds b x)
rows_set v ds rows b x long = record {
  law = rows.law;
  each = length-set ds b x ∙ rows.each;
  sized = λ j below. elim (cases_eq j b) [
    | inl e ↦ ap (λ n. length (get_or (set ds b x) n [])) e ∙ ap length (get_or-set_same ds b x [] (omega (arith, below, e, length-set ds b x))) ∙ long
    | inr ne ↦ ap length (get_or-set_other ds b j x [] ne) ∙ rows.sized j (omega (arith, below, length-set ds b x))
  ];
}

module _ (v : Chains) (ds : List (List ℕ)) (rows : AreRows v ds) (f : ℕ) (low : f < length v.chains) where
  -- blocks of a part of a chain
  part_long : (a c : List ℕ) → chain_of f v ≡ a ++ c → length (flat ds a) ≡ 512 * length a
  part_long a c is = length-flat ds a (λ j some. rows.sized j (omega (arith, rows.each, below_part v f j a c rows.law low is some)))

  chain_long : length (flat ds (chain_of f v)) ≡ 512 * length (chain_of f v)
  chain_long = part_long _ [] (sym (append-nil _))

  -- as many blocks as their bytes fill
  pub chain_held : (n : ℕ) → length (flat ds (chain_of f v)) ≡ 512 * n → length (chain_of f v) ≡ n
  chain_held n long = omega (arith, chain_long, long)

  -- they are far fewer than a word counts
  pub few_bytes : length (flat ds (chain_of f v)) < 2 ^ 64
  few_bytes = omega (arith, chain_long, rows.law.few, part-le-total length v.chains f low)

  -- a byte that is there lies in a block
  pub block_there : (n : ℕ) → n < length (flat ds (chain_of f v)) → slice_get (chain_of f v) (n / 512) ≡ None → ⊥
  block_there n there none = none_there (chain_of f v) (n / 512) (omega (arith, there, chain_long)) none

  pub block_below : (q b : ℕ) → slice_get (chain_of f v) q ≡ Some b → b < length ds
  block_below q b at = omega (arith, rows.each, held_below v f q b rows.law at)

  pub block_sized : (q b : ℕ) → slice_get (chain_of f v) q ≡ Some b → length (get_or ds b []) ≡ 512
  block_sized q b at = rows.sized b (block_below q b at)

  -- bytes that lie in one block
  piece_is : (q b start size n : ℕ) → slice_get (chain_of f v) q ≡ Some b → start + size ≤ 512 → n ≡ 512 * q + start
      → take size (drop n (flat ds (chain_of f v))) ≡ take size (drop start (get_or ds b []))
  piece_is q b start size n at fits is =
      let p = split_at _ q b at in
      let row = get_or ds b [] in
      let long = block_sized q b at in
      let place : n ≡ length (flat ds p.0) + start = omega (arith, is, part_long _ _ p.2 ∙ ap (λ m. 512 * m) p.3) in
      ap (λ c. take size (drop n (flat ds c))) p.2 ∙ ap (λ w. take size (drop n w)) (flat-append ds p.0 (b ∷ p.1))
      ∙ ap (λ m. take size (drop m (flat ds p.0 ++ (row ++ flat ds p.1)))) place
      ∙ ap (take _) (drop-append-add (flat ds p.0) _ start ∙ drop-append-le start row (flat ds p.1) (omega (arith, long, fits)))
      ∙ take-append-le size _ _ (omega (arith, length-drop start row, long, fits))

  -- one block more laid over
  pub laid_step : (bs : List (List ℕ)) (place done size : ℕ) (bytes : List ℕ) (b : ℕ)
      → flats ds v.chains ≡ laid_in f place (take done bytes) (flats bs v.chains)
      → place + length bytes ≤ length (flat bs (chain_of f v)) → done + size ≤ length bytes
      → slice_get (chain_of f v) ((place + done) / 512) ≡ Some b → (place + done) % 512 + size ≤ 512
      → flats (set ds b (laid_over ((place + done) % 512) (take size (drop done bytes)) (get_or ds b []))) v.chains ≡ laid_in f place (take (done + size) bytes) (flats bs v.chains)
  laid_step bs place done size bytes b so within less at fits =
      let ws = flats bs v.chains in
      let w = get_or ws f [] in
      let xs = take _ _ in
      let ys = take _ _ in
      let here : f < length ws = omega (arith, flats-length bs v.chains, low) in
      let whole : length w ≡ length (flat bs (chain_of f v)) = ap length (flats-at bs _ f) in
      let count : length xs ≡ size = length-take-le size _ (omega (arith, length-drop done bytes, less)) in
      let before : length ys ≡ done = length-take-le done bytes (omega (arith, less)) in
      laid ds v f b _ xs rows.law rows.each rows.sized low at (omega (arith, count, fits)) ∙ ap (λ us. laid_in f (place + done) xs us) so
      ∙ ap (λ t. set (set ws f (laid_over place ys w)) f (laid_over (place + done) xs t)) (get_or-set_same ws f _ [] here)
      ∙ set-set ws f (laid_over place ys w) _ ∙ ap (λ m. set ws f (laid_over (place + m) xs (laid_over place ys w))) (sym before)
      ∙ ap (λ t. set ws f t) (laid_over_twice place ys xs w (omega (arith, whole, within)) ∙ ap (λ t. laid_over place t w) (sym (take-add done size bytes)))

  -- one block more copied
  pub fetched_step : (place done size b : ℕ) → slice_get (chain_of f v) ((place + done) / 512) ≡ Some b → (place + done) % 512 + size ≤ 512
      → take done (drop place (flat ds (chain_of f v))) ++ take size (drop ((place + done) % 512) (get_or ds b [])) ≡ take (done + size) (drop place (flat ds (chain_of f v)))
  fetched_step place done size b at fits =
      let w = flat ds (chain_of f v) in
      let n : place + done ≡ 512 * ((place + done) / 512) + (place + done) % 512 = omega arith in
      ap (λ t. take done (drop place w) ++ t) (sym (ap (take _) (drop-drop done place w) ∙ piece_is _ b _ _ _ at fits n)) ∙ sym (take-add done size _)

-- A block put at the end of a chain, and one given back.

-- the bytes and the number of free blocks of chains
held_is : (v : Chains) (blocks wholes : List (List ℕ)) (free : ℕ) → flats blocks v.chains ≡ wholes → length v.free ≡ free → held_in v blocks ≡ record { wholes = wholes; free = free }
held_is v blocks wholes free bytes count = ap (λ ws. record { wholes = ws; free = length v.free }) bytes ∙ ap (λ n. record { wholes = wholes; free = n }) count

pushed_free : (f : ℕ) (v : Chains) (b : ℕ) (rest : List ℕ) → v.free ≡ b ∷ rest → length (pushed_back f v).free ≡ length v.free - 1
pushed_free f v b rest is = ap (λ xs. length (back_moved f xs v.chains).free) is ∙ (omega (arith, ap length is))

module _ (v : Chains) (blocks : List (List ℕ)) (rows : AreRows v blocks) (w : Wholes) (is : held_in v blocks ≡ w) (f : ℕ) (file : f < length w.wholes) where
  chain_there : f < length v.chains
  chain_there = omega (arith, file, ap (λ (x : Wholes). length x.wholes) is, flats-length blocks v.chains)

  -- a chain has as many blocks as its bytes fill
  pub held_of : (n : ℕ) → length (whole_of f w) ≡ 512 * n → length (chain_of f v) ≡ n
  held_of n long = chain_held v _ rows f chain_there n (ap length (sym (flats-at _ _ f)) ∙ ap (λ x. length (whole_of f x)) is ∙ long)

  pub free_within : (b : ℕ) → slice_get v.free 0 ≡ Some b → b < length blocks
  free_within b first = omega (arith, rows.each, free_below v 0 b rows.law first)

  -- a free block, of zeros, at the end of a chain
  pub pushed_rows : (u : Chains) (b : ℕ) (row : List ℕ) → IsPool u → u ≡ pushed_back f v → row ≡ replicate 512 0 → AreRows u (set blocks b row)
  pushed_rows u b row law is_u zeros =
      rows_set u _ (record { law = law; each = rows.each ∙ sym (ap pool is_u ∙ pool-pushed_back f v chain_there); sized = rows.sized }) b _ (ap length zeros ∙ length-replicate {A = ℕ} 512 0)

  pub pushed_shows : (u : Chains) (b : ℕ) (row : List ℕ) → slice_get v.free 0 ≡ Some b → u ≡ pushed_back f v → row ≡ replicate 512 0 → held_in u (set blocks b row) ≡ blocks_added 1 f w
  pushed_shows u b row first is_u zeros =
      let p = first_parts _ b first in
      ap (λ x. held_in x (set blocks b row)) is_u ∙ ap (λ z. held_in (pushed_back f v) (set blocks b z)) zeros ∙ held_is _ _ _ _
      (added _ v f b _ _ rows.law p.1 chain_there (free_within b first)) (pushed_free f v b _ p.1) ∙ ap (blocks_added 1 f) is

  -- the last block of a chain given back
  pub popped_rows : (u : Chains) (b : ℕ) → last_or None (chain_of f v) ≡ Some b → IsPool u → u ≡ removed f b v → AreRows u blocks
  popped_rows u b last law is_u = record { law = law; each = rows.each ∙ sym (ap pool is_u ∙ pool-removed f b v chain_there (last_held _ b last)); sized = rows.sized }

  pub popped_shows : (u : Chains) (b : ℕ) → last_or None (chain_of f v) ≡ Some b → u ≡ removed f b v → held_in u blocks ≡ blocks_dropped 1 f w
  popped_shows u b last is_u =
      let one : suc (length v.free) ≡ length v.free + 1 = omega arith in
      ap (λ x. held_in x blocks) is_u
      ∙ held_is (removed f b v) _ _ _ (dropped _ v f b rows.law chain_there last (rows.sized b (omega (arith, rows.each, last_below v f b rows.law chain_there last)))) one
      ∙ ap (blocks_dropped 1 f) is

  pub some_last : 0 < length (whole_of f w) → last_or None (chain_of f v) ≡ None → ⊥
  some_last some none =
      absurd (omega (arith, some, ap length (sym (sym (flats-at _ _ f) ∙ ap (whole_of f) is) ∙ ap (flat blocks) (none_last (chain_of f v) none))))
