-- How a new pool is made.
use Rattle.std.proofs.Common.{◌≡◌, ℕ, zero, suc, ◌+◌, ◌<◌, ◌≤◌, ◌^◌, cond, List, [], ◌∷◌, ◌++◌, length, replicate, None, refl, sym, ap, ◌∙◌, subst, arith, inl, inr, append-nil, nat_lt}
use Rattle.std.{specs.List.range_with_len, proofs.lemmas.{Bool.{cases_lt, Decides.nat_tests}, List.{map-id, FromFn.{map-range_with_len_more, length-range_with_len}}}}
use Rattle.ix_links.specs.{declared.{link.{Link.Link, Ends.Ends}, links.Links.TheInside.Inside}, Chains.{lists, times, total, all_free}}
use Rattle.ix_links.{specs.{Linking.{Within, inserted_items, inserted_ends}, Standing.{IsChain, AreChains, Hold}}, proofs.{Listing.{shows, sound}, Calls.{linked, Leaves, Within_from}}}
use Rattle.ix_links.proofs.Running.{Once, times-append, times_here, times_other, link_between, chain-inserted, length-inserted, last-among}

times-below : (a n j : ℕ) → j < a → times j (range_with_len a n) ≡ 0
times-below a zero j h = refl
times-below a (suc n) j h = times_other j a (range_with_len _ n) (λ e. absurd (omega arith)) ∙ times-below (a + 1) n j (omega arith)

times-past : (a n j : ℕ) → a + n ≤ j → times j (range_with_len a n) ≡ 0
times-past a zero j h = refl
times-past a (suc n) j h = times_other j a (range_with_len _ n) (λ e. absurd (omega arith)) ∙ times-past (a + 1) n j (omega arith)

times-within : (a n j : ℕ) → a ≤ j → j < a + n → times j (range_with_len a n) ≡ 1
times-within a zero j h l = absurd (omega arith)
times-within a (suc n) j h l = elim (cases_lt a j) [
  | inl less ↦ times_other j a (range_with_len _ n) (λ e. absurd (omega arith)) ∙ times-within (a + 1) n j (omega arith) (omega arith)
  | inr not ↦
      let same : a ≡ j = omega arith in
      subst (λ x. times x (a ∷ range_with_len (a + 1) n) ≡ 1) same (omega (arith, times_here a (range_with_len (a + 1) n), times-below (a + 1) n a (omega arith)))
]

pub times-range : (n j : ℕ) → times j (range_with_len 0 n) ≡ cond (nat_lt j n) 1 0
times-range n j = elim (cases_lt j n) [
  | inl low ↦ let e = times-within 0 n j (omega arith) (omega arith) in grind (arith, nat_tests)
  | inr past ↦ let e = times-past 0 n j (omega arith) in grind (arith, nat_tests)
]

once-range : (n : ℕ) → Once (range_with_len 0 n)
once-range n j = let e = times-range n j in grind (arith, nat_tests)

range_more : (n : ℕ) → range_with_len 0 (n + 1) ≡ range_with_len 0 n ++ n ∷ []
range_more n = sym (map-id _) ∙ map-range_with_len_more (λ x. x) 0 n n (omega arith) ∙ ap (λ xs. xs ++ n ∷ []) (map-id _)

-- the next index goes behind the last
pub last_of_range : (items us : List Link) (e : Ends) (n : ℕ) → IsChain items e (range_with_len 0 n) → n < length us → Within us e.last
last_of_range items us e n h l = Within_from us e.last (λ j is. let among = last-among (range_with_len 0 n) j (sym h.last ∙ is) in let e = times-range n j in grind (arith, nat_tests))

pub one_more : (items us : List Link) (e e' : Ends) (n : ℕ) → IsChain items e (range_with_len 0 n) → n < length items
    → us ≡ inserted_items items n (linked e.last None) → e' ≡ inserted_ends e n (linked e.last None)
    → (length us ≡ length items) × IsChain us e' (range_with_len 0 (n + 1))
one_more items us e e' n h l inserted ends =
    let xs = range_with_len 0 n in
    let link = ap (λ q. linked q None) h.last in
    let none = times-past 0 n n (omega arith) in
    let made =
    chain-inserted _ e n xs [] (subst (λ zs. IsChain items e zs) (sym (append-nil xs)) h) (λ j. omega (arith, once-range n j, times-append j xs []))
    none refl l in
    let one =
    subst (λ zs. IsChain zs (inserted_ends e n (link_between xs [])) (xs ++ n ∷ [])) (sym (inserted ∙ ap (λ m. inserted_items items n m) link)) made in
    let two = subst (λ d. IsChain us d (xs ++ n ∷ [])) (sym (ends ∙ ap (λ m. inserted_ends e n m) link)) one in
    (ap length inserted ∙ length-inserted _ n (linked e.last None), subst (λ zs. IsChain us e' zs) (sym (range_more n)) two)

empty_chains : (items : List Link) (e : Ends) (m : ℕ) → e.first ≡ None → e.last ≡ None → AreChains items (replicate m e) (replicate m [])
empty_chains items e zero first last = tt
empty_chains items e (suc m) first last = (record { runs = tt; first = first; last = last }, empty_chains _ e m first last)

pub total-empty : (f : List ℕ → ℕ) (m : ℕ) → f [] ≡ 0 → total f (replicate m []) ≡ 0
total-empty f zero h = refl
total-empty f (suc m) h = omega (arith, h, total-empty f m h)

pub new_pool : (s : Inside) (e : Ends) (n m : ℕ) (ws : List Link) → n < 2 ^ 32 → s.items.items ≡ ws → length ws ≡ n → IsChain ws s.unused (range_with_len 0 n)
    → s.chains.items ≡ replicate m e → e.first ≡ None → e.last ≡ None → s.free ≡ n → Leaves s (all_free n m)
new_pool s e n m ws few is len chain ends first last free =
    let hold : Hold ws (s.unused ∷ replicate m e) (range_with_len 0 n ∷ replicate m []) = record {
      chains = (chain, empty_chains ws e m first last);
      once = λ j. (let sum : total (times j) (range_with_len 0 n ∷ replicate m []) ≡ times j (range_with_len 0 n) =
          omega (arith, total-empty (times j) m refl) in sum ∙ times-range n j ∙ ap (λ z. cond (nat_lt j z) 1 0) (sym len));
      all = omega (arith, total-empty length m refl, length-range_with_len 0 n);
    } in
    let one = subst (λ zs. Hold zs (s.unused ∷ replicate m e) (lists (all_free n m))) (sym is) hold in
    let two = subst (λ es. Hold s.items.items (s.unused ∷ es) (lists (all_free n m))) (sym ends) one in
    record {
      shown = shows s _ two;
      whole = sound s (all_free n m) two (free ∙ sym (length-range_with_len 0 n)) (omega (arith, ap length is));
    }
