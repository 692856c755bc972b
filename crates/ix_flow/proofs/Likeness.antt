-- What a side stands for after it was changed, number by number.
use Rattle.std.proofs.Common.{◌≡◌, ◌≤◌, ◌<◌, ◌+◌, ◌-◌, nat_le, max, ℕ, zero, suc, Bool, true, false, List, ◌++◌, length, take, drop, replicate, if◌then◌else◌, refl, sym, ap, ◌∙◌, subst}
use Rattle.std.proofs.{Common.{arith, get_or, ◌⊎◌, inl, inr, length-append, append-nil, true≢false}, Math.ListN.get_or-append, lemmas.Bool.{le-leb, leb-false, leb-true, lt-leb}}
use Rattle.std.proofs.lemmas.List.{append_assoc, get_or-append_right, get_or-drop, get_or-replicate, get_or-take, length-drop, length-replicate, length-take}
use Rattle.ix_model.specs.world.Contents.{written_over}
use Rattle.ix_flow.specs.{Origins.{Origin, Written, Gap}, Sides.{IsLike, numbered, origin_at, source_in, start_of, ComesOf, StandsIn}, declared.{side.Side.Side, source.Source.Source}}
use Rattle.ix_flow.specs.declared.source.Source.TheVariants as source
use Rattle.ix_flow.specs.Sides as come

-- ---- numbered origins
pub length-numbered : (origin : ℕ → Origin) (k n : ℕ) → length (numbered origin k n) ≡ n
unfolding numbered
length-numbered origin k zero = refl
length-numbered origin k (suc n) = ap suc (length-numbered _ _ n)

pub get_or-numbered : (origin : ℕ → Origin) (k n i : ℕ) (d : Origin) → i < n → get_or (numbered origin k n) i d ≡ origin (k + i)
unfolding numbered
get_or-numbered origin k zero i d low = absurd (omega (arith, low))
get_or-numbered origin k (suc n) zero d low = ap origin (omega arith)
get_or-numbered origin k (suc n) (suc i) d low = get_or-numbered _ _ n i d (omega (arith, low)) ∙ ap origin (omega arith)

-- ---- a list written over
module _ (from : ℕ) (new old : List Origin) (some : 0 < length new) where
  abbrev front : List Origin
  front = take from old ++ replicate (from - length old) Gap

  abbrev back : List Origin
  back = new ++ drop (from + length new) old

  over_is : written_over Gap from new old ≡ front ++ back
  over_is = go _ (lt-leb _ 0 some) ∙ sym (append_assoc _ _ back)
    where
      go : (b : Bool) → b ≡ false → (if b then old else take from old ++ (replicate (from - length old) Gap ++ (new ++ drop (from + length new) old))) ≡ take from old ++
          (replicate (from - length old) Gap ++ (new ++ drop (from + length new) old))
      go true h = absurd (true≢false h)
      go false h = refl

  front_long : length front ≡ from
  front_long = let b = length-take from old in let c = length-replicate (from - length old) Gap in omega (arith, length-append (take from old) (replicate (from - length old) Gap), b, c)

  pub over_long : length (written_over Gap from new old) ≡ max (length old) (from + length new)
  over_long = ap length over_is ∙ (let b = length-append new (drop (from + length new) old) in let c = length-drop (from + length new) old in omega
      (arith, length-append front back, b, c, front_long))

  pub over_before : (i : ℕ) → i < from → i < length old → get_or (written_over Gap from new old) i Gap ≡ get_or old i Gap
  over_before i low inside =
      ap (λ xs. get_or xs i Gap) over_is ∙ get_or-append front back Gap i (omega (arith, front_long, low))
      ∙ get_or-append _ _ Gap i (omega (arith, length-take from old, low, inside)) ∙ get_or-take from old i Gap low

  pub over_gap : (i : ℕ) → i < from → length old ≤ i → get_or (written_over Gap from new old) i Gap ≡ Gap
  over_gap i low past =
      ap (λ xs. get_or xs i Gap) over_is ∙ get_or-append front back Gap i (omega (arith, front_long, low))
      ∙ get_or-append_right _ _ _ i Gap (omega (arith, length-take from old, low, past)) past
      ∙ get_or-replicate (from - length old) _ Gap Gap (omega (arith, low, past))

  pub over_there : (i : ℕ) → from ≤ i → i < from + length new → get_or (written_over Gap from new old) i Gap ≡ get_or new (i - from) Gap
  over_there i low high =
      ap (λ xs. get_or xs i Gap) over_is ∙ get_or-append_right front back from i Gap front_long low
      ∙ get_or-append new _ Gap _ (omega (arith, low, high))

  pub over_behind : (i : ℕ) → from + length new ≤ i → get_or (written_over Gap from new old) i Gap ≡ get_or old i Gap
  over_behind i past =
      ap (λ xs. get_or xs i Gap) over_is ∙ get_or-append_right front back from i Gap front_long (omega (arith, past))
      ∙ get_or-append_right new _ _ _ Gap refl (omega (arith, past))
      ∙ get_or-drop _ old _ Gap ∙ ap (λ n. get_or old n Gap) (omega (arith, past))

-- at or below, or above
pub side_of : (a b : ℕ) → (a ≤ b) ⊎ (b < a)
side_of a b = go _ refl
  where
    go : (x : Bool) → nat_le a b ≡ x → (a ≤ b) ⊎ (b < a)
    go true is = inl (leb-true a b is)
    go false is = inr (leb-false a b is)

-- a source that is another has begun where that has
begun_too : (a b : Source) (n : ℕ) → a ≡ b → start_of b ≤ n → start_of a ≤ n
begun_too a b n is begun = subst (λ x. start_of x ≤ n) (sym is) begun

-- ---- a write
module _ (s m t : Side) (from count place label : ℕ) (old : List Origin) (first : s.front ≡ 0) (first_now : t.front ≡ 0) (some : 0 < count)
    (kept : (n : ℕ) → n < s.end → source_in m.runs.entries n ≡ source_in s.runs.entries n)
    (hole : (n : ℕ) → s.end ≤ n → n < from → source_in m.runs.entries n ≡ source.Gap)
    (reach : m.end ≡ max s.end from)
    (before : (n : ℕ) → n < from → source_in t.runs.entries n ≡ source_in m.runs.entries n)
    (there : (n : ℕ) → from ≤ n → n < from + count → source_in t.runs.entries n ≡ source.Write place from label)
    (behind : (n : ℕ) → from + count ≤ n → n < m.end → source_in t.runs.entries n ≡ source_in m.runs.entries n)
    (end : t.end ≡ max m.end (from + count)) (like : IsLike s old) where
  abbrev new : List Origin
  new = numbered (Written place) 0 count

  long : length new ≡ count
  long = length-numbered _ 0 _

  any : 0 < length new
  any = omega (arith, some, long)

  was : (n : ℕ) → n < s.end → get_or old n Gap ≡ origin_at (source_in s.runs.entries n) n
  was n low = ap (λ k. get_or old k Gap) (omega (arith, first)) ∙ like.each n (omega (arith, first)) low

  now : (n : ℕ) → n < t.end → get_or (written_over Gap from new old) n Gap ≡ origin_at (source_in t.runs.entries n) n
  now n low = elim (side_of _ n) [
    | inl far ↦ elim (side_of _ n) [
      | inl past ↦
          let inside : n < s.end = omega (arith, past, some, low, end, reach) in
          over_behind from new old any n (omega (arith, past, long)) ∙ was n inside ∙ ap (λ x. origin_at x n) (sym (behind n past (omega (arith, inside, reach)) ∙ kept n inside))
      | inr inside ↦
          over_there from new old any n far (omega (arith, inside, long)) ∙ get_or-numbered (Written place) 0 count (n - from) Gap (omega (arith, far, inside))
          ∙ ap (Written place) (omega arith)
          ∙ ap (λ x. origin_at x n) (sym (there n far inside))
    ]
    | inr near ↦ elim (side_of s.end n) [
      | inl past ↦ over_gap from new old any n near (omega (arith, past, like.long, first)) ∙ ap (λ x. origin_at x n) (sym (before n near ∙ hole n past near))
      | inr inside ↦ over_before from new old any n near (omega (arith, inside, like.long, first)) ∙ was n inside ∙ ap (λ x. origin_at x n) (sym (before n near ∙ kept n inside))
    ]
  ]

  begun : (n : ℕ) → n < t.end → start_of (source_in t.runs.entries n) ≤ n
  begun n low = elim (side_of _ n) [
    | inl far ↦ elim (side_of _ n) [
      | inl past ↦
          let inside : n < s.end = omega (arith, past, some, low, end, reach) in
          begun_too _ _ n (behind n past (omega (arith, inside, reach)) ∙ kept n inside) (like.proper n (omega (arith, first)) inside)
      | inr inside ↦ begun_too _ (source.Write place from label) n (there n far inside) far
    ]
    | inr near ↦ elim (side_of s.end n) [
      | inl past ↦ begun_too _ source.Gap n (before n near ∙ hole n past near) (omega arith)
      | inr inside ↦ begun_too _ _ n (before n near ∙ kept n inside) (like.proper n (omega (arith, first)) inside)
    ]
  ]

  pub written_like : IsLike t (written_over Gap from new old)
  written_like = record {
    long = omega (arith, over_long from new old any, long, first_now, end, reach, like.long, first);
    each = λ n low high. ap (λ k. get_or (written_over Gap from new old) k Gap) (omega (arith, first_now)) ∙ now n high;
    proper = λ n low high. begun n high;
  }

-- no bytes
pub none_written : (s : Side) (from count place : ℕ) (old : List Origin) → count ≡ 0 → IsLike s old → IsLike s (written_over Gap from (numbered (Written place) 0 count) old)
none_written s from count place old none like = subst (IsLike s) (sym (go _
    (le-leb _ 0 (omega (arith, length-numbered (Written place) 0 count, none))))) like
  where
    go : (b : Bool) → b ≡ true → (if b then old else take from old ++ (replicate (from - length old) Gap ++
        (numbered (Written place) 0 count ++ drop (from + length (numbered (Written place) 0 count)) old))) ≡ old
    go true h = refl
    go false h = absurd (true≢false (sym h))

pub some : (n : ℕ) → (n ≡ 0 → ⊥) → 0 < n
some zero none = absurd (none refl)
some (suc n) none = omega arith

-- ---- what is put behind
nothing_behind : (place : ℕ) (old : List Origin) → old ++ numbered (Written place) 0 0 ≡ old
unfolding numbered
nothing_behind place old = append-nil old

pub none_appended : (s : Side) (count place : ℕ) (old : List Origin) → count ≡ 0 → IsLike s old → IsLike s (old ++ numbered (Written place) 0 count)
none_appended s count place old none like = subst (IsLike s) (sym (ap (λ n. old ++ numbered (Written place) 0 n) none ∙ nothing_behind _ _)) like

module _ (s t : Side) (count place label : ℕ) (old : List Origin) (same : t.front ≡ s.front)
    (before : (n : ℕ) → n < s.end → source_in t.runs.entries n ≡ source_in s.runs.entries n)
    (there : (n : ℕ) → s.end ≤ n → n < s.end + count → source_in t.runs.entries n ≡ source.Write place s.end label)
    (end : t.end ≡ max s.end (s.end + count)) (like : IsLike s old) where
  pub appended_like : IsLike t (old ++ numbered (Written place) 0 count)
  appended_like =
      let long = length-numbered (Written place) 0 count in
      record {
        long = omega (arith, length-append old (numbered (Written place) 0 count), long, end, same, like.long);
        each = λ n low high. elim (side_of s.end n) [
          | inl past ↦
              get_or-append_right old (numbered (Written place) 0 count) (length old) (n - t.front) Gap refl (omega (arith, past, same, like.long))
              ∙ get_or-numbered (Written place) 0 count (n - t.front - length old) Gap (omega (arith, past, high, same, end, like.long))
              ∙ ap (Written place) (omega (arith, past, same, like.long))
              ∙ ap (λ x. origin_at x n) (sym (there n past (omega (arith, high, end))))
          | inr inside ↦
              get_or-append old (numbered (Written place) 0 count) Gap (n - t.front) (omega (arith, inside, low, same, like.long))
              ∙ ap (λ k. get_or old (n - k) Gap) same
              ∙ like.each n (omega (arith, low, same)) inside
              ∙ ap (λ x. origin_at x n) (sym (before n inside))
        ];
        proper = λ n low high. elim (side_of s.end n) [
          | inl past ↦ begun_too _ (source.Write place s.end label) n (there n past (omega (arith, high, end))) past
          | inr inside ↦ begun_too _ _ n (before n inside) (like.proper n (omega (arith, low, same)) inside)
        ];
      }

-- ---- what is laid where nothing was
pub none_filled : (s : Side) (source : Source) (count : ℕ) → s.front ≡ 0 → s.end ≡ 0 → count ≡ 0 → IsLike s (numbered (origin_at source) 0 count)
none_filled s source count first none is =
    let long = length-numbered (origin_at source) 0 count in
    record {
      long = omega (arith, long, first, none, is);
      each = λ n low high. absurd (omega (arith, high, none));
      proper = λ n low high. absurd (omega (arith, high, none));
    }

pub filled_like : (t : Side) (source : Source) (count : ℕ) → t.front ≡ 0 → t.end ≡ count → ((n : ℕ) → 0 ≤ n → n < count → source_in t.runs.entries n ≡ source) → start_of source ≡ 0
    → IsLike t (numbered (origin_at source) 0 count)
filled_like t source count first end there begun =
    let long = length-numbered (origin_at source) 0 count in
    record {
      long = omega (arith, long, first, end);
      each = λ n low high.
          get_or-numbered _ 0 _ _ _ (omega (arith, high, end))
          ∙ ap (origin_at source) (omega (arith, first))
          ∙ ap (λ x. origin_at x n) (sym (there n (omega arith) (omega (arith, high, end))));
      proper = λ n low high. begun_too _ _ n (there n (omega arith) (omega (arith, high, end))) (omega (arith, begun));
    }

-- Where the sources of a side come from after it was changed.

-- what is put behind
pub appended_sources : (s t : Side) (end : ℕ) (new : Source) → t.front ≡ s.front
    → ((n : ℕ) → n < s.end → source_in t.runs.entries n ≡ source_in s.runs.entries n)
    → ((n : ℕ) → s.end ≤ n → n < end → source_in t.runs.entries n ≡ new)
    → t.end ≡ max s.end end → (x : Source) → StandsIn t x → ComesOf s new x
appended_sources s t end new same before there reach x r = elim (side_of _ _) [
  | inl past ↦ come.New (sym r.is ∙ there _ past (omega (arith, past, r.high, reach)))
  | inr inside ↦ come.Stood (record { number = r.number; low = omega (arith, r.low, same); high = inside; is = sym (before _ inside) ∙ r.is })
]

-- what is written over what was there, or a gap's width behind it
pub written_sources : (s m t : Side) (from to : ℕ) (new : Source) → m.front ≡ s.front → t.front ≡ m.front
    → ((n : ℕ) → n < s.end → source_in m.runs.entries n ≡ source_in s.runs.entries n)
    → ((n : ℕ) → s.end ≤ n → n < from → source_in m.runs.entries n ≡ source.Gap) → m.end ≡ max s.end from
    → ((n : ℕ) → n < from → source_in t.runs.entries n ≡ source_in m.runs.entries n)
    → ((n : ℕ) → from ≤ n → n < to → source_in t.runs.entries n ≡ new)
    → ((n : ℕ) → to ≤ n → n < m.end → source_in t.runs.entries n ≡ source_in m.runs.entries n)
    → t.end ≡ max m.end to → (x : Source) → StandsIn t x → ComesOf s new x
written_sources s m t from to new same further kept hole reach before there behind end x r = elim (side_of from r.number) [
  | inl far ↦ elim (side_of to _) [
    | inl past ↦ old (omega (arith, past, r.high, end, reach, far)) (behind r.number past (omega (arith, past, r.high, end)))
    | inr inside ↦ come.New (sym r.is ∙ there r.number far inside)
  ]
  | inr near ↦ elim (side_of s.end r.number) [
    | inl past ↦ come.OfGap (sym r.is ∙ before r.number near ∙ hole r.number past near)
    | inr inside ↦ old inside (before r.number near)
  ]
]
  where
    old : r.number < s.end → source_in t.runs.entries r.number ≡ source_in m.runs.entries r.number → ComesOf s new x
    old inside is = come.Stood (record { number = r.number; low = omega (arith, r.low, same, further); high = inside; is = sym (kept r.number inside) ∙ sym is ∙ r.is })
