-- An edit of the slab under one key is an edit of the entries at one number.
use Rattle.std.proofs.Common.{◌≡◌, ◌≢◌, ◌<◌, ◌≤◌, ◌+◌, ℕ, zero, suc, Bool, true, true≢false, not, replicate, List, [], ◌∷◌, length, count_by, cond, Option, sym}
use Rattle.std.proofs.Common.{Some, None, is_some, refl, ap, ◌∙◌, arith, inl, inr, get_or, set}
use Rattle.std.proofs.lemmas.List.{same_lists, length-replicate, length-map, length-set, get_or-map, get_or-set_same, get_or-set_other, get_or_past}
use Rattle.std.proofs.lemmas.{List.Sums.{sum_by-set, sum_by-cons, count_by-le-length}, Bool.{Decides.eqb_tells, cases_lt}}
use Rattle.ix_model.specs.world.World.{at}
use Rattle.ix_numbers.specs.Marks.{vacancies}
use Rattle.slab.{specs.Slab.{Slab, get, slab_len, HasRoomFor, Updates}, proofs.SlabLemmas.Updates-with_value}
use Rattle.ix_open.specs.{Indexed.{entry_in, seen, IsIndex}, declared.view.OpenView.OpenView}

abbrev no_key_at : Option ℕ
no_key_at = None

pub low_at : {A : Type 0} (t : List (Option A)) (n : ℕ) (x : A) → at t n ≡ Some x → n < length t
low_at t n x is = elim (cases_lt n (length t)) [ inl low ↦ low | inr past ↦ absurd (let none = get_or_past t n None past in cc (none, is)) ]

-- an edit in its place keeps the number of entries
len_kept : (s : Slab OpenView) (k : ℕ) (x : OpenView) → is_some (get s k) ≡ true → slab_len (record s { slots = set s.slots k (Some x) }) ≡ slab_len s
len_kept s k x there = elim (cases_lt k (length s.slots)) [
  | inl low ↦ omega (arith, sum_by-set (λ (o : Option OpenView). cond {A = ℕ} (is_some o) 1 0) s.slots k (Some x) None low, ap (λ b. cond {A = ℕ} b 1 0) there)
  | inr past ↦ absurd (true≢false (sym there ∙ ap is_some (get_or_past s.slots k None past)))
]

pub at_seen : (s : Slab OpenView) (keys : List (Option ℕ)) (n : ℕ) → at (seen s keys) n ≡ entry_in s (at keys n)
at_seen s [] n = refl
at_seen s (k ∷ keys) zero = refl
at_seen s (k ∷ keys) (suc n) = at_seen s keys n

-- one number is another, all else is as it was
seen_set : (old new : Slab OpenView) (keys later : List (Option ℕ)) (n : ℕ) (x : Option OpenView) → length later ≡ length keys → n < length keys
    → entry_in new (at later n) ≡ x → ((m : ℕ) → m ≢ n → entry_in new (at later m) ≡ entry_in old (at keys m)) → seen new later ≡ set (seen old keys) n x
seen_set old new keys later n x len low here there = same_lists _ _ (length-map later (entry_in new) ∙ len ∙ sym (length-set (seen old keys) n x ∙ length-map keys (entry_in old))) (λ m d inside.
    let within : m < length later = omega (arith, inside, length-map later (entry_in new)) in
    get_or-map (entry_in new) later m None d within ∙ elim (eqb_tells m n) [
      | inl e ↦ ap (λ i. entry_in new (at later i)) e.1 ∙ here ∙ sym (ap (λ i. get_or (set (seen old keys) n x) i d) e.1
          ∙ get_or-set_same (seen old keys) n x d (omega (arith, low, length-map keys (entry_in old))))
      | inr e ↦ there m e.1 ∙ sym (get_or-set_other (seen old keys) n m x d e.1 ∙ get_or-map (entry_in old) keys m None d (omega (arith, within, len)))
    ])

module _ (s : Slab OpenView) (keys : List (Option ℕ)) (index : IsIndex s keys) where
  -- another number has another key
  other_key : (n m k : ℕ) → at keys n ≡ Some k → m ≢ n → (j : ℕ) → at keys m ≡ Some j → j ≢ k
  other_key n m k is differs j js same = differs (index.differ m n k (js ∙ ap Some same) is)

  -- what an update of one key leaves at the other numbers
  others_stay : (new : Slab OpenView) (k : ℕ) (x : Option OpenView) → Updates s new k x → (m : ℕ) → ((j : ℕ) → at keys m ≡ Some j → j ≢ k) → entry_in new (at keys m) ≡ entry_in s (at keys m)
  others_stay new k x updates m differs = go (at keys m) refl
    where
      go : (o : Option ℕ) → at keys m ≡ o → entry_in new o ≡ entry_in s o
      go None is = refl
      go (Some j) is = updates.others j (differs j is)

  -- an entry is edited in its place
  pub seen_edited : (new : Slab OpenView) (n k : ℕ) (x : OpenView) → at keys n ≡ Some k → Updates s new k (Some x) → seen new keys ≡ set (seen s keys) n (Some x)
  seen_edited new n k x is updates = seen_set s new keys keys n (Some x) refl (low_at keys n k is) (ap (entry_in new) is
      ∙ updates.changed) (λ m differs. others_stay new k (Some x) updates m (other_key n m k is differs))

  pub index_edited : (n k : ℕ) (x : OpenView) → at keys n ≡ Some k → is_some (get s k) ≡ true → IsIndex (record s { slots = set s.slots k (Some x) }) keys
  index_edited n k x is there =
      let updates = Updates-with_value s k x there in
      record {
        lives = λ m j js. elim (eqb_tells m n) [
          | inl e ↦ (let same : Some j ≡ Some k = sym js ∙ ap (at keys) e.1 ∙ is in let equal : j ≡ k = cc in
              ap (λ i. is_some (get (record s { slots = set s.slots k (Some x) }) i)) equal ∙ ap is_some updates.changed)
          | inr e ↦ ap is_some (updates.others j (other_key n m k is e.1 j js)) ∙ index.lives m j js
        ];
        differ = index.differ;
        stored = len_kept s k x there ∙ index.stored;
        fits = index.fits;
      }

  -- a key that the slab gives is no number's
  pub fresh_key : (k : ℕ) → get s k ≡ None → (m j : ℕ) → at keys m ≡ Some j → j ≢ k
  fresh_key k none m j js same = true≢false (sym (index.lives m j js) ∙ ap (λ i. is_some (get s i)) same ∙ ap is_some none)

  count_keys : (n : ℕ) (x : Option ℕ) → n < length keys → count_by is_some (set keys n x) + cond {A = ℕ} (is_some (at keys n)) 1 0 ≡ count_by is_some keys + cond {A = ℕ} (is_some x) 1 0
  count_keys n x low = sum_by-set (λ (o : Option ℕ). cond {A = ℕ} (is_some o) 1 0) keys n x None low

  -- what a set key leaves
  key_there : (n : ℕ) (x : Option ℕ) (m j : ℕ) → m ≢ n → at (set keys n x) m ≡ Some j → at keys m ≡ Some j
  key_there n x m j differs is = sym (get_or-set_other keys n m x None differs) ∙ is

  key_here : (n k m j : ℕ) → n < length keys → m ≡ n → at (set keys n (Some k)) m ≡ Some j → j ≡ k
  key_here n k m j low e is = let same : Some k ≡ Some j = sym (get_or-set_same keys n (Some k) None low) ∙ ap (at (set keys n (Some k))) (sym e) ∙ is in let equal : k ≡ j = cc in sym equal

  -- there is room for a new entry where a number is free
  pub room_for : (n : ℕ) → n < length keys → at keys n ≡ None → HasRoomFor s 1
  room_for n low free = omega (
    arith,
    count_keys n (Some 0) low,
    ap (λ o. cond {A = ℕ} (is_some o) 1 0) free,
    count_by-le-length is_some (set keys n (Some 0)),
    length-set keys n (Some 0),
    index.stored,
    index.fits,
  )

  pub seen_opened : (new : Slab OpenView) (n k : ℕ) (x : OpenView) → n < length keys → get s k ≡ None → Updates s new k (Some x) → seen new (set keys n (Some k)) ≡ set (seen s keys) n (Some x)
  seen_opened new n k x low none updates = seen_set s new keys (set keys n (Some k)) n (Some x) (length-set keys n (Some k)) low
      (ap (entry_in new) (get_or-set_same keys n (Some k) None low) ∙ updates.changed)
      (λ m differs. ap (entry_in new) (get_or-set_other keys n m (Some k) None differs) ∙ others_stay new k (Some x) updates m (fresh_key k none m))

  pub seen_released : (new : Slab OpenView) (n k : ℕ) → at keys n ≡ Some k → Updates s new k None → seen new (set keys n None) ≡ set (seen s keys) n None
  seen_released new n k is updates = seen_set s new keys (set keys n None) n None (length-set keys n None) (low_at keys n k is)
      (ap (entry_in new) (get_or-set_same keys n None None (low_at keys n k is)))
      (λ m differs. ap (entry_in new) (get_or-set_other keys n m None None differs) ∙ others_stay new k None updates m (other_key n m k is differs))

  pub index_opened : (new : Slab OpenView) (n k : ℕ) (x : OpenView) → n < length keys → at keys n ≡ None → get s k ≡ None → Updates s new k (Some x)
      → slab_len new ≡ slab_len s + 1 → new.capacity ≡ s.capacity → IsIndex new (set keys n (Some k))
  index_opened new n k x low free none updates len capacity = record {
    lives = λ m j js. elim (eqb_tells m n) [
      | inl e ↦ (let same : Some k ≡ Some j = sym (get_or-set_same keys n (Some k) None low) ∙ ap (at (set keys n (Some k))) (sym e.1) ∙ js in
          let equal : k ≡ j = cc in ap (λ i. is_some (get new i)) (sym equal) ∙ ap is_some updates.changed)
      | inr e ↦ (let was = sym (get_or-set_other keys n m (Some k) None e.1) ∙ js in ap is_some (updates.others j (fresh_key k none m j was)) ∙ index.lives m j was)
    ];
    differ = λ a b j ha hb. elim (eqb_tells a n) [
      | inl ea ↦ elim (eqb_tells b n) [
        | inl eb ↦ ea.1 ∙ sym eb.1
        | inr eb ↦ absurd (fresh_key k none b j (key_there n (Some k) b j eb.1 hb) (key_here n k a j low ea.1 ha))
      ]
      | inr ea ↦ elim (eqb_tells b n) [
        | inl eb ↦ absurd (fresh_key k none a j (key_there n (Some k) a j ea.1 ha) (key_here n k b j low eb.1 hb))
        | inr eb ↦ index.differ a b j (key_there n (Some k) a j ea.1 ha) (key_there n (Some k) b j eb.1 hb)
      ]
    ];
    stored = omega (arith, len, index.stored, count_keys n (Some k) low, ap (λ o. cond {A = ℕ} (is_some o) 1 0) free);
    fits = omega (arith, index.fits, capacity, length-set keys n (Some k));
  }

  pub index_released : (new : Slab OpenView) (n k : ℕ) → at keys n ≡ Some k → Updates s new k None → slab_len new + 1 ≡ slab_len s → new.capacity ≡ s.capacity → IsIndex new (set keys n None)
  index_released new n k is updates len capacity = record {
    lives = λ m j js. elim (eqb_tells m n) [
      | inl e ↦ absurd (let none = get_or-set_same keys n None None (low_at keys n k is) in let same = ap (at (set keys n None)) (sym e.1) ∙ js in cc (none, same))
      | inr e ↦ (let was = sym (get_or-set_other keys n m None None e.1) ∙ js in ap is_some (updates.others j (other_key n m k is e.1 j was)) ∙ index.lives m j was)
    ];
    differ = λ a b j ha hb. elim (eqb_tells a n) [
      | inl ea ↦ absurd (gone a j ea.1 ha)
      | inr ea ↦ elim (eqb_tells b n) [
        | inl eb ↦ absurd (gone b j eb.1 hb)
        | inr eb ↦ index.differ a b j (key_there n None a j ea.1 ha) (key_there n None b j eb.1 hb)
      ]
    ];
    stored = omega (arith, len, index.stored, count_keys n None (low_at keys n k is), ap (λ o. cond {A = ℕ} (is_some o) 1 0) is);
    fits = omega (arith, index.fits, capacity, length-set keys n None);
  }
    where
      gone : (m j : ℕ) → m ≡ n → at (set keys n None) m ≡ Some j → ⊥
      gone m j e js = let none = get_or-set_same keys n None None (low_at keys n k is) in let same = ap (at (set keys n None)) (sym e) ∙ js in cc (none, same)

-- the numbers that show no entry are those that have no key
pub vacant_seen : (s : Slab OpenView) (keys : List (Option ℕ)) → ((n k : ℕ) → at keys n ≡ Some k → is_some (get s k) ≡ true) → vacancies (seen s keys) ≡ vacancies keys
vacant_seen s [] h = refl
vacant_seen s (None ∷ keys) h = ap (λ (marks : List Bool). true ∷ marks) (vacant_seen s keys (λ n j is. h (suc n) j is))
vacant_seen s (Some k ∷ keys) h = (λ i. not (h 0 k refl i) ∷ vacant_seen s keys (λ n j is. h (suc n) j is) i)

pub at_seen_key : (s : Slab OpenView) (keys : List (Option ℕ)) (n k : ℕ) (e : OpenView) → at keys n ≡ Some k → get s k ≡ Some e → at (seen s keys) n ≡ Some e
at_seen_key s keys n k e is found = at_seen s keys n ∙ ap (entry_in s) is ∙ found

pub index_none : (s : Slab OpenView) (keys : List (Option ℕ)) (n : ℕ) → keys ≡ replicate n None → s.slots ≡ [] → n ≤ s.capacity → IsIndex s keys
index_none s keys n none empty room = rw none (record {
  lives = λ m k is. absurd (no_key n m k is);
  differ = λ a b k ha hb. absurd (no_key n a k ha);
  stored = ap (count_by is_some) empty ∙ sym (no_count n);
  fits = omega (arith, length-replicate n no_key_at, room);
})
  where
    no_key : (n m k : ℕ) → at (replicate n None) m ≡ Some k → ⊥
    no_key zero m k is = cc is
    no_key (suc n) zero k is = cc is
    no_key (suc n) (suc m) k is = no_key n m k is

    no_count : (n : ℕ) → count_by is_some (replicate {A = Option ℕ} n None) ≡ 0
    no_count zero = refl
    no_count (suc n) = omega (arith, sum_by-cons (λ (o : Option ℕ). cond {A = ℕ} (is_some o) 1 0) None (replicate n None), no_count n)

pub seen_none : (s : Slab OpenView) (n : ℕ) → seen s (replicate n None) ≡ replicate n None
seen_none s zero = refl
seen_none s (suc n) = ap (λ l. None ∷ l) (seen_none s n)

-- a number at which an entry stands has a key, and the key an entry
pub has_key : (s : Slab OpenView) (keys : List (Option ℕ)) (n : ℕ) → is_some (at (seen s keys) n) ≡ true → is_some (at keys n) ≡ true
has_key s keys n there = go (at keys n) (ap is_some (sym (at_seen s keys n)) ∙ there)
  where
    go : (o : Option ℕ) → is_some (entry_in s o) ≡ true → is_some o ≡ true
    go None h = h
    go (Some k) h = refl
