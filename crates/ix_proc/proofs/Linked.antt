-- The links of the records that pass a test, after a change.
use Rattle.std.proofs.Common.{◌≡◌, ◌≢◌, ◌<◌, ◌≤◌, ◌+◌, ℕ, zero, suc, Bool, true, false, List, [], ◌∷◌, ◌++◌, map, length, if◌then◌else◌, refl, sym, ap, ◌∙◌, arith, inl, inr, get_or, set}
use Rattle.std.{specs.List.remove, proofs.lemmas.{List.{get_or-set_same, get_or-set_other}, Bool.Decides.eqb_tells}}
use Rattle.ix_links.{specs.Chains.{times, without}, proofs.Running.{times_other, times_skip}}
use Rattle.ix_proc.specs.{Slots.record_at, Kin.linked, declared.slot.{Slot.Slot, Record.Record}}

abbrev pub links : List Slot → List ℕ
links t = map (λ s. s.link) t

pub times_same : (x i : ℕ) (xs : List ℕ) → x ≡ i → times i (x ∷ xs) ≡ 1 + times i xs
times_same x i xs e = elim (eqb_tells x i) [ inl h ↦ rw h.0 refl | inr h ↦ absurd (h.1 e) ]

-- a link that stands in no slot is not the first one's
other_link : (s : Slot) (t : List Slot) (i : ℕ) → times i (links (s ∷ t)) ≡ 0 → (s.link ≢ i) × (times i (links t) ≡ 0)
other_link s t i none = elim (eqb_tells s.link i) [
  | inl e ↦ absurd (omega (arith, none, times_same s.link i (links t) e.1))
  | inr e ↦ (e.1, sym (times_other i _ _ (λ same. e.1 (sym same))) ∙ none)
]

-- a new record under a link that stands in no slot
pub linked_push : (P : Record → Bool) (t : List Slot) (rs : List Record) (x : Slot) (r : Record) → x.link < length rs → times x.link (links t) ≡ 0
    → linked P (t ++ x ∷ []) (set rs x.link r) ≡ linked P t rs ++ (if P r then x.link ∷ [] else [])
linked_push P [] rs x r low none = ap (λ y. if P y then x.link ∷ [] else []) (get_or-set_same rs x.link r _ low)
linked_push P (s ∷ t) rs x r low none =
    let apart = other_link s t _ none in
    let more = linked_push P t rs x r low apart.1 in
    go _ (ap P (get_or-set_other rs x.link s.link r _ apart.0)) more
  where
    go : (b : Bool) → P (record_at (set rs x.link r) s.link) ≡ b → linked P (t ++ x ∷ []) (set rs x.link r) ≡ linked P t rs ++ (if P r then x.link ∷ [] else [])
        → (if P (record_at (set rs x.link r) s.link) then s.link ∷ linked P (t ++ x ∷ []) (set rs x.link r) else linked P (t ++ x ∷ []) (set rs x.link r))
        ≡ (if b then s.link ∷ linked P t rs else linked P t rs) ++ (if P r then x.link ∷ [] else [])
    go true e more = rw e (ap (λ l. s.link ∷ l) more)
    go false e more = rw e more

-- a record in the place of one that passes alike
pub linked_set : (P : Record → Bool) (t : List Slot) (rs : List Record) (i : ℕ) (r : Record) → i < length rs → P r ≡ P (record_at rs i) → linked P t (set rs i r) ≡ linked P t rs
linked_set P [] rs i r low same = refl
linked_set P (s ∷ t) rs i r low same = (λ j. if alike j then s.link ∷ linked_set P t rs i r low same j else linked_set P t rs i r low same j)
  where
    alike : P (record_at (set rs i r) s.link) ≡ P (record_at rs s.link)
    alike = elim (eqb_tells s.link i) [
      | inl e ↦ ap (λ l. P (record_at (set rs i r) l)) e.1 ∙ ap P (get_or-set_same rs i r _ low) ∙ same ∙ ap (λ l. P (record_at rs l)) (sym e.1)
      | inr e ↦ ap P (get_or-set_other rs i s.link r _ e.1)
    ]

-- what passes has a slot
pub linked_few : (P : Record → Bool) (t : List Slot) (rs : List Record) (i : ℕ) → times i (linked P t rs) ≤ times i (links t)
linked_few P [] rs i = omega arith
linked_few P (s ∷ t) rs i = go _ (linked_few P t rs i)
  where
    go : (b : Bool) → times i (linked P t rs) ≤ times i (links t) → times i (if b then s.link ∷ linked P t rs else linked P t rs) ≤ times i (links (s ∷ t))
    go true more = elim (eqb_tells s.link i) [
      | inl e ↦ omega (arith, more, times_same s.link i (linked P t rs) e.1, times_same s.link i (links t) e.1)
      | inr e ↦ omega (arith, more, times_other i s.link (linked P t rs) (λ same. e.1 (sym same)), times_other i s.link (links t) (λ same. e.1 (sym same)))
    ]
    go false more = omega (arith, more, times_skip i s.link (links t))

without_same : (x : ℕ) (xs : List ℕ) → without x (x ∷ xs) ≡ xs
without_same x xs = elim (eqb_tells x x) [ inl e ↦ rw e.0 refl | inr e ↦ absurd (e.1 refl) ]

without_other : (x i : ℕ) (xs : List ℕ) → x ≢ i → without i (x ∷ xs) ≡ x ∷ without i xs
without_other x i xs differs = elim (eqb_tells x i) [ inl e ↦ absurd (differs e.1) | inr e ↦ rw e.0 refl ]

pub without_none : (i : ℕ) (xs : List ℕ) → times i xs ≡ 0 → without i xs ≡ xs
without_none i [] none = refl
without_none i (x ∷ xs) none = elim (eqb_tells x i) [
  | inl e ↦ absurd (omega (arith, none, times_same x i xs e.1))
  | inr e ↦ without_other x i xs e.1 ∙ ap (λ l. x ∷ l) (without_none i xs (sym (times_other i x xs (λ same. e.1 (sym same))) ∙ none))
]

times_at : (t : List Slot) (k : ℕ) (d : Slot) → k < length t → 1 ≤ times (get_or t k d).link (links t)
times_at [] k d low = absurd (omega arith)
times_at (s ∷ t) zero d low = omega (arith, times_same s.link s.link (links t) refl)
times_at (s ∷ t) (suc k) d low = omega (arith, times_at t k d (omega arith), times_skip (get_or t k d).link s.link (links t))

-- a slot that goes, whose link is no other's
pub linked_remove : (P : Record → Bool) (t : List Slot) (rs : List Record) (k : ℕ) (d : Slot) → k < length t → times (get_or t k d).link (links t) ≤ 1
    → linked P (remove t k) rs ≡ without (get_or t k d).link (linked P t rs)
linked_remove P [] rs k d low once = absurd (omega arith)
linked_remove P (s ∷ t) rs zero d low once = go _ rest
  where
    rest : without s.link (linked P t rs) ≡ linked P t rs
    rest = without_none _ _ (omega (arith, once, times_same s.link s.link (links t) refl, linked_few P t rs s.link))

    go : (b : Bool) → without s.link (linked P t rs) ≡ linked P t rs → linked P t rs ≡ without s.link (if b then s.link ∷ linked P t rs else linked P t rs)
    go true more = sym (without_same _ _)
    go false more = sym more
linked_remove P (s ∷ t) rs (suc k) d low once = go _ (linked_remove P t rs k d (omega arith) (omega (arith, once, times_skip (get_or t k d).link s.link (links t)))) apart
  where
    apart : s.link ≢ (get_or t k d).link
    apart same = omega (arith, once, times_same s.link (get_or t k d).link (links t) same, times_at t k d (omega arith))

    go : (b : Bool) → linked P (remove t k) rs ≡ without (get_or t k d).link (linked P t rs) → s.link ≢ (get_or t k d).link
        → (if b then s.link ∷ linked P (remove t k) rs else linked P (remove t k) rs) ≡ without (get_or t k d).link (if b then s.link ∷ linked P t rs else
        linked P t rs)
    go true more differs = ap (λ l. s.link ∷ l) more ∙ sym (without_other _ _ _ differs)
    go false more differs = more

-- where none passes there is none
pub linked_none : (P : Record → Bool) (t : List Slot) (rs : List Record) → ((k : ℕ) (d : Slot) → k < length t → P (record_at rs (get_or t k d).link) ≡ false) → linked P t rs ≡ []
linked_none P [] rs fails = refl
linked_none P (s ∷ t) rs fails = rw (fails 0 s (omega arith)) (linked_none P t rs (λ k d low. fails (suc k) d (omega arith)))
