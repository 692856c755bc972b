-- A process more, another record in its place, and one that goes keep the chains of children true.
use Rattle.std.proofs.Common.{◌≡◌, ◌<◌, ◌≤◌, ◌+◌, ◌==◌, ℕ, true, false, true≢false, List, [], ◌∷◌, ◌++◌, length, length-append, nat_lt, Option, Some, None, sym}
use Rattle.std.proofs.Common.{is_some, option_map, if◌then◌else◌, refl, ap, ◌∙◌, arith, inl, inr, get_or}
use Rattle.std.{specs.Option.option_map_or, proofs.lemmas.{List.map-append, Bool.{Decides.eqb_tells, cases_lt, lt-ltb, le-ltb}}}
use Rattle.ix_model.specs.{world.World.living, declared.ids.Pid.Pid}
use Rattle.ix_links.{specs.Chains.{Chains, times}, proofs.Running.{times-append, times_other}}
use Rattle.ix_proc.specs.{Slots.{pid_in, record_at, lookup, found, process_in, is_child_record, AreSlots}, Kin.{linked, AreKin}, declared.slot.{Slot.Slot, Record.Record}}
use Rattle.ix_proc.proofs.{Looking.{lookup_at, lookup_below}, Linked.{links, times_same, linked_none}}

-- a slot that a look-up finds stands in the list
pub found_times : (t : List Slot) (p : ℕ) (s : Slot) → lookup t p ≡ Some s → 1 ≤ times s.link (links t)
found_times [] p s is = absurd (cc is)
found_times (x ∷ t) p s is = elim (eqb_tells (pid_in x) p) [
  | inl e ↦ (let first : Some x ≡ Some s = sym (rw e.0 refl) ∙ is in let same : x ≡ s = cc in omega (arith, times_same x.link s.link (links t) (ap (λ (y : Slot). y.link) same)))
  | inr e ↦ (let more = found_times t p s (sym (rw e.0 refl) ∙ is) in elim (eqb_tells x.link s.link) [
    | inl h ↦ omega (arith, more, times_same x.link s.link (links t) h.1)
    | inr h ↦ omega (arith, more, times_other s.link x.link (links t) (λ same. h.1 (sym same)))
  ])
]

module _ (t : List Slot) (rs : List Record) (n limit : ℕ) (k : Chains) (are : AreSlots t rs n) (kin : AreKin t rs k limit) where
  -- a link that is free is no slot's
  pub free_link : (i : ℕ) (rest : List ℕ) → k.free ≡ i ∷ rest → (i < limit) × (times i (links t) ≡ 0)
  free_link i rest free =
      let first = ap (times i) free ∙ times_same i i _ refl in
      elim (cases_lt i limit) [
        | inl low ↦ (let one : times i k.free + times i (links t) ≡ 1 = kin.whole i ∙ rw (lt-ltb i limit low) refl in (low, omega (arith, first, one)))
        | inr past ↦ absurd (let none : times i k.free + times i (links t) ≡ 0 = kin.whole i ∙ rw (le-ltb i limit past) refl in omega (arith, first, none))
      ]

  -- no child of a pid that isn't given yet
  pub childless : (p : ℕ) → n ≤ p → linked (is_child_record p) t rs ≡ []
  childless p high = linked_none (is_child_record p) t rs (λ j d low. parent_below (record_at rs (get_or t j d).link).parent
      (λ q is. kin.parents (pid_in (get_or t j d)) (get_or t j d) q (lookup_at t j d are.rises low) is))
    where
      parent_below : (o : Option Pid) → ((q : Pid) → o ≡ Some q → is_some (living (process_in (found t rs q.0))) ≡ true) → option_map_or (λ r. r.0 == p) o false ≡ false
      parent_below None h = refl
      parent_below (Some q) h = elim (eqb_tells q.0 p) [
        | inl e ↦ absurd (let none : lookup t q.0 ≡ None = lookup_below t n _ are.below (omega (arith, high, e.1)) in
            true≢false (sym (h q refl) ∙ ap (λ o. is_some (living (process_in (option_map (λ x. record_at rs x.link) o)))) none))
        | inr e ↦ e.0
      ]

  -- what is whole stays so when a free link becomes a slot's
  pub whole_pushed : (x : Slot) (rest : List ℕ) → k.free ≡ x.link ∷ rest → (i : ℕ) → times i rest + times i (links (t ++ x ∷ [])) ≡ (if nat_lt i limit then 1 else 0)
  whole_pushed x rest free i =
      let split : links (t ++ x ∷ []) ≡ links t ++ x.link ∷ [] = map-append (λ (s : Slot). s.link) t _ in
      let more : times i k.free ≡ (if x.link == i then 1 else 0) + times i rest = ap (times i) free in
      omega (arith, more, kin.whole i, ap (times i) split, times-append i (links t) (x.link ∷ []))

  pub spare_pushed : (x : Slot) (rest : List ℕ) → k.free ≡ x.link ∷ rest → length rest + length (t ++ x ∷ []) ≡ limit
  spare_pushed x rest free = omega (arith, ap length free, kin.spare, length-append t (x ∷ []))
