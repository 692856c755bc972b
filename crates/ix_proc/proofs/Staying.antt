-- Another record in its place, and one that goes, keep the chains of children true.
use Rattle.std.proofs.Common.{◌≡◌, ◌≢◌, ◌<◌, ◌+◌, ◌==◌, ℕ, zero, suc, Bool, true, false, true≢false, List, [], ◌∷◌, length, Option, Some, None, is_some, refl}
use Rattle.std.{proofs.Common.{is_none, if◌then◌else◌, sym, ap, ◌∙◌, subst, arith, inl, inr, get_or, set}, specs.{Option.option_map_or, List.{remove, Contains}}}
use Rattle.std.proofs.lemmas.{List.{get_or-set_same, get_or-set_other, length-set, length-append, Edits.length-remove}, Bool.Decides.eqb_tells}
use Rattle.ix_model.specs.{world.World.living, declared.ids.Pid.Pid}
use Rattle.ix_links.{specs.Chains.{Chains, times, chain_of, without, removed}, proofs.{Running.times_other, Listing.{total-set, split, times_contained}}}
use Rattle.ix_proc.specs.Slots.{pid_in, record_at, lookup, led, found, process_of, process_in, is_child_record, AreSlots, Finds}
use Rattle.ix_proc.specs.{Kin.{linked, is_root, AreKin, Hangs}, declared.slot.{Slot.Slot, Record.Record}}
use Rattle.ix_proc.proofs.{Looking.lookup_at, Linked.{links, linked_set, linked_remove, linked_none, without_none}, Laying.{seen_set, found_slot, gone, still}}
use Rattle.ix_proc.proofs.Hanging.{link_once, child_is, in_chains, apart, children_edited, roots_edited}

-- no record has that parent
abbrev pub Childless : List Slot → List Record → ℕ → Type 0
Childless t rs p = (q : ℕ) (u : Slot) → lookup t q ≡ Some u → is_child_record p (record_at rs u.link) ≡ false

child_of_parent : (o : Option Pid) (q : Pid) (p : ℕ) → o ≡ Some q → q.0 ≡ p → option_map_or (λ y. y.0 == p) o false ≡ true
child_of_parent o q p is same = ap (λ o. option_map_or (λ y. y.0 == p) o false) is ∙ elim (eqb_tells q.0 p) [ inl e ↦ e.0 | inr e ↦ absurd (e.1 same) ]

-- a record that fails stands in no chain of those that pass
linked_fails : (P : Record → Bool) (t : List Slot) (rs : List Record) (i : ℕ) → P (record_at rs i) ≡ false → times i (linked P t rs) ≡ 0
linked_fails P [] rs i fails = refl
linked_fails P (s ∷ t) rs i fails = go _ refl (linked_fails P t rs i fails)
  where
    go : (b : Bool) → P (record_at rs s.link) ≡ b → times i (linked P t rs) ≡ 0 → times i (if b then s.link ∷ linked P t rs else linked P t rs) ≡ 0
    go true e more = elim (eqb_tells s.link i) [
      | inl h ↦ absurd (true≢false (sym e ∙ ap (λ j. P (record_at rs j)) h.1 ∙ fails))
      | inr h ↦ times_other i _ _ (λ same. h.1 (sym same)) ∙ more
    ]
    go false e more = more

one_less : (i : ℕ) (xs : List ℕ) → Contains xs i → length (without i xs) + 1 ≡ length xs
one_less i xs held =
    let parts = split i xs (times_contained i xs _ i held.1 held.2) in
    omega (arith, ap length parts.2, ap length parts.3, length-append parts.0 (i ∷ parts.1), length-append parts.0 parts.1)

more_held : (x i : ℕ) (xs : List ℕ) → Contains xs i → Contains (x ∷ xs) i
more_held x i xs h = (suc h.0, omega (arith, h.1), h.2)

-- one that passes stands there
pub linked_held : (P : Record → Bool) (t : List Slot) (rs : List Record) (j : ℕ) (d : Slot) → j < length t → P (record_at rs (get_or t j d).link) ≡ true → Contains (linked P t rs) (get_or t j d).link
linked_held P [] rs j d low passes = absurd (omega arith)
linked_held P (s ∷ t) rs zero d low passes = rw passes (0, omega arith, refl)
linked_held P (s ∷ t) rs (suc j) d low passes = go _ (linked_held P t rs j d (omega arith) passes)
  where
    go : (b : Bool) → Contains (linked P t rs) (get_or t j d).link → Contains (if b then s.link ∷ linked P t rs else linked P t rs) (get_or t j d).link
    go true held = more_held _ _ _ held
    go false held = held

times_removed : (t : List Slot) (j : ℕ) (d : Slot) (i : ℕ) → j < length t → times i (links t) ≡ (if (get_or t j d).link == i then 1 else 0) + times i (links (remove t j))
times_removed [] j d i low = absurd (omega arith)
times_removed (s ∷ t) zero d i low = refl
times_removed (s ∷ t) (suc j) d i low = omega (arith, times_removed t j d i (omega arith))

module _ (t : List Slot) (rs : List Record) (n limit : ℕ) (k : Chains) (are : AreSlots t rs n) (kin : AreKin t rs k limit) (fit : length rs ≡ limit) where
  -- another record in its place, with the same parent
  module _ (p : ℕ) (s : Slot) (is : lookup t p ≡ Some s) (r : Record) (same : r.parent ≡ (record_at rs s.link).parent) (alone : is_some r.ended ≡ true → Childless t rs p) where
    parent_kept : (u : Slot) → (record_at (set rs s.link r) u.link).parent ≡ (record_at rs u.link).parent
    parent_kept u = elim (eqb_tells u.link s.link) [
      | inl e ↦ ap (λ i. (record_at (set rs s.link r) i).parent) e.1 ∙ ap (λ y. y.parent) (get_or-set_same rs s.link r _ (are.inside p s is)) ∙ same
          ∙ ap (λ i. (record_at rs i).parent) (sym e.1)
      | inr e ↦ ap (λ y. y.parent) (get_or-set_other rs s.link u.link r _ e.1)
    ]

    lives_still : (a : ℕ) (u : Slot) (q : Pid) → lookup t a ≡ Some u → (record_at rs u.link).parent ≡ Some q → is_some (living (process_in (found t (set rs s.link r) q.0))) ≡ true
    lives_still a u q e h = ap (λ o. is_some (living (process_in o))) (seen_set t rs n are p s is r q.0) ∙ elim (eqb_tells p q.0) [
      | inl g ↦ rw g.0 (not_ended (is_some r.ended) refl (sym g.1))
      | inr g ↦ rw g.0 (kin.parents a u q e h)
    ]
      where
        not_ended : (b : Bool) → is_some r.ended ≡ b → q.0 ≡ p → is_some (living (Some (process_of r))) ≡ true
        not_ended true f same = absurd (true≢false (sym (child_of_parent (record_at rs u.link).parent q p h same) ∙ alone f a u e))
        not_ended false f same = ap (λ (b : Bool). is_some (if b then None else Some (process_of r))) f

    pub kin_set : AreKin t (set rs s.link r) k limit
    kin_set = record {
      children = λ q u e. kin.children q u e ∙ sym (linked_set (is_child_record q) t rs _ r (are.inside p s is) (ap (λ o. option_map_or (λ y. y.0 == q) o false) same));
      roots = kin.roots ∙ sym (linked_set is_root t rs _ r (are.inside p s is) (ap is_none same));
      parents = λ a u q e h. lives_still a u q e (sym (parent_kept u) ∙ h);
      idle = kin.idle;
      whole = kin.whole;
      spare = kin.spare;
      wide = kin.wide;
      pooled = kin.pooled;
    }

  -- a record without children that goes
  module _ (j p : ℕ) (d : Slot) (there : Finds (Some j) t p) (c : ℕ) (hangs : Hangs t limit (record_at rs (get_or t j d).link).parent c) where
    abbrev i : ℕ
    i = (get_or t j d).link

    abbrev r : Record
    r = record_at rs i

    slot : lookup t p ≡ Some (get_or t j d)
    slot = found_slot t rs n are j p d there

    -- it stands on its chain
    pub held : Contains (chain_of c k) i
    held = go _ refl hangs
      where
        go : (o : Option Pid) → r.parent ≡ o → Hangs t limit o c → Contains (chain_of c k) i
        go None e at_end = subst (λ l. Contains l i) (sym (ap (λ m. chain_of m k) at_end ∙ kin.roots)) (linked_held is_root t rs j d there.0 (ap is_none e))
        go (Some q) e behind = subst (λ l. Contains l i) (sym (ap (λ m. chain_of m k) behind.1.1 ∙ kin.children q.0 behind.0 behind.1.0))
            (linked_held (is_child_record q.0) t rs j d there.0 (child_of_parent _ q _ e refl))

    pub chain_low : c < length k.chains
    chain_low = in_chains t rs n _ k are kin fit c _ hangs

    module _ (alone : Childless t rs p) where
      hit : (P : Record → Bool) → P r ≡ true → linked P (remove t j) rs ≡ without i (linked P t rs)
      hit P e = linked_remove P t rs j d there.0 (link_once t rs n _ k are kin fit i)

      miss : (P : Record → Bool) → P r ≡ false → linked P (remove t j) rs ≡ linked P t rs
      miss P e = linked_remove P t rs j d there.0 (link_once t rs n _ k are kin fit i) ∙ without_none i _ (linked_fails P t rs i e)

      own_other : i ≢ c
      own_other same = true≢false (sym (child_is t rs n _ k are kin fit c _ hangs p _ slot same) ∙ alone p (get_or t j d) slot)

      own_empty : chain_of i k ≡ []
      own_empty = kin.children p _ slot ∙ linked_none (is_child_record p) t rs (λ m e low. alone (pid_in (get_or t m e)) (get_or t m e) (lookup_at t m e are.rises low))

      idle_after : (m : ℕ) → m < limit → times m (links (remove t j)) ≡ 0 → get_or (set k.chains c (without i (chain_of c k))) m [] ≡ []
      idle_after m low none = elim (eqb_tells i m) [
        | inl e ↦ ap (λ l. get_or (set k.chains c (without i (chain_of c k))) l []) (sym e.1) ∙ get_or-set_other k.chains c i (without i (chain_of c k)) [] own_other ∙ own_empty
        | inr e ↦ (let one : times m (links t) ≡ 0 + times m (links (remove t j)) = times_removed t j d m there.0 ∙ rw e.0 refl in
            let before : times m (links t) ≡ 0 = omega (arith, one, none) in
            get_or-set_other k.chains c m _ [] (apart t rs n _ k are kin fit c _ hangs m low before) ∙ kin.idle m low before)
      ]

      parents_after : (a : ℕ) (u : Slot) (q : Pid) → lookup (remove t j) a ≡ Some u → (record_at rs u.link).parent ≡ Some q → is_some (living (process_in (found (remove t j) rs q.0))) ≡ true
      parents_after a u q e h = ap (λ o. is_some (living (process_in (led rs o)))) (gone t rs n are j p d there q.0) ∙ elim (eqb_tells p q.0) [
        | inl g ↦ absurd (true≢false (sym (child_of_parent (record_at rs u.link).parent q p h (sym g.1)) ∙ alone a u (still t rs n are j p d there a u e)))
        | inr g ↦ rw g.0 (kin.parents a u q (still t rs n are j p d there a u e) h)
      ]

      pub kin_removed : AreKin (remove t j) rs (removed c i k) limit
      kin_removed = record {
        children = λ q u e. children_edited t rs n _ k are kin fit c r hangs (without i) _ hit miss q u (still t rs n are j p d there q u e);
        roots = roots_edited t rs n _ k are kin fit c r hangs (without i) _ hit miss;
        parents = parents_after;
        idle = idle_after;
        whole = λ m. omega (arith, kin.whole m, times_removed t j d m there.0);
        spare = omega (arith, kin.spare, length-remove t j there.0);
        wide = omega (arith, kin.wide, length-set k.chains c (without i (chain_of c k)));
        pooled = omega (arith, kin.pooled, total-set length k.chains c (without i (chain_of c k)) chain_low, one_less i (chain_of c k) held);
      }
