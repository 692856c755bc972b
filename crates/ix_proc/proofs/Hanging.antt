-- What hangs on a chain, and the chains after one of them was edited.
use Rattle.std.proofs.Common.{◌≡◌, ◌≢◌, ◌<◌, ◌≤◌, ◌+◌, ◌==◌, ℕ, Bool, true, false, List, [], length, Option, Some, None, is_some, is_none, refl, sym, ap, ◌∙◌}
use Rattle.std.proofs.Common.{subst, arith, inl, inr, get_or, set}
use Rattle.std.{specs.Option.option_map_or, proofs.lemmas.{List.{get_or-set_same, get_or-set_other}, Bool.{Decides.eqb_tells, cases_lt, lt-ltb, le-ltb}}}
use Rattle.ix_links.specs.Chains.{Chains, times, chain_of}
use Rattle.ix_proc.specs.{Slots.{lookup, led, process_in, is_child_record, AreSlots, Rises, Finds}, Kin.{linked, is_root, AreKin, Hangs}, declared.slot.{Slot.Slot, Record.Record}}
use Rattle.ix_model.specs.{world.World.living, declared.ids.Pid.Pid}
use Rattle.ix_proc.proofs.{Looking.lookup_at, Linked.links, Family.found_times}

-- a process that lives has a slot
pub lives_there : (t : List Slot) (rs : List Record) (q : ℕ) → is_some (living (process_in (led rs (lookup t q)))) ≡ true → is_some (lookup t q) ≡ true
lives_there t rs q lives = go _ lives
  where
    go : (o : Option Slot) → is_some (living (process_in (led rs o))) ≡ true → is_some o ≡ true
    go None l = l
    go (Some s) l = refl

-- what was found among the slots and behind the last link
pub hangs_there : (t u : List Slot) (roots limit : ℕ) (o : Option Pid) (c : ℕ) → u ≡ t → roots ≡ limit → Hangs u roots o c → Hangs t limit o c
hangs_there t u roots limit o c slots last hangs = subst (λ m. Hangs t m o c) last (subst (λ l. Hangs l roots o c) slots hangs)

-- the children of a pid that was found hang on the chain of its link
pub hangs_found : (t : List Slot) (roots k : ℕ) (o : Option Pid) (q : Pid) (d : Slot) → Rises t → o ≡ Some q → Finds (Some k) t q.0 → Hangs t roots o (get_or t k d).link
hangs_found t roots k o q d rises is there = subst (λ o. Hangs t roots o (get_or t k d).link) (sym is) (
  get_or t k d,
  (ap (lookup t) (sym (there.1 d)) ∙ lookup_at t k d rises there.0, refl),
)

module _ (t : List Slot) (rs : List Record) (n limit : ℕ) (k : Chains) (are : AreSlots t rs n) (kin : AreKin t rs k limit) (fit : length rs ≡ limit) where
  pub link_low : (p : ℕ) (s : Slot) → lookup t p ≡ Some s → s.link < limit
  link_low p s found = omega (arith, fit, are.inside p s found)

  -- a link is one slot's at most
  pub link_once : (i : ℕ) → times i (links t) ≤ 1
  link_once i = elim (cases_lt i limit) [
    | inl low ↦ (let one : times i k.free + times i (links t) ≡ 1 = kin.whole i ∙ rw (lt-ltb i limit low) refl in omega (arith, one))
    | inr past ↦ (let none : times i k.free + times i (links t) ≡ 0 = kin.whole i ∙ rw (le-ltb i limit past) refl in omega (arith, none))
  ]

  module _ (c : ℕ) where
    pub child_is : (o : Option Pid) → Hangs t limit o c → (p : ℕ) (s : Slot) → lookup t p ≡ Some s → s.link ≡ c → option_map_or (λ q. q.0 == p) o false ≡ true
    child_is None at_end p s found same = absurd (omega (arith, at_end, same, link_low p s found))
    child_is (Some q) behind p s found same = elim (eqb_tells q.0 p) [
      | inl e ↦ e.0
      | inr e ↦ absurd (e.1 (are.differ q.0 p behind.0 s behind.1.0 found (sym (same ∙ behind.1.1))))
    ]

    pub child_not : (o : Option Pid) → Hangs t limit o c → (p : ℕ) (s : Slot) → lookup t p ≡ Some s → s.link ≢ c → option_map_or (λ q. q.0 == p) o false ≡ false
    child_not None at_end p s found differs = refl
    child_not (Some q) behind p s found differs = elim (eqb_tells q.0 p) [
      | inl e ↦ absurd (let both = sym behind.1.0 ∙ ap (lookup t) e.1 ∙ found in let same : behind.0 ≡ s = cc in differs (sym (behind.1.1 ∙ ap (λ y. y.link) same)))
      | inr e ↦ e.0
    ]

    pub root_is : (o : Option Pid) → Hangs t limit o c → limit ≡ c → is_none o ≡ true
    root_is None at_end same = refl
    root_is (Some q) behind same = absurd (omega (arith, same, behind.1.1, link_low q.0 behind.0 behind.1.0))

    pub root_not : (o : Option Pid) → Hangs t limit o c → limit ≢ c → is_none o ≡ false
    root_not None at_end differs = absurd (differs (sym at_end))
    root_not (Some q) behind differs = refl

    pub in_chains : (o : Option Pid) → Hangs t limit o c → c < length k.chains
    in_chains None at_end = omega (arith, at_end, kin.wide)
    in_chains (Some q) behind = omega (arith, behind.1.1, kin.wide, link_low q.0 behind.0 behind.1.0)

    -- a link of no slot has another chain
    pub apart : (o : Option Pid) → Hangs t limit o c → (i : ℕ) → i < limit → times i (links t) ≡ 0 → i ≢ c
    apart None at_end i low none same = omega (arith, at_end, same, low)
    apart (Some q) behind i low none same = omega (arith, none, found_times t q.0 behind.0 behind.1.0, ap (λ j. times j (links t)) (same ∙ behind.1.1))

    -- a record that hangs there comes or goes
    module _ (r : Record) (hangs : Hangs t limit r.parent c) (f : List ℕ → List ℕ) (new : (Record → Bool) → List ℕ) (hit : (P : Record → Bool) → P r ≡ true
        → new P ≡ f (linked P t rs)) (miss : (P : Record → Bool) → P r ≡ false → new P ≡ linked P t rs) where
      pub children_edited : (p : ℕ) (s : Slot) → lookup t p ≡ Some s → get_or (set k.chains c (f (chain_of c k))) s.link [] ≡ new (is_child_record p)
      children_edited p s found = elim (eqb_tells s.link c) [
        | inl e ↦ ap (λ i. get_or (set k.chains c (f (chain_of c k))) i []) e.1 ∙ get_or-set_same k.chains c _ [] (in_chains _ hangs)
            ∙ ap f (ap (λ i. chain_of i k) (sym e.1) ∙ kin.children p s found) ∙ sym (hit _ (child_is _ hangs p s found e.1))
        | inr e ↦ get_or-set_other k.chains c s.link _ [] e.1 ∙ kin.children p s found ∙ sym (miss _ (child_not _ hangs p s found e.1))
      ]

      pub roots_edited : get_or (set k.chains c (f (chain_of c k))) limit [] ≡ new is_root
      roots_edited = elim (eqb_tells limit c) [
        | inl e ↦ ap (λ i. get_or (set k.chains c (f (chain_of c k))) i []) e.1 ∙ get_or-set_same k.chains c _ [] (in_chains _ hangs)
            ∙ ap f (ap (λ i. chain_of i k) (sym e.1) ∙ kin.roots) ∙ sym (hit _ (root_is _ hangs e.1))
        | inr e ↦ get_or-set_other k.chains c limit _ [] e.1 ∙ kin.roots ∙ sym (miss _ (root_not _ hangs e.1))
      ]
