-- A new process behind those of its chain keeps the chains of children true.
use Rattle.std.{proofs.Common.{◌≡◌, ◌≢◌, ◌<◌, ◌==◌, ℕ, Bool, true, false, true≢false, List, [], ◌∷◌, ◌++◌, length, cond, Option, Some, None, is_some, refl, sym}, specs.Option.option_map_or}
use Rattle.std.proofs.Common.{if◌then◌else◌, ap, ◌∙◌, subst, arith, inl, inr, get_or, set}
use Rattle.std.proofs.lemmas.{List.{get_or-set_same, get_or-set_other, length-set, length-append, map-append}, Bool.Decides.eqb_tells}
use Rattle.ix_model.specs.{world.World.living, declared.ids.Pid.Pid}
use Rattle.ix_links.{specs.Chains.{Chains, times, chain_of, back_moved, pushed_back}, proofs.{Running.times-append, Listing.total-set}}
use Rattle.ix_proc.specs.{Slots.{pid_in, record_at, lookup, led, found, process_of, process_in, is_child_record, AreSlots, Below}, Kin.{linked, AreKin, Hangs}}
use Rattle.ix_proc.{specs.declared.slot.{Slot.Slot, Record.Record}, proofs.Family.{childless, found_times, free_link, whole_pushed, spare_pushed}}
use Rattle.ix_proc.proofs.{Looking.lookup_push, Linked.{links, linked_push}, Laying.below_next, Hanging.{in_chains, apart, children_edited, roots_edited}}

ends : (l : List ℕ) → l ++ [] ≡ l
ends [] = refl
ends (y ∷ l) = ap (λ m. y ∷ m) (ends l)

module _ (t : List Slot) (rs : List Record) (n limit : ℕ) (k : Chains) (are : AreSlots t rs n) (kin : AreKin t rs k limit) (fit : length rs ≡ limit) (x : Slot)
    (r : Record) (rest : List ℕ) (is : pid_in x ≡ n) (free : k.free ≡ x.link ∷ rest) (c : ℕ) (hangs : Hangs t limit r.parent c) (lives : (q : Pid)
    → r.parent ≡ Some q → is_some (living (process_in (found t rs q.0))) ≡ true) where
  pub low : x.link < length rs
  low = omega (arith, fit, (free_link t rs n limit k are kin x.link rest free).0)

  none : times x.link (links t) ≡ 0
  none = (free_link t rs n _ k are kin _ _ free).1

  pub new_link : (p : ℕ) (s : Slot) → lookup t p ≡ Some s → s.link ≢ x.link
  new_link p s found same = omega (arith, none, found_times t p s found, ap (λ i. times i (links t)) same)

  low_pids : Below (pid_in x) t
  low_pids = subst (λ m. Below m t) (sym is) are.below

  after : (q : ℕ) → lookup (t ++ x ∷ []) q ≡ cond (pid_in x == q) (Some x) (lookup t q)
  after q = lookup_push t x low_pids q

  hit : (P : Record → Bool) → P r ≡ true → linked P (t ++ x ∷ []) (set rs x.link r) ≡ linked P t rs ++ x.link ∷ []
  hit P e = linked_push P t rs x r low none ∙ ap (λ b. linked P t rs ++ (if b then x.link ∷ [] else [])) e

  miss : (P : Record → Bool) → P r ≡ false → linked P (t ++ x ∷ []) (set rs x.link r) ≡ linked P t rs
  miss P e = linked_push P t rs x r low none ∙ ap (λ b. linked P t rs ++ (if b then x.link ∷ [] else [])) e ∙ ends _

  -- the new process is no child of itself
  own_not : (o : Option Pid) → Hangs t limit o c → option_map_or (λ q. q.0 == n) o false ≡ false
  own_not None at_end = refl
  own_not (Some q) behind = elim (eqb_tells q.0 n) [
    | inl e ↦ absurd (omega (arith, e.1, below_next t rs n are q.0 behind.0 behind.1.0))
    | inr e ↦ e.0
  ]

  abbrev new_chains : List (List ℕ)
  new_chains = set k.chains c (chain_of c k ++ x.link ∷ [])

  own_chain : get_or new_chains x.link [] ≡ linked (is_child_record n) (t ++ x ∷ []) (set rs x.link r)
  own_chain = get_or-set_other k.chains c x.link _ [] (apart t rs n _ k are kin fit c _ hangs _ (omega (
    arith,
    fit,
    low,
  )) none) ∙ kin.idle x.link (omega (arith, fit, low)) none ∙ sym (childless t rs n _ k are kin n (omega arith))
      ∙ sym (miss (is_child_record n) (own_not _ hangs))

  -- a process that lived still lives
  lives_on : (q : ℕ) → is_some (living (process_in (found t rs q))) ≡ true → is_some (living (process_in (found (t ++ x ∷ []) (set rs x.link r) q))) ≡ true
  lives_on q alive = go (lookup t q) refl alive
    where
      go : (o : Option Slot) → lookup t q ≡ o → is_some (living (process_in (led rs o))) ≡ true → is_some (living (process_in (found (t ++ x ∷ []) (set rs x.link r) q))) ≡ true
      go None e l = absurd (true≢false (sym l))
      go (Some s) e l = elim (eqb_tells (pid_in x) q) [
        | inl h ↦ absurd (omega (arith, is, h.1, below_next t rs n are q s e))
        | inr h ↦ (let there : lookup (t ++ x ∷ []) q ≡ Some s = after q ∙ rw h.0 e in
            ap (λ o. is_some (living (process_in (led (set rs x.link r) o)))) there
            ∙ ap (λ (y : Record). is_some (living (Some (process_of y)))) (get_or-set_other rs x.link s.link r _ (new_link q s e)) ∙ l)
      ]

  idle_on : (i : ℕ) → i < limit → times i (links (t ++ x ∷ [])) ≡ 0 → get_or new_chains i [] ≡ []
  idle_on i under gone =
      let split : links (t ++ x ∷ []) ≡ links t ++ x.link ∷ [] = map-append (λ (s : Slot). s.link) t _ in
      let before : times i (links t) ≡ 0 = omega (arith, gone, ap (times i) split, times-append i (links t) (x.link ∷ [])) in
      get_or-set_other k.chains c i _ [] (apart t rs n _ k are kin fit c _ hangs i under before) ∙ kin.idle i under before

  moved_kin : AreKin (t ++ x ∷ []) (set rs x.link r) (record { chains = new_chains; free = rest }) limit
  moved_kin = record {
    children = λ p s e. elim (eqb_tells (pid_in x) p) [
      | inl h ↦ (let first : Some x ≡ Some s = sym (after p ∙ rw h.0 refl) ∙ e in let same : x ≡ s = cc in let pid : n ≡ p = sym is ∙ h.1 in
          ap (λ (y : Slot). get_or new_chains y.link []) (sym same) ∙ own_chain ∙ ap (λ m. linked (is_child_record m) (t ++ x ∷ []) (set rs x.link r)) pid)
      | inr h ↦ children_edited t rs n limit k are kin fit c r hangs (λ l. l ++ x.link ∷ []) (λ P. linked P (t ++ x ∷ []) (set rs x.link r)) hit miss p s (sym (after p ∙ rw h.0 refl) ∙ e)
    ];
    roots = roots_edited t rs n limit k are kin fit c r hangs (λ l. l ++ x.link ∷ []) (λ P. linked P (t ++ x ∷ []) (set rs x.link r)) hit miss;
    parents = λ p s q e h. elim (eqb_tells (pid_in x) p) [
      | inl g ↦ (let first : Some x ≡ Some s = sym (after p ∙ rw g.0 refl) ∙ e in let same : x ≡ s = cc in
          lives_on q.0 (lives q (ap (λ y. y.parent) (sym (get_or-set_same rs x.link r _ low))
          ∙ ap (λ y. (record_at (set rs x.link r) y.link).parent) same ∙ h)))
      | inr g ↦ (let old : lookup t p ≡ Some s = sym (after p ∙ rw g.0 refl) ∙ e in
          lives_on q.0 (kin.parents p s q old (ap (λ (y : Record). y.parent) (sym (get_or-set_other rs x.link s.link r _ (new_link p s old))) ∙ h)))
    ];
    idle = idle_on;
    whole = whole_pushed t rs n limit k are kin x rest free;
    spare = spare_pushed t rs n limit k are kin x rest free;
    wide = omega (arith, kin.wide, length-set k.chains c (chain_of c k ++ x.link ∷ []));
    pooled = omega (
      arith,
      kin.pooled,
      ap length free,
      total-set length k.chains c (chain_of c k ++ x.link ∷ []) (in_chains t rs n limit k are kin fit c r.parent hangs),
      length-append (chain_of c k) (x.link ∷ []),
    );
  }

  pub kin_pushed : AreKin (t ++ x ∷ []) (set rs x.link r) (pushed_back c k) limit
  kin_pushed =
      let moved = ap (λ f. back_moved c f k.chains) free in
      subst (λ v. AreKin (t ++ x ∷ []) (set rs x.link r) v limit) (sym moved) moved_kin
