-- What the chains answer of the children of a process.
use Rattle.std.proofs.Common.{◌≡◌, IsTrue, ◌<◌, ◌==◌, ℕ, Bool, true, false, true≢false, ◌&&◌, List, [], length, slice_get, get_or, Option, Some, None, is_some}
use Rattle.std.{proofs.{Common.{unwrap_or, option_map, refl, sym, ap, ◌∙◌, arith, inl, inr}, lemmas.Bool.Decides.eqb_tells}, specs.{Option.option_map_or, List.{find, list_any}}}
use Rattle.ix_model.specs.{world.World.{at, living}, rows.OnProcesses.is_child, declared.ids.Pid.Pid}
use Rattle.ix_links.specs.Chains.{Chains, chain_of}
use Rattle.ix_proc.specs.{Table.{ProcTable, EndedChild}, Slots.{pid_in, record_at, lookup, led, found, process_in, laid, table_of, AreSlots, is_child_record}}
use Rattle.ix_proc.{specs.{Kin.{linked, AreKin}, declared.slot.{Slot.Slot, Record.Record}}, proofs.{Looking.lookup_at, Linked.linked_none, Found.{process_is, status_is}}}
use Rattle.ix_proc.proofs.Children.{lives_in, has_child_is, ended_is, ended_slot, ended_test, none_ended, first_found}

module _ (t : List Slot) (rs : List Record) (n limit : ℕ) (k : Chains) (are : AreSlots t rs n) (kin : AreKin t rs k limit) (table : ProcTable)
    (view : table_of (laid t rs n) limit ≡ table) (p : ℕ) where
  -- a process that doesn't live has no child
  dead_linked : is_some (living (at table.processes p)) ≡ false → linked (is_child_record p) t rs ≡ []
  dead_linked dead = linked_none (is_child_record p) t rs fails
    where
      not_child : (q : ℕ) (u : Slot) → lookup t q ≡ Some u → (o : Option Pid) → (record_at rs u.link).parent ≡ o → option_map_or (λ y. y.0 == p) o false ≡ false
      not_child q u is None e = refl
      not_child q u is (Some y) e = elim (eqb_tells y.0 p) [
        | inl h ↦ absurd (true≢false (sym (kin.parents q u y is e) ∙ ap (λ m. is_some (living (process_in (found t rs m)))) h.1 ∙ sym (lives_in t rs n limit are table view p p) ∙ dead))
        | inr h ↦ h.0
      ]

      fails : (j : ℕ) (d : Slot) → j < length t → is_child_record p (record_at rs (get_or t j d).link) ≡ false
      fails j d low = not_child _ _ (lookup_at t j d are.rises low) _ refl

  dead_childless : is_some (living (at table.processes p)) ≡ false → list_any (is_child p) table.processes ≡ false
  dead_childless dead = has_child_is t rs n _ are _ view p ∙ ap (λ xs. is_some (slice_get xs 0)) (dead_linked dead)

  -- one that has no child if it lives has none
  pub childless_anyway : (IsTrue (is_some (living (at table.processes p))) → list_any (is_child p) table.processes ≡ false) → list_any (is_child p) table.processes ≡ false
  childless_anyway alone = go _ refl
    where
      go : (b : Bool) → is_some (living (at table.processes p)) ≡ b → list_any (is_child p) table.processes ≡ false
      go true lives = alone lives
      go false dead = dead_childless dead

  not_there : lookup t p ≡ None → is_some (living (at table.processes p)) ≡ false
  not_there none = lives_in t rs n _ are _ view p p ∙ ap (λ o. is_some (living (process_in (led rs o)))) none

  pub childless_without : lookup t p ≡ None → list_any (is_child p) table.processes ≡ false
  childless_without none = dead_childless (not_there none)

  pub none_without : lookup t p ≡ None → EndedChild None p table
  none_without none = ended_is t rs n _ are _ view p _ (none_ended t rs n _ are _ view p (ap (find (λ j. is_some _)) (dead_linked (not_there none))))

  module _ (s : Slot) (is : lookup t p ≡ Some s) where
    pub has_first : (first : Option ℕ) → first ≡ slice_get (chain_of s.link k) 0 → is_some first ≡ list_any (is_child p) table.processes
    has_first first at_front = ap is_some at_front ∙ ap (λ xs. is_some (slice_get xs 0)) (kin.children p s is) ∙ sym (has_child_is t rs n _ are _ view p)

    searched : (o : Option ℕ) → o ≡ find (λ (j : ℕ). is_some (record_at rs j).ended) (chain_of s.link k) → find (λ (j : ℕ). is_some (record_at rs j).ended) (linked (is_child_record p) t rs) ≡ o
    searched o e = ap (find (λ j. is_some _)) (sym (kin.children p s is)) ∙ sym e

    pub none_given : None ≡ find (λ (j : ℕ). is_some (record_at rs j).ended) (chain_of s.link k) → EndedChild None p table
    none_given e = ended_is t rs n _ are _ view p _ (none_ended t rs n _ are _ view p (searched _ e))

    module _ (i : ℕ) (e : Some i ≡ find (λ (j : ℕ). is_some (record_at rs j).ended) (chain_of s.link k)) where
      child : (u : Slot) × (find (ended_test t rs n limit are table view p) t ≡ Some u) × (u.link ≡ i)
      child = ended_slot t rs n _ are _ view p i (searched _ e)

      child_here : lookup t (pid_in child.0) ≡ Some child.0
      child_here = (first_found _ t _ are.rises child.1).here

      pub child_low : i < length rs
      child_low = omega (arith, are.inside (pid_in child.0) child.0 child_here, child.2)

      pub child_ended : is_some (record_at rs i).ended ≡ true
      child_ended = ap (λ j. is_some (record_at rs j).ended) (sym child.2) ∙ second _ (first_found _ t _ are.rises child.1).yes_here
        where
          second : (b : Bool) → (b && is_some (record_at rs child.0.link).ended) ≡ true → is_some (record_at rs child.0.link).ended ≡ true
          second true h = h
          second false h = absurd (true≢false (sym h))

      module _ (r : Record) (read : r ≡ record_at rs i) (status : ℕ) (ended : r.ended ≡ Some status) where
        same : record_at rs child.0.link ≡ r
        same = ap (record_at rs) child.2 ∙ sym read

        pid : r.who.pid.0 ≡ pid_in child.0
        pid = ap (λ y. y.who.pid.0) (sym same) ∙ are.named _ child.0 child_here

        there : lookup t r.who.pid.0 ≡ Some child.0
        there = ap (lookup t) pid ∙ child_here

        pub child_given : EndedChild (Some (r.who.pid, r.who.float.label, status)) p table
        child_given = (
          ended_is t rs n _ are _ view p _ child.1 ∙ ap Some (sym pid),
          ap (option_map (λ y. y.label)) (process_is t rs n _ are _ view _ _ there) ∙ ap (λ y. Some y.who.float.label) same,
          status_is t rs n _ are _ view _ _ there ∙ ap (λ y. unwrap_or y.ended 0) same ∙ ap (λ o. unwrap_or o 0) ended,
        )
