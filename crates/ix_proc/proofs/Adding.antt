-- What the tables show of a new process, and what adding, changing and removing one rests on.
use Rattle.std.proofs.Common.{◌≡◌, ◌<◌, ◌+◌, ℕ, true, false, List, [], ◌∷◌, ◌++◌, length, nat_lt, count_by, slice_get, Option, Some, None, is_some, option_map}
use Rattle.std.{proofs.{Common.{refl, sym, ap, ◌∙◌, subst, arith, get_or, set}, lemmas.Bool.lt-ltb}, specs.{Option.{option_map_or, option_and_then}, List.{list_any, remove, Contains}}}
use Rattle.ix_model.specs.{world.{Callers.number_of, World.{Process, at, living}}, rows.OnProcesses.is_child, declared.ids.Pid.Pid}
use Rattle.ix_links.specs.Chains.{Chains, chain_of, pushed_back, removed}
use Rattle.ix_proc.specs.{Table.{ProcTable, with_process}, Kin.{AreKin, Hangs, Parented}, declared.slot.{Slot.Slot, Record.Record}}
use Rattle.ix_proc.specs.Slots.{pid_in, record_at, lookup, found, laid, table_of, process_of, process_in, status_in, AreSlots, Finds}
use Rattle.ix_proc.proofs.{Laying.{laid_pushed, are_pushed, tables_pushed, count_processes}, Found.{next_is, process_is}, Hanging.lives_there}
use Rattle.ix_proc.proofs.{Pushed.{low, new_link, kin_pushed}, Staying.{kin_set, kin_removed, held}, Children.{lives_in, childless_from}}

pid_same : (a b : Option Pid) → option_map number_of a ≡ option_map number_of b → a ≡ b
pid_same None None e = refl
pid_same None (Some y) e = absurd (cc e)
pid_same (Some x) None e = absurd (cc e)
pid_same (Some x) (Some y) e = let numbers = e in let same : x.0 ≡ y.0 = cc in ap (λ m. Some (record { 0 = m })) same

free_first : (free : List ℕ) (i : ℕ) → Some i ≡ slice_get free 0 → (rest : List ℕ) × (free ≡ i ∷ rest)
free_first [] i e = absurd (cc e)
free_first (x ∷ rest) i e = let both = e in let same : i ≡ x = cc in (rest, ap (λ y. y ∷ rest) (sym same))

module _ (t : List Slot) (rs : List Record) (n limit : ℕ) (k : Chains) (are : AreSlots t rs n) (kin : AreKin t rs k limit) (fit : length rs ≡ limit)
    (table : ProcTable) (view : table_of (laid t rs n) limit ≡ table) where
  pub taken : count_by is_some table.processes ≡ length t
  taken = ap (λ u. count_by is_some u.processes) (sym view) ∙ count_processes (laid t rs n) ∙ sym are.counted

  pub limit_is : table.limit ≡ limit
  limit_is = ap (λ u. u.limit) (sym view)

  pub next_pid_is : length table.processes ≡ n
  next_pid_is = next_is t rs n _ are _ view

  -- the parent that is given has a slot, and lives
  pub parent_there : (o : Option Pid) → option_map_or (λ q. is_some (living (at table.processes q.0))) o true ≡ true → Parented t o
  parent_there None lives = tt
  parent_there (Some q) lives = lives_there t rs _ (sym (lives_in t rs n _ are _ view 0 _) ∙ lives)

  parent_lives : (o : Option Pid) → option_map_or (λ q. is_some (living (at table.processes q.0))) o true ≡ true → (q : Pid) → o ≡ Some q → is_some (living (process_in (found t rs q.0))) ≡ true
  parent_lives o lives q is = sym (lives_in t rs n _ are _ view 0 _) ∙ subst (λ o. option_map_or (λ q. is_some (living (at table.processes q.0))) o true ≡ true) is lives

  -- what stands in a slot has a slot for its parent
  pub own_parent : (p : ℕ) (s : Slot) → lookup t p ≡ Some s → Parented t (record_at rs s.link).parent
  own_parent p s is = go _ refl
    where
      go : (o : Option Pid) → (record_at rs s.link).parent ≡ o → Parented t o
      go None e = tt
      go (Some q) e = lives_there t rs _ (kin.parents p s q is e)

  pub parent_same : (p : ℕ) (s : Slot) → lookup t p ≡ Some s → (o : Option Pid) → option_and_then (λ (x : Process). x.parent) (at table.processes p)
      ≡ option_map number_of o → o ≡ (record_at rs s.link).parent
  parent_same p s is o e = pid_same o _ (sym e ∙ ap (λ x. option_and_then (λ y. y.parent) x) (process_is t rs n _ are _ view p s is))

  -- a link is free
  module _ (x : Slot) (r : Record) (c : ℕ) (first : Some x.link ≡ slice_get k.free 0) (is : pid_in x ≡ length table.processes) (bears : r.who.pid.0
      ≡ length table.processes) (hangs : Hangs t limit r.parent c) (lives : option_map_or (λ q. is_some (living (at table.processes q.0))) r.parent true ≡ true)
    where
      free : k.free ≡ x.link ∷ (free_first k.free x.link first).0
      free = (free_first _ _ first).1

      pub room : nat_lt (count_by is_some table.processes) table.limit ≡ true
      room = lt-ltb _ _ (omega (arith, taken, limit_is, kin.spare, ap length free))

      pub in_records : x.link < length rs
      in_records = low t rs n _ k are kin fit x r _ (is ∙ next_pid_is) free c hangs (parent_lives _ lives)

      pub pushed_are : AreSlots (t ++ x ∷ []) (set rs x.link r) (n + 1)
      pushed_are = are_pushed t rs n are x r (is ∙ next_pid_is) in_records (new_link t rs n _ k are kin fit x r _ (is
          ∙ next_pid_is) free c hangs (parent_lives _ lives)) (bears ∙ next_pid_is)

      pub pushed_kin : AreKin (t ++ x ∷ []) (set rs x.link r) (pushed_back c k) limit
      pushed_kin = kin_pushed t rs n _ k are kin fit x r _ (is ∙ next_pid_is) free c hangs (parent_lives _ lives)

      pub pushed_table : status_in (Some r) ≡ 0 → table_of (laid (t ++ x ∷ []) (set rs x.link r) (n + 1)) limit ≡ with_process (process_of r) table
      pushed_table none =
          let P : ProcTable → Type 0 = λ u. table_of (laid (t ++ x ∷ []) (set rs x.link r) (n + 1)) limit ≡ with_process (process_of r) u in
          subst P view (ap (λ es. table_of es limit) (laid_pushed t rs n are x r (is
          ∙ next_pid_is) in_records (new_link t rs n _ k are kin fit x r _ (is ∙ next_pid_is) free c hangs
          (parent_lives _ lives)) (bears ∙ next_pid_is)) ∙ tables_pushed _ _ r none)

  -- another record in its place
  pub set_kin : (p : ℕ) (s : Slot) → lookup t p ≡ Some s → (r : Record) → option_and_then (λ (x : Process). x.parent) (at table.processes p)
      ≡ option_map number_of r.parent → (is_some r.ended ≡ true → list_any (is_child p) table.processes ≡ false) → AreKin t (set rs s.link r) k limit
  set_kin p s is r parent alone = kin_set t rs n _ k are kin fit p s is r (parent_same p s is _ parent) (λ ended. childless_from t rs n _ are _ view p (alone ended))

  -- a slot that goes, as it was read
  module _ (j p : ℕ) (d : Slot) (there : Finds (Some j) t p) (read : d ≡ get_or t j d) (o : Option Pid) (parent : o ≡ (record_at rs d.link).parent) (c : ℕ) (hangs : Hangs t limit o c) where
    same_link : d.link ≡ (get_or t j d).link
    same_link = ap (λ y. y.link) read

    hangs_behind : Hangs t limit (record_at rs (get_or t j d).link).parent c
    hangs_behind = subst (λ q. Hangs t limit q c) (parent ∙ ap (λ i. (record_at rs i).parent) same_link) hangs

    pub removed_held : Contains (chain_of c k) d.link
    removed_held = subst (λ i. Contains (chain_of c k) i) (sym same_link) (held t rs n _ k are kin fit j p d there c hangs_behind)

    pub removed_kin : list_any (is_child p) table.processes ≡ false → AreKin (remove t j) rs (removed c d.link k) limit
    removed_kin none = subst (λ i. AreKin (remove t j) rs (removed c i k) limit) (sym same_link) (kin_removed t rs n _ k are kin fit j p d there c
        hangs_behind (childless_from t rs n _ are _ view p none))
