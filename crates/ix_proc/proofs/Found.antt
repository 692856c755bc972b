-- What the tables show of the slots and records that stand behind them.
use Rattle.std.proofs.Common.{◌≡◌, ℕ, true, true≢false, List, length, Option, Some, None, is_some, if◌then◌else◌, refl, option_map, sym, ap, ◌∙◌, subst}
use Rattle.std.{proofs.{Common.{get_or, set}, lemmas.List.{length-map, set-get_or}}, specs.List.remove}
use Rattle.ix_model.specs.{world.{World.{Process, at, change, living}, Callers.with_caller}, declared.views.Caller.Caller}
use Rattle.ix_proc.specs.{Table.{ProcTable, collected}, declared.slot.{Slot.Slot, Record.Record}}
use Rattle.ix_proc.specs.Slots.{record_at, process_of, process_in, status_in, table_of, with_record, lookup, laid, AreSlots, Finds}
use Rattle.ix_proc.proofs.Laying.{at_laid, length_laid, at_processes, at_statuses, tables_set, record_of, laid_set, laid_remove, found_slot}

-- a slot that was found and read leads to the record of its pid
pub slot_of : (t : List Slot) (rs : List Record) (n : ℕ) → AreSlots t rs n → (k p : ℕ) (s : Slot) → Finds (Some k) t p → s ≡ get_or t k s → lookup t p ≡ Some s
slot_of t rs n are k p s there read = found_slot t rs n are k p s there ∙ ap Some (sym read)

-- one that was found in a slice of the slots
pub slot_in : (t u : List Slot) (rs : List Record) (n : ℕ) → AreSlots t rs n → (k p : ℕ) (s : Slot) → u ≡ t → Finds (Some k) u p → s ≡ get_or t k s → lookup t p ≡ Some s
slot_in t u rs n are k p s same there = slot_of t rs n are k p s (subst (λ us. Finds (Some k) us p) same there)

-- who lives stands, and has not ended
pub stands : (o : Option Process) → is_some (living o) ≡ true → is_some o ≡ true
stands None lives = lives
stands (Some p) lives = refl

pub lives_on : (o : Option Process) (p : Process) → o ≡ Some p → is_some (living o) ≡ true → p.ended ≡ true → ⊥
lives_on o p is lives ended = true≢false (sym lives ∙ ap (λ x. is_some (living x)) is ∙ ap (λ b. is_some (if b then None else Some p)) ended)

module _ (t : List Slot) (rs : List Record) (n limit : ℕ) (are : AreSlots t rs n) (table : ProcTable) (view : table_of (laid t rs n) limit ≡ table) where
  -- no slot has the pid
  pub absent : (p : ℕ) → lookup t p ≡ None → at table.processes p ≡ None
  absent p none = ap (λ u. at u.processes p) (sym view) ∙ at_processes limit _ p
      ∙ ap process_in (at_laid t rs n p are.below ∙ ap (λ o. option_map (λ x. record_at rs x.link) o) none)

  pub no_status : (p : ℕ) → lookup t p ≡ None → get_or table.statuses p 0 ≡ 0
  no_status p none = ap (λ u. get_or u.statuses p 0) (sym view) ∙ at_statuses limit _ p
      ∙ ap status_in (at_laid t rs n p are.below ∙ ap (λ o. option_map (λ x. record_at rs x.link) o) none)

  pub not_there : (p : ℕ) → lookup t p ≡ None → is_some (at table.processes p) ≡ true → ⊥
  not_there p none there = true≢false (sym there ∙ ap is_some (absent p none))

  -- the next pid
  pub next_is : length table.processes ≡ n
  next_is = ap (λ u. length u.processes) (sym view) ∙ simp length-map (length_laid t rs n)

  module _ (p : ℕ) (s : Slot) (is : lookup t p ≡ Some s) where
    pub process_is : at table.processes p ≡ Some (process_of (record_at rs s.link))
    process_is = ap (λ u. at u.processes p) (sym view) ∙ at_processes limit _ p ∙ ap process_in (record_of t rs n are p s is)

    pub status_is : get_or table.statuses p 0 ≡ status_in (Some (record_at rs s.link))
    status_is = ap (λ u. get_or u.statuses p 0) (sym view) ∙ at_statuses limit _ p ∙ ap status_in (record_of t rs n are p s is)

    -- its record changes, or goes
    pub record_set : (r : Record) → r.who.pid.0 ≡ p → table_of (laid t (set rs s.link r) n) limit ≡ with_record r table
    record_set r bears =
        let P : ProcTable → Type 0 = λ u. table_of (laid t (set rs s.link r) n) limit ≡ with_record r u in
        subst P view (ap (λ es. table_of es limit) (laid_set t rs n are p s is r) ∙ tables_set _ _ p _
        ∙ ap (λ m. record {
          processes = set (table_of (laid t rs n) limit).processes m (Some (process_of r));
          statuses = set (table_of (laid t rs n) limit).statuses m (status_in (Some r));
          limit = limit;
        }) (sym bears))

    -- its process changes in what a caller shows
    pub who_set : (r : Record) → r ≡ record_at rs s.link → (c : Caller) → c.pid.0 ≡ p
        → table_of (laid t (set rs s.link (record r { who = c })) n) limit ≡ record table { processes = change table.processes p (with_caller c) }
    who_set r read c bears =
        let here = process_is ∙ ap (λ x. Some (process_of x)) (sym read) in
        let processes = ap (λ m. set table.processes m (Some (process_of (record r { who = c })))) bears
        ∙ ap (λ o. set table.processes p (option_map (with_caller c) o)) (sym here) in
        let statuses = ap (λ m. set table.statuses m (status_in (Some r))) bears
        ∙ ap (λ y. set table.statuses p y) (ap (λ x. status_in (Some x)) read ∙ sym status_is) ∙ set-get_or table.statuses p 0 in
        record_set (record r { who = c }) bears ∙ (λ i. record table { processes = processes i; statuses = statuses i })

  pub record_gone : (k p : ℕ) (d : Slot) → Finds (Some k) t p → table_of (laid (remove t k) rs n) limit ≡ collected p table
  record_gone k p d there =
      let P : ProcTable → Type 0 = λ u. table_of (laid (remove t k) rs n) limit ≡ collected p u in
      subst P view (ap (λ es. table_of es limit) (laid_remove t rs n are k p d there) ∙ tables_set _ _ p _)
