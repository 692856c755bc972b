-- What the tables show of the slab and the keys that stand behind them.
use Rattle.std.proofs.Common.{◌≡◌, ◌<◌, ◌==◌, ◌&&◌, ◌+◌, ◌-◌, ◌^◌, ℕ, Bool, true, false, List, length, count_by, Option, Some, None, is_some, is_none, refl, ap}
use Rattle.std.proofs.Common.{sym, ◌∙◌, get_or, set, option_map, subst, nat_lt, arith, IfSome}
use Rattle.std.proofs.lemmas.{List.length-map, Bool.{and_parts, eqb-true}}
use Rattle.ix_model.specs.world.World.{Open, at, lowest_free, is_on, held}
use Rattle.slab.{specs.Slab.{Slab, get, Updates}, proofs.SlabLemmas.Updates-with_value}
use Rattle.ix_numbers.{specs.Marks.{lowest, count, vacancies}, proofs.Tied.{lowest_vacant, count_vacant}}
use Rattle.ix_open.specs.{Table.{OpenTable, without}, Entries.{table_of, open_of, open_in, offset_in, owners_in, shown, with_entry}, Tally.{place, AreCounted}}
use Rattle.ix_open.specs.{Indexed.{seen, entry_in, IsIndex}, declared.view.OpenView.OpenView}
use Rattle.ix_open.proofs.Tabled.{at_opens, at_offsets, at_owners, taken, shown_is, tables_entry, tables_without, vacant_opens}
use Rattle.ix_open.proofs.Indexed.{at_seen, at_seen_key, has_key, seen_edited, seen_opened, seen_released, vacant_seen}
use Rattle.ix_open.proofs.Counted.{counted_same, counted_more, counted_fewer, count_fits, count_there, held_is, not_held}

-- an entry is on the end, so there is one
pub on_some : (o end : ℕ) (e : Option Open) → is_on o end e ≡ true → is_some e ≡ true
on_some o end None there = there
on_some o end (Some x) there = refl

module _ (s : Slab OpenView) (keys : List (Option ℕ)) (objects : ℕ) (t : OpenTable) (view : table_of (seen s keys) objects ≡ t) where
  -- where an entry stands there is a key
  pub key_there : (n : ℕ) → is_some (at t.opens n) ≡ true → is_some (at keys n) ≡ true
  key_there n there = has_key s keys n (taken objects (seen s keys) n (ap (λ (u : OpenTable). is_some (at u.opens n)) view ∙ there))

  -- the entry under the key of a number
  module _ (n k : ℕ) (v : OpenView) (key : at keys n ≡ Some k) (entry : get s k ≡ Some v) where
    pub opens_at : at t.opens n ≡ Some (open_of v)
    opens_at = ap (λ (u : OpenTable). at u.opens n) (sym view) ∙ at_opens objects (seen s keys) n ∙ ap open_in (at_seen_key s keys n k v key entry)

    pub offset_at : get_or t.offsets n 0 ≡ v.at
    offset_at = ap (λ (u : OpenTable). get_or u.offsets n 0) (sym view) ∙ at_offsets objects (seen s keys) n ∙ ap offset_in (at_seen_key s keys n k v key entry)

    pub owners_at : get_or t.owners n 0 ≡ v.owners
    owners_at = ap (λ (u : OpenTable). get_or u.owners n 0) (sym view) ∙ at_owners objects (seen s keys) n ∙ ap owners_in (at_seen_key s keys n k v key entry)

  -- the whole entry of a number
  pub entry_shown : (n : ℕ) → entry_in s (at keys n) ≡ option_map (shown t n) (at t.opens n)
  entry_shown n = sym (at_seen s keys n) ∙ shown_is objects (seen s keys) n ∙ ap (λ (u : OpenTable). option_map (shown u n) (at u.opens n)) view

  -- the free numbers
  module _ (index : IsIndex s keys) where
    free_shown : vacancies t.opens ≡ vacancies keys
    free_shown = ap (λ (u : OpenTable). vacancies u.opens) (sym view) ∙ vacant_opens (seen s keys) ∙ vacant_seen s keys index.lives

    pub lowest_shown : (marks : List Bool) → marks ≡ vacancies keys → lowest marks ≡ lowest_free t.opens
    lowest_shown marks tied = ap lowest (tied ∙ sym free_shown) ∙ lowest_vacant t.opens

    pub count_shown : (marks : List Bool) → marks ≡ vacancies keys → count marks ≡ count_by is_none t.opens
    count_shown marks tied = ap count (tied ∙ sym free_shown) ∙ count_vacant t.opens

    -- an entry in the place of another
    pub entry_edited : (n k : ℕ) (v : OpenView) → at keys n ≡ Some k → is_some (get s k) ≡ true → table_of (seen (record s { slots = set s.slots k (Some v) }) keys) objects ≡ with_entry n v t
    entry_edited n k v key there = ap (λ es. table_of es objects) (seen_edited s keys index _ n k v key (Updates-with_value s k v there))
        ∙ tables_entry objects (seen s keys) n v ∙ ap (with_entry n v) view

    -- an entry comes
    pub entry_opened : (new : Slab OpenView) (n k : ℕ) (v : OpenView) → n < length keys → get s k ≡ None → Updates s new k (Some v)
        → table_of (seen new (set keys n (Some k))) objects ≡ with_entry n v t
    entry_opened new n k v low none updates = ap (λ es. table_of es objects) (seen_opened s keys index new n k v low none updates) ∙ tables_entry objects (seen s keys) n v ∙ ap (with_entry n v) view

    -- an entry goes
    pub entry_gone : (new : Slab OpenView) (n k : ℕ) → at keys n ≡ Some k → Updates s new k None → table_of (seen new (set keys n None)) objects ≡ without n t
    entry_gone new n k key updates = ap (λ es. table_of es objects) (seen_released s keys index new n k key updates) ∙ tables_without objects (seen s keys) n ∙ ap (without n) view

  module _ (counts : List ℕ) (sure : AreCounted (seen s keys) counts objects) where
    -- an entry is on end 0 or 1
    pub end_shown : (n : ℕ) (o : Option OpenView) → o ≡ entry_in s (at keys n) → IfSome o (λ v. v.end < 2)
    end_shown n None is = tt
    end_shown n (Some v) is = sure.ends n v (at_seen s keys n ∙ sym is)

    pub held_shown : (o end : ℕ) → end < 2 → nat_lt 0 (get_or counts (place o end) 0) ≡ held t.opens o end
    held_shown o end within = held_is (seen s keys) counts objects sure o end within ∙ ap (λ (u : OpenTable). held u.opens o end) view

    pub not_held_shown : (o end : ℕ) → nat_lt end 2 ≡ false → held t.opens o end ≡ false
    not_held_shown o end past = ap (λ (u : OpenTable). held u.opens o end) (sym view) ∙ not_held (seen s keys) counts objects sure o end past

    -- the counts after an entry is edited in its place
    pub counted_edited : IsIndex s keys → (n k : ℕ) (v w : OpenView) → at keys n ≡ Some k → get s k ≡ Some w → is_on v.obj.0 v.end (at t.opens n) ≡ true
        → 0 < v.owners → AreCounted (seen (record s { slots = set s.slots k (Some v) }) keys) counts objects
    counted_edited index n k v w key entry there owned =
        let same : (w.obj.0 == v.obj.0 && w.end == v.end) ≡ true = ap (is_on v.obj.0 v.end) (sym (opens_at n k w key entry)) ∙ there in
        let parts = and_parts _ _ same in
        let object : w.obj.0 ≡ v.obj.0 = eqb-true _ _ parts.0 in
        let end : w.end ≡ v.end = eqb-true _ _ parts.1 in
        let low : w.end < 2 = sure.ends n w (at_seen_key s keys n k w key entry) in
        subst (λ es. AreCounted es counts objects) (sym (seen_edited s keys index _ n k v key (Updates-with_value s k v (ap is_some entry))))
        (counted_same (seen s keys) counts objects sure n w v (at_seen_key s keys n k w key entry) (λ i. place (object i) (end i)) owned (subst (λ e. e < 2) end low))

-- the counts after an entry comes, and after one goes
module _ (s : Slab OpenView) (keys : List (Option ℕ)) (objects : ℕ) (counts : List ℕ) (index : IsIndex s keys) (sure : AreCounted (seen s keys) counts objects) where
  module _ (n : ℕ) (v : OpenView) (low : n < length keys) (free : at keys n ≡ None) (q x : ℕ) (there : q ≡ place v.obj.0 v.end) (read : x ≡ get_or counts q 0) where
    room : n < length (seen s keys)
    room = omega (arith, low, length-map keys (entry_in s))

    vacant : at (seen s keys) n ≡ None
    vacant = at_seen s keys n ∙ ap (entry_in s) free

    was : x ≡ get_or counts (place v.obj.0 v.end) 0
    was = read ∙ ap (λ i. get_or counts i 0) there

    pub count_below : x + 1 < 2 ^ 32
    count_below = omega (arith, was, count_fits (seen s keys) counts objects sure n v room vacant)

    pub counted_opened : (new : Slab OpenView) (k : ℕ) → get s k ≡ None → Updates s new k (Some v) → 0 < v.owners → v.end < 2 → v.obj.0 < objects
        → AreCounted (seen new (set keys n (Some k))) (set counts q (x + 1)) objects
    counted_opened new k none updates owned end within =
        let more = counted_more (seen s keys) counts objects sure n v room vacant owned end within in
        rw (seen_opened s keys index new n k v low none updates, there, was) more

  module _ (n k : ℕ) (v : OpenView) (key : at keys n ≡ Some k) (entry : get s k ≡ Some v) (q : ℕ) (there : q ≡ place v.obj.0 v.end) where
    pub count_stands : (q < length counts) × (0 < get_or counts q 0)
    count_stands = rw there (count_there (seen s keys) counts objects sure n v (at_seen_key s keys n k v key entry))

    pub counted_gone : (new : Slab OpenView) (x : ℕ) → x ≡ get_or counts q 0 → Updates s new k None → AreCounted (seen new (set keys n None)) (set counts q (x - 1)) objects
    counted_gone new x read updates =
        let fewer = counted_fewer (seen s keys) counts objects sure n v (at_seen_key s keys n k v key entry) in
        rw (seen_released s keys index new n k key updates, read, there) fewer
