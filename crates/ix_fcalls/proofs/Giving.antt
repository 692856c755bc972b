-- One descriptor more of the caller: what it does to the counts, and that these are right.
use Rattle.std.proofs.Common.{◌≡◌, ◌+◌, ◌<◌, ◌≤◌, ◌&&◌, ℕ, cond, Bool, true, false, true≢false, nat_lt, List, Option, Some, None, map, sum, set, get_or, length}
use Rattle.std.proofs.Common.{count_by, is_some, is_none, refl, sym, ap, ◌∙◌, arith, inl, inr, length-set, slice_set, slice_index_or, if◌then◌else◌}
use Rattle.std.{specs.{Option.option_map_or, List.range_with_len}, proofs.lemmas.{Bool.{cases_lt, and_parts, and_from, lt-ltb, ltb-true, Decides.eqb_tells}, List.Sums.sum-map}}
use Rattle.std.proofs.lemmas.List.{get_or_past, get_or-set_same, get_or-set_other, set-get_or}
use Rattle.ix_model.specs.{laws.Sound.Sound, world.{World.{Process, Open, at, put, change, living, lowest_free}, Owners.is_at}, rows.OnPaths.is_home, declared.views.Caller.Caller}
use Rattle.ix_model.proofs.tables.{Finds.sum_zero, FreeNumbers.lowest_free_is}
use Rattle.ix_tables.specs.Parts.{Parts, named_by, homes_of}
use Rattle.ix_fcalls.specs.{Around.{Around, world_of, process_of}, Counted.{IsCounted, IsClear, Keeps, has_free}}
use Rattle.ix_fcalls.proofs.{Counting.{one, counts_are, one_more, count_changed, owners_put, stands_within, owners_long, owners_at}, Sharing.owners_bounded}

-- ---- the free descriptor
pub record FreeAt (ps : List (Option Process)) (pid fd : ℕ) : Type 0 where
  pub process : Process
  pub is : living (at ps pid) ≡ Some process
  pub within : fd < length process.fds
  pub free : at process.fds fd ≡ None

free_at : (ps : List (Option Process)) (pid fd : ℕ) → has_free ps pid fd ≡ true → FreeAt ps pid fd
free_at ps pid fd h = go _ refl h
  where
    none : (o : Option ℕ) → is_none o ≡ true → o ≡ None
    none None h = refl
    none (Some x) h = cc

    go : (o : Option Process) → living (at ps pid) ≡ o → option_map_or (λ q. nat_lt fd (length q.fds) && is_none (at q.fds fd)) o false ≡ true → FreeAt ps pid fd
    go None is h = cc
    go (Some p) is h = let both = and_parts _ _ h in
        record { process = p; is = is; within = ltb-true fd _ both.0; free = none _ both.1 }

pub free_there : (a : Around) (c : Caller) (ps : List (Option Process)) (fd : ℕ) → living (at ps a.pid) ≡ Some (process_of a c) → Some fd ≡ lowest_free c.fds → has_free ps a.pid fd ≡ true
free_there a c ps fd is lowest =
    let free = lowest_free_is _ fd (sym lowest) in
    ap (λ o. option_map_or (λ q. nat_lt fd (length q.fds) && is_none (at q.fds fd)) o false) is ∙ and_from _ _ (lt-ltb fd _ free.0) (ap is_none free.1)

-- ---- the counts with one descriptor more
homes_same : (fd : ℕ) (d : Option ℕ) (ps : List (Option Process)) (pid n : ℕ) → homes_of n (change ps pid (λ q. record q { fds = put q.fds fd d })) ≡ homes_of n ps
homes_same fd d ps pid n i = map (λ o. count_changed (is_home o) (λ q. record q { fds = put q.fds fd d }) (λ x. refl) ps pid i) (range_with_len 0 n)

module _ (t : Parts) (ps : List (Option Process)) (c : IsCounted t ps) (pid fd id : ℕ) (free : has_free ps pid fd ≡ true) where
  counted_more : (u : Parts) → id < length t.opens → length u.opens ≡ length t.opens → u.objects ≡ t.objects → u.homes ≡ t.homes
      → u.owners ≡ set t.owners id (get_or t.owners id 0 + 1) → IsCounted u (change ps pid (λ q. record q { fds = put q.fds fd (Some id) }))
  counted_more u within opens objects homes owners =
      let f = free_at ps _ fd free in
      let long = owners_long t ps c in
      record {
        owners = counts_are _ _ _ (ap length owners ∙ length-set t.owners id _ ∙ long ∙ sym opens) (λ e low.
            ap (λ os. get_or os e 0) owners
            ∙ omega (
              arith,
              one_more t.owners id e (omega (arith, within, long)),
              owners_at t ps c e (omega (arith, low, opens)),
              owners_put ps pid f.process f.is fd (Some id) f.within e,
              ap (λ d. one (is_at e d)) f.free,
            ));
        homes = homes ∙ c.homes ∙ ap (λ xs. homes_of (length xs) ps) (sym objects) ∙ sym (homes_same fd _ ps _ _);
      }

  pub counted_shared : (u : Parts) (qs : List (Option Process)) → is_some (at t.opens id) ≡ true
      → u ≡ record t { owners = slice_set t.owners id (slice_index_or t.owners id 0 + 1) } → qs ≡ change ps pid (λ q. record q { fds = put q.fds fd (Some id) })
      → IsCounted u qs
  counted_shared u qs stands is table = rw (is, table) (counted_more _ (stands_within _ id stands) refl refl refl refl)

  pub counted_opened : (u : Parts) (qs : List (Option Process)) (x : Open) → IsClear t → lowest_free t.opens ≡ Some id
      → u ≡ record t { opens = put t.opens id (Some x); offsets = slice_set t.offsets id 0; owners = slice_set t.owners id 1 }
      → qs ≡ change ps pid (λ q. record q { fds = put q.fds fd (Some id) }) → IsCounted u qs
  counted_opened u qs x clear lowest is table =
      let low = lowest_free_is _ id lowest in
      let none = clear.owners id (ap is_some low.1) in
      rw (is, table) (counted_more _ low.0 (length-set t.opens id _) refl refl (ap (λ k. set t.owners id (k + 1)) (sym none)))

-- ---- free entries
-- a new one stands at offset 0 as the free number did
offsets_kept : (t : Parts) (id : ℕ) → IsClear t → lowest_free t.opens ≡ Some id → slice_set t.offsets id 0 ≡ t.offsets
offsets_kept t id clear lowest = ap (slice_set t.offsets id) (sym (clear.offsets id (ap is_some (lowest_free_is _ id lowest).1))) ∙ set-get_or t.offsets id 0

pub opened_is : (t u : Parts) (id : ℕ) (x : Open) → IsClear t → Some id ≡ lowest_free t.opens → u ≡ record t {
  opens = put t.opens id (Some x);
  offsets = slice_set t.offsets id 0;
  owners = slice_set t.owners id 1;
} → u ≡ record t { opens = put t.opens id (Some x); owners = slice_set t.owners id 1 }
opened_is t u id x clear lowest is =
    is ∙ ap (λ ks. let v : Parts = record t { opens = put t.opens id (Some x); offsets = ks; owners = slice_set t.owners id 1 } in
    v) (offsets_kept t id clear (sym lowest))

pub clear_opened : (t u : Parts) (id : ℕ) (x : Open) → IsClear t → Some id ≡ lowest_free t.opens → u ≡ record t {
  opens = put t.opens id (Some x);
  offsets = slice_set t.offsets id 0;
  owners = slice_set t.owners id 1;
} → IsClear u
clear_opened t u id x clear lowest is = rw (opened_is t u id x clear lowest is) record {
  owners = λ e h. elim (eqb_tells e id) [
    | inl s ↦ absurd (there e s.1 h)
    | inr s ↦ get_or-set_other t.owners id e 1 0 s.1 ∙ clear.owners e (before e s.1 h)
  ];
  offsets = λ e h. elim (eqb_tells e id) [
    | inl s ↦ absurd (there e s.1 h)
    | inr s ↦ clear.offsets e (before e s.1 h)
  ];
}
  where
    low : id < length t.opens
    low = (lowest_free_is _ id (sym lowest)).0

    there : (e : ℕ) → e ≡ id → is_some (at (put t.opens id (Some x)) e) ≡ false → ⊥
    there e same h = true≢false (sym (ap is_some (get_or-set_same t.opens id _ None low)) ∙ ap (λ n. is_some (at (put t.opens id (Some x)) n)) (sym same) ∙ h)

    before : (e : ℕ) → (e ≡ id → ⊥) → is_some (at (put t.opens id (Some x)) e) ≡ false → is_some (at t.opens e) ≡ false
    before e differ h = ap is_some (sym (get_or-set_other t.opens id e _ None differ)) ∙ h

-- no descriptor of a sound world is on a free entry
unnamed : (a : Around) (t : Parts) (ps : List (Option Process)) → Sound (world_of a t ps) → (e : ℕ) → is_some (at t.opens e) ≡ false → sum (map (named_by e) ps) ≡ 0
unnamed a t ps s e free = sum_zero _ ps (λ n. go n _ refl)
  where
    by_fd : (n : ℕ) (q : Process) → living (at ps n) ≡ Some q → (d : Option ℕ) (fd : ℕ) → at q.fds fd ≡ d → one (is_at e d) ≡ 0
    by_fd n q lives None fd is = refl
    by_fd n q lives (Some x) fd is = elim (eqb_tells x e) [
      | inl same ↦ absurd (true≢false (sym (s.opens.descriptor n q fd e lives (is ∙ ap Some same.1)) ∙ free))
      | inr differ ↦ ap one differ.0
    ]

    by_end : (n : ℕ) (q : Process) (b : Bool) → q.ended ≡ b → at ps n ≡ Some q → (if b then 0 else count_by (is_at e) q.fds) ≡ 0
    by_end n q true end is = refl
    by_end n q false end is =
        let lives = ap living is ∙ ap (λ b. if b then None else Some q) end in
        sym (sum-map (λ d. cond _ 1 0) q.fds) ∙ sum_zero _ q.fds (λ fd. by_fd n q lives _ fd refl)

    go : (n : ℕ) (p : Option Process) → at ps n ≡ p → named_by e (at ps n) ≡ 0
    go n None is = ap (named_by e) is
    go n (Some q) is = ap (named_by e) is ∙ by_end n q _ refl is

pub clear_sound : (a : Around) (t : Parts) (ps : List (Option Process)) → Sound (world_of a t ps) → IsCounted t ps → IsClear t
clear_sound a t ps s c = record {
  owners = λ e free. elim (cases_lt e _) [
    | inl low ↦ owners_at t ps c e low ∙ unnamed a t ps s e free
    | inr past ↦ get_or_past t.owners e 0 (omega (arith, past, owners_long t ps c))
  ];
  offsets = λ e free. s.holdings.clean.offsets e free;
}

-- ---- few own an entry
pub owners_sound : (a : Around) (t : Parts) (ps : List (Option Process)) → Sound (world_of a t ps) → IsCounted t ps → t.limits.procs ≤ 1024 → (e : ℕ) → slice_index_or t.owners e 0 ≤ 32768
owners_sound a t ps s c few e = let within = s.limits.processes in owners_bounded t ps c (omega (arith, within, few)) s.processes.descriptors e

-- ---- what is kept
pub kept_owners : (t u : Parts) (os : List ℕ) → u ≡ record t { owners = os } → Keeps t u
kept_owners t u os is = record { holdings = ap (λ v. v.holdings) is; offsets = ap (λ v. v.offsets) is }

pub kept_opens : (t u : Parts) (es : List (Option Open)) (os : List ℕ) → u ≡ record t { opens = es; owners = os } → Keeps t u
kept_opens t u es os is = record { holdings = ap (λ v. v.holdings) is; offsets = ap (λ v. v.offsets) is }

pub ruleset giving = (free_there, counted_shared, counted_opened, opened_is, clear_opened, clear_sound, owners_sound, kept_owners, kept_opens)
