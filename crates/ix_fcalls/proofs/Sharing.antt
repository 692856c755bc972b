-- What one process more does to the counts.
use Rattle.std.proofs.Common.{◌≡◌, ◌+◌, ◌<◌, ◌≤◌, ◌==◌, ◌&&◌, ℕ, not, cond, true, false, List, [], ◌∷◌, ◌++◌, Option, Some, None, map, sum, set, get_or, take, if◌then◌else◌}
use Rattle.std.proofs.Common.{length, count_by, is_some, refl, sym, ap, ◌∙◌, subst, arith, inl, inr, length-set, length-take-le, slice_set, slice_index_or}
use Rattle.std.proofs.lemmas.{Bool.cases_lt, List.{get_or_past, take_all, Sums.{sum-map, sum_by_push, count_by-le-length}}}
use Rattle.ix_model.specs.{world.{World.{Process, at}, Owners.is_at}, rows.OnPaths.is_home}
use Rattle.ix_tables.specs.Parts.{Parts, named_by}
use Rattle.ix_fcalls.{specs.Counted.IsCounted, proofs.Counting.{one, counts_are, one_more, count_more, stands_within, owners_long, owners_at, homes_long, homes_at, owners_few, homes_few}}

-- the first so many descriptors are owners of the entries that they name, and nothing else has changed
pub record AreShared (fds : List (Option ℕ)) (i : ℕ) (t u : Parts) : Type 0 where
  pub owners : (e : ℕ) → slice_index_or u.owners e 0 ≡ slice_index_or t.owners e 0 + count_by (is_at e) (take i fds)
  pub long : length u.owners ≡ length t.owners
  pub rest : u ≡ record t { owners = u.owners }

pub shared_none : (t : Parts) (fds : List (Option ℕ)) → AreShared fds 0 t t
shared_none t fds = record { owners = λ e. omega arith; long = refl; rest = refl }

module _ (t u w : Parts) (fds : List (Option ℕ)) (i : ℕ) (low : i < length fds) (s : AreShared fds i t u) where
  pub shared_more : (id : ℕ) → at fds i ≡ Some id → is_some (at t.opens id) ≡ true → length t.owners ≡ length t.opens
      → w ≡ record u { owners = slice_set u.owners id (slice_index_or u.owners id 0 + 1) } → AreShared fds (i + 1) t w
  shared_more id names stands even is =
      let within : id < length u.owners = omega (arith, stands_within t.opens id stands, even, s.long) in
      let new = ap (λ v. v.owners) is in
      record {
        owners = λ e. ap (λ os. get_or os e 0) new ∙ omega (arith, one_more u.owners id e within, s.owners e, count_more e fds i low, ap (λ d. one (is_at e d)) names);
        long = ap length new ∙ length-set u.owners id _ ∙ s.long;
        rest = is ∙ ap (λ v. let x : Parts = record v { owners = set u.owners id (get_or u.owners id 0 + 1) } in
            x) s.rest ∙ ap (λ os. let x : Parts = record t { owners = os } in x) (sym new);
      }

  pub shared_same : at fds i ≡ None → w ≡ u → AreShared fds (i + 1) t w
  shared_same names is = subst (AreShared fds _ t) (sym is) record {
    owners = λ e. s.owners e ∙ omega (arith, count_more e fds i low, ap (λ d. one (is_at e d)) names);
    long = s.long;
    rest = s.rest;
  }

module _ (t u : Parts) (fds : List (Option ℕ)) (i : ℕ) (s : AreShared fds i t u) where
  pub shared_few : (e : ℕ) → ((e : ℕ) → slice_index_or t.owners e 0 ≤ 32768) → length fds ≡ 32 → i < 32 → slice_index_or u.owners e 0 + 1 < 4294967296
  shared_few e few long low = omega (arith, low, s.owners e, few e, count_by-le-length (is_at e) (take i fds), length-take-le i fds, long)

  pub shared_all : length fds ≤ i → (e : ℕ) → slice_index_or u.owners e 0 ≡ slice_index_or t.owners e 0 + count_by (is_at e) fds
  shared_all past e = s.owners e ∙ ap (λ xs. slice_index_or t.owners e 0 + count_by (is_at e) xs) (take_all i fds past)

-- ---- all that a new process has
module _ (t : Parts) (ps : List (Option Process)) (c : IsCounted t ps) (few : count_by is_some ps ≤ 1024) where
  pub owners_bounded : ((p : ℕ) (q : Process) → at ps p ≡ Some q → length q.fds ≡ 32) → (e : ℕ) → slice_index_or t.owners e 0 ≤ 32768
  owners_bounded long e = elim (cases_lt e _) [
    | inl low ↦ omega (arith, owners_at t ps c e low, owners_few e ps long, few)
    | inr past ↦ omega (arith, get_or_past t.owners e 0 (omega (arith, past, owners_long t ps c)))
  ]

  pub homes_bounded : (o : ℕ) → o < length t.objects → slice_index_or t.homes o 0 + 1 < 4294967296
  homes_bounded o low = omega (arith, homes_at t ps c o low, homes_few o ps, few)

pub counted_taken : (t u v : Parts) (ps : List (Option Process)) (fds : List (Option ℕ)) (cwd : ℕ) → IsCounted t ps → cwd < length t.objects
    → ((e : ℕ) → slice_index_or u.owners e 0 ≡ slice_index_or t.owners e 0 + count_by (is_at e) fds) → length u.owners ≡ length t.owners → u ≡ record t { owners = u.owners }
    → v ≡ record u { homes = slice_set u.homes cwd (slice_index_or u.homes cwd 0 + 1) }
    → (p : Process) → p.fds ≡ fds → p.cwd ≡ cwd → p.ended ≡ false → IsCounted v (ps ++ Some p ∷ [])
counted_taken t u v ps fds cwd c home owners long rest is p has at_home lives =
    let opens = ap (λ w. length w.opens) is ∙ ap (λ w. length w.opens) rest in
    let objects = ap (λ w. length w.objects) is ∙ ap (λ w. length w.objects) rest in
    let same = ap (λ w. w.owners) is in
    let old = ap (λ w. w.homes) rest in
    let new : v.homes ≡ set t.homes cwd (get_or t.homes cwd 0 + 1) = ap (λ (w : Parts). w.homes) is ∙ ap (λ (hs : List ℕ). set hs cwd (get_or hs cwd 0 + 1)) old in
    record {
      owners = counts_are v.owners (λ e. sum (map (named_by e) (ps ++ Some p ∷ []))) (length v.opens) (ap length same ∙ long ∙ owners_long t ps c ∙ sym opens) (λ e low.
          let named : named_by e (Some p) ≡ count_by (is_at e) fds = ap (λ b. if b then 0 else count_by (is_at e) p.fds) lives ∙ ap (count_by (is_at e)) has in
          ap (λ (os : List ℕ). get_or os e 0) same ∙ omega (
            arith,
            owners e,
            owners_at t ps c e (omega (arith, low, opens)),
            sum-map (named_by e) (ps ++ Some p ∷ []),
            sum-map (named_by e) ps,
            sum_by_push (named_by e) ps (Some p),
            named,
          ));
      homes = counts_are v.homes (λ o. count_by (is_home o) (ps ++ Some p ∷ [])) (length v.objects) (ap length new
          ∙ length-set t.homes cwd (get_or t.homes cwd 0 + 1) ∙ homes_long t ps c ∙ sym objects) (λ o low.
          let there : one (is_home o (Some p)) ≡ one (cwd == o) = ap (λ b. one (not b && p.cwd == o)) lives ∙ ap (λ d. one (d == o)) at_home in
          ap (λ (hs : List ℕ). get_or hs o 0) new ∙ omega (
            arith,
            one_more t.homes cwd o (omega (arith, home, homes_long t ps c)),
            homes_at t ps c o (omega (arith, low, objects)),
            sum_by_push (λ (x : Option Process). cond {A = ℕ} (is_home o x) 1 0) ps (Some p),
            there,
          ));
    }

pub ruleset sharing = (shared_none, shared_more, shared_same, shared_few, shared_all, owners_long, owners_bounded, homes_bounded, homes_long, counted_taken)
