-- Which descriptors are fresh after each call.
use Rattle.std.proofs.Common.{◌≡◌, ◌==◌, ◌&&◌, ◌<◌, ◌≤◌, ◌+◌, ◌^◌, ◌⊎◌, ℕ, zero, suc, Bool, true, false, List, length, replicate, Option, Some, None, is_some}
use Rattle.std.proofs.Common.{IsTrue, ◌↔◌, refl, sym, ap, ◌∙◌, subst, arith, inl, inr, get_or, set, if◌then◌else◌}
use Rattle.std.proofs.{lemmas.Bool.{and_parts, eqb-true, eq-eqb, ne_eqb}, lemmas.Bool.Decides.eqb_tells, lemmas.Option.same_Some}
use Rattle.std.proofs.lemmas.List.{get_or-set_same, get_or-set_other, length-replicate, get_or_read}
use Rattle.ix_float.specs.{Marks.last_set, declared.mark.Way.{Way, TheVariants.{Reading, Writing}}}
use Rattle.ix_marks.specs.{declared.row.{Spot.Spot, Place.Place, Row.Row}, RowIndex.{RowOwners, row_of}}
use Rattle.ix_marks.specs.Places.{spot_in, set_place, place_in, row_in, no_place, no_row, empty_row}
use Rattle.ix_marks.specs.Known.{Known, spot_of, same_way, is_it, unless, on_object, on_entry, generation_at, sum_at, still, fresh_in, known, IsPast, AreKept}
use Rattle.ix_marks.proofs.{Rows.none_is, Spots.{fresh_at, spot_is, spot_was, row_low, row_read, spots_written, kept_written}}

-- both tests, one after the other
merged : (a b : Bool) (x y : Option Spot) → (if a then (if b then x else y) else y) ≡ (if a && b then x else y)
merged true b x y = refl
merged false b x y = refl

-- ---- a mark
module _ (objects opens : List ℕ) (g : ℕ) where
  never_fresh : (w : Way) → fresh_in objects opens g w no_place ≡ None
  never_fresh Reading = refl
  never_fresh Writing = refl

  never_past : (w : Way) → IsPast objects opens g w no_place
  never_past Reading h e = absurd (cc e)
  never_past Writing h e = absurd (cc e)

  cleared : (b : Bool) (w : Way) (p : Place) → fresh_in objects opens g w (if b then no_place else p) ≡ (if b then None else fresh_in objects opens g w p)
  cleared true w p = never_fresh w
  cleared false w p = refl

  cleared_past : (b : Bool) (w : Way) (p : Place) → IsPast objects opens g w p → IsPast objects opens g w (if b then no_place else p)
  cleared_past true w p h = never_past w
  cleared_past false w p h = h

  now_still : (s : Spot) → still (g, sum_at objects opens s) (Some (g, sum_at objects opens s)) s ≡ Some s
  now_still s = rw (eq-eqb g g refl, eq-eqb (sum_at objects opens s) (sum_at objects opens s) refl) refl

  set_fresh : (way w : Way) (s : Spot) (p : Place) → fresh_in objects opens g w (set_place way s (g, sum_at objects opens s) p) ≡ (if same_way way w then Some s else fresh_in objects opens g w p)
  set_fresh Reading Reading s p = now_still s
  set_fresh Reading Writing s p = refl
  set_fresh Writing Reading s p = refl
  set_fresh Writing Writing s p = now_still s

  now_past : (s : Spot) (h : ℕ × ℕ) → Some (g, sum_at objects opens s) ≡ Some h → (h.0 ≤ g) × (h.1 ≤ sum_at objects opens s)
  now_past s h e = let same = same_Some (g, sum_at objects opens s) h e in (omega (arith, ap (λ (x : ℕ × ℕ). x.0) same), omega (arith, ap (λ (x : ℕ × ℕ). x.1) same))

  set_past : (way w : Way) (s : Spot) (p : Place) → IsPast objects opens g w p → IsPast objects opens g w (set_place way s (g, sum_at objects opens s) p)
  set_past Reading Reading s p old h e = now_past s h e
  set_past Reading Writing s p old h e = old h e
  set_past Writing Reading s p old h e = old h e
  set_past Writing Writing s p old h e = now_past s h e

  -- of a process whose label has changed since
  raised_stale : (w : Way) (p : Place) → IsPast objects opens g w p → fresh_in objects opens (g + 1) w p ≡ None
  raised_stale w p old = go (last_set w p.mark) (λ h e. (old h e).0)
    where
      go : (o : Option (ℕ × ℕ)) → ((h : ℕ × ℕ) → o ≡ Some h → h.0 ≤ g) → still (g + 1, sum_at objects opens (spot_in w p)) o (spot_in w p) ≡ None
      go None low = refl
      go (Some h) low = let le = low h refl in rw (ne_eqb h.0 (g + 1) (λ e. omega (arith, e, le))) refl

  raised_past : (w : Way) (p : Place) → IsPast objects opens g w p → IsPast objects opens (g + 1) w p
  raised_past w p old h e = let both = old h e in (omega (arith, both.0), both.1)

-- what a mark tells is whether its spot is fresh
told : (g sum : ℕ) (last : Option (ℕ × ℕ)) (s : Spot) (b : Bool) → (IsTrue b ↔ last ≡ Some (g, sum)) → b ≡ is_some (still (g, sum) last s)
told g sum None s true h = absurd (cc (h.0 refl))
told g sum None s false h = refl
told g sum (Some x) s true h =
    let same : x ≡ (g, sum) = same_Some x (g, sum) (h.0 refl) in
    rw (ap (λ (y : ℕ × ℕ). y.0) same, ap (λ (y : ℕ × ℕ). y.1) same, eq-eqb g g refl, eq-eqb sum sum refl) refl
told g sum (Some x) s false h = go (x.0 == g && x.1 == sum) refl
  where
    pair_is : (y : ℕ × ℕ) (a b : ℕ) → y.0 ≡ a → y.1 ≡ b → y ≡ (a, b)
    pair_is y a b e f = ap (λ n. (n, y.1)) e ∙ ap (λ n. (a, n)) f

    go : (t : Bool) → (x.0 == g && x.1 == sum) ≡ t → false ≡ is_some (still (g, sum) (Some x) s)
    go false e = rw e refl
    go true e =
        let both = and_parts (x.0 == g) (x.1 == sum) e in
        let same : x ≡ (g, sum) = pair_is x g sum (eqb-true x.0 g both.0) (eqb-true x.1 sum both.1) in
        absurd (cc (h.1 (ap (λ (y : ℕ × ℕ). Some y) same)))

-- ---- a row is written
module _ (owners : RowOwners) (rows : List Row) (objects opens : List ℕ) (raised : ℕ) (old : AreKept owners rows objects opens raised) (v : Known)
    (shown : known owners rows objects opens raised ≡ v) (pid i : ℕ) (is : row_of pid owners.pids ≡ Some i) (r : Row) (read : r ≡ get_or rows i r) where
  abbrev low_i : i < length rows
  low_i = row_low owners rows objects opens raised old v shown pid i is

  abbrev is_old : r ≡ row_in rows i
  is_old = row_read owners rows objects opens raised old v shown pid i is r read

  abbrev past : (d : ℕ) (w : Way) → IsPast objects opens r.generation w (place_in r d)
  past d w = subst (λ x. IsPast objects opens x.generation w (place_in x d)) (sym is_old) (old.past i d w)

  abbrev low : r.generation ≤ raised
  low = subst (λ x. x.generation ≤ raised) (sym is_old) (old.rows_low i)

  fresh_old : (d : ℕ) (w : Way) → fresh_in objects opens r.generation w (place_in r d) ≡ fresh_in objects opens (row_in rows i).generation w (place_in (row_in rows i) d)
  fresh_old d w = ap (λ x. fresh_in objects opens x.generation w (place_in x d)) is_old

  pub fresh_told : (d : ℕ) (w : Way) (p : Place) → p ≡ place_in r d → (sum : ℕ) → sum ≡ sum_at objects opens (spot_in w p) → (b : Bool)
      → (IsTrue b ↔ last_set w p.mark ≡ Some (r.generation, sum)) → b ≡ is_some (spot_of v pid d w)
  fresh_told d w p p_is sum sum_is b h =
      told r.generation sum (last_set w p.mark) (spot_in w p) b h
      ∙ ap (λ n. is_some (still (r.generation, n) (last_set w p.mark) (spot_in w p))) sum_is
      ∙ ap (λ x. is_some (fresh_in objects opens r.generation w x)) p_is
      ∙ ap is_some (fresh_old d w)
      ∙ ap (λ o. is_some (fresh_at rows objects opens o d w)) (sym is)
      ∙ ap is_some (sym (spot_was owners rows objects opens raised old v shown pid d w))

  -- a descriptor is closed
  module _ (fd : ℕ) (r' : Row) (gen : r'.generation ≡ r.generation) (places : (d : ℕ) → place_in r' d ≡ (if d == fd then no_place else place_in r d)) where
    clear_makes : (d : ℕ) (w : Way) → fresh_in objects opens r'.generation w (place_in r' d) ≡ (if d == fd then None else
        fresh_in objects opens (row_in rows i).generation w (place_in (row_in rows i) d))
    clear_makes d w =
        ap (λ g. fresh_in objects opens g w (place_in r' d)) gen
        ∙ ap (fresh_in objects opens r.generation w) (places d)
        ∙ cleared objects opens r.generation (d == fd) w (place_in r d)
        ∙ ap (λ (o : Option Spot). if d == fd then None else o) (fresh_old d w)

    pub clear_spots : (q d : ℕ) (w : Way) → spot_of (known owners (set rows i r') objects opens raised) q d w ≡ (if q == pid && d == fd then None else spot_of v q d w)
    clear_spots q d w = spots_written owners rows objects opens raised old v shown pid i is r' raised (λ d w o. if d == fd then None else o) clear_makes q d w
        ∙ merged (q == pid) (d == fd) None (spot_of v q d w)

    clear_past : (d : ℕ) (w : Way) → IsPast objects opens r'.generation w (place_in r' d)
    clear_past d w = rw (gen, places d) (cleared_past objects opens r.generation (d == fd) w (place_in r d) (past d w))

    pub clear_kept : AreKept owners (set rows i r') objects opens raised
    clear_kept = kept_written owners owners refl rows objects opens raised old i low_i r' raised (omega arith) old.few (omega (arith, gen, low)) clear_past

  -- a mark is set
  module _ (fd : ℕ) (way : Way) (s : Spot) (sum : ℕ) (sum_is : sum ≡ sum_at objects opens s) (r' : Row) (gen : r'.generation ≡ r.generation) (places : (d : ℕ)
      → place_in r' d ≡ (if d == fd then set_place way s (r.generation, sum) (place_in r fd) else place_in r d)) where
    set_at : (d : ℕ) (b : Bool) → (d == fd) ≡ b → place_in r' d ≡ (if b then set_place way s (r.generation, sum_at objects opens s) (place_in r d) else place_in r d)
    set_at d true e = places d ∙ rw e (ap (λ n. set_place way s (r.generation, n) (place_in r fd)) sum_is
        ∙ ap (λ k. set_place way s (r.generation, sum_at objects opens s) (place_in r k)) (sym (eqb-true d fd e)))
    set_at d false e = places d ∙ rw e refl

    set_makes : (d : ℕ) (w : Way) → fresh_in objects opens r'.generation w (place_in r' d) ≡ (if d == fd && same_way way w then Some s else
        fresh_in objects opens (row_in rows i).generation w (place_in (row_in rows i) d))
    set_makes d w =
        ap (λ g. fresh_in objects opens g w (place_in r' d)) gen
        ∙ ap (fresh_in objects opens r.generation w) (set_at d (d == fd) refl)
        ∙ go (d == fd)
        ∙ ap (λ (o : Option Spot). if d == fd && same_way way w then Some s else o) (fresh_old d w)
      where
        go : (b : Bool) → fresh_in objects opens r.generation w (if b then set_place way s (r.generation, sum_at objects opens s) (place_in r d) else
            place_in r d) ≡ (if b && same_way way w then Some s else fresh_in objects opens r.generation w (place_in r d))
        go true = set_fresh objects opens r.generation way w s (place_in r d)
        go false = refl

    pub set_spots : (q d : ℕ) (w : Way) → spot_of (known owners (set rows i r') objects opens raised) q d w ≡ (if is_it pid fd way q d w then Some s else spot_of v q d w)
    set_spots q d w = spots_written owners rows objects opens raised old v shown pid i is r' raised (λ d w o. if d == fd && same_way way w then Some s else
        o) set_makes q d w ∙ merged (q == pid) (d == fd && same_way way w) (Some s) (spot_of v q d w)

    set_kept_past : (d : ℕ) (w : Way) → IsPast objects opens r'.generation w (place_in r' d)
    set_kept_past d w = rw (gen, set_at d (d == fd) refl) (go (d == fd))
      where
        go : (b : Bool) → IsPast objects opens r.generation w (if b then set_place way s (r.generation, sum_at objects opens s) (place_in r d) else place_in r d)
        go true = set_past objects opens r.generation way w s (place_in r d) (past d w)
        go false = past d w

    pub set_kept : AreKept owners (set rows i r') objects opens raised
    set_kept = kept_written owners owners refl rows objects opens raised old i low_i r' raised (omega arith) old.few (omega (arith, gen, low)) set_kept_past

  -- its process's label has changed
  pub raised_fits : raised < 2 ^ 62 → r.generation + 1 < 2 ^ 64
  raised_fits few = omega (arith, low, few)

  pub process_spots : (q d : ℕ) (w : Way)
      → spot_of (known owners (set rows i (record { generation = r.generation + 1; places = r.places })) objects opens (raised + 1)) q d w ≡ (if q == pid then
      None else spot_of v q d w)
  process_spots q d w = spots_written owners rows objects opens raised old v shown pid i is (record { generation = r.generation + 1; places = r.places })
      (raised + 1) (λ d w o. None) (λ d w. raised_stale objects opens r.generation w (place_in r d) (past d w)) q d w

  pub process_kept : raised < 2 ^ 62 → AreKept owners (set rows i (record { generation = r.generation + 1; places = r.places })) objects opens (raised + 1)
  process_kept few = kept_written owners owners refl rows objects opens raised old i low_i (record { generation = r.generation + 1; places = r.places })
      (raised + 1) (omega arith) (omega (arith, few)) (omega (arith, low)) (λ d w. raised_past objects opens r.generation w (place_in r d) (past d w))

-- ---- a process gets a row
blank : {A : Type 0} (a : A) (n d : ℕ) → get_or (replicate n a) d a ≡ a
blank a zero d = refl
blank a (suc n) zero = refl
blank a (suc n) (suc d) = blank a n d

empty_at : (d : ℕ) → place_in empty_row d ≡ no_place
empty_at d = blank no_place 32 d

module _ (owners owners' : RowOwners) (rows : List Row) (objects opens : List ℕ) (raised : ℕ) (old : AreKept owners rows objects opens raised) (v : Known)
    (shown : known owners rows objects opens raised ≡ v) (pid i : ℕ) (low_i : i < length rows) where
  pub take_kept : length owners'.pids ≡ length owners.pids → AreKept owners' (set rows i empty_row) objects opens raised
  take_kept as_many = kept_written owners owners' as_many rows objects opens raised old i low_i empty_row raised (omega arith) old.few (omega arith)
      (λ d w. subst (IsPast objects opens 0 w) (sym (empty_at d)) (never_past objects opens 0 w))

  module _ (none : row_of pid owners.pids ≡ None) (unused : (q : ℕ) → row_of q owners.pids ≡ Some i → ⊥) (taken : (q : ℕ)
      → row_of q owners'.pids ≡ (if q == pid then Some i else row_of q owners.pids)) where
    here : (d : ℕ) (w : Way) → fresh_at (set rows i empty_row) objects opens (Some i) d w ≡ None
    here d w =
        ap (λ (x : Row). fresh_in objects opens x.generation w (place_in x d)) (get_or-set_same rows i empty_row no_row low_i)
        ∙ ap (fresh_in objects opens 0 w) (empty_at d) ∙ never_fresh objects opens 0 w

    there : (q d : ℕ) (w : Way) (o : Option ℕ) → row_of q owners.pids ≡ o → fresh_at (set rows i empty_row) objects opens o d w ≡ fresh_at rows objects opens o d w
    there q d w None h = refl
    there q d w (Some j) h = ap (λ (x : Row). fresh_in objects opens x.generation w (place_in x d)) (get_or-set_other rows i j empty_row no_row (λ e. unused q (h ∙ ap (λ k. Some k) e)))

    pub take_spots : (q d : ℕ) (w : Way) → spot_of (known owners' (set rows i empty_row) objects opens raised) q d w ≡ spot_of v q d w
    take_spots q d w = spot_is owners' (set rows i empty_row) objects opens raised q d w
        ∙ ap (λ o. fresh_at (set rows i empty_row) objects opens o d w) (taken q) ∙ go (eqb_tells q pid)
        ∙ sym (spot_was owners rows objects opens raised old v shown q d w)
      where
        go : (((q == pid) ≡ true) × (q ≡ pid)) ⊎ (((q == pid) ≡ false) × (q ≡ pid → ⊥)) → fresh_at (set rows i empty_row) objects opens (if q == pid then Some i
            else row_of q owners.pids) d w ≡ fresh_at rows objects opens (row_of q owners.pids) d w
        go (inl same) =
            let gone : row_of q owners.pids ≡ None = ap (λ k. row_of k owners.pids) same.1 ∙ none in
            rw (same.0, gone) (here d w)
        go (inr other) = rw other.0 (there q d w (row_of q owners.pids) refl)

-- ---- the label of an object or of an open entry has changed
still_unless : (test : Spot → Bool) (g sum sum' : ℕ) (last : Option (ℕ × ℕ)) (s : Spot) → ((h : ℕ × ℕ) → last ≡ Some h → h.1 ≤ sum)
    → (test s ≡ true → sum' ≡ sum + 1) → (test s ≡ false → sum' ≡ sum) → still (g, sum') last s ≡ unless test (still (g, sum) last s)
still_unless test g sum sum' None s low up stays = refl
still_unless test g sum sum' (Some h) s low up stays = go (test s) refl
  where
    passed : (b : Bool) → test s ≡ true → None ≡ unless test (if b then Some s else None)
    passed true is = rw is refl
    passed false is = refl

    failed : (b : Bool) → test s ≡ false → (if b then Some s else None) ≡ unless test (if b then Some s else None)
    failed true is = rw is refl
    failed false is = refl

    no_and : (b : Bool) → (b && false) ≡ false
    no_and true = refl
    no_and false = refl

    go : (t : Bool) → test s ≡ t → still (g, sum') (Some h) s ≡ unless test (still (g, sum) (Some h) s)
    go true is =
        let le = low h refl in
        let above : (h.1 == sum') ≡ false = ne_eqb h.1 sum' (λ e. omega (arith, e, le, up is)) in
        rw (above, no_and (h.0 == g)) (passed (h.0 == g && h.1 == sum) is)
    go false is = rw (stays is) (failed (h.0 == g && h.1 == sum) is)

module _ (owners : RowOwners) (rows : List Row) (objects opens : List ℕ) (raised : ℕ) (old : AreKept owners rows objects opens raised) (v : Known)
    (shown : known owners rows objects opens raised ≡ v) (raised' : ℕ) where
  unless_at : (objects' opens' : List ℕ) (test : Spot → Bool) → ((s : Spot) → (test s ≡ true → sum_at objects' opens' s ≡ sum_at objects opens s + 1)
      × (test s ≡ false → sum_at objects' opens' s ≡ sum_at objects opens s)) → (q d : ℕ) (w : Way) → spot_of (known owners rows objects' opens' raised') q d w
      ≡ unless test (spot_of v q d w)
  unless_at objects' opens' test sums q d w = spot_is owners rows objects' opens' raised' q d w ∙ go (row_of q owners.pids)
      ∙ ap (unless test) (sym (spot_was owners rows objects opens raised old v shown q d w))
    where
      go : (o : Option ℕ) → fresh_at rows objects' opens' o d w ≡ unless test (fresh_at rows objects opens o d w)
      go None = refl
      go (Some i) =
          let p : Place = place_in (row_in rows i) d in
          let both = sums (spot_in w p) in
          still_unless test (row_in rows i).generation (sum_at objects opens (spot_in w p)) (sum_at objects' opens' (spot_in w p)) (last_set w p.mark)
          (spot_in w p) (λ h e. (old.past i d w h e).1) both.0 both.1

  raised_at : (xs : List ℕ) (o x k : ℕ) → o < length xs → x ≡ get_or xs o x → ((k == o) ≡ true → generation_at (set xs o (x + 1)) k ≡ generation_at xs k + 1)
      × ((k == o) ≡ false → generation_at (set xs o (x + 1)) k ≡ generation_at xs k)
  raised_at xs o x k low read = (up, stays)
    where
      up : (k == o) ≡ true → generation_at (set xs o (x + 1)) k ≡ generation_at xs k + 1
      up is =
          let at : k ≡ o = eqb-true k o is in
          let now : generation_at (set xs o (x + 1)) o ≡ x + 1 = get_or-set_same xs o (x + 1) 0 low in
          let before : x ≡ generation_at xs o = get_or_read xs o x low read 0 in
          rw at (now ∙ ap (λ n. n + 1) before)

      stays : (k == o) ≡ false → generation_at (set xs o (x + 1)) k ≡ generation_at xs k
      stays is = get_or-set_other xs o k (x + 1) 0 (λ e. cc (is, eq-eqb o o refl, ap (λ n. n == o) e))

  pub object_spots : (o x : ℕ) → o < length objects → x ≡ get_or objects o x → (q d : ℕ) (w : Way)
      → spot_of (known owners rows (set objects o (x + 1)) opens raised') q d w ≡ unless (on_object o) (spot_of v q d w)
  object_spots o x low read = unless_at (set objects o (x + 1)) opens (on_object o) (λ s. (let both = raised_at objects o x s.object low read in
      (λ is. omega (arith, both.0 is), λ is. omega (arith, both.1 is))))

  pub entry_spots : (e x : ℕ) → e < length opens → x ≡ get_or opens e x → (q d : ℕ) (w : Way)
      → spot_of (known owners rows objects (set opens e (x + 1)) raised') q d w ≡ unless (on_entry e) (spot_of v q d w)
  entry_spots e x low read = unless_at objects (set opens e (x + 1)) (on_entry e) (λ s. (let both = raised_at opens e x s.entry low read in
      (λ is. omega (arith, both.0 is), λ is. omega (arith, both.1 is))))

-- ---- none is fresh yet
pub no_row_of : (q n : ℕ) → row_of q (replicate n None) ≡ None
no_row_of q n = none_is q (replicate n None) (λ i at. (let none = blank {A = Option ℕ} None n i in cc (none, at)))

none_at : (n : ℕ) (i d : ℕ) → place_in (row_in (replicate n empty_row) i) d ≡ no_place
none_at zero i d = refl
none_at (suc n) zero d = empty_at d
none_at (suc n) (suc i) d = none_at n i d

zero_at : (n : ℕ) (i : ℕ) → (row_in (replicate n empty_row) i).generation ≡ 0
zero_at zero i = refl
zero_at (suc n) zero = refl
zero_at (suc n) (suc i) = zero_at n i

pub none_kept : (n a b : ℕ) → AreKept (record { pids = replicate n None; free = n }) (replicate n empty_row) (replicate a 0) (replicate b 0) 0
none_kept n a b = record {
  enough = length-replicate n empty_row ∙ sym (length-replicate n None);
  past = λ i d w. subst (IsPast (replicate a 0) (replicate b 0) (row_in (replicate n empty_row) i).generation w) (sym (none_at n i d))
      (never_past (replicate a 0) (replicate b 0) (row_in (replicate n empty_row) i).generation w);
  rows_low = λ i. omega (arith, zero_at n i);
  objects_low = λ o. omega (arith, blank {A = ℕ} 0 a o);
  opens_low = λ e. omega (arith, blank {A = ℕ} 0 b e);
  few = omega arith;
}

pub none_spots : (owners : RowOwners) (n : ℕ) (rows : List Row) (objects opens : List ℕ) → owners ≡ record { pids = replicate n None; free = n }
    → (q d : ℕ) (w : Way) → spot_of (known owners rows objects opens 0) q d w ≡ None
none_spots owners n rows objects opens is q d w = spot_is owners rows objects opens 0 q d w ∙ ap (λ o. fresh_at rows objects opens o d w) (ap (λ (s : RowOwners). row_of q s.pids) is ∙ no_row_of q n)
