-- Which descriptors are fresh where a row or a generation is written.
use Rattle.std.proofs.Common.{◌≡◌, ◌==◌, ◌<◌, ◌≤◌, ◌^◌, ◌⊎◌, ℕ, true, false, List, length, map, Option, Some, None, refl, sym, ap, ◌∙◌, arith, inl, inr, get_or}
use Rattle.std.proofs.Common.{set, if◌then◌else◌}
use Rattle.std.proofs.{lemmas.{Bool.Decides.eqb_tells, List.{get_or-set_same, get_or-set_other, length-set, get_or_read}}, Math.ListN.get_or-map}
use Rattle.ix_float.specs.declared.mark.Way.{Way, TheVariants.{Reading, Writing}}
use Rattle.ix_marks.specs.{declared.row.{Spot.Spot, Place.Place, Row.Row}, RowIndex.{RowOwners, row_of}, Places.{place_in, row_in, no_place, no_row}}
use Rattle.ix_marks.proofs.Rows.{row_at, within, apart}
use Rattle.ix_marks.specs.Known.{Known, Spots, spot_at, spot_of, for_way, stale, fresh_in, shown_place, shown_row, known, IsPast, AreKept}

-- ---- the spots that contracts see
-- the spot of a row's descriptor, by what the code keeps
abbrev pub fresh_at : List Row → List ℕ → List ℕ → Option ℕ → ℕ → Way → Option Spot
fresh_at rows objects opens None d w = None
fresh_at rows objects opens (Some i) d w = fresh_in objects opens (row_in rows i).generation w (place_in (row_in rows i) d)

by_way : (objects opens : List ℕ) (generation : ℕ) (p : Place) (w : Way) → for_way w (shown_place objects opens generation p) ≡ fresh_in objects opens generation w p
by_way objects opens generation p Reading = refl
by_way objects opens generation p Writing = refl

shown_at : (rows : List Row) (objects opens : List ℕ) (o : Option ℕ) (d : ℕ) (w : Way) → spot_at (map (shown_row objects opens) rows) o d w ≡ fresh_at rows objects opens o d w
shown_at rows objects opens None d w = refl
shown_at rows objects opens (Some i) d w =
    ap (λ (r : List Spots). for_way w (get_or r d stale)) (get_or-map (shown_row objects opens) rows i no_row)
    ∙ ap (for_way w) (get_or-map (shown_place objects opens (row_in rows i).generation) (row_in rows i).places d no_place)
    ∙ by_way objects opens (row_in rows i).generation (place_in (row_in rows i) d) w

pub spot_is : (owners : RowOwners) (rows : List Row) (objects opens : List ℕ) (raised : ℕ) (q d : ℕ) (w : Way)
    → spot_of (known owners rows objects opens raised) q d w ≡ fresh_at rows objects opens (row_of q owners.pids) d w
spot_is owners rows objects opens raised q d w = shown_at rows objects opens (row_of q owners.pids) d w

-- ---- a row is written
module _ (owners : RowOwners) (rows : List Row) (objects opens : List ℕ) (raised : ℕ) (old : AreKept owners rows objects opens raised) (v : Known)
    (shown : known owners rows objects opens raised ≡ v) where
  pub spot_was : (q d : ℕ) (w : Way) → spot_of v q d w ≡ fresh_at rows objects opens (row_of q owners.pids) d w
  spot_was q d w = ap (λ k. spot_of k q d w) (sym shown) ∙ spot_is owners rows objects opens raised q d w

  module _ (pid i : ℕ) (is : row_of pid owners.pids ≡ Some i) where
    pub row_low : i < length rows
    row_low = omega (arith, within owners.pids i pid (row_at pid owners.pids i is), old.enough)

    -- what was read there
    pub row_read : (r : Row) → r ≡ get_or rows i r → r ≡ row_in rows i
    row_read r read = get_or_read rows i r row_low read no_row

    elsewhere : (r : Row) (q d : ℕ) (w : Way) → (q ≡ pid → ⊥) → fresh_at (set rows i r) objects opens (row_of q owners.pids) d w ≡ fresh_at rows objects opens (row_of q owners.pids) d w
    elsewhere r q d w other = go (row_of q owners.pids) refl
      where
        go : (o : Option ℕ) → row_of q owners.pids ≡ o → fresh_at (set rows i r) objects opens o d w ≡ fresh_at rows objects opens o d w
        go None h = refl
        go (Some j) h = ap (λ (x : Row). fresh_in objects opens x.generation w (place_in x d)) (get_or-set_other rows i j r no_row (λ e. other (apart owners.pids q pid i (h ∙ ap (λ k. Some k) e) is)))

    -- the descriptors of its process become what f makes of them, and all others stay
    pub spots_written : (r : Row) (raised' : ℕ) (f : ℕ → Way → Option Spot → Option Spot)
        → ((d : ℕ) (w : Way) → fresh_in objects opens r.generation w (place_in r d)
        ≡ f d w (fresh_in objects opens (row_in rows i).generation w (place_in (row_in rows i) d))) → (q d : ℕ) (w : Way)
        → spot_of (known owners (set rows i r) objects opens raised') q d w ≡ (if q == pid then f d w (spot_of v q d w) else spot_of v q d w)
    spots_written r raised' f makes q d w = spot_is owners (set rows i r) objects opens raised' q d w ∙ go (eqb_tells q pid)
      where
        row : row_in (set rows i r) i ≡ r
        row = get_or-set_same rows i r no_row row_low

        go : (((q == pid) ≡ true) × (q ≡ pid)) ⊎ (((q == pid) ≡ false) × (q ≡ pid → ⊥)) → fresh_at (set rows i r) objects opens (row_of q owners.pids) d w
            ≡ (if q == pid then f d w (spot_of v q d w) else spot_of v q d w)
        go (inl same) =
            let here : row_of q owners.pids ≡ Some i = ap (λ k. row_of k owners.pids) same.1 ∙ is in
            rw same.0 (
            ap (λ o. fresh_at (set rows i r) objects opens o d w) here
            ∙ ap (λ (x : Row). fresh_in objects opens x.generation w (place_in x d)) row
            ∙ makes d w
            ∙ ap (f d w) (ap (λ o. fresh_at rows objects opens o d w) (sym here) ∙ sym (spot_was q d w)))
        go (inr other) = rw other.0 (elsewhere r q d w other.1 ∙ sym (spot_was q d w))

-- the code keeps what it does
module _ (owners owners' : RowOwners) (as_many : length owners'.pids ≡ length owners.pids) (rows : List Row) (objects opens : List ℕ) (raised : ℕ)
    (old : AreKept owners rows objects opens raised) (i : ℕ) (low_i : i < length rows) where
  pub kept_written : (r : Row) (raised' : ℕ) → raised ≤ raised' → raised' ≤ 2 ^ 62 → r.generation ≤ raised'
      → ((d : ℕ) (w : Way) → IsPast objects opens r.generation w (place_in r d)) → AreKept owners' (set rows i r) objects opens raised'
  kept_written r raised' more few low past = record {
    enough = length-set rows i r ∙ old.enough ∙ sym as_many;
    past = λ j d w. at_row j d w (eqb_tells j i);
    rows_low = λ j. row_bound j (eqb_tells j i);
    objects_low = λ o. omega (arith, old.objects_low o, more);
    opens_low = λ e. omega (arith, old.opens_low e, more);
    few = few;
  }
    where
      here : row_in (set rows i r) i ≡ r
      here = get_or-set_same rows i r no_row low_i

      there : (j : ℕ) → (j ≡ i → ⊥) → row_in (set rows i r) j ≡ row_in rows j
      there j other = get_or-set_other rows i j r no_row other

      at_row : (j d : ℕ) (w : Way) → (((j == i) ≡ true) × (j ≡ i)) ⊎ (((j == i) ≡ false) × (j ≡ i → ⊥))
          → IsPast objects opens (row_in (set rows i r) j).generation w (place_in (row_in (set rows i r) j) d)
      at_row j d w (inl same) = let is_r : row_in (set rows i r) j ≡ r = ap (row_in (set rows i r)) same.1 ∙ here in rw is_r (past d w)
      at_row j d w (inr other) = rw (there j other.1) (old.past j d w)

      row_bound : (j : ℕ) → (((j == i) ≡ true) × (j ≡ i)) ⊎ (((j == i) ≡ false) × (j ≡ i → ⊥)) → (row_in (set rows i r) j).generation ≤ raised'
      row_bound j (inl same) = let is_r : row_in (set rows i r) j ≡ r = ap (row_in (set rows i r)) same.1 ∙ here in rw is_r low
      row_bound j (inr other) = rw (there j other.1) (omega (arith, old.rows_low j, more))
