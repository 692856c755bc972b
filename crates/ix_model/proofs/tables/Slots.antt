-- Names in their cells.
use Rattle.std.proofs.Common.{◌≡◌, ℕ, ◌<◌, ◌≤◌, List, [], ◌∷◌, ◌++◌, length, take, drop, replicate, true, false, refl}
use Rattle.std.{proofs.{Math.Seq.take-append_seam, lemmas.{List.drop-replicate, Bool.{lt-ltb, le-leb}}}, specs.List.list_all}
use Rattle.ix_model.specs.world.Naming.{is_name, may_stand_in_name, same_bytes, IsNameInside}

pub cells : (bytes : List ℕ) → length bytes ≤ 28 → IsNameInside (bytes ++ drop (length bytes) (replicate 28 0)) (length bytes)
cells bytes h =
    let front : take (length bytes) (bytes ++ drop (length bytes) (replicate 28 0)) ≡ bytes = take-append_seam bytes _ in
    record {
      fits = h;
      long = rw front refl;
      padding = rw (front, drop-replicate) refl;
    }

-- a name in its cells is that name
pub named : (bytes rest : List ℕ) → is_name bytes ≡ true → is_name (take (length bytes) (bytes ++ rest)) ≡ true
named bytes rest h = rw take-append_seam h

pub is_name-plain : (bytes : List ℕ) → 0 < length bytes → length bytes ≤ 28 → same_bytes bytes (46 ∷ []) ≡ false → same_bytes bytes (46 ∷ 46 ∷ []) ≡ false
    → is_name bytes ≡ list_all may_stand_in_name bytes
unfolding is_name
is_name-plain bytes some fits one two = rw (one, two, lt-ltb, le-leb) refl
