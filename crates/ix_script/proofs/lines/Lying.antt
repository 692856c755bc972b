-- Where objects lie, and how much there can be.
use Rattle.std.proofs.Common.{◌≡◌, ◌≢◌, ℕ, zero, suc, ◌+◌, ◌<◌, ◌≤◌, ◌==◌, nat_le, true, false, cond, List, [], ◌∷◌, ◌++◌, length, map, sum, Option, Some}
use Rattle.std.{proofs.Common.{None, refl, sym, ap, ◌∙◌, arith, length-append, length-drop}, specs.{Option.option_map_or, List.{list_all, slice_index_or}}}
use Rattle.std.proofs.lemmas.{Bool.{eq-eqb, ne_eqb, leb-true}, List.{append-nil, map-append, Sums.fold-append, Quantifiers.position-Some}}
use Rattle.ix_label.specs.Category.{bottom}
use Rattle.ix_model.specs.{world.{World.fs_at, Naming.same_bytes}, rows.Telling.blocks_for, declared.config.{FsSpec.FsSpec, ObjSpec.ObjSpec}}
use Rattle.ix_model.specs.opening.Valid.{is_within, fs_fits, mount_of, fs_of, lying_on, blocks_taken}
use Rattle.ix_text.proofs.Tests.{both}

-- ---- a path lies on one of the file systems
mount_within : (fss : List FsSpec) (name : List ℕ) (o : Option ℕ) → 0 < length fss → mount_of fss name ≡ o → option_map_or suc o 0 < length fss
mount_within fss name None some h = some
mount_within fss name (Some k) some h =
    let nobody = slice_index_or fss 0 (record { name = []; ceiling = bottom; blocks = 0; inodes = 0 }) in
    let found = position-Some (λ s. same_bytes s.name name) _ k nobody h in
    let low = found.0 in
    omega (arith, length-drop 1 fss)

pub fs_within : (fss : List FsSpec) (names : List (List ℕ)) → 0 < length fss → fs_of fss names < length fss
fs_within fss [] some = some
fs_within fss (name ∷ names) some = mount_within _ _ _ some refl

-- ---- at most 65,536 inodes and blocks
fits_few : (s : FsSpec) → fs_fits s ≡ true → (s.blocks ≤ 65536) × (s.inodes ≤ 65536)
fits_few s h =
    let p = both (is_within 1 65536 s.blocks) (is_within 1 65536 s.inodes) h in
    let b = both (nat_le 1 s.blocks) (nat_le s.blocks 65536) p.0 in
    let i = both (nat_le 1 s.inodes) (nat_le s.inodes 65536) p.1 in
    (leb-true s.blocks 65536 b.1, leb-true s.inodes 65536 i.1)

pub few_inodes : (fss : List FsSpec) (k : ℕ) → list_all fs_fits fss ≡ true → (fs_at fss k).inodes ≤ 65536
few_inodes [] k h = omega arith
few_inodes (s ∷ fss) zero h = (fits_few s (both (fs_fits s) (list_all fs_fits fss) h).0).1
few_inodes (s ∷ fss) (suc k) h = few_inodes fss k (both (fs_fits s) (list_all fs_fits fss) h).1

pub few_blocks : (fss : List FsSpec) (k : ℕ) → list_all fs_fits fss ≡ true → (fs_at fss k).blocks ≤ 65536
few_blocks [] k h = omega arith
few_blocks (s ∷ fss) zero h = (fits_few s (both (fs_fits s) (list_all fs_fits fss) h).0).0
few_blocks (s ∷ fss) (suc k) h = few_blocks fss k (both (fs_fits s) (list_all fs_fits fss) h).1

-- ---- one object more
lying_push : (fss : List FsSpec) (k : ℕ) (os : List ObjSpec) (o : ObjSpec) → lying_on fss k (os ++ o ∷ []) ≡ lying_on fss k os ++ cond (fs_of fss o.path.names == k) (o ∷ []) []
lying_push fss k [] o = elim (fs_of fss o.path.names == k) as (λ b. cond b (o ∷ []) [] ≡ cond b (o ∷ []) []) [ true ↦ refl | false ↦ refl ]
lying_push fss k (x ∷ os) o = elim (fs_of fss x.path.names == k) as (λ b. cond b (x ∷ lying_on fss k (os ++ o ∷ [])) (lying_on fss k (os ++ o ∷ []))
    ≡ cond b (x ∷ lying_on fss k os) (lying_on fss k os) ++ cond (fs_of fss o.path.names == k) (o ∷ []) []) [
      | true ↦ ap (λ xs. x ∷ xs) (lying_push fss k os o)
      | false ↦ lying_push fss k os o
    ]

pub count_here : (fss : List FsSpec) (os : List ObjSpec) (o : ObjSpec) (k : ℕ) → k ≡ fs_of fss o.path.names → length (lying_on fss k (os ++ o ∷ [])) ≡ length (lying_on fss k os) + 1
count_here fss os o k e = ap length (lying_push fss k os o) ∙ rw (eq-eqb (fs_of fss o.path.names) k (sym e)) (length-append _ _)

pub count_else : (fss : List FsSpec) (os : List ObjSpec) (o : ObjSpec) (k : ℕ) → k ≢ fs_of fss o.path.names → length (lying_on fss k (os ++ o ∷ [])) ≡ length (lying_on fss k os)
count_else fss os o k ne = ap length (lying_push fss k os o) ∙ rw (ne_eqb (fs_of fss o.path.names) k (λ e. ne (sym e))) (ap length (append-nil _))

blocks_push : (os : List ObjSpec) (o : ObjSpec) → sum (map (λ b. blocks_for (length b.bytes)) (os ++ o ∷ [])) ≡ sum (map (λ b. blocks_for (length b.bytes)) os) + blocks_for (length o.bytes)
blocks_push os o = ap sum (map-append (λ b. blocks_for (length b.bytes)) os _) ∙ fold-append (λ a x. a + x) 0 (map (λ b. blocks_for (length b.bytes)) os) _

pub blocks_here : (fss : List FsSpec) (os : List ObjSpec) (o : ObjSpec) (k : ℕ) → k ≡ fs_of fss o.path.names → blocks_taken fss k (os ++ o ∷ []) ≡ blocks_taken fss k os + blocks_for (length o.bytes)
blocks_here fss os o k e = ap (λ xs. sum (map (λ b. blocks_for (length b.bytes)) xs)) (lying_push fss k os o)
    ∙ rw (eq-eqb (fs_of fss o.path.names) k (sym e)) (blocks_push (lying_on fss k os) o)

pub blocks_else : (fss : List FsSpec) (os : List ObjSpec) (o : ObjSpec) (k : ℕ) → k ≢ fs_of fss o.path.names → blocks_taken fss k (os ++ o ∷ []) ≡ blocks_taken fss k os
blocks_else fss os o k ne = ap (λ xs. sum (map (λ b. blocks_for (length b.bytes)) xs)) (lying_push fss k os o)
    ∙ rw (ne_eqb (fs_of fss o.path.names) k (λ e. ne (sym e)), append-nil (lying_on fss k os)) refl
