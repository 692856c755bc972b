-- File systems as they are made, one after the other.
use Rattle.std.proofs.Common.{◌≡◌, ◌<◌, ◌≤◌, ◌+◌, ◌-◌, ◌∙◌, ℕ, suc, Bool, true, false, ◌&&◌, nat_le, List, [], ◌∷◌, ◌++◌, length, map, take, replicate, get_or}
use Rattle.std.proofs.Common.{sum, Option, Some, None, refl, sym, ap, subst, arith, inl, inr}
use Rattle.std.specs.List.{list_all}
use Rattle.std.proofs.lemmas.{List.{Concat.flat_map-append, Sums.{sum-map, sum_by_push}, Folds.list_all_at}, Bool.{cases_lt, Decides.nat_tests}}
use Rattle.std.proofs.lemmas.List.{length-map, length-take, length-replicate, length_push, get_or_append_left, get_or_push, take-append-le, take_more, take_all}
use Rattle.std.proofs.lemmas.List.{map_push, append-nil, append_assoc, replicate-append-replicate}
use Rattle.ix_model.specs.{world.Numbers.first_inode, opening.Valid.{fs_fits, is_within}, declared.config.FsSpec.FsSpec}
use Rattle.ix_blocks.specs.Files.{Files}
use Rattle.ix_inode.specs.{declared.{node.Node.Node, volume.Volume.Volume}, Shown.new_node, Nodes.{bare, opened, are_within}}
use Rattle.ix_inode.specs.Volumes.{IsNew, AreOn, IsVolume, AreNew, specs, all_nodes, all_bytes, nodes_of}
use Rattle.ix_inode.proofs.Standing.{on_first}

both : (a b : Bool) → (a && b) ≡ true → (a ≡ true) × (b ≡ true)
both true true e = (refl, refl)
both true false e = absurd (cc e)
both false b e = absurd (cc e)

-- each file system has 1 to 65,536 inodes, and there are 16 at most
pub within_fits : (fss : List FsSpec) (k : ℕ) (s : FsSpec) → are_within fss ≡ true → k < length fss → s ≡ get_or fss k s → (0 < s.inodes) × (s.inodes ≤ 65536)
within_fits fss k s h low is = go (fs_fits s) refl
  where
    all : list_all fs_fits fss ≡ true
    all = (both (nat_le (length fss) 16) (list_all fs_fits fss) h).1

    go : (b : Bool) → fs_fits s ≡ b → (0 < s.inodes) × (s.inodes ≤ 65536)
    go true e =
        let p : is_within 1 65536 s.inodes ≡ true = (both (is_within 1 65536 s.blocks) (is_within 1 65536 s.inodes) e).1 in
        let low : nat_le 1 s.inodes ≡ true = (both (nat_le 1 s.inodes) (nat_le s.inodes 65536) p).0 in
        let high : nat_le s.inodes 65536 ≡ true = (both (nat_le 1 s.inodes) (nat_le s.inodes 65536) p).1 in
        (grind (arith, nat_tests, low), grind (arith, nat_tests, high))
    go false e = absurd (cc (sym all ∙ list_all_at fs_fits fss k s low (ap fs_fits (sym is) ∙ e)))

pub within_few : (fss : List FsSpec) → are_within fss ≡ true → length fss ≤ 16
within_few fss h =
    let p : nat_le (length fss) 16 ≡ true = (both (nat_le (length fss) 16) (list_all fs_fits fss) h).0 in
    grind (arith, nat_tests, p)

bare_push : (j : ℕ) (xs : List FsSpec) (s : FsSpec) → bare j (xs ++ s ∷ []) ≡ bare j xs ++ (Some (new_node (j + length xs) true) ∷ replicate (s.inodes - 1) None)
bare_push j [] s = ap (λ m. Some (new_node m true) ∷ replicate (s.inodes - 1) None ++ []) (omega arith) ∙ append-nil _
bare_push j (x ∷ xs) s =
    let e : suc j + length xs ≡ j + suc (length xs) = omega arith in
    ap (λ t. (Some (new_node j true) ∷ replicate (x.inodes - 1) None) ++ t) (bare_push (suc j) xs s ∙ ap (λ m. bare (suc j) xs ++ (Some (new_node m true) ∷ replicate (s.inodes - 1) None)) e)
    ∙ sym (append_assoc (Some (new_node j true) ∷ replicate (x.inodes - 1) None) (bare (suc j) xs) _)

first_push : (xs : List FsSpec) (s : FsSpec) (k : ℕ) → length xs ≡ k → first_inode (xs ++ s ∷ []) (k + 1) ≡ first_inode xs k + s.inodes
first_push xs s k long =
    let f : FsSpec → ℕ = λ t. t.inodes in
    let all : take (k + 1) (xs ++ s ∷ []) ≡ xs ++ s ∷ [] = take_all (k + 1) (xs ++ s ∷ []) (omega (arith, length_push xs s, long)) in
    let some : take k xs ≡ xs = take_all k xs (omega (arith, long)) in
    ap (λ t. sum (map f t)) all ∙ sum-map f (xs ++ s ∷ []) ∙ sum_by_push f xs s ∙ ap (λ n. n + s.inodes) (sym (sum-map f xs) ∙ ap (λ t. sum (map f t)) (sym some))

-- none is made yet
pub new_none : (fss : List FsSpec) (vs : List Volume) → vs ≡ [] → AreNew fss 0 0 vs
new_none fss vs none = let P : List Volume → Type 0 = λ ws. AreNew fss 0 0 ws in subst P (sym none) (record {
  laid = record { each = λ k v low is. absurd (omega (arith, low)); few = omega arith };
  long = refl;
  said = refl;
  bare = refl;
  empty = refl;
  first = refl;
  low = omega arith;
})

-- and one more
pub new_more : (fss : List FsSpec) (k n : ℕ) (vs : List Volume) (s : FsSpec) (v : Volume) → are_within fss ≡ true → k < length fss → s ≡ get_or fss k s
    → IsNew k n s v → AreNew fss k n vs → AreNew fss (k + 1) (n + s.inodes) (vs ++ v ∷ [])
new_more fss k n vs s v h low is new so = record {
  laid = record { each = each; few = omega (arith, length_push vs v, so.long, within_few fss h, low) };
  long = omega (arith, length_push vs v, so.long);
  said = said;
  bare = nodes;
  empty = bytes;
  first = first;
  low = omega (arith, so.low, fits.1);
}
  where
    fits : (0 < s.inodes) × (s.inodes ≤ 65536)
    fits = within_fits fss k s h low is

    more : take (k + 1) fss ≡ take k fss ++ s ∷ []
    more = take_more fss k s low ∙ ap (λ t. take k fss ++ t ∷ []) (sym is)

    here : length (take k fss) ≡ k
    here = omega (arith, length-take k fss, low)

    said : specs (vs ++ v ∷ []) ≡ take (k + 1) fss
    said = map_push (λ (u : Volume). u.spec) vs v ∙ ap (λ t. t ++ v.spec ∷ []) so.said ∙ ap (λ t. take k fss ++ t ∷ []) new.spec ∙ sym more

    nodes : all_nodes (vs ++ v ∷ []) ≡ bare 0 (take (k + 1) fss)
    nodes =
        flat_map-append (λ (u : Volume). u.nodes) vs (v ∷ [])
        ∙ ap (λ t. t ++ (v.nodes ++ [])) so.bare
        ∙ ap (λ t. bare 0 (take k fss) ++ t) (append-nil v.nodes ∙ new.nodes ∙ ap (λ m. Some (new_node m true) ∷ replicate (s.inodes - 1) None) (omega (arith, here)))
        ∙ sym (ap (λ t. bare 0 t) more ∙ bare_push 0 (take k fss) s)

    bytes : all_bytes (vs ++ v ∷ []) ≡ replicate (n + s.inodes) []
    bytes =
        flat_map-append (λ (u : Volume). u.blocks.files) vs (v ∷ [])
        ∙ ap (λ t. t ++ (v.blocks.files ++ [])) so.empty
        ∙ ap (λ t. replicate n [] ++ t) (append-nil v.blocks.files ∙ ap (λ (fs : Files). fs.files) new.blocks)
        ∙ replicate-append-replicate n s.inodes []

    first : n + s.inodes ≡ first_inode (take (k + 1) fss) (k + 1)
    first = ap (λ m. m + s.inodes) so.first ∙ sym (ap (λ t. first_inode t (k + 1)) more ∙ first_push (take k fss) s k here)

    before : (j : ℕ) → j ≤ k → first_inode (specs (vs ++ v ∷ [])) j ≡ first_inode (specs vs) j
    before j below = ap (λ t. first_inode t j) (map_push (λ (u : Volume). u.spec) vs v)
        ∙ ap (λ (t : List FsSpec). sum (map (λ (x : FsSpec). x.inodes) t)) (take-append-le j (specs vs) (v.spec ∷ []) (omega (
          arith,
          below,
          so.long,
          length-map vs (λ (u : Volume). u.spec),
        )))

    stands : (j : ℕ) → j ≡ k → AreOn j v.spec.ceiling v.nodes v.blocks.files
    stands j e =
        let root : Some (new_node j true) ∷ replicate (s.inodes - 1) None ≡ v.nodes = sym (new.nodes ∙ ap (λ m. Some (new_node m true) ∷ replicate (s.inodes - 1) None) (sym e)) in
        let all : suc (s.inodes - 1) ≡ s.inodes = omega (arith, fits.0) in
        let empty : replicate (suc (s.inodes - 1)) [] ≡ v.blocks.files = ap (λ m. replicate {A = List ℕ} m []) all ∙ sym (ap (λ (fs : Files). fs.files) new.blocks) in
        subst (λ ns. AreOn j v.spec.ceiling ns v.blocks.files) root
        (subst (λ bs. AreOn j v.spec.ceiling (Some (new_node j true) ∷ replicate (s.inodes - 1) None) bs) empty (on_first j v.spec.ceiling (s.inodes - 1)))

    each : (j : ℕ) (u : Volume) → j < length (vs ++ v ∷ []) → u ≡ get_or (vs ++ v ∷ []) j u → IsVolume (specs (vs ++ v ∷ [])) j u
    each j u below at_j = elim (cases_lt j (length vs)) [
      | inl old ↦
          let one : IsVolume (specs vs) j u = so.laid.each j u old (at_j ∙ get_or_append_left vs (v ∷ []) u j old) in
          record { first = one.first ∙ sym (before j (omega (arith, old, so.long))); nodes = one.nodes; files = one.files; blocks = one.blocks; low = one.low; on = one.on }
      | inr last ↦
          let e : j ≡ k = omega (arith, last, below, length_push vs v, so.long) in
          let same : u ≡ v = at_j ∙ get_or_push vs v u j (omega (arith, e, so.long)) in
          let P : Volume → Type 0 = λ w. IsVolume (specs (vs ++ v ∷ [])) j w in
          subst P (sym same) (record {
            first = new.first ∙ so.first ∙ ap (λ t. first_inode t k) (sym so.said) ∙ sym (before k (omega arith)) ∙ ap (λ m. first_inode (specs (vs ++ v ∷ [])) m) (sym e);
            nodes = ap length new.nodes ∙ omega (arith, length-replicate {A = Option Node} (s.inodes - 1) None, fits.0, ap (λ (t : FsSpec). t.inodes) new.spec);
            files = ap (λ (fs : Files). length fs.files) new.blocks ∙ length-replicate {A = List ℕ} s.inodes [] ∙ ap (λ (t : FsSpec). t.inodes) (sym new.spec);
            blocks = ap (λ (fs : Files). fs.blocks) new.blocks ∙ ap (λ (t : FsSpec). t.blocks) (sym new.spec);
            low = omega (arith, new.first, so.low, fits.1, ap (λ (t : FsSpec). t.inodes) new.spec, e);
            on = stands j e;
          })
    ]

-- all are made
pub new_all : (fss : List FsSpec) (k n : ℕ) (vs : List Volume) → length fss ≡ k → AreNew fss k n vs → nodes_of vs ≡ opened fss
new_all fss k n vs all so =
    let whole : take k fss ≡ fss = take_all k fss (omega (arith, all)) in
    let said : specs vs ≡ fss = so.said ∙ whole in
    let nodes : all_nodes vs ≡ bare 0 fss = so.bare ∙ ap (λ t. bare 0 t) whole in
    let count : n ≡ first_inode fss (length fss) = so.first ∙ ap (λ t. first_inode t k) whole ∙ ap (first_inode fss) (sym all) in
    let bytes : all_bytes vs ≡ replicate (first_inode fss (length fss)) [] = so.empty ∙ ap (λ m. replicate {A = List ℕ} m []) count in
    λ i. record { fss = said i; nodes = nodes i; bytes = bytes i }
