-- The whole image: what is read is what was written, and what was written is read.
use Rattle.std.proofs.Common.{◌≡◌, ℕ, ◌*◌, ◌^◌, ◌<◌, ◌≤◌, Bool, true, false, cond, ltb, eqb, ◌==◌, List, [], ◌∷◌, ◌++◌, length, drop, None, Result, Ok, Err, refl, sym, ap, subst, ◌∙◌, arith}
use Rattle.std.{specs.{Prelude.◌↔◌, List.{flat_map, AllByRecursion}}, proofs.lemmas.Bool.{ltb-false, le-ltb, eqb-true, eq-eqb, le-leb, and_from}}
use Rattle.std.proofs.lemmas.List.{append-nil, nil_from_length, length-append, Sums.sum_by-cons}
use Rattle.ix_model.specs.{opening.Valid.is_within, declared.config.FsSpec.FsSpec}
use Rattle.ix_image.specs.{declared.fault.Fault.Fault, Trees.{TreeOf, inodes_in}, Fitting.names_fit, Laws.{AreBytes, IsImage}, Image.{NumbersRise, IsSound}, Reading.image_fault}
use Rattle.ix_image.specs.Image.{first_bytes, four, file_system_bytes, node_bytes, image_of, is_count_of_file_systems, longest, IsFileSystem, IsNode, IsTree}
use Rattle.ix_image.{specs.Reading.{◌>>=◌, breaks, ends, same_at, start_at, number_at, nodes_at, fields_of, tree_in, fault_in}, proofs.Objects.{most_within, file_systems_field}}
use Rattle.ix_image.proofs.{Fielding.{OneField, Took, took_both, stepped, bind_ok, guard_ok, ok_is, bytes-rest, number_field}, Numbered.nodes_field}

-- ---- the first bytes
same_takes : (wanted bytes rest : List ℕ) → AreBytes bytes → same_at wanted bytes ≡ Ok rest → Took bytes wanted rest
same_takes [] bytes rest are e = subst (λ r. Took bytes [] r) (ok_is _ _ e) (record { parts = refl; are_bytes = are })
same_takes (x ∷ wanted) [] rest are e = absurd cc
same_takes (x ∷ wanted) (b ∷ bytes) rest are e = go _ refl e (same_takes _ _ _ (bytes-rest b _ are))
  where
    go : (t : Bool) → eqb b x ≡ t → cond t (same_at wanted bytes) (Err (breaks 2 (b ∷ bytes))) ≡ Ok rest → (same_at wanted bytes ≡ Ok rest → Took bytes wanted rest)
        → Took (b ∷ bytes) (x ∷ wanted) rest
    go true is e behind =
        let t = behind e in
        record { parts = ap (λ r. b ∷ r) t.parts ∙ ap (λ n. n ∷ (wanted ++ rest)) (eqb-true b x is); are_bytes = t.are_bytes }
    go false is e behind = absurd cc

same_again : (wanted rest : List ℕ) → same_at wanted (wanted ++ rest) ≡ Ok rest
same_again [] rest = refl
same_again (x ∷ wanted) rest = rw (eq-eqb) (same_again wanted _)

start_takes : (bytes rest : List ℕ) → AreBytes bytes → start_at bytes ≡ Ok rest → Took bytes first_bytes rest
unfolding start_at
start_takes bytes rest are e = go _ e
  where
    go : (b : Bool) → cond b (Err (ends 1)) (same_at first_bytes bytes) ≡ Ok rest → Took bytes first_bytes rest
    go true e = absurd cc
    go false e = same_takes _ _ _ are e

start_again : (rest : List ℕ) → start_at (first_bytes ++ rest) ≡ Ok rest
unfolding start_at
start_again rest =
    let long : ltb (length (first_bytes ++ rest)) 8 ≡ false = le-ltb _ _ (omega (arith, length-append first_bytes rest)) in
    rw long (same_again first_bytes _)

-- ---- few inodes
pub few_inodes : (fss : List FsSpec) → AllByRecursion IsFileSystem fss → inodes_in fss ≤ 65536 * length fss
few_inodes [] all = omega arith
few_inodes (s ∷ fss) all =
    let first = most_within 1 _ s.inodes all.0.inodes in
    let rest = few_inodes fss all.1 in
    let cons = sum_by-cons (λ s. s.inodes) s fss in
    omega arith

count_field : OneField (number_at is_count_of_file_systems) four (λ n. is_count_of_file_systems n ≡ true)
count_field = number_field _ (λ n h. omega (arith, most_within 1 16 n h))

objects_field : (n : ℕ) → n < 2 ^ 32 → OneField (number_at (is_within 0 n)) four (λ k. is_within 0 n k ≡ true)
objects_field n few = number_field _ (λ k h. omega (arith, most_within 0 n k h))

small_inodes : (fss : List FsSpec) → length fss ≤ 16 → AllByRecursion IsFileSystem fss → inodes_in fss < 2 ^ 32
small_inodes fss sixteen all = omega (arith, few_inodes _ all)

low_inodes : (n : ℕ) → n < 2 ^ 32 → n ≤ 2 ^ 32
low_inodes n h = omega arith

most_objects : (n k m : ℕ) → n ≡ k → k ≤ m → n ≤ m
most_objects n k m e low = omega arith

-- ---- all fields
-- what was taken piece by piece, to the end
five_parts : (bytes a r b s c t d u e v : List ℕ) → Took bytes a r → Took r b s → Took s c t → Took t d u → Took u e v → v ≡ [] → bytes ≡ a ++ (b ++ (c ++ (d ++ e)))
five_parts bytes a r b s c t d u e v p q x y z nothing =
    let ae = took_both p (took_both q (took_both x (took_both y z))) in
    ae.parts ∙ ap (λ w. (a ++ (b ++ (c ++ (d ++ e)))) ++ w) nothing ∙ append-nil _

-- the pieces of a tree
tree_parts : (t : TreeOf) (bytes r s u v w : List ℕ) (k n : ℕ) → Took bytes first_bytes r → Took r (four k) s → Took s (flat_map file_system_bytes t.fss) u → Took u (four n) v
    → Took v (flat_map node_bytes t.nodes) w
    → w ≡ [] → length t.fss ≡ k → length t.nodes ≡ n → bytes ≡ image_of t
unfolding image_of
tree_parts t bytes r s u v w k n a b c d e nothing count objects =
    five_parts _ _ r _ s _ u _ v _ w a b c d e nothing
    ∙ ap (λ m. first_bytes ++ (four m ++ (flat_map file_system_bytes t.fss ++ (four n ++ flat_map node_bytes t.nodes)))) (sym count)
    ∙ ap (λ m. first_bytes ++ (four (length t.fss) ++ (flat_map file_system_bytes t.fss ++ (four m ++ flat_map node_bytes t.nodes)))) (sym objects)

-- what is behind the file systems
abbrev after_systems : List FsSpec × List ℕ → Result TreeOf Fault
after_systems fss =
    number_at (is_within 0 (inodes_in fss.0)) fss.1 >>= λ objects. nodes_at fss.0 0 objects.0 objects.1 >>= λ nodes.
    cond (length nodes.1 == 0) (Ok (record { fss = fss.0; nodes = nodes.0 })) (Err (breaks 7 nodes.1))

-- what was taken there
record Objects (fss : List FsSpec) (bytes : List ℕ) (t : TreeOf) : Type 0 where
  same : fss ≡ t.fss
  behind : List ℕ
  last : List ℕ
  number : Took bytes (four (length t.nodes)) behind
  nodes : Took behind (flat_map node_bytes t.nodes) last
  nothing : last ≡ []
  few : length t.nodes ≤ inodes_in fss
  rise : NumbersRise 0 t.nodes
  each : AllByRecursion (IsNode fss) t.nodes

objects_take : (fss : List FsSpec) (bytes : List ℕ) (t : TreeOf) → inodes_in fss < 2 ^ 32 → AreBytes bytes → after_systems (fss, bytes) ≡ Ok t → Objects fss bytes t
objects_take fss bytes t few are e =
    let d = stepped (objects_field _ few) _ _ t are e in
    let f = stepped (nodes_field _ (low_inodes _ few) _ 0) _ _
    t d.took.are_bytes d.next in
    let g = guard_ok _ _ _ t f.next in
    let number = subst (λ n. Took bytes (four n) d.rest) (sym f.allowed.0) d.took in
    subst (Objects fss bytes) g.1 (record {
      same = refl;
      behind = d.rest;
      last = f.rest;
      number = number;
      nodes = f.took;
      nothing = nil_from_length f.rest (eqb-true _ _ g.0);
      few = most_objects _ _ _ f.allowed.0 (most_within 0 _ _ d.allowed);
      rise = f.allowed.1.0;
      each = f.allowed.1.1;
    })

pub fields_take : (bytes : List ℕ) (t : TreeOf) → AreBytes bytes → fields_of bytes ≡ Ok t → IsTree t × (bytes ≡ image_of t)
unfolding fields_of
fields_take bytes t are e =
    let a = bind_ok _ _ t e in
    let ta = start_takes _ _ are a.1 in
    let b = stepped count_field _ _ t ta.are_bytes a.2 in
    let c = stepped (file_systems_field _) _ _ t b.took.are_bytes b.next in
    go _ _ _ c.allowed.0 c.allowed.1 b.allowed (λ few. objects_take _ _ t few c.took.are_bytes c.next) ta b.took c.took
  where
    go : {r s : List ℕ} (k : ℕ) (fss : List FsSpec) (u : List ℕ) → length fss ≡ k → AllByRecursion IsFileSystem fss → is_count_of_file_systems k ≡ true → (inodes_in fss < 2 ^ 32 → Objects fss u t)
        → Took bytes first_bytes r → Took r (four k) s → Took s (flat_map file_system_bytes fss) u → IsTree t × (bytes ≡ image_of t)
    go {r} {s} k fss u long all counted objects a b c =
        let count = ap is_count_of_file_systems long ∙ counted in
        let o = objects (small_inodes _ (most_within 1 16 _ count) all) in
        let systems = subst (λ f. Took s (flat_map file_system_bytes f) u) o.same c in (
          record {
            count = subst (λ f. is_count_of_file_systems (length f) ≡ true) o.same count;
            fss = subst (AllByRecursion IsFileSystem) o.same all;
            objects = subst (λ f. length t.nodes ≤ inodes_in f) o.same o.few;
            rise = o.rise;
            nodes = subst (λ f. AllByRecursion (IsNode f) t.nodes) o.same o.each;
          },
          tree_parts t _ r s u _ _ k _ a b systems o.number o.nodes o.nothing (sym (ap (λ f. length f) o.same) ∙ long) refl,
        )

pub fields_again : (t : TreeOf) → IsTree t → fields_of (image_of t) ≡ Ok t
unfolding fields_of image_of
fields_again t is =
    let few = small_inodes _ (most_within 1 16 _ is.count) is.fss in
    rw (
      start_again (four (length t.fss) ++ (flat_map file_system_bytes t.fss ++ (four (length t.nodes) ++ flat_map node_bytes t.nodes))),
      count_field.again (length t.fss) (flat_map file_system_bytes t.fss ++ (four (length t.nodes) ++ flat_map node_bytes t.nodes)) is.count,
      (file_systems_field (length t.fss)).again t.fss (four (length t.nodes) ++ flat_map node_bytes t.nodes) (refl, is.fss),
      (objects_field (inodes_in t.fss) few).again (length t.nodes) (flat_map node_bytes t.nodes) (and_from _ _ (le-leb 0 (length t.nodes) (omega arith)) (le-leb _ _ is.objects)),
      ap (nodes_at t.fss 0 (length t.nodes)) (sym (append-nil (flat_map node_bytes t.nodes)))
          ∙ (nodes_field t.fss (low_inodes (inodes_in t.fss) few) (length t.nodes) 0).again t.nodes [] (refl, (is.rise, is.nodes)),
    ) refl

-- ---- the tree
pub tree_takes : (bytes : List ℕ) (t : TreeOf) → AreBytes bytes → tree_in bytes ≡ Ok t → IsSound t × (bytes ≡ image_of t)
unfolding tree_in
tree_takes bytes t are e = go _ refl e
  where
    go : (b : Bool) → ltb longest (length bytes) ≡ b → cond b (Err (breaks 9 (drop longest bytes))) (fields_of bytes >>= λ t. cond (names_fit t) (Ok t) (Err (ends 8))) ≡ Ok t → IsSound t
        × (bytes ≡ image_of t)
    go true short e = absurd cc
    go false short e =
        let a = bind_ok _ _ t e in
        let g = guard_ok _ _ _ t a.2 in
        let f = fields_take _ _ are a.1 in
        let is : IsSound a.0 = record { tree = f.0; names = g.0; short = subst (λ b. length b ≤ longest) f.1 (ltb-false _ _ short) } in
        subst (λ t. IsSound t × (bytes ≡ image_of t)) g.1 (is, f.1)

pub tree_again : (t : TreeOf) → IsSound t → tree_in (image_of t) ≡ Ok t
unfolding tree_in
tree_again t is =
    rw (le-ltb _ _ is.short, fields_again t is.tree, is.names) refl

-- ---- laws
pub one_to_one : (s t : TreeOf) → IsSound s → IsSound t → image_of s ≡ image_of t → s ≡ t
one_to_one s t is_s is_t e = ok_is s t (sym (tree_again s is_s) ∙ ap tree_in e ∙ tree_again t is_t)

pub faultless : (bytes : List ℕ) → AreBytes bytes → (image_fault bytes ≡ None) ↔ IsImage bytes
faultless bytes are = (there _ refl, back)
  where
    there : (r : Result TreeOf Fault) → tree_in bytes ≡ r → image_fault bytes ≡ None → IsImage bytes
    there (Ok t) e none = let p = tree_takes _ t are e in record { tree = t; sound = p.0; written = p.1 }
    there (Err f) e none = absurd cc

    back : IsImage bytes → image_fault bytes ≡ None
    back i = ap (fault_in bytes) (ap tree_in i.written ∙ tree_again _ i.sound)
