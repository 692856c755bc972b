-- Configs that are found to differ no further do so.
use Rattle.std.proofs.{Common.{◌≡◌, ℕ, Bool, true, false, true≢false, not, ◌||◌, List, [], ◌∷◌, refl, sym, ap}, Math.Bool.beq, lemmas.Bool.{and_parts, Decides.{Decides-and, Decides-eqb}}}
use Rattle.std.{proofs.lemmas.{Bool.Decides.Decides-like, Slice.Eq.slice_eq-Decides}, specs.{Bool.Decides, Cmp.Lexicographic.pointwise}}
use Rattle.ix_label.specs.{Category.{Categories, leq}, Lattice.same-decides}
use Rattle.ix_model.specs.{declared.{config.{Config.Config, FsSpec.FsSpec, Limits.Limits, ObjSpec.ObjSpec, ProcSpec.ProcSpec}, privs.PrivSet.PrivSet}, world.Naming.{PathOf, same_bytes}}
use Rattle.ix_model.proofs.tables.Alike.{bytes_are, bytes_itself}
use Rattle.ix_iso.specs.Configs.{DifferAbove, SameLine, SameLines}
use Rattle.ix_twin.specs.{Configs.{differ_above, same_fs, same_limits, same_object, same_proc}, Sameness.{same_path, same_privs}}
use Rattle.ix_twin.proofs.SameCalls.{bools_are, bool_itself, number_itself, path_itself, paths_are, privs_are}

bytes_decides : (a b : List ℕ) → Decides (same_bytes a b) (a ≡ b)
bytes_decides a b = (bytes_are a b, λ e. rw e (bytes_itself b))

privs_decides : (x y : PrivSet) → Decides (same_privs x y) (x ≡ y)
privs_decides x y = (privs_are x y, λ e. rw e (number_itself _))

bools_decide : (a b : Bool) → Decides (beq a b) (a ≡ b)
bools_decide a b = (bools_are a b, λ e. rw e (bool_itself b))

paths_decide : (p q : PathOf) → Decides (same_path p q) (p ≡ q)
paths_decide p q = (paths_are p q, λ e. rw e (path_itself q))

-- ---- file systems, limits and processes
fs_decides : (a b : FsSpec) → Decides (same_fs a b) (a ≡ b)
fs_decides a b =
    Decides-like _ (λ p. λ i. record { name = p.0.0.0 i; ceiling = p.0.0.1 i; blocks = p.0.1 i; inodes = p.1 i })
    (λ e. (((ap (λ (x : FsSpec). x.name) e, ap (λ (x : FsSpec). x.ceiling) e), ap (λ (x : FsSpec). x.blocks) e), ap (λ (x : FsSpec). x.inodes) e))
    (Decides-and _ _ (Decides-and _ _ (Decides-and _ _ (bytes_decides _ _) (same-decides _ _)) (Decides-eqb a.blocks b.blocks)) (Decides-eqb a.inodes b.inodes))

limits_decide : (a b : Limits) → Decides (same_limits a b) (a ≡ b)
limits_decide a b =
    Decides-like _ (λ p. λ i. record { procs = p.0.0.0.0 i; opens = p.0.0.0.1 i; pipes = p.0.0.1 i; names = p.0.1 i; log = p.1 i })
    (λ e. ((((ap (λ (x : Limits). x.procs) e, ap (λ (x : Limits). x.opens) e), ap (λ (x : Limits). x.pipes) e), ap (λ (x : Limits). x.names) e), ap (λ (x : Limits). x.log) e))
    (Decides-and _ _ (Decides-and _ _ (Decides-and _ _ (Decides-and _ _ (Decides-eqb a.procs b.procs) (Decides-eqb a.opens b.opens))
    (Decides-eqb a.pipes b.pipes)) (Decides-eqb a.names b.names)) (Decides-eqb a.log b.log))

proc_decides : (a b : ProcSpec) → Decides (same_proc a b) (a ≡ b)
proc_decides a b =
    Decides-like _ (λ p. λ i. record { label = p.0.0.0 i; ceiling = p.0.0.1 i; cap = p.0.1 i; lic = p.1 i })
    (λ e. (((ap (λ (x : ProcSpec). x.label) e, ap (λ (x : ProcSpec). x.ceiling) e), ap (λ (x : ProcSpec). x.cap) e), ap (λ (x : ProcSpec). x.lic) e))
    (Decides-and _ _ (Decides-and _ _ (Decides-and _ _ (same-decides _ _) (same-decides _ _)) (privs_decides _ _)) (privs_decides a.lic b.lic))

-- ---- objects
module _ (l : Categories) where
  -- all but the bytes of an object line
  abbrev BytesAside : ObjSpec → ObjSpec → Type 0
  BytesAside a b = record a { bytes = [] } ≡ record b { bytes = [] }

  low_bytes : (a b : ObjSpec) → (not (leq a.label l) || same_bytes a.bytes b.bytes) ≡ true → leq a.label l ≡ true → a.bytes ≡ b.bytes
  low_bytes a b h low = bytes_are _ _ (rw low at h)

  bytes_low : (a b : ObjSpec) → (leq a.label l ≡ true → a.bytes ≡ b.bytes) → (not (leq a.label l) || same_bytes a.bytes b.bytes) ≡ true
  bytes_low a b h = go _ refl
    where
      go : (low : Bool) → leq a.label l ≡ low → (not low || same_bytes a.bytes b.bytes) ≡ true
      go true is = (bytes_decides a.bytes _).1 (h is)
      go false is = refl

  object_decides : (a b : ObjSpec) → Decides (same_object l a b) (SameLine l a b)
  object_decides a b = (to, back)
    where
      to : same_object l a b ≡ true → SameLine l a b
      to h =
          let p6 = and_parts _ _ h in
          let p5 = and_parts _ _ p6.0 in
          let p4 = and_parts _ _ p5.0 in
          let p3 = and_parts _ _ p4.0 in
          let p2 = and_parts _ _ p3.0 in
          let p1 = and_parts _ _ p2.0 in
          let path = paths_are _ _ p1.0 in
          let dir = bools_are _ _ p1.1 in
          let label = (same-decides _ _).0 p2.1 in
          let frozen = bools_are _ _ p3.1 in
          let cap = privs_are _ _ p4.1 in
          let lic = privs_are _ _ p5.1 in
          record {
            but_bytes = λ i. record { path = path i; dir = dir i; label = label i; frozen = frozen i; cap = cap i; lic = lic i; bytes = [] };
            low = low_bytes a b p6.1;
          }

      back : SameLine l a b → same_object l a b ≡ true
      back h =
          let dir = (bools_decide _ _).1 (ap (λ x. x.dir) h.but_bytes) in
          let label = (same-decides _ _).1 (ap (λ x. x.label) h.but_bytes) in
          let frozen = (bools_decide _ _).1 (ap (λ x. x.frozen) h.but_bytes) in
          let cap = (privs_decides _ _).1 (ap (λ x. x.cap) h.but_bytes) in
          let lic = (privs_decides _ _).1 (ap (λ x. x.lic) h.but_bytes) in
          rw ((paths_decide _ _).1 (ap (λ x. x.path) h.but_bytes), dir, label, frozen, cap, lic) (bytes_low a b h.low)

  objects_decide : (xs ys : List ObjSpec) → Decides (pointwise (same_object l) xs ys) (SameLines l xs ys)
  objects_decide [] [] = (λ h. tt, λ h. refl)
  objects_decide [] (b ∷ ys) = (λ h. absurd (true≢false (sym h)), λ h. absurd h)
  objects_decide (a ∷ xs) [] = (λ h. absurd (true≢false (sym h)), λ h. absurd h)
  objects_decide (a ∷ xs) (b ∷ ys) = Decides-and _ _ (object_decides a b) (objects_decide xs ys)

  pub configs_decide : (c d : Config) → Decides (differ_above l c d) (DifferAbove l c d)
  unfolding differ_above
  configs_decide c d =
      Decides-like _ (λ p. record { fss = p.0.0.0; limits = p.0.0.1; procs = p.0.1; objects = p.1 })
      (λ h. (((h.fss, h.limits), h.procs), h.objects))
      (Decides-and _ _ (Decides-and _ _ (Decides-and _ _ (slice_eq-Decides fs_decides c.fss d.fss _ refl) (limits_decide _ _))
      (slice_eq-Decides proc_decides c.procs d.procs _ refl)) (objects_decide _ _))
