-- The blocks that the files of each file system take.
use Rattle.std.proofs.Common.{◌≡◌, ℕ, zero, suc, ◌+◌, ◌-◌, ◌*◌, ◌<◌, ◌≤◌, Bool, true, cond, ◌==◌, leb, ◌&&◌, List, [], ◌∷◌, length, get_or, set, take, refl, ap}
use Rattle.std.{proofs.Common.{replicate, sym, subst, ◌∙◌, arith, inl, inr}, specs.{Prelude.slice_index, List.{list_all, range_with_len, AllByRecursion}}}
use Rattle.std.proofs.lemmas.{Bool.{cases_lt, cases_eq, lt-ltb, le-ltb, eq-eqb, ne_eqb}, List.{Sums.{sum_by-cons, sum_by_more}, length-map, length-set, get_or-set_same, get_or-set_other}}
use Rattle.ix_label.specs.Category.{top}
use Rattle.ix_model.specs.{rows.Telling.blocks_for, world.World.fs_at, declared.config.FsSpec.FsSpec}
use Rattle.ix_image.specs.{declared.node.Node.Node, Trees.{TreeOf, NodeOf, Holds, Bytes, Links, size_held, size_of, inodes_in, home}, Fitting.blocks_taken}
use Rattle.ix_image.{specs.{Image.{AreHeld, IsNode, IsTree}, Meant.{node_of, nodes_of, tree_made}}, proofs.{Objects.most_within, Amounts.node_at}}

-- ---- numbers and sizes
-- a number that some file system has
pub home_low : (fss : List FsSpec) (n : ℕ) → n < inodes_in fss → home fss n < length fss
unfolding home
home_low [] n low = absurd (omega arith)
home_low (s ∷ fss) n low = elim (cases_lt n s.inodes) [
  | inl inside ↦ rw (lt-ltb) (omega arith)
  | inr past ↦
      let rest : n - s.inodes < inodes_in fss = omega (arith, sum_by-cons (λ (s : FsSpec). s.inodes) s fss) in
      let further = home_low fss _ rest in
      rw (le-ltb) (omega (arith, further))
]

few_bytes : (h : Holds) → AreHeld h → size_held h ≤ 1048576
few_bytes (Bytes bytes) held = most_within 0 _ _ held
few_bytes (Links links) held = omega arith

pub node_in : (fss : List FsSpec) (nodes : List NodeOf) (i : ℕ) (x : NodeOf) → AllByRecursion (IsNode fss) nodes → i < length nodes → x ≡ get_or nodes i x → IsNode fss x
node_in fss [] i x all low is = absurd (omega arith)
node_in fss (y ∷ nodes) zero x all low is = subst (IsNode fss) (sym is) all.0
node_in fss (y ∷ nodes) (suc i) x all low is = node_in _ nodes i x all.1 (omega arith) is

few_blocks : (n : ℕ) → n ≤ 1048576 → blocks_for n ≤ 2048
few_blocks n few = omega arith

-- ---- one object more
pub record Taken (fss : List FsSpec) (nodes : List Node) (i : ℕ) (taken : List ℕ) : Type 0 where
  pub long : length taken ≡ 16
  pub each : (k : ℕ) → k < 16 → slice_index taken k ≡ blocks_taken fss (take i (nodes_of nodes)) k
  pub few : (k : ℕ) → slice_index taken k ≤ 2048 * i

zeros : (n k : ℕ) → ◌≡◌ {A = ℕ} (get_or (replicate n 0) k 0) 0
zeros zero k = refl
zeros (suc n) zero = refl
zeros (suc n) (suc k) = zeros n k

pub none_taken : (fss : List FsSpec) (nodes : List Node) → Taken fss nodes 0 (replicate 16 0)
none_taken fss nodes = record { long = refl; each = λ k low. zeros 16 k; few = λ k. omega (arith, zeros 16 k) }

abbrev taken_by : List FsSpec → ℕ → NodeOf → ℕ
taken_by fss k x = cond (home fss x.number == k) (blocks_for (size_of x)) 0

module _ (fss : List FsSpec) (nodes : List Node) (tree : IsTree (tree_made fss nodes)) (i : ℕ) (x : Node) (low : i < length nodes) (is : x ≡ get_or nodes i x) where
  is_node : IsNode fss (node_of x)
  is_node = node_in _ _ i _ tree.nodes (omega (arith, length-map nodes node_of)) (node_at _ i x low is)

  pub home_few : (h : ℕ) → h ≡ home fss x.number → h < 16
  home_few h at =
      let here = home_low fss _ is_node.inside in
      let sixteen = most_within 1 16 (length fss) tree.count in
      omega arith

  few_here : (b : ℕ) → b ≡ blocks_for (size_of (node_of x)) → b ≤ 2048
  few_here b blocks = omega (arith, few_blocks _ (few_bytes _ is_node.holds))

  pub sum_few : (taken : List ℕ) (h b : ℕ) → b ≡ blocks_for (size_of (node_of x)) → i < 1048576 → Taken fss nodes i taken → slice_index taken h + b < 4294967296
  sum_few taken h b blocks small so_far = omega (arith, few_here b blocks)

  pub one_more : (taken : List ℕ) (h b : ℕ) → h ≡ home fss x.number → b ≡ blocks_for (size_of (node_of x)) → Taken fss nodes i taken → Taken fss nodes (i + 1) (set taken h (slice_index taken h + b))
  one_more taken h b at blocks so_far =
      let within : h < length taken = let few = home_few h at in omega (arith, so_far.long) in
      record {
        long = length-set taken h _ ∙ so_far.long;
        each = λ k small.
            let more =
            sum_by_more _ _ i _ (omega (arith, length-map nodes node_of))
            ∙ ap (λ (y : NodeOf). blocks_taken fss (take i (nodes_of nodes)) k + taken_by fss k y) (sym (node_at nodes i x low is)) in
            let before = so_far.each k small in
            elim (cases_eq k h) [
              | inl same ↦
                  let was : slice_index taken k ≡ slice_index taken h = ap (λ j. get_or taken j 0) same in
                  let here : taken_by fss k (node_of x) ≡ blocks_for (size_of (node_of x)) = ap (λ c. cond c (blocks_for (size_of (node_of x))) 0) (eq-eqb (home fss x.number) k (sym (same ∙ at))) in
                  omega (
                    arith,
                    ap (λ j. get_or (set taken h (slice_index taken h + b)) j 0) same
                        ∙ get_or-set_same taken h (slice_index taken h + b) 0 within,
                    was,
                    here,
                    more,
                    before,
                  )
              | inr other ↦
                  let elsewhere : taken_by fss k (node_of x) ≡ 0 = ap (λ c. cond c (blocks_for (size_of (node_of x))) 0) (ne_eqb (home fss x.number) k (λ same. other (sym (at ∙ same)))) in
                  omega (arith, get_or-set_other taken h k (slice_index taken h + b) 0 other, elsewhere, more, before)
            ];
        few = λ k. elim (cases_eq k h) [
          | inl same ↦
              let now : slice_index (set taken h (slice_index taken h + b)) k ≡ slice_index taken h + b = ap (λ j. get_or (set taken h (slice_index taken h + b)) j 0) same
              ∙ get_or-set_same taken h (slice_index taken h + b) 0 within in
              omega (arith, now, few_here b blocks)
          | inr other ↦
              let few = so_far.few k in
              omega (arith, get_or-set_other taken h k (slice_index taken h + b) 0 other)
        ];
      }

-- ---- file system after file system
-- whether the files of one fit its blocks
abbrev pub fits : TreeOf → ℕ → Bool
fits t k = leb (blocks_taken t.fss t.nodes k) (fs_at t.fss k).blocks

pub range_on : (p : ℕ → Bool) (n k : ℕ) → k < n → list_all p (range_with_len k (n - k)) ≡ (p k && list_all p (range_with_len (k + 1) (n - (k + 1))))
range_on p n k low =
    let more : n - k ≡ suc (n - (k + 1)) = omega arith in
    ap (λ m. list_all p (range_with_len k m)) more

pub range_ends : (p : ℕ → Bool) (n k : ℕ) → n ≤ k → list_all p (range_with_len k (n - k)) ≡ true
range_ends p n k high =
    let none : n - k ≡ 0 = omega arith in
    ap (λ m. list_all p (range_with_len k m)) none

pub all_objects : (nodes : List NodeOf) → take (length nodes) nodes ≡ nodes
all_objects [] = refl
all_objects (x ∷ nodes) = ap (λ r. x ∷ r) (all_objects _)

fs_there : (fss : List FsSpec) (k : ℕ) (s d : FsSpec) → k < length fss → s ≡ get_or fss k s → get_or fss k d ≡ s
fs_there [] k s d low is = absurd (omega arith)
fs_there (x ∷ fss) zero s d low is = sym is
fs_there (x ∷ fss) (suc k) s d low is = fs_there fss k s d (omega arith) is

pub fits_here : (fss : List FsSpec) (nodes : List Node) (taken : List ℕ) (k : ℕ) (s : FsSpec) → IsTree (tree_made fss nodes) → Taken fss nodes (length nodes) taken → k < length fss → s
    ≡ get_or fss k s
    → fits (tree_made fss nodes) k ≡ leb (slice_index taken k) s.blocks
fits_here fss nodes taken k s tree all low is =
    let sixteen = most_within 1 16 (length fss) tree.count in
    let long = sym (length-map nodes node_of) in
    let total : slice_index taken k ≡ blocks_taken fss (nodes_of nodes) k =
    all.each k (omega arith) ∙ ap (λ n. blocks_taken fss (take n (nodes_of nodes)) k) long ∙ ap (λ (r : List NodeOf). blocks_taken fss r k) (all_objects (nodes_of nodes)) in
    (λ j. leb (sym total j) (fs_there fss k s (record { name = []; ceiling = top; blocks = 0; inodes = 0 }) low is j).blocks)
