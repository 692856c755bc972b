-- How much a tree that can be read has at most.
use Rattle.std.proofs.Common.{◌≡◌, ℕ, zero, suc, ◌+◌, ◌*◌, ◌<◌, ◌≤◌, List, [], ◌∷◌, length, get_or, take, sym, ap, subst, ◌∙◌, arith}
use Rattle.std.{specs.List.AllByRecursion, proofs.lemmas.List.{length-map, get_or-map, Sums.sum_by_more}}
use Rattle.ix_model.specs.declared.config.FsSpec.{FsSpec}
use Rattle.ix_image.specs.{declared.node.Node.Node, Trees.{TreeOf, NodeOf, Holds, Bytes, Links, links_held, links_of}, Lines.names_in}
use Rattle.ix_image.{specs.{Image.{AreHeld, IsNode, IsTree}, Meant.{node_of, nodes_of, tree_made}}, proofs.{Objects.most_within, Whole.few_inodes}}

-- the object that a loop is at
pub node_at : (nodes : List Node) (i : ℕ) (x : Node) → i < length nodes → x ≡ get_or nodes i x → node_of x ≡ get_or (nodes_of nodes) i (node_of x)
node_at nodes i x low is = ap node_of is ∙ sym (get_or-map node_of nodes i x _ low)

-- ---- names
few_held : (h : Holds) → AreHeld h → length (links_held h) ≤ 65536
few_held (Bytes bytes) held = omega arith
few_held (Links links) held = most_within 0 _ _ held.0

pub few_links : (fss : List FsSpec) (nodes : List NodeOf) (i : ℕ) (x : NodeOf) → AllByRecursion (IsNode fss) nodes → i < length nodes → x ≡ get_or nodes i x → length (links_of x) ≤ 65536
few_links fss [] i x all low is = absurd (omega arith)
few_links fss (y ∷ nodes) zero x all low is = subst (λ z. length (links_of z) ≤ 65536) (sym is) (few_held _ all.0.holds)
few_links fss (y ∷ nodes) (suc i) x all low is = few_links _ nodes i x all.1 (omega arith) is

pub names_more : (nodes : List NodeOf) (i : ℕ) (x : NodeOf) → i < length nodes → x ≡ get_or nodes i x → names_in (take (i + 1) nodes) ≡ names_in (take i nodes) + length (links_of x)
names_more nodes i x low is = sum_by_more (λ x. length _) nodes i x low ∙ ap (λ y. names_in (take i nodes) + length (links_of y)) (sym is)

-- ---- objects
pub few_objects : (t : TreeOf) → IsTree t → length t.nodes ≤ 1048576
few_objects t is =
    let sixteen = most_within 1 16 (length t.fss) is.count in
    let inodes = few_inodes _ is.fss in
    let objects = is.objects in
    omega arith

-- ---- what a loop over the objects counts
pub names_step : (fss : List FsSpec) (nodes : List Node) (i all len : ℕ) (x : Node) → IsTree (tree_made fss nodes) → i < length nodes → x ≡ get_or nodes i x → len ≡ length (links_of (node_of x))
    → all ≡ names_in (take i (nodes_of nodes)) → all ≤ 65536 * i
    → (all + len ≡ names_in (take (i + 1) (nodes_of nodes))) × (all + len ≤ 65536 * (i + 1)) × (all + len < 18446744073709551616)
names_step fss nodes i all len x tree low is long so_far few =
    let within : i < length (nodes_of nodes) = omega (arith, length-map nodes node_of) in
    let here = node_at _ i x low is in
    let links = few_links _ _ i _ tree.nodes within here in
    (omega (arith, names_more _ i _ within here, so_far, long), omega (arith, links, few, long), omega (arith, links, few, long, within, few_objects _ tree))
