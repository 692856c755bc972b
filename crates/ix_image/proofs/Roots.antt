-- Walks over file systems, each with its first inode, and over objects.
use Rattle.std.proofs.Common.{◌≡◌, ℕ, ◌+◌, ◌<◌, ◌≤◌, Bool, true, false, ◌&&◌, ◌||◌, List, [], ◌∷◌, length, get_or, drop, Some, None, refl, sym, ap}
use Rattle.std.{specs.{Prelude.slice_get, List.{list_all, list_any, AllByRecursion}}, proofs.lemmas.List.drop_all}
use Rattle.ix_model.specs.{opening.Opening.mounts, declared.config.FsSpec.FsSpec}
use Rattle.ix_image.{specs.{declared.node.Node.Node, Trees.{LinkOf, NodeOf, further_roots}, Image.IsFileSystem, Meant.{node_of, nodes_of}}, proofs.Counting.rest_at}

-- ---- file systems
module _ (p : LinkOf → Bool) (fss : List FsSpec) where
  pub roots_any : (n i : ℕ) (s : FsSpec) → i < length fss → s ≡ get_or fss i s → list_any p (mounts n (drop i fss)) ≡ (p (s.name, n) || list_any p (mounts (n + s.inodes) (drop (i + 1) fss)))
  roots_any n i s low is = ap (λ r. list_any p (mounts n r)) (rest_at _ i s low is)

  pub roots_all : (n i : ℕ) (s : FsSpec) → i < length fss → s ≡ get_or fss i s → list_all p (mounts n (drop i fss)) ≡ (p (s.name, n) && list_all p (mounts (n + s.inodes) (drop (i + 1) fss)))
  roots_all n i s low is = ap (λ r. list_all p (mounts n r)) (rest_at _ i s low is)

  pub no_roots_any : (n i : ℕ) → length fss ≤ i → list_any p (mounts n (drop i fss)) ≡ false
  no_roots_any n i high = ap (λ r. list_any p (mounts n r)) (drop_all i fss high)

  pub no_roots_all : (n i : ℕ) → length fss ≤ i → list_all p (mounts n (drop i fss)) ≡ true
  no_roots_all n i high = ap (λ r. list_all p (mounts n r)) (drop_all i fss high)

-- the further file systems' roots begin behind the first one's inodes
pub further_are : (fss : List FsSpec) (s : FsSpec) → slice_get fss 0 ≡ Some s → mounts s.inodes (drop 1 fss) ≡ further_roots fss
further_are [] s first = absurd (cc first)
further_are (x ∷ fss) s first = let is : x ≡ s = cc first in ap (λ y. mounts y.inodes fss) (sym is)

pub no_further : (fss : List FsSpec) → slice_get fss 0 ≡ None → further_roots fss ≡ []
no_further [] none = refl
no_further (x ∷ fss) none = absurd (cc none)

pub systems_behind : (fss : List FsSpec) → AllByRecursion IsFileSystem fss → AllByRecursion IsFileSystem (drop 1 fss)
systems_behind [] all = tt
systems_behind (x ∷ fss) all = all.1

-- ---- objects
pub nodes_all : (p : NodeOf → Bool) (nodes : List Node) (i : ℕ) (x : Node) → i < length nodes → x ≡ get_or nodes i x → list_all p (nodes_of (drop i nodes))
    ≡ (p (node_of x) && list_all p (nodes_of (drop (i + 1) nodes)))
nodes_all p nodes i x low is = ap (λ r. list_all p (nodes_of r)) (rest_at _ i x low is)

pub no_nodes_all : (p : NodeOf → Bool) (nodes : List Node) (i : ℕ) → length nodes ≤ i → list_all p (nodes_of (drop i nodes)) ≡ true
no_nodes_all p nodes i high = ap (λ r. list_all p (nodes_of r)) (drop_all i nodes high)
