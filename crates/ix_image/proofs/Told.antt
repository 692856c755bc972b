-- How a list is told, line by line.
use Rattle.std.proofs.Common.{◌≡◌, ℕ, zero, suc, ◌+◌, ◌<◌, ◌≤◌, List, [], ◌∷◌, ◌++◌, length, get_or, drop, sym, ap, subst, ◌∙◌, append_assoc, arith}
use Rattle.std.{specs.List.flat_map, proofs.lemmas.List.{append-nil, drop_all, length-map, Sums.sum_by-cons}}
use Rattle.ix_model.specs.declared.config.FsSpec.{FsSpec}
use Rattle.ix_image.{specs.{declared.{naming.Links.Links, node.Node.Node, telling.{Next.Next, Listing.Listing}}, Trees.{TreeOf, NodeOf, LinkOf, links_of}}, proofs.Amounts.node_at}
use Rattle.ix_image.specs.{Lines.{file_system_line, node_line, link_line, node_lines, end_line, names_in}, Meant.{links_in, node_of, nodes_of}}
use Rattle.ix_image.specs.Telling.{Tells, left_of, pieces_of, nodes_left, text_left, pieces_left, pieces_of_nodes}
use Rattle.ix_image.specs.declared.telling.Next.TheVariants as next

-- ---- lists
rest_from : {A : Type 0} (xs : List A) (i : ℕ) (x : A) → i < length xs → x ≡ get_or xs i x → drop i xs ≡ x ∷ drop (suc i) xs
rest_from [] i x low is = absurd (omega arith)
rest_from (y ∷ xs) zero x low is = ap (λ z. z ∷ xs) (sym is)
rest_from (y ∷ xs) (suc i) x low is = rest_from xs i x (omega arith) is

got_rest : {A : Type 0} (xs : List A) (i : ℕ) (x : A) → i < length xs → x ≡ get_or xs i x → drop i xs ≡ x ∷ drop (i + 1) xs
got_rest xs i x low is = let one : suc i ≡ i + 1 = omega arith in rest_from xs i x low is ∙ ap (λ n. x ∷ drop n xs) one

-- ---- one piece
-- from one place to the next
pub record Steps (old new : Next) (t : TreeOf) (piece : List ℕ) : Type 0 where
  pub text : piece ++ text_left new t ≡ text_left old t
  pub fewer : pieces_left new t < pieces_left old t

pub systems_end : (t : TreeOf) (k : ℕ) (fss : List FsSpec) → fss ≡ t.fss → length fss ≤ k → Steps (next.FileSystem k) (next.Object 0) t []
systems_end t k fss are high =
    record {
      text = ap (λ r. flat_map file_system_line r ++ nodes_left t t.nodes) (sym (drop_all k t.fss (subst (λ r. length r ≤ k) are high)));
      fewer = omega arith;
    }

pub systems_on : (t : TreeOf) (k : ℕ) (fss : List FsSpec) (s : FsSpec) → fss ≡ t.fss → k < length fss → s ≡ get_or fss k s → Steps (next.FileSystem k) (next.FileSystem (k + 1)) t (file_system_line s)
systems_on t k fss s are low is =
    let within = subst (λ r. k < length r) are low in
    let here = subst (λ r. s ≡ get_or r k s) are is in
    record {
      text = sym (ap (λ r. flat_map file_system_line r ++ nodes_left t t.nodes) (got_rest _ k s within here)
          ∙ append_assoc (file_system_line s) (flat_map file_system_line _) (nodes_left t t.nodes));
      fewer = omega arith;
    }

pub objects_end : (t : TreeOf) (i len names : ℕ) (nodes : List Node) → nodes_of nodes ≡ t.nodes → length nodes ≤ i → len ≡ length nodes → names ≡ names_in t.nodes
    → Steps (next.Object i) next.End t (end_line len names)
objects_end t i len names nodes are high long counted =
    let count = long ∙ sym (length-map nodes node_of) ∙ ap (λ r. length r) are in
    record {
      text = append-nil _ ∙ (λ j. end_line (count j) (counted j)) ∙ ap (λ r. nodes_left t r) (sym (drop_all i t.nodes (omega (arith, count, long))));
      fewer = omega arith;
    }

pub objects_on : (t : TreeOf) (i : ℕ) (nodes : List Node) (x : Node) (links : Links) → nodes_of nodes ≡ t.nodes → i < length nodes → x ≡ get_or nodes i x → links_in links ≡ links_of (node_of x)
    → Steps (next.Object i) (next.Name x.number links (i + 1)) t (node_line (node_of x))
objects_on t i nodes x links are low is links_are =
    let y = node_of x in
    let here = subst (λ r. y ≡ get_or r i y) are (node_at _ i x low is) in
    let rest = got_rest _ i y (subst (λ r. i < length r) are (omega (arith, length-map nodes node_of))) here in
    record {
      text = sym (ap (λ r. nodes_left t r) rest
          ∙ ap (λ r. r ++ end_line (length t.nodes) (names_in t.nodes))
          (append_assoc (node_line y) (flat_map (link_line x.number) (links_of y)) (flat_map node_lines (drop _ t.nodes)))
          ∙ append_assoc (node_line y) (flat_map (link_line x.number) (links_of y) ++ flat_map node_lines (drop _ t.nodes)) (end_line (length t.nodes) (names_in t.nodes))
          ∙ ap (λ r. node_line y ++ r) (append_assoc (flat_map (link_line x.number) (links_of y)) (flat_map node_lines (drop (i + 1) t.nodes))
          (end_line (length t.nodes) (names_in t.nodes)))
          ∙ ap (λ ls. node_line y ++ (flat_map (link_line x.number) ls ++ nodes_left t (drop (i + 1) t.nodes))) (sym links_are));
      fewer =
          let pieces = ap (λ (r : List NodeOf). pieces_of_nodes r) rest in
          let more = sum_by-cons (λ (x : NodeOf). 2 + length (links_of x)) y (drop (i + 1) t.nodes) in
          let long = ap (λ (r : List LinkOf). length r) links_are in
          omega arith;
    }

pub names_end : (t : TreeOf) (dir i : ℕ) (links : Links) → links_in links ≡ [] → Steps (next.Name dir links i) (next.Object i) t []
names_end t dir i links none = record {
  text = ap (λ r. flat_map (link_line dir) r ++ nodes_left t (drop i t.nodes)) (sym none);
  fewer = omega arith;
}

pub names_on : (t : TreeOf) (dir i : ℕ) (links more : Links) (l : LinkOf) → links_in links ≡ l ∷ links_in more → Steps (next.Name dir links i) (next.Name dir more i) t (link_line dir l)
names_on t dir i links more l some = record {
  text = sym (ap (λ r. flat_map (link_line dir) r ++ nodes_left t (drop i t.nodes)) some
      ∙ append_assoc (link_line dir l) (flat_map (link_line dir) (links_in more)) (nodes_left t (drop i t.nodes)));
  fewer = omega (arith, ap (λ r. length r) some);
}

-- ---- a listing that goes on
pub tells : (old new : Listing) (at to : Next) (t : TreeOf) (before after piece : List ℕ) → after ≡ before ++ piece → old.tree.now ≡ t → new.tree.now ≡ t → old.next ≡ at → new.next ≡ to
    → Steps at to t piece → Tells old new before after
unfolding left_of pieces_of
tells old new at to t before after piece grown old_tree new_tree from there steps =
    let old_text : left_of old ≡ text_left at t = (λ i. text_left (from i) (old_tree i)) in
    let new_text : left_of new ≡ text_left to t = (λ i. text_left (there i) (new_tree i)) in
    let old_pieces : pieces_of old ≡ pieces_left at t = (λ i. pieces_left (from i) (old_tree i)) in
    let new_pieces : pieces_of new ≡ pieces_left to t = (λ i. pieces_left (there i) (new_tree i)) in
    record {
      text = (λ i. grown i ++ new_text i) ∙ append_assoc before piece _ ∙ ap (λ r. before ++ r) (steps.text ∙ sym old_text);
      grown = (piece, grown);
      fewer = omega (arith, old_pieces, new_pieces, steps.fewer);
    }
