-- How far a list was told.
use Rattle.std.specs.Prelude.{◌≡◌, ℕ, ◌+◌, ◌-◌, ◌<◌, List, [], ◌++◌, length, drop}
use Rattle.std.specs.List.{flat_map, sum_by}
use Rattle.ix_image.specs.declared.telling.Next.{Next}
use Rattle.ix_image.specs.declared.telling.Next.TheVariants as next
use Rattle.ix_image.specs.declared.telling.Listing.{Listing}
use Rattle.ix_image.specs.Trees.{TreeOf, NodeOf, links_of}
use Rattle.ix_image.specs.Lines.{file_system_line, link_line, node_lines, names_in, end_line}
use Rattle.ix_image.specs.Meant.{links_in}

-- ---- what is left to tell
-- these objects of a tree, and the last line
abbrev pub nodes_left : TreeOf → List NodeOf → List ℕ
nodes_left t nodes = flat_map node_lines nodes ++ end_line (length t.nodes) (names_in t.nodes)

abbrev pub text_left : Next → TreeOf → List ℕ
text_left (next.FileSystem k) t = flat_map file_system_line (drop k t.fss) ++ nodes_left t t.nodes
text_left (next.Object i) t = nodes_left t (drop i t.nodes)
text_left (next.Name dir links i) t = flat_map (link_line dir) (links_in links) ++ nodes_left t (drop i t.nodes)
text_left next.End t = []

unfoldable pub left_of : Listing → List ℕ
left_of l = text_left l.next l.tree.now

-- ---- how many pieces are left
-- two for each object, and one for each of its names
abbrev pub pieces_of_nodes : List NodeOf → ℕ
pieces_of_nodes nodes = sum_by (λ x. 2 + length (links_of x)) nodes

abbrev pub pieces_left : Next → TreeOf → ℕ
pieces_left (next.FileSystem k) t = 2 + (length t.fss - k) + pieces_of_nodes t.nodes
pieces_left (next.Object i) t = 1 + pieces_of_nodes (drop i t.nodes)
pieces_left (next.Name dir links i) t = 2 + length (links_in links) + pieces_of_nodes (drop i t.nodes)
pieces_left next.End t = 0

unfoldable pub pieces_of : Listing → ℕ
pieces_of l = pieces_left l.next l.tree.now

-- one piece more was told
pub record Tells (old new : Listing) (before after : List ℕ) : Type 0 where
  pub text : after ++ left_of new ≡ before ++ left_of old
  pub grown : (piece : List ℕ) × (after ≡ before ++ piece)
  pub fewer : pieces_of new < pieces_of old
