use Rattle.std.proofs.{Common.{◌≡◌, ◌<◌, ℕ, ◌∷◌, [], List, Bool, false, length, get_or, map, replicate, sym, ap, subst, ◌∙◌, arith, rules}, lemmas.List.length-map}
use Rattle.ix_image.specs.{declared.node.Node.Node, Trees.LinkOf, Found.Finds, Meant.{node_of, nodes_of}}
use Rattle.ix_image.proofs.{Placing.got_node, Searching.{Searched, search_begins, search_goes_on, search_ends, places_low, got_place, dir_found}}
use Rattle.ix_image.proofs.reaching.reached.Goals as goal

pub found-init : goal.found-init
found-init c =
    search_begins _ _ _
    (subst (λ m. Finds (nodes_of c.args.nodes.now) (0 ∷ []) m [] c.find.new.self.marks.items c.find.new.self.places.items) (c.in_ok-marks.ensures.items_if_clones_equal (λ y same. same)
    ∙ ap (λ n. replicate n false) (sym (length-map _ node_of)))
    (subst (λ p. Finds (nodes_of c.args.nodes.now) (0 ∷ []) c.in_ok-marks.marks.items p c.find.new.self.marks.items c.find.new.self.places.items) c.new.ensures.items c.in_ok-find.ensures))

-- a place that was found is one of an object
low : (nodes : List Node) (marks : List Bool) (places : List ℕ) (at i : ℕ) → Searched (nodes_of nodes) marks places at → at < length places → i ≡ get_or places at i → i < length nodes
low nodes marks places at i found small is = omega (arith, places_low (nodes_of nodes) marks places at at i found (got_place places at i small is), length-map nodes node_of)

pub bounds-nodes-index : goal.bounds-nodes-index
bounds-nodes-index c = low _ _ _ _ _ c.found.invariant (omega arith) c.index.ensures

pub offset_bounds-nodes-index : goal.offset_bounds-nodes-index
offset_bounds-nodes-index c =
    search (rules, low _ _ _ _ _ c.found.invariant (omega arith) c.index.ensures)

pub found-preserved : goal.found-preserved
found-preserved c =
    let here = got_place c.found.found.places.items c.found.at _ (omega arith) c.index.ensures in
    let finds = subst (λ (ls : List LinkOf). Finds (nodes_of c.args.nodes.now) (map (λ l. l.1) ls) c.found.found.marks.items c.found.found.places.items c.follow.new.self.marks.items
    c.follow.new.self.places.items) c.links.ensures c.in_ok-follow.ensures in
    search_goes_on (nodes_of c.args.nodes.now) c.found.found.marks.items c.found.found.places.items c.found.at c.index.result.now (node_of c.index-nodes-index.result) c.follow.new.self.marks.items
    c.follow.new.self.places.items c.found.invariant (omega arith) here (dir_found (nodes_of c.args.nodes.now) c.found.found.marks.items
    c.found.found.places.items c.found.at c.found.at c.index.result.now (node_of c.index-nodes-index.result)
    c.found.invariant here (got_node c.args.nodes.now c.index.result.now c.index-nodes-index.result
    (low c.args.nodes.now c.found.found.marks.items c.found.found.places.items c.found.at c.index.result.now c.found.invariant (omega arith)
    c.index.ensures) c.index-nodes-index.is)) finds

pub returns : goal.returns
returns c = search_ends _ _ _ _ c.found.invariant (omega arith)
