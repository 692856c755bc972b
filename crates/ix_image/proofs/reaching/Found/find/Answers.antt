use Rattle.std.proofs.{Common.{◌≡◌, true, [], ◌∷◌, set, sym, ap, subst, ◌∙◌, arith, rules}, lemmas.{List.length-map, Bool.true≢false}}
use Rattle.ix_image.specs.{Trees.is_directory, Found.{marked, Finds}, Meant.{node_of, nodes_of}}
use Rattle.ix_image.proofs.{Placing.{at_low, got_node, number_here, not_of_number, same_place}, Searching.{finds_no_more, finds_one, got_mark}}
use Rattle.ix_image.proofs.reaching.Found.find.Goals.{then-index-via-then-index, then-index-via-else-index+then-not-is_dir}
use Rattle.ix_image.proofs.reaching.Found.find.Goals as goal

pub returns-in_default : goal.returns-in_default
returns-in_default c = finds_no_more _ _ _ _
    (λ i x at number. absurd (not_of_number _ _ i x c.in_default.ensures.none at.is (sym number)))

pub bounds-nodes-place : goal.bounds-nodes-place
bounds-nodes-place c = at_low _ _ _ c.in-Some.ensures.some

pub offset_bounds-nodes-place : goal.offset_bounds-nodes-place
offset_bounds-nodes-place c =
    search (rules, at_low _ _ _ c.in-Some.ensures.some)

pub index-requires : goal.index-requires
index-requires c =
    omega (arith, at_low _ _ _ c.in-Some.ensures.some, c.requires.long)

pub returns-then-index : goal.returns-then-index
returns-then-index c =
    let low = at_low _ _ _ c.in-Some.ensures.some in
    elim c.then-index.branch [
      | then-index-via-then-index w ↦ finds_no_more _ _ _ _
          (λ i x at number.
          ap (marked c.args.self.now.marks.items) (same_place _ i _ x _ c.requires.rise at.is c.in-Some.ensures.some.is
          (number ∙ sym c.in-Some.ensures.some.number)) ∙ got_mark c.args.self.now.marks.items _ _ (omega (arith, low, c.requires.long)) c.index.ensures
          ∙ w.if-index.true)
      | then-index-via-else-index+then-not-is_dir w ↦ finds_no_more _ _ _ _
          (λ i x at number.
          let got = got_node _ _ _ low c.index-nodes-place.is in
          let x-is : x ≡ node_of c.index-nodes-place.result =
          cc (
            at.is,
            got,
            same_place _ i _ x _ c.requires.rise at.is got (number
                ∙ sym (number_here _ _ _ _ low c.index-nodes-place.is c.in-Some.ensures.some)),
          ) in
          absurd (true≢false (sym at.dir ∙ ap is_directory x-is ∙ sym w.is_dir.ensures ∙ w.if-not-is_dir.true)))
    ]

pub index_mut-requires : goal.index_mut-requires
index_mut-requires c =
    omega (arith, at_low _ _ _ c.in-Some.ensures.some, c.requires.long)

pub returns : goal.returns
returns c =
    let at = c.in-Some.ensures.some in
    let low = at_low _ _ _ at in
    let got = got_node _ _ _ low c.index-nodes-place.is in
    let number = number_here _ _ _ _ low c.index-nodes-place.is at in
    let dir : is_directory (node_of c.index-nodes-place.result) ≡ true = sym c.is_dir.ensures ∙ c.if-not-is_dir.false in
    subst (λ places. Finds (nodes_of c.args.nodes.now) (c.args.number ∷ []) c.args.self.now.marks.items c.args.self.now.places.items
    (set c.args.self.now.marks.items c.in-Some.place true) places) (sym c.in_ok-push.ensures.ok)
    (finds_one _ _ _ _ _ _
    (c.requires.long ∙ sym (length-map c.args.nodes.now node_of)) (record { is = got; dir = dir }) number
    (got_mark c.args.self.now.marks.items _ _ (omega (arith, low, c.requires.long)) c.index.ensures ∙ c.if-index.false)
    (λ j y is numbered. same_place _ j _ y _ c.requires.rise is.is got (numbered ∙ sym number)))
