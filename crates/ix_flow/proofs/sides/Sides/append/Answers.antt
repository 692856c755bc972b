use Rattle.std.proofs.{Common.{◌∙◌, ◌++◌, true≢false, sym, ap, subst}, lemmas.List.map-append}
use Rattle.ix_model.specs.world.Contents.{held_at, side}
use Rattle.ix_flow.specs.{Origins.{Written, marked_from, origins_of}, Sides.{IsLike, numbered}}
use Rattle.ix_flow.proofs.SideEdits.{edited_sides, found_tracked, labelled_from, labelled_write, origins_marked}
use Rattle.ix_flow.proofs.sides.Sides.append.Goals as goal

pub returns : goal.returns
returns c = λ labels h hs bytes was has write.
    let object = c.args.object.0 in
    let place = c.args.written.place in
    let label = c.args.written.label in
    let taken = found_tracked _ _ h hs _ _ _ was has _ c.take-side.ensures.found in
    edited_sides _ _ h hs _ _ _ was has _ (λ old. old ++ marked_from (Written place) 0 bytes) _ c.in_ok-put.ensures.put
    (λ p other apart. c.in_ok-put.ensures.others p other apart ∙ c.take-side.ensures.others p other apart)
    (subst (IsLike _) (sym (map-append (λ m. m.origin) _ _
    ∙ ap (λ xs. origins_of (side c.args.end (held_at hs object)) ++ xs) (origins_marked _ 0 _ ∙ ap (numbered (Written place) 0) (sym write.count)))) (c.in_ok-append.ensures.like _ taken.0))
    (labelled_from _ h _ _ _ taken.1 c.in_ok-append.ensures.sources (labelled_write labels h _ _ label write.label))
    (λ plain. absurd (true≢false plain))
