use Rattle.std.proofs.Common.{◌∙◌, refl, sym, ap, subst}
use Rattle.ix_model.specs.world.Contents.{held_at, side, written_over}
use Rattle.ix_flow.specs.{Origins.{Gap, Written, gap_mark, marked_from, origins_of}, Sides.{IsLike, numbered}}
use Rattle.ix_flow.proofs.{Mapping.over_map, SideEdits.{edited_sides, found_first, found_tracked, labelled_from, labelled_write, origins_marked}}
use Rattle.ix_flow.proofs.sides.Sides.write.Goals as goal

pub returns : goal.returns
returns c = λ labels h hs bytes was has write.
    let end = c.args.end in
    let place = c.args.written.place in
    let label = c.args.written.label in
    let taken = found_tracked _ _ h hs _ _ _ was has _ c.take-side.ensures.found in
    let first = found_first _ _ h hs _ _ _ was has _ c.take-side.ensures.found refl in
    edited_sides _ _ h hs _ _ _ was has _
    (written_over _ _ _) _ c.in_ok-put.ensures.put
    (λ p other apart. c.in_ok-put.ensures.others p other apart ∙ c.take-side.ensures.others p other apart)
    (subst (IsLike _) (sym (over_map (λ m. m.origin) gap_mark c.args.offset (marked_from (Written place) 0 bytes) (side end (held_at hs _))
    ∙ ap (λ xs. written_over Gap c.args.offset xs (origins_of (side end (held_at hs c.args.object.0)))) (origins_marked _ 0 _ ∙ ap (numbered (Written place) 0) (sym write.count))))
    (c.in_ok-write.ensures.like _ first taken.0))
    (labelled_from _ h _ _ _ taken.1 c.in_ok-write.ensures.sources (labelled_write labels h _ _ label write.label))
    (λ plain. c.write.ensures.front ∙ first)
