use Rattle.std.proofs.Common.{◌∙◌, refl, sym, subst}
use Rattle.ix_model.specs.world.Contents.{held_at, resized, side}
use Rattle.ix_flow.{specs.{Origins.gap_mark, Sides.IsLike}, proofs.{Mapping.resized_map, SideEdits.{edited_sides, found_first, found_tracked, labelled_from}}}
use Rattle.ix_flow.proofs.sides.Sides.cut.Goals as goal

pub returns : goal.returns
returns c = λ labels h hs was has.
    let taken = found_tracked _ _ h hs _ _ _ was has _ c.take-side.ensures.found in
    let first = found_first _ _ h hs _ _ _ was has _ c.take-side.ensures.found refl in
    edited_sides _ _ h hs _ _ _ was has _ (resized gap_mark c.args.len) _ c.in_ok-put.ensures.put
    (λ p other apart. c.in_ok-put.ensures.others p other apart ∙ c.take-side.ensures.others p other apart)
    (subst (IsLike _) (sym (resized_map (λ m. m.origin) gap_mark c.args.len (side c.args.end (held_at hs _)))) (c.in_ok-cut.ensures.like _ first taken.0))
    (labelled_from _ h _ _ _ taken.1 c.in_ok-cut.ensures.sources tt)
    (λ plain. c.cut.ensures.front ∙ first)
