use Rattle.std.proofs.{Common.{◌∙◌, true≢false, drop, subst}, lemmas.List.drop-map}
use Rattle.ix_model.specs.world.Contents.{held_at, side}
use Rattle.ix_flow.{specs.Sides.IsLike, proofs.SideEdits.{edited_sides, found_tracked, labelled_less}}
use Rattle.ix_flow.proofs.sides.Sides.drain.Goals as goal

pub returns : goal.returns
returns c = λ labels h hs was has.
    let taken = found_tracked _ _ h hs _ _ _ was has _ c.take-side.ensures.found in
    edited_sides _ _ h hs _ _ _ was has _ (drop _) _ c.in_ok-put.ensures.put
    (λ p other apart. c.in_ok-put.ensures.others p other apart ∙ c.take-side.ensures.others p other apart)
    (subst (IsLike _) (drop-map (λ m. m.origin) c.args.count (side c.args.end (held_at hs _))) (c.in_ok-take.ensures.like _ taken.0))
    (labelled_less _ h _ _ taken.1 c.in_ok-take.ensures.sources)
    (λ plain. absurd (true≢false plain))
