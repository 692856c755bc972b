use Rattle.std.proofs.{Common.{◌∙◌, arith}, lemmas.List.length-set}
use Rattle.ix_image.{specs.Meant.{link_of, links_in}, proofs.{Counted.{counted, counted_enough, not_counted}, Placing.at_low}}
use Rattle.ix_image.proofs.fitting.count_links.Goals as goal

pub links-preserved-then-counts-place-lt2 : goal.links-preserved-then-counts-place-lt2
links-preserved-then-counts-place-lt2 c = record {
  long = length-set c.links.counts c.in-Some-place_of.place _ ∙ c.links.invariant.long;
  each = counted _ c.requires.rise _ (links_in c.links.rest) (link_of c.in-Some.link) (links_in c.in-Some.more) _ c.in-Some.ensures c.links.invariant.each
      _ (omega (arith, c.links.invariant.long, at_low c.args.nodes.now c.in-Some-place_of.place c.in-Some.link.object c.in-Some-place_of.ensures.some))
      c.in-Some-place_of.ensures.some;
}

pub links-preserved-else-counts-place-lt2 : goal.links-preserved-else-counts-place-lt2
links-preserved-else-counts-place-lt2 c = record {
  long = c.links.invariant.long;
  each = counted_enough _ c.requires.rise _ _ _ _ _ c.in-Some.ensures
      c.links.invariant.each _ c.if-counts-place-lt2.false c.in-Some-place_of.ensures.some;
}

pub links-preserved : goal.links-preserved
links-preserved c = record {
  long = c.links.invariant.long;
  each = not_counted _ c.requires.rise _ _ _ _ _ c.in-Some.ensures
      c.links.invariant.each c.in_default-place_of.ensures.none;
}
