use Rattle.std.proofs.{Common.{◌≡◌, [], ◌∷◌, ◌++◌, length, option_map, ◌∙◌, sym, ap, subst, arith, rules, length-append}, lemmas.Option.slice_get_within}
use Rattle.ix_check.{specs.Stepping.first_at, proofs.{FirstLanes.{AreOf, are_first, is_first, one_more}, LaneCount.{at_end, lanes_few}}}
use Rattle.ix_check.proofs.lane.first_lanes.Goals as goal

pub returns-in_default : goal.returns-in_default
returns-in_default c =
    are_first _ _ _ (c.loop-seat.invariant.count ∙ (at_end _ _ (sym c.lane.ensures ∙ ap (option_map _) c.in_default.is) c.loop-seat.invariant.within)) c.loop-seat.invariant.each

pub whole-requires-clause-lane : goal.whole-requires-clause-lane
whole-requires-clause-lane c = slice_get_within _ c.loop-seat.seat _ (sym c.in-Some.ensures)

pub loop-seat-preserved : goal.loop-seat-preserved
loop-seat-preserved c =
    let is = c.loop-seat.invariant in
    let lane = c.in_ok-lane.lane in
    let grown : c.push.new.self.items ≡ c.loop-seat.lanes.items ++ lane ∷ [] = search rules in
    record {
      within = omega (arith, slice_get_within _ c.loop-seat.seat _ (sym c.in-Some.ensures));
      count = omega (arith, ap length grown, length-append c.loop-seat.lanes.items (lane ∷ []), is.count);
      each = subst (AreOf _ (first_at c.args.script.now)) (sym grown)
          (one_more _ _ _ _ is.each
          (is_first lane _ _ _ c.in_ok-lane.ensures.place c.in_ok-lane.ensures.asks
          ∙ ap (first_at c.args.script.now) (sym is.count)));
    }

pub returns : goal.returns
returns c =
    are_first _ _ _ (c.loop-seat.invariant.count ∙ (omega (
      arith,
      lanes_few c.args.script.now,
      c.len-seat-end.ensures.len,
      c.loop-seat-test.false,
      c.loop-seat.invariant.within,
    ))) c.loop-seat.invariant.each
