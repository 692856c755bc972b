use Rattle.std.{proofs.{Common.{map, sym, ◌∙◌, arith}, lemmas.List.length-map}, specs.Vec.vec_items}
use Rattle.ix_script.proofs.reader.Scheduling.{blanked, start_made, made_next, all_made}
use Rattle.ix_script.proofs.schedule.Schedule.of.Goals as goal

pub lines-init : goal.lines-init
lines-init c = start_made c.args.lanes.now c.args.lines.now.said _ _ (length-map _ vec_items ∙ c.in_ok-stretches.ensures.len) c.in_ok-stretches.ensures.none
    (c.in_ok-resize.ensures.items ∙ blanked c.new-seats.result.items _ _ _ c.new-seats.ensures.items c.new-seats.ensures.len c.len-2.ensures)

pub lines-preserved : goal.lines-preserved
lines-preserved c =
    made_next c.args.lanes.now c.args.lines.now.said (map vec_items c.lines.stretches.items) (map vec_items c.add_line.new.stretches.items) _ _ c.lines.begun c.in_ok-begun.begun c.lines.index (omega (
      arith,
      c.lines-test.true,
      c.len-index-end.ensures,
    ))
    c.in_ok-begun.ensures.begun (length-map _ vec_items ∙ c.in_ok-begun.ensures.lanes ∙ sym c.lines.invariant.lanes) c.in_ok-begun.ensures.more
    c.in_ok-begun.ensures.seats c.in_ok-begun.ensures.marked c.lines.invariant

pub returns : goal.returns
returns c = all_made c.args.lanes.now c.args.lines.now.said _ c.lines.begun c.lines.index (omega (arith, c.lines-test.false, c.len-index-end.ensures)) c.max-2.ensures c.lines.invariant
