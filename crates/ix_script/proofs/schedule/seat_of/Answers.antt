use Rattle.std.proofs.{Common.{◌<◌, [], length, sym, ap, ◌∙◌, arith}, lemmas.List.get_or_default}
use Rattle.ix_model.specs.world.Naming.{same_bytes}
use Rattle.ix_script.proofs.reader.Scheduling.{seat_here, seat_later, seat_none}
use Rattle.ix_script.proofs.schedule.seat_of.Goals as goal

pub returns-then-is : goal.returns-then-is
returns-then-is c =
    let low : c.args.near < length c.args.lanes.now = omega (arith, c.if-near-lanes.true) in
    sym (c.requires _ _ low (ap (same_bytes _) (sym (get_or_default _ _ _ [] low) ∙ (sym c.index-lanes-near.is
    ∙ sym c.as_bytes.ensures.bytes)) ∙ sym c.is.ensures ∙ c.if-is.true))

pub returns-then-is-2 : goal.returns-then-is-2
returns-then-is-2 c = sym (c.lanes.invariant ∙ seat_here _ _ _ _ (omega (arith, c.lanes-test.true)) (ap (same_bytes _) (sym
    c.index-lanes-seat.is ∙ sym c.as_bytes-in-lanes.ensures.bytes) ∙ sym c.is-in-lanes.ensures ∙ c.if-is-2.true))

pub lanes-preserved : goal.lanes-preserved
lanes-preserved c = c.lanes.invariant ∙ seat_later c.args.lanes.now c.lanes.seat c.args.name.now _ (omega (arith, c.lanes-test.true)) (ap (same_bytes c.args.name.now) (sym
    c.index-lanes-seat.is ∙ sym c.as_bytes-in-lanes.ensures.bytes) ∙ sym c.is-in-lanes.ensures ∙ c.if-is-2.false)

pub returns : goal.returns
returns c = sym (c.lanes.invariant ∙ seat_none c.args.lanes.now c.lanes.seat c.args.name.now (omega (arith, c.lanes-test.false)))
