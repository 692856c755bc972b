use Rattle.std.proofs.Common.{◌++◌, None, not, refl, sym, ap, ◌∙◌}
use Rattle.ix_lanes.proofs.found.Oks.{from_ok}
use Rattle.ix_model.specs.history.History.{world_of}
use Rattle.ix_image.specs.{Image.image_of, Taken.tree_on, Written.left_of}
use Rattle.ix_host.proofs.piecewise.{Outlets.sent_none, Stands.{ends_out, none_is, stands_end, stands_front, stands_silent}}
use Rattle.ix_host.proofs.saving.tell_image.Goals as goal

pub pieces-init : goal.pieces-init
pieces-init g c = record { stands = rw (c.in-Ok.ensures, c.in-Ok-new.ensures.all) (sent_none _ _, refl); begun = c.in-Ok-new.ensures.begun }

pub pieces-preserved : goal.pieces-preserved
pieces-preserved g c =
    let told = from_ok c.write.result (c.is_err.ensures.negation ∙ ap not c.if-is_err.false) c.write.ensures.ok in
    record {
      stands = rw (none_is c.write_full-failure.result (sym c.is_some.ensures ∙ c.if-is_some.false)) at
          (c.write_full-failure.ensures _ (left_of c.write.new.self) _ _ (rw (sym told.text) at c.pieces.invariant.stands));
      begun = told.begun;
    }

pub returns-then-is_err : goal.returns-then-is_err
returns-then-is_err g c = ends_out _ _ _ _ _ _ (stands_front _ _ _ _ (c.pieces.waiting.items ++ left_of c.pieces.saving) _ c.pieces.invariant.stands)

pub returns-then-is_some : goal.returns-then-is_some
returns-then-is_some g c =
    let told = from_ok c.write.result (c.is_err.ensures.negation ∙ ap not c.if-is_err.false) c.write.ensures.ok in
    c.finish.ensures (g.K.Sink.taken c.args.sink.now) (image_of (tree_on c.args.fss.now (world_of c.args.core.now))) (g.K.Sink.faults c.args.sink.now)
    (rw c.as_slice.ensures.value (stands_silent _ _ _ _ c.write_full-failure.result (c.write_full-failure.new.waiting.items ++ left_of c.write.new.self) _ _
    (sym c.is_some.ensures ∙ c.if-is_some.true) (c.write_full-failure.ensures _ (left_of c.write.new.self) _ _ (rw (sym told.text) at c.pieces.invariant.stands))))

pub returns : goal.returns
returns g c =
    let first = g.K.Sink.taken c.args.sink.now in
    let before = g.K.Sink.faults c.args.sink.now in
    let text = image_of (tree_on c.args.fss.now (world_of c.args.core.now)) in
    let now = c.pieces.sink in
    c.finish-2.ensures first text before
    (rw c.as_slice-2.ensures.value (stands_end first (g.K.Sink.taken now) before (g.K.Sink.faults now) None c.pieces.waiting.items (left_of c.pieces.saving) text
    (c.is_written.ensures.written c.pieces-test.false) c.pieces.invariant.stands))
