use Rattle.std.proofs.Common.{◌++◌, None, not, refl, sym, ap, ◌∙◌}
use Rattle.ix_lanes.proofs.found.Oks.{from_ok}
use Rattle.ix_image.specs.{Lines.list_of, Telling.left_of}
use Rattle.ix_host.proofs.piecewise.{Outlets.sent_none, Stands.{ends_out, none_is, stands_end, stands_front, stands_silent}}
use Rattle.ix_host.proofs.listing.tell_list.Goals as goal

pub lines-init : goal.lines-init
lines-init g c = record { stands = rw (c.in-Ok.ensures, c.new-listing.ensures) (sent_none _ _, refl) }

pub lines-preserved : goal.lines-preserved
lines-preserved g c =
    let told = from_ok c.tell.result (c.is_err.ensures.negation ∙ ap not c.if-is_err.false) c.tell.ensures.ok in
    record {
      stands = rw (none_is c.write_full-failure.result (sym c.is_some.ensures ∙ c.if-is_some.false)) at
          (c.write_full-failure.ensures _ (left_of c.tell.new.self) _ _ (rw (sym told.text) at c.lines.invariant.stands));
    }

pub returns-then-is_err : goal.returns-then-is_err
returns-then-is_err g c = ends_out _ _ _ _ _ _ (stands_front _ _ _ _ (c.lines.waiting.items ++ left_of c.lines.listing) _ c.lines.invariant.stands)

pub returns-then-is_some : goal.returns-then-is_some
returns-then-is_some g c =
    let told = from_ok c.tell.result (c.is_err.ensures.negation ∙ ap not c.if-is_err.false) c.tell.ensures.ok in
    c.finish.ensures (g.K.Sink.taken c.args.sink.now) (list_of c.args.tree.now) (g.K.Sink.faults c.args.sink.now)
    (rw c.as_slice.ensures.value (stands_silent _ _ _ _ c.write_full-failure.result (c.write_full-failure.new.waiting.items ++ left_of c.tell.new.self) _ _
    (sym c.is_some.ensures ∙ c.if-is_some.true) (c.write_full-failure.ensures _ (left_of c.tell.new.self) _ _ (rw (sym told.text) at c.lines.invariant.stands))))

pub returns : goal.returns
returns g c =
    let first = g.K.Sink.taken c.args.sink.now in
    let before = g.K.Sink.faults c.args.sink.now in
    let text = list_of c.args.tree.now in
    let now = c.lines.sink in
    c.finish-2.ensures first text before
    (rw c.as_slice-2.ensures.value (stands_end first (g.K.Sink.taken now) before (g.K.Sink.faults now) None c.lines.waiting.items (left_of c.lines.listing) text
    (c.is_told.ensures.told c.lines-test.false) c.lines.invariant.stands))
