use Rattle.std.proofs.Common.{◌∙◌, arith, refl}
use Rattle.ix_lanes.{specs.histories.{Indexed.line_in, Serial.header_of}, proofs.found.{Numbering.{numbered_on, numbered_end}, Roles.line-there}}
use Rattle.ix_lanes.proofs.lanes.header_of.Goals as goal

pub loop-index-init : goal.loop-index-init
unfolding header_of
loop-index-init c = record { names = rw (c.new-header.ensures) refl; few = omega arith }

pub loop-index-preserved : goal.loop-index-preserved
loop-index-preserved c =
    let at = line-there c.args.script.now c.loop-index.index (omega (arith, c.header_end-index-end.ensures.within, c.loop-index-test.true)) in
    record {
      names = rw (c.in_ok-count.ensures.header) (numbered_on c.loop-index.count c.in_ok-count.count c.args.script.now c.loop-index.index
          (line_in c.args.script.now c.loop-index.index) c.loop-index.header at c.in_ok-count.ensures.count.0
          ∙ c.loop-index.invariant.names);
      few = omega (arith, c.in_ok-count.ensures.count.1, c.loop-index.invariant.few);
    }

pub returns : goal.returns
returns c = numbered_end c.loop-index.count c.args.script.now _ c.loop-index.index c.loop-index.header _ c.header_end-index-end.ensures.ends
    (omega (arith, c.loop-index-test.false)) c.loop-index.invariant.names
