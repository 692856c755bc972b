use Rattle.std.proofs.Common.{sym, ◌∙◌, arith}
use Rattle.ix_script.proofs.lines.Readings.{along, along_all}
use Rattle.ix_script.proofs.places.fault_from.Goals as goal

pub kinds-preserved : goal.kinds-preserved
kinds-preserved c =
    let more = along c.args.labels c.args.words.now c.args.from _ _ _ _ c.kinds-test.true c.place_fault.ensures in
    rw c.least-broken.ensures (sym more ∙ c.kinds.invariant)

pub returns : goal.returns
returns c = sym c.kinds.invariant ∙ along_all c.args.labels c.args.words.now c.args.from c.kinds.i c.args.kinds.now c.kinds.broken (omega (arith, c.kinds-test.false))
