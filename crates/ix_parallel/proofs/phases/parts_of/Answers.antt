use Rattle.std.proofs.{Common.{◌∙◌, arith, get_or}, lemmas.{List.length-set, Option.{slice_get-get_or, slice_get_within}}}
use Rattle.ix_parallel.proofs.together.Parts.{tell_more}
use Rattle.ix_parallel.proofs.phases.parts_of.Goals as goal

pub loop-n-preserved : goal.loop-n-preserved
loop-n-preserved g c =
    let n = c.loop-n.n in
    record {
      told = tell_more c.args.phase n c.args.lanes.now c.loop-n.parts (get_or c.args.lanes.now n c.index-lanes-n.result) c.takes_part.result
          (omega (arith, c.loop-n-test.true, c.requires.few, c.loop-n.invariant.long)) (slice_get-get_or c.args.lanes.now n c.index-lanes-n.result c.loop-n-test.true)
          c.loop-n.invariant.told c.takes_part.ensures;
      long = length-set c.loop-n.parts n c.takes_part.result ∙ c.loop-n.invariant.long;
    }

pub returns : goal.returns
returns g c = λ n lane here between done.
    c.loop-n.invariant.told n lane (let within = slice_get_within c.args.lanes.now n lane here in omega (arith, within, c.loop-n-test.false)) here between done
