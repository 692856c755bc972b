use Rattle.std.proofs.Common.{◌≤◌, ◌∙◌, length, arith}
use Rattle.ix_model.specs.history.{Calls.op_of, Made.entry}
use Rattle.ix_replay.proofs.Summed.{seen_next, seen_small}
use Rattle.ix_replay.proofs.tally.TallyWitness.see.Goals as goal

pub returns : goal.returns
returns c = record {
  knows = λ first before next seen.
      let e = entry c.args._seat c.args._line c.args._pid (op_of c.args.call.now) in
      let few : length c.args.core.now.events ≤ 6800000 = omega (arith, c.len-count.ensures.len, c.len-count.ensures.few) in
      let small = seen_small before c.args.core.now c.args.self.now e c.args.reply.now next.history next.reply seen few in
      c.add.ensures small ∙ seen_next before c.args.core.now c.args.self.now e c.args.reply.now next.history next.reply seen;
}
