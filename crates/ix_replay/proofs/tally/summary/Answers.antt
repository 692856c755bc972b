use Rattle.ix_replay.proofs.Summed.{line_told}
use Rattle.ix_replay.proofs.tally.summary.Goals as goal

pub returns : goal.returns
returns c = λ s config seen.
    line_told c.args.count s c.args.history.now c.args.tally.now _ _ _ _ config seen c.len.ensures.len c.log_len.ensures.len
    c.new-text.ensures.items c.in_ok-totals_line.ensures.ok
