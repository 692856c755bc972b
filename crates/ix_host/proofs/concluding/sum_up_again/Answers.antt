use Rattle.std.proofs.Common.{◌∙◌}
use Rattle.ix_replay.{specs.Tallying.HasSeen, proofs.Summed.seen_none}
use Rattle.ix_script.specs.scripts.Scripts.{config_of}
use Rattle.ix_host.proofs.concluding.sum_up_again.Goals as goal

pub returns-in-Ok : goal.returns-in-Ok
returns-in-Ok g c =
    let s = c.args.script.now in
    let seen : HasSeen c.args.history.now c.replay.new.witness = c.in-Ok.ensures.seen c.new-tally.result (c.new-tally.ensures ∙ seen_none (config_of s)) in
    c.sum_up.ensures s c.requires.config seen
