use Rattle.std.proofs.Common.{◌∙◌, refl, sym}
use Rattle.ix_replay.specs.Summary.{summary_line}
use Rattle.ix_host.specs.run.Outcome as outcome
use Rattle.ix_host.proofs.concluding.sum_up.Goals as goal

pub returns-in-Ok : goal.returns-in-Ok
returns-in-Ok g c = λ s config seen.
    c.tell.ensures (outcome.Whole (summary_line c.args.count s c.args.history.now.events)) (sym (c.as_slice.ensures.value ∙ c.in-Ok.ensures s config seen)) refl
