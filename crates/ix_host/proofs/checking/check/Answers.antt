use Rattle.std.proofs.Common.{◌∙◌, refl, sym}
use Rattle.ix_check.specs.{Plans.found_in, Verdicts.verdict_line}
use Rattle.ix_host.specs.run.Outcome as outcome
use Rattle.ix_host.proofs.checking.check.Goals as goal

pub returns-in-Ok : goal.returns-in-Ok
returns-in-Ok g c = c.tell.ensures (outcome.Whole (verdict_line (found_in c.args.script.now c.args.claimed.now))) (sym (c.as_slice.ensures.value ∙ c.in-Ok.ensures)) refl
