use Rattle.std.proofs.Common.{◌∙◌, refl, sym}
use Rattle.ix_twin.specs.Lines.{twin_text}
use Rattle.ix_host.specs.run.Outcome as outcome
use Rattle.ix_host.proofs.comparing.tell_both.Goals as goal

pub returns-in-Ok : goal.returns-in-Ok
returns-in-Ok g c =
    c.tell.ensures (outcome.Whole (twin_text c.args.at.now c.args.one.0.now c.args.two.0.now)) (sym (c.as_slice.ensures.value ∙ c.in-Ok.ensures)) refl
