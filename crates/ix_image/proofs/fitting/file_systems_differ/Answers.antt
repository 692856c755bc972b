use Rattle.std.proofs.Common.{sym, ◌∙◌}
use Rattle.ix_model.proofs.opening.Fitting.{all_differ_step}
use Rattle.ix_image.proofs.fitting.file_systems_differ.Goals as goal

pub returns-then-is_named : goal.returns-then-is_named
returns-then-is_named c =
    sym (all_differ_step _ _ _ _ c.loop-i-test.true c.index-fss-i.is c.if-is_named.ensures) ∙ c.loop-i.invariant

pub loop-i-preserved : goal.loop-i-preserved
loop-i-preserved c =
    sym (all_differ_step _ _ _ _ c.loop-i-test.true c.index-fss-i.is c.if-is_named.ensures) ∙ c.loop-i.invariant
