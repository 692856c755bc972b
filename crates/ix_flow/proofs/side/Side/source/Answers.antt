use Rattle.std.proofs.Common.{◌∙◌, sym, ap}
use Rattle.ix_flow.specs.declared.source.Source.TheVariants as source
use Rattle.ix_flow.proofs.LastSource.{last_behind, last_looked, last_or}
use Rattle.ix_flow.proofs.side.Side.source.Goals as goal

pub returns-in-Some : goal.returns-in-Some
returns-in-Some c =
    sym (last_looked _ _ _ _ _ c.new.ensures.start c.new.ensures.end
    ∙ ap (last_or source.Gap) (sym (c.range.ensures.between c.new.ensures.exhausted) ∙ c.in-Some.ensures.steps)
    ∙ last_behind _ _ _)

pub returns-in-None : goal.returns-in-None
unfolding last_or
returns-in-None c =
    sym (last_looked _ _ _ source.Gap c.args.self.now.runs.entries c.new.ensures.start c.new.ensures.end
    ∙ ap (last_or source.Gap) (sym (c.range.ensures.between c.new.ensures.exhausted) ∙ c.in-None.ensures.steps.0))
