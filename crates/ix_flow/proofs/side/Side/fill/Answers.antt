use Rattle.std.proofs.Common.{◌∙◌, arith}
use Rattle.ix_flow.proofs.Likeness.{filled_like, none_filled}
use Rattle.ix_flow.proofs.side.Side.fill.Goals as goal

pub returns-then-count-eq0-clause-like : goal.returns-then-count-eq0-clause-like
returns-then-count-eq0-clause-like c = none_filled _ _ _ c.requires.empty.0 c.requires.empty.1 c.if-count-eq0.true

pub returns-clause-like : goal.returns-clause-like
returns-clause-like c = filled_like _ _ _ (c.lay.ensures.front ∙ c.requires.empty.0)
    (omega (arith, c.in_ok-lay.ensures.end, c.requires.empty.1)) c.in_ok-lay.ensures.there c.requires.first
