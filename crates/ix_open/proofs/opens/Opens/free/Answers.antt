use Rattle.std.proofs.Common.{◌∙◌}
use Rattle.ix_open.proofs.Viewed.{count_shown}
use Rattle.ix_open.proofs.opens.Opens.free.Goals as goal

pub returns : goal.returns
returns c = c.free.ensures ∙ count_shown c.self.inside.entries c.self.inside.keys.items _ _ c.self.view_is c.self.invariant.0 _ c.self.invariant.1.0
