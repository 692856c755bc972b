use Rattle.std.proofs.Common.{sym, ◌∙◌}
use Rattle.ix_twin.proofs.SameConfigs.{configs_decide}
use Rattle.ix_twin.proofs.twin.Twin.start.Goals as goal

pub returns : goal.returns
returns c =
    let d = configs_decide _ _ _ in
    rw (sym c.self.view_is) (λ is. d.0 (sym c.self.invariant.0 ∙ is), λ h. c.self.invariant.0 ∙ d.1 h)
