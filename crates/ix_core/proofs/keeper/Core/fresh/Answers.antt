use Rattle.std.proofs.Common.{◌∙◌, ap}
use Rattle.ix_model.specs.{history.Freshness.is_fresh, opening.Opening.opening_world}
use Rattle.ix_core.{specs.Marking.way_of, proofs.Keeping.fresh_is}
use Rattle.ix_core.proofs.keeper.Core.fresh.Goals as goal

pub returns : goal.returns
returns c = c.fresh.ensures ∙ fresh_is _ _ c.self.invariant.stands.valid c.self.invariant.marked _ _ _
    ∙ ap (λ h. is_fresh (opening_world h.config) h.events c.args.pid.0 c.args.fd.0 (way_of c.args.way)) c.self.view_is
