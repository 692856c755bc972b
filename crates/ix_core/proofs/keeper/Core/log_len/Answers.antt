use Rattle.std.proofs.Common.{◌≡◌, subst}
use Rattle.ix_model.specs.{history.{AuditLog.audit_log, History.world_of}, opening.Opening.opening_world}
use Rattle.ix_core.proofs.Standing.{licensed_lines}
use Rattle.ix_core.proofs.keeper.Core.log_len.Goals as goal

pub returns-clause-licensed : goal.returns-clause-licensed
returns-clause-licensed c = subst (λ h. (world_of h).frame.log ≡ audit_log (opening_world h.config) 1 h.events) c.self.view_is (licensed_lines _ c.self.invariant.stands.valid)
