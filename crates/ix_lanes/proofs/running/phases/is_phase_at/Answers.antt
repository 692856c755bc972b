use Rattle.std.proofs.Common.{sym, ◌∙◌}
use Rattle.ix_lanes.{specs.histories.Indexed.line_in, proofs.found.Roles.{no-phase, phase-role}}
use Rattle.ix_lanes.proofs.running.phases.is_phase_at.Goals as goal

pub returns-in-Phase : goal.returns-in-Phase
returns-in-Phase c = sym (phase-role (line_in c.args.script.now c.args.index) (sym c.role_at.ensures ∙ c.in-Phase.is))

pub returns-in_default : goal.returns-in_default
returns-in_default c = sym (no-phase (line_in c.args.script.now c.args.index) (λ is. c.in_default.not-Phase (c.role_at.ensures ∙ is)))
