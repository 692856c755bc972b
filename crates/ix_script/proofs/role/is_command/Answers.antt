use Rattle.std.proofs.Common.{sym, ap, ◌∙◌}
use Rattle.ix_script.proofs.lines.ByRole.{command_role, command_by_role, command_is, other_role}
use Rattle.ix_script.proofs.role.is_command.Goals as goal

pub returns-in-Naming : goal.returns-in-Naming
returns-in-Naming c = sym (command_is _ c.in-Naming.is) ∙ ap command_role c.role_of.ensures ∙ command_by_role _

pub returns-in_default : goal.returns-in_default
returns-in_default c =
    sym (other_role _ c.in_default.not-Naming c.in_default.not-Server c.in_default.not-Command) ∙ ap command_role c.role_of.ensures ∙ command_by_role _
