-- How the command words are read: as one line of two values.
use Rattle.std.specs.Prelude.{Option, Some, None, codes, true}
use Rattle.clap.specs.Words.{App, Rule, Text, new_app, new_rule, with_rule}
use Rattle.clap.specs.Simple.{on_top}
use Rattle.clap.specs.declared.builder.action.ArgAction.TheVariants.{Set}
use Rattle.ix_host.specs.declared.arguments.command.Command.{Command}
use Rattle.ix_host.specs.command.Command.{counted_command, named_command}

-- a value that need not be there
abbrev pub value : Text → Rule
value id = record (new_rule id) { action = Some Set }

-- a line whose first word is no program's name, and with no flag for help or the version
abbrev pub bare_line : App
bare_line = on_top (λ s. record s {
  no_binary_name = true;
  disable_help_flag = true;
  disable_version_flag = true;
}) (new_app (codes "ixone"))

-- the line: a command, and one value more
abbrev pub command_line : App
command_line = with_rule (with_rule bare_line (value (codes "command"))) (value (codes "count"))

-- the command of the values that are there
abbrev pub read_values : Option Text → Option Text → Option Command
read_values (Some word) None = named_command word
read_values (Some word) (Some count) = counted_command word count
read_values None count = None
