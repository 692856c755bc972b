-- The command words of the programs.
use Rattle.std.specs.Prelude.{ℕ, ◌≤◌, List, [], ◌∷◌, Option, Some, None, if◌then◌else◌, codes}
use Rattle.std.specs.Option.{option_map}
use Rattle.ix_model.specs.world.Naming.{same_bytes}
use Rattle.ix_label.specs.declared.form.Form.TheVariants as form
use Rattle.ix_script.specs.texts.Words.{number_of}
use Rattle.ix_text.specs.Labels.{label_in}
use Rattle.ix_host.specs.declared.arguments.command.Command.{Command}
use Rattle.ix_host.specs.declared.arguments.command.Command.TheVariants as command

-- the words without the first `--`
abbrev pub left_out : List (List ℕ) → List (List ℕ)
left_out [] = []
left_out (word ∷ words) = if same_bytes word (codes "--") then words else word ∷ left_out words

-- the command of a word
abbrev pub named_command : List ℕ → Option Command
named_command word =
    if same_bytes word (codes "run") then Some command.Run
    else if same_bytes word (codes "print") then Some command.Print
    else if same_bytes word (codes "check") then Some command.Check
    else if same_bytes word (codes "flow") then Some command.Flow
    else if same_bytes word (codes "save") then Some command.Save
    else if same_bytes word (codes "load") then Some command.Load
    else None

-- the count of a word: a decimal number from 1 to 100,000, without a sign and without zeros before it
abbrev pub count_of : List ℕ → Option ℕ
count_of word = number_of 1 100000 word

-- the command of a word and a count, or a label
abbrev pub counted_command : List ℕ → List ℕ → Option Command
counted_command word more =
    if same_bytes word (codes "gen") then option_map (λ n. command.Gen n) (count_of more)
    else if same_bytes word (codes "twin") then option_map (λ l. command.Twin l) (label_in form.Two more)
    else None

-- the command of all the words that stand there
abbrev pub whole_command : List (List ℕ) → Option Command
whole_command [] = None
whole_command (word ∷ []) = named_command word
whole_command (word ∷ count ∷ []) = counted_command word count
whole_command (word ∷ count ∷ more ∷ words) = None

-- The words are a command where they are `run`, `print`, `check`, `flow`, `save`, `load`, `gen` and a count, or `twin` and a label, once at most one word `--` is left out.
unfoldable pub command_of : List (List ℕ) → Option Command
command_of words = whole_command (left_out words)

-- what is written where the words are no command
abbrev pub usage_line : List ℕ
usage_line = codes "usage: ixone run | print | gen COUNT | check | flow | save | load | twin LABEL\n"

-- ---- the program that runs the lanes side by side
-- `run` is its one command
abbrev pub only_run : Option Command → Option Command
only_run (Some command.Run) = Some command.Run
only_run _ = None

-- the command that the words are
unfoldable pub lanes_command_of : List (List ℕ) → Option Command
lanes_command_of words = only_run (command_of words)

-- what is written where the words are no command
abbrev pub lanes_usage_line : List ℕ
lanes_usage_line = codes "usage: ixrun run\n"

-- ---- counts
-- a count is a number from 1 to 100,000
abbrev pub IsCounted : Command → Type 0
IsCounted (command.Gen n) = (1 ≤ n) × (n ≤ 100000)
IsCounted _ = Unit {0}
