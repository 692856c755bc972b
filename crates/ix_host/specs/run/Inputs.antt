-- What a command reads, and what parts that has.
use Rattle.std.specs.Prelude.{◌≡◌, ℕ, ◌<◌, ◌≤◌, Bool, true, false, not, ◌&&◌, List, [], length, Option, Some, None, unwrap_or, ◌⊎◌}
use Rattle.ix_script.specs.lines.Faults.{fault_of}
use Rattle.ix_script.specs.scripts.Scripts.{script_of}
use Rattle.ix_script.specs.declared.line.Line.{Line}
use Rattle.ix_gen.specs.Generated.{generated}
use Rattle.ix_check.specs.Parts.{report_part, script_part}
use Rattle.ix_twin.specs.Parts.{first_part}
use Rattle.ix_image.specs.Image.{longest}
use Rattle.ix_host.specs.declared.arguments.command.Command.{Command}
use Rattle.ix_host.specs.declared.arguments.command.Command.TheVariants as command

-- ---- how much is read
-- the most bytes that a script may have
abbrev pub script_max : ℕ
script_max = 16777216

-- the most bytes that a script and the text that claims to be its report may have
abbrev pub check_max : ℕ
check_max = 134217728

-- the most bytes that two scripts may have, with the line between them
abbrev pub twin_max : ℕ
twin_max = 33554437

-- the most bytes that the input of what is asked for may have
abbrev pub input_max : Option Command → ℕ
input_max None = script_max
input_max (Some command.Run) = script_max
input_max (Some command.Print) = script_max
input_max (Some (command.Gen n)) = script_max
input_max (Some command.Check) = check_max
input_max (Some command.Flow) = script_max
input_max (Some command.Save) = script_max
input_max (Some command.Load) = longest
input_max (Some (command.Twin l)) = twin_max

-- ---- where it is read
-- whether what is asked for is done with what the source gives
abbrev pub reads_source : Option Command → Bool
reads_source None = false
reads_source (Some command.Run) = true
reads_source (Some command.Print) = true
reads_source (Some (command.Gen n)) = false
reads_source (Some command.Check) = true
reads_source (Some command.Flow) = true
reads_source (Some command.Save) = true
reads_source (Some command.Load) = true
reads_source (Some (command.Twin l)) = true

-- whether a command reads an image, and no script
abbrev pub reads_image : Command → Bool
reads_image command.Run = false
reads_image command.Print = false
reads_image (command.Gen n) = false
reads_image command.Check = false
reads_image command.Flow = false
reads_image command.Save = false
reads_image command.Load = true
reads_image (command.Twin l) = false

-- whether what is asked for is done with a script that the source gives
abbrev pub reads_script : Option Command → Bool
reads_script None = false
reads_script (Some c) = reads_source (Some c) && not (reads_image c)

-- the input, where it is told: for `gen` the text of the generator, and else what the source has left
abbrev pub input_of : Option Command → Option (List ℕ) → Option (List ℕ)
input_of None left = left
input_of (Some command.Run) left = left
input_of (Some command.Print) left = left
input_of (Some (command.Gen n)) left = Some (generated n)
input_of (Some command.Check) left = left
input_of (Some command.Flow) left = left
input_of (Some command.Save) left = left
input_of (Some command.Load) left = left
input_of (Some (command.Twin l)) left = left

-- what `gen` reads has no fault, and what `check`, `load` and `twin` read is not too long
abbrev pub IsReadable : Command → List ℕ → Type 0
IsReadable command.Run bytes = Unit {0}
IsReadable command.Print bytes = Unit {0}
IsReadable (command.Gen n) bytes = fault_of bytes ≡ None
IsReadable command.Check bytes = length bytes ≤ check_max
IsReadable command.Flow bytes = Unit {0}
IsReadable command.Save bytes = Unit {0}
IsReadable command.Load bytes = length bytes ≤ longest
IsReadable (command.Twin l) bytes = length bytes ≤ twin_max

-- ---- its parts
-- the bytes of the script: all of them, but for `check`, whose input has a report behind the script, `twin`, whose input has two scripts, and `load`,
-- whose input is an image, and no script
abbrev pub script_bytes : Command → List ℕ → List ℕ
script_bytes command.Run bytes = bytes
script_bytes command.Print bytes = bytes
script_bytes (command.Gen n) bytes = bytes
script_bytes command.Check bytes = script_part bytes
script_bytes command.Flow bytes = bytes
script_bytes command.Save bytes = bytes
script_bytes command.Load bytes = []
script_bytes (command.Twin l) bytes = first_part bytes

-- what else is asked for: for `check` the text that claims to be the report, for `load` the image, and for `twin` all of the input, in which the second
-- script stands
abbrev pub beside_bytes : Command → List ℕ → List ℕ
beside_bytes command.Run bytes = []
beside_bytes command.Print bytes = []
beside_bytes (command.Gen n) bytes = []
beside_bytes command.Check bytes = report_part bytes
beside_bytes command.Flow bytes = []
beside_bytes command.Save bytes = []
beside_bytes command.Load bytes = bytes
beside_bytes (command.Twin l) bytes = bytes

-- for `twin` that isn't too long
abbrev pub IsShortFor : Command → List ℕ → Type 0
IsShortFor (command.Twin l) beside = length beside ≤ twin_max
IsShortFor _ beside = Unit {0}

-- the script that bytes are: where they have a fault, one without lines
abbrev pub script_in : List ℕ → List Line
script_in bytes = unwrap_or (script_of bytes) []

-- the script that the input of what is asked for has
abbrev pub script_for : Option Command → List ℕ → List Line
script_for None bytes = script_in bytes
script_for (Some c) bytes = script_in (script_bytes c bytes)

-- An input is too long: the script in it, or for `check`, `load` and `twin` all of it.
abbrev pub IsTooLong : Option Command → List ℕ → Type 0
IsTooLong None bytes = script_max < length bytes
IsTooLong (Some command.Run) bytes = script_max < length bytes
IsTooLong (Some command.Print) bytes = script_max < length bytes
IsTooLong (Some (command.Gen n)) bytes = script_max < length bytes
IsTooLong (Some command.Check) bytes = (check_max < length bytes) ⊎ (script_max < length (script_part bytes))
IsTooLong (Some command.Flow) bytes = script_max < length bytes
IsTooLong (Some command.Save) bytes = script_max < length bytes
IsTooLong (Some command.Load) bytes = longest < length bytes
IsTooLong (Some (command.Twin l)) bytes = (twin_max < length bytes) ⊎ (script_max < length (first_part bytes))
