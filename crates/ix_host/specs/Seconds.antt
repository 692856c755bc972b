-- The second of two scripts in an input, and what it is refused for.
use Rattle.std.specs.Prelude.{ℕ, ◌+◌, List, Option}
use Rattle.std.specs.Option.{option_map, option_or}
use Rattle.ix_script.specs.lines.Faults.{fault_of}
use Rattle.ix_script.specs.declared.line.Line.{Line}
use Rattle.ix_twin.specs.Parts.{lines_before, second_part}
use Rattle.ix_host.specs.Policies.{policy_refusal}
use Rattle.ix_host.specs.run.Inputs.{script_in}

-- the second script: where it has a fault, one without lines
abbrev pub second_in : List ℕ → List Line
second_in input = script_in (second_part input)

-- a line further down by so many, with its rule
abbrev pub further_down : ℕ → ℕ × ℕ → ℕ × ℕ
further_down n refusal = (n + refusal.0, refusal.1)

-- the line and the rule by which the bytes of a script are refused, by its fault, or by its policy
abbrev pub refusal_in : List ℕ → Option (ℕ × ℕ)
refusal_in bytes = option_or (fault_of bytes) (policy_refusal (script_in bytes))

-- the line and the rule by which the second script is refused; lines count from the start of the input
unfoldable pub second_refusal : List ℕ → Option (ℕ × ℕ)
second_refusal input = option_map (further_down (lines_before input)) (refusal_in (second_part input))
