-- The pipe that a slot shows.
use Rattle.std.specs.Prelude.{ℕ, Bool, true, false, List, map, Option, Some, None}
use Rattle.std.proofs.Common.{option_map}
use Rattle.ix_label.specs.Category.{Categories}
use Rattle.ix_model.specs.declared.ids.Pid.{Pid}
use Rattle.ix_pipe.specs.Pipe.{Pipe}

-- the pids of claims
abbrev pub pids : List (Option Pid) → List (Option ℕ)
pids claims = map (option_map (λ p. p.0)) claims

-- a pipe of these parts, where one lives
abbrev pub shown : Bool → Categories → List (Option Pid) → List ℕ → List ℕ → Option Pipe
shown true label claims first second = Some (record { label = label; claims = pids claims; holding = record { first = first; second = second } })
shown false label claims first second = None
