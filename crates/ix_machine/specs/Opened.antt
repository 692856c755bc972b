-- The processes of a config before any call.
use Rattle.std.specs.Prelude.{ℕ, ◌+◌, List, ◌∷◌, length, map, replicate, Some, None}
use Rattle.ix_model.specs.opening.Opening.{process_of}
use Rattle.ix_model.specs.declared.config.ProcSpec.{ProcSpec}
use Rattle.ix_proc.specs.Table.{ProcTable}

-- those of these lines under the pids from 1 on, in order, where there are at most so many
abbrev pub opened : List ProcSpec → ℕ → ProcTable
opened specs limit = record { processes = None ∷ map (λ s. Some (process_of s)) specs; statuses = replicate (length specs + 1) 0; limit = limit }
