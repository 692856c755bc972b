-- What a contract sees of the processes: records by pid, with the exit status of each that has ended.
use Rattle.std.specs.Prelude.{◌≡◌, ℕ, nat_lt, Bool, true, false, ◌&&◌, List, [], ◌∷◌, ◌++◌, length, replicate, count_by, position, Option, Some, None, is_some, slice_set, slice_index_or}
use Rattle.std.specs.Option.{option_and_then}
use Rattle.std.proofs.Common.{option_map}
use Rattle.ix_label.specs.Category.{Categories}
use Rattle.ix_model.specs.world.Privs.{no_privileges}
use Rattle.ix_model.specs.world.World.{Process, at, put, is_ended}
use Rattle.ix_model.specs.rows.OnProcesses.{kept_fds, is_child, remains}
use Rattle.ix_model.specs.declared.call.Keep.{Keep}
use Rattle.ix_model.specs.declared.call.Keep.TheVariants as keep
use Rattle.ix_model.specs.declared.ids.Pid.{Pid}
use Rattle.ix_model.specs.declared.config.ProcSpec.{ProcSpec}

-- The record of each pid, if it has one, and its exit status, or 0. The next pid is the length. There are at most so many records.
pub record ProcTable : Type 0 where
  pub processes : List (Option Process)
  pub statuses : List ℕ
  pub limit : ℕ

-- pid 0 is no process's
abbrev pub no_processes : ℕ → ProcTable
no_processes n = record { processes = None ∷ []; statuses = 0 ∷ []; limit = n }

abbrev pub with_process : Process → ProcTable → ProcTable
with_process p t = record t { processes = t.processes ++ Some p ∷ []; statuses = t.statuses ++ 0 ∷ [] }

-- the process is added under the next pid; or there is no room, and nothing changes
abbrev pub Adds : Option Pid → Process → ProcTable → ProcTable → Type 0
Adds (Some pid) p old new = (nat_lt (count_by is_some old.processes) old.limit ≡ true) × (pid.0 ≡ length old.processes) × (new ≡ with_process p old)
Adds None p old new = (nat_lt (count_by is_some old.processes) old.limit ≡ false) × (new ≡ old)

-- a process as a config has it
abbrev pub starting : ProcSpec → Process
starting s = record { parent = None; label = s.label; ceiling = s.ceiling; frozen = false; cap = s.cap; lic = s.lic; own = no_privileges; cwd = 0; fds = replicate 32 None; ended = false }

abbrev pub child_of : ℕ → Keep → Process → Process
child_of pid keep p = record p { parent = Some pid; fds = kept_fds keep p.fds }

-- whether the descriptor that is kept alone is one
abbrev pub keeps : Keep → List (Option ℕ) → Bool
keeps (keep.One fd) fds = is_some (at fds fd.0)
keeps _ fds = true

-- the record of a pid once its process has ended
abbrev pub ended_as : Option Process → ℕ → ℕ → ProcTable → ProcTable
ended_as None pid status t = record t { processes = put t.processes pid None; statuses = slice_set t.statuses pid 0 }
ended_as (Some p) pid status t = record t { processes = put t.processes pid (Some p); statuses = slice_set t.statuses pid status }

abbrev pub ended : ℕ → ℕ → ProcTable → ProcTable
ended pid status t = ended_as (option_and_then remains (at t.processes pid)) pid status t

abbrev pub collected : ℕ → ProcTable → ProcTable
collected pid t = record t { processes = put t.processes pid None; statuses = slice_set t.statuses pid 0 }

-- the ended child with the lowest pid, its label and its status
abbrev pub EndedChild : Option (Pid × Categories × ℕ) → ℕ → ProcTable → Type 0
EndedChild (Some c) pid t = (position (λ q. is_child pid q && is_ended q) t.processes ≡ Some c.0.0)
    × (option_map (λ p. p.label) (at t.processes c.0.0) ≡ Some c.1) × (slice_index_or t.statuses c.0.0 0 ≡ c.2)
EndedChild None pid t = position (λ q. is_child pid q && is_ended q) t.processes ≡ None
