-- What a new process makes of the world.
use Rattle.std.specs.Prelude.{◌≡◌, ◌++◌, ◌∷◌, [], true, false, nat_lt, length, count_by, Option, Some, None, is_some}
use Rattle.ix_model.specs.world.World.{World, Process}
use Rattle.ix_model.specs.declared.ids.Pid.{Pid}

-- a process more, without a status
abbrev pub with_process : Process → World → World
with_process p w = record {
  frame = record w.frame { processes = w.frame.processes ++ Some p ∷ [] };
  content = record w.content { statuses = w.content.statuses ++ 0 ∷ [] };
}

-- the process is there under the next pid; or there is no room, and nothing changes
abbrev pub BornIs : Option Pid → Process → World → World → Type 0
BornIs (Some pid) p w u = (nat_lt (count_by is_some w.frame.processes) w.frame.limits.procs ≡ true) × (pid.0 ≡ length w.frame.processes) × (u ≡ with_process p w)
BornIs None p w u = (nat_lt (count_by is_some w.frame.processes) w.frame.limits.procs ≡ false) × (u ≡ w)
