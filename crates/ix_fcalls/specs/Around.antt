-- The rest of a world beside the files' parts, and the calling process in it.
use Rattle.std.specs.Prelude.{ℕ, false, List, Option, None, replicate, unwrap_or}
use Rattle.ix_label.specs.Category.{bottom}
use Rattle.ix_model.specs.world.Privs.{no_privileges}
use Rattle.ix_model.specs.world.World.{World, Frame, Process, at, change}
use Rattle.ix_model.specs.declared.audit.AuditLine.{AuditLine}
use Rattle.ix_model.specs.declared.views.Caller.{Caller}
use Rattle.ix_tables.specs.Parts.{Parts}
use Rattle.ix_model.specs.world.Callers.{with_caller}

-- what a world has beside, which process calls, and at which place of the history
pub record Around : Type 0 where
  pub place : ℕ
  pub pid : ℕ
  pub processes : List (Option Process)
  pub log : List AuditLine
  pub statuses : List ℕ

-- a world, and the place of its next entry
pub record Moment : Type 0 where
  pub place : ℕ
  pub world : World

-- what a world has beside its files' parts when this process makes the call of this place
abbrev pub around : ℕ → ℕ → World → Around
around place pid w = record { place = place; pid = pid; processes = w.frame.processes; log = w.frame.log; statuses = w.content.statuses }

-- the frame of parts, with the processes as they are now, and the whole world
abbrev pub frame_of : Around → Parts → List (Option Process) → Frame
frame_of a t processes = record { limits = t.limits; fss = t.fss; objects = t.objects; processes = processes; opens = t.opens; log = a.log }

abbrev pub world_of : Around → Parts → List (Option Process) → World
world_of a t processes = record { frame = frame_of a t processes; content = record { holdings = t.holdings; offsets = t.offsets; statuses = a.statuses } }

-- all processes, where the caller stands in its process's place
abbrev pub with_who : List (Option Process) → Caller → List (Option Process)
with_who processes c = change processes c.pid.0 (with_caller c)

-- a process of which nothing is known
abbrev pub no_process : Process
no_process = record { parent = None; label = bottom; ceiling = bottom; frozen = false; cap = no_privileges; lic = no_privileges; own = no_privileges; cwd = 0; fds = replicate 32 None; ended = false }

-- the process that the caller is
abbrev pub process_of : Around → Caller → Process
process_of a c = with_caller c (unwrap_or (at a.processes a.pid) no_process)
