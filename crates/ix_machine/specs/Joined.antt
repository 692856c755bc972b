-- The world that files, processes and a log are.
use Rattle.std.specs.Prelude.{◌≡◌, ◌≤◌}
use Rattle.ix_model.specs.world.World.{World}
use Rattle.ix_audit.specs.Lines.{Lines}
use Rattle.ix_proc.specs.Table.{ProcTable}
use Rattle.ix_tables.specs.Parts.{Parts}
use Rattle.ix_fcalls.specs.Counted.{IsCounted}

-- the world that files, processes and a log are
abbrev pub joined : Parts → ProcTable → Lines → World
joined t p l = record {
  frame = record { limits = t.limits; fss = t.fss; objects = t.objects; processes = p.processes; opens = t.opens; log = l.lines };
  content = record { holdings = t.holdings; offsets = t.offsets; statuses = p.statuses };
}

-- the files count the processes that there are, and processes and log are within the limits of the files; there are never
-- more than 1,024 processes
pub record AreJoined (t : Parts) (p : ProcTable) (l : Lines) : Type 0 where
  pub counted : IsCounted t p.processes
  pub procs : p.limit ≡ t.limits.procs
  pub log : l.cap ≡ t.limits.log
  pub few : t.limits.procs ≤ 1024
