-- The part of a world that stands in these tables: all but processes, log and statuses. Of the processes there are two counts.
use Rattle.std.specs.Prelude.{ℕ, List, length, map, sum, count_by, Option, if◌then◌else◌}
use Rattle.std.specs.Option.{option_map_or}
use Rattle.std.specs.List.{range_with_len}
use Rattle.ix_model.specs.world.World.{World, Object, Open, Holding, Process}
use Rattle.ix_model.specs.world.Owners.{is_at}
use Rattle.ix_model.specs.rows.OnPaths.{is_home}
use Rattle.ix_model.specs.declared.config.FsSpec.{FsSpec}
use Rattle.ix_model.specs.declared.config.Limits.{Limits}

-- The last two lists count, for each open entry, the descriptors of living processes that name it, and for each object the
-- living processes that have it as working directory.
pub record Parts : Type 0 where
  pub limits : Limits
  pub fss : List FsSpec
  pub objects : List (Option Object)
  pub opens : List (Option Open)
  pub holdings : List Holding
  pub offsets : List ℕ
  pub owners : List ℕ
  pub homes : List ℕ

-- how many descriptors of a living process name an open entry
abbrev pub named_by : ℕ → Option Process → ℕ
named_by e p = option_map_or (λ q. if q.ended then 0 else count_by (is_at e) q.fds) p 0

-- the counts of the first so many open entries
abbrev pub owners_of : ℕ → List (Option Process) → List ℕ
owners_of n processes = map (λ e. sum (map (named_by e) processes)) (range_with_len 0 n)

-- the counts of the first so many objects
abbrev pub homes_of : ℕ → List (Option Process) → List ℕ
homes_of n processes = map (λ o. count_by (is_home o) processes) (range_with_len 0 n)

-- the parts of a world
abbrev pub parts_of : World → Parts
parts_of w = record {
  limits = w.frame.limits;
  fss = w.frame.fss;
  objects = w.frame.objects;
  opens = w.frame.opens;
  holdings = w.content.holdings;
  offsets = w.content.offsets;
  owners = owners_of (length w.frame.opens) w.frame.processes;
  homes = homes_of (length w.frame.objects) w.frame.processes;
}
